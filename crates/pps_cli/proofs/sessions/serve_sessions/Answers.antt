use Rattle.std.proofs.Common.{ℕ, List, Bor, map, length, true, ◌≡◌, subst, ap, ◌∙◌, arith, rules}
use Rattle.std.specs.Io.KnownBytes.{Appends}
use Rattle.std.proofs.lemmas.List.{length-map}
use Rattle.pps_types.specs.Device.{device_inner}
use Rattle.pps_types.specs.Merge.{are_distinct}
use Rattle.pps_types.specs.Writing.{SendsPart}
use Rattle.pps_dispatch.specs.History.{joined}
use Rattle.pps_dispatch.specs.Printed.{sessions_text, connections_of}
use Rattle.pps_dispatch.proofs.Names.{served-names}
use Rattle.pps_dispatch.proofs.SessionsServed.{are-served}
use Rattle.pps_cli.proofs.FilesServed.{of_scripts, prints-files, prints-some-files}
use Rattle.pps_cli.specs.Sessions.{AreOfFiles}
use Rattle.pps_cli.proofs.sessions.serve_sessions.Goals as goal

pub write_answers-requires-clause-named : goal.write_answers-requires-clause-named
write_answers-requires-clause-named g c =
    served-names c.in-Ok.served.segments.items _ _ c.in_ok-sessions.sessions.items c.in-Ok.served.sessions.items c.in-Ok.ensures.joins c.in-Ok.ensures.named

pub returns-in_err-write_answers-in-Ok-clause-some : goal.returns-in_err-write_answers-in-Ok-clause-some
returns-in_err-write_answers-in-Ok-clause-some g c =
    let names = λ (fs : List (Bor (List ℕ))). map (λ (file : Bor (List ℕ)). file.now) fs in
    let held = g.F.ImageFiles.held c.args.files.now in
    let files = names c.args.options.now.scripts.items in
    let olds = c.in_ok-sessions.sessions.items in
    let news = c.in-Ok.served.sessions.items in
    let history = c.in-Ok.served.segments.items in
    let before = g.O.Write.contents (device_inner c.args.output.now) in
    let after = g.O.Write.contents (device_inner c.write_answers.new.output) in
    let named = c.as_slice-scripts.ensures.value in
    let count : length olds ≡ length files =
    omega (arith, c.in_ok-sessions.ensures.count, ap length named, length-map c.args.options.now.scripts.items (λ (file : Bor (List ℕ)). file.now)) in
    let distinct : are_distinct (connections_of olds) ≡ true = search rules in
    let of = subst (λ (fs : List (Bor (List ℕ))). AreOfFiles held (names fs) olds) named c.in_ok-sessions.ensures.scripts in
    let served = are-served files olds history _ _ count (of_scripts held files olds of) distinct c.in_ok-engine.ensures c.in-Ok.ensures.joins c.in-Ok.ensures.replays c.in-Ok.ensures.merge in
    prints-some-files held files olds news history before after of served c.in-Ok.ensures.named _ _ c.from_residual-in_err-write_answers-in-Ok.result
    (subst (λ (fs : List (Bor (List ℕ))). SendsPart before after (sessions_text (names fs) (connections_of news) (joined history))) named
    c.in_err-write_answers-in-Ok.ensures.bytes)

pub returns-in_ok-write_answers-in-Ok-clause-all : goal.returns-in_ok-write_answers-in-Ok-clause-all
returns-in_ok-write_answers-in-Ok-clause-all g c =
    let names = λ (fs : List (Bor (List ℕ))). map (λ (file : Bor (List ℕ)). file.now) fs in
    let held = g.F.ImageFiles.held c.args.files.now in
    let files = names c.args.options.now.scripts.items in
    let olds = c.in_ok-sessions.sessions.items in
    let news = c.in-Ok.served.sessions.items in
    let history = c.in-Ok.served.segments.items in
    let before = g.O.Write.contents (device_inner c.args.output.now) in
    let after = g.O.Write.contents (device_inner c.write_answers.new.output) in
    let named = c.as_slice-scripts.ensures.value in
    let count : length olds ≡ length files =
    omega (arith, c.in_ok-sessions.ensures.count, ap length named, length-map c.args.options.now.scripts.items (λ (file : Bor (List ℕ)). file.now)) in
    let distinct : are_distinct (connections_of olds) ≡ true = search rules in
    let of = subst (λ (fs : List (Bor (List ℕ))). AreOfFiles held (names fs) olds) named c.in_ok-sessions.ensures.scripts in
    let served = are-served files olds history _ _ count (of_scripts held files olds of) distinct c.in_ok-engine.ensures c.in-Ok.ensures.joins c.in-Ok.ensures.replays c.in-Ok.ensures.merge in
    prints-files held files olds news history before after of served c.in-Ok.ensures.named
    (subst (λ (fs : List (Bor (List ℕ))). Appends before after (sessions_text (names fs) (connections_of news) (joined history))) named
    c.in_ok-write_answers-in-Ok.ensures.bytes)
