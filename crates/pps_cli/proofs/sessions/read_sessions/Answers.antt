use Rattle.std.proofs.Common.{◌≡◌, ◌∷◌, ◌++◌, [], ℕ, List, Bor, map, length-append, refl, subst, sym, arith, rules}
use Rattle.std.specs.Prelude.{slice_index_or}
use Rattle.std.proofs.lemmas.List.{length-map, get_or-map}
use Rattle.std.proofs.lemmas.Result.{err_from_is_err_and}
use Rattle.pps_dispatch.specs.Serving.{connection_at}
use Rattle.pps_jobs.specs.declared.fault.Fault.TheVariants.{OutOfMemory}
use Rattle.pps_jobs.specs.declared.fault.Failure.TheVariants.{Fault}
use Rattle.pps_cli.specs.Sessions.{IsOfFile, AreOfFiles}
use Rattle.pps_cli.proofs.FilesServed.{fails-at, of_files-more}
use Rattle.pps_cli.proofs.sessions.read_sessions.Goals as goal

pub returns-in_err-session-clause-fails : goal.returns-in_err-session-clause-fails
returns-in_err-session-clause-fails g c =
    let now = λ (file : Bor (List ℕ)). file.now in
    let scripts = c.args.scripts.now in
    let p = err_from_is_err_and c.from_residual.result c.from_residual.ensures.1 in
    let is : c.new.result ≡ connection_at c.scripts.file-index = omega (arith, c.new.ensures, c.saturating_add-conn.ensures, c.scripts.invariant.conn) in
    rw (p.1, p.2)
    (fails-at (g.F.ImageFiles.held c.args.files.now) (map now scripts) c.scripts.file-index c.new.result _ c.in_err-session.field-0.0
    (omega (arith, length-map scripts now, c.scripts-test.true))
    (get_or-map now scripts c.scripts.file-index _ _ c.scripts-test.true) is c.in_err-session.ensures.fails)

pub returns-in_err-reserve-clause-fails : goal.returns-in_err-reserve-clause-fails
returns-in_err-reserve-clause-fails g c =
    let now = λ (file : Bor (List ℕ)). file.now in
    let scripts = c.args.scripts.now in
    let p = err_from_is_err_and c.from_residual-in_err-reserve.result c.from_residual-in_err-reserve.ensures.1 in
    let is : c.new.result ≡ connection_at c.scripts.file-index = omega (arith, c.new.ensures, c.saturating_add-conn.ensures, c.scripts.invariant.conn) in
    rw (p.1, p.2)
    (fails-at (g.F.ImageFiles.held c.args.files.now) (map now scripts) c.scripts.file-index c.new.result
    (slice_index_or (map now scripts) c.scripts.file-index []) (Fault OutOfMemory)
    (omega (arith, length-map scripts now, c.scripts-test.true)) refl is refl)

pub scripts-preserved : goal.scripts-preserved
scripts-preserved g c =
    let now = λ (file : Bor (List ℕ)). file.now in
    let scripts = c.args.scripts.now in
    let held = g.F.ImageFiles.held c.args.files.now in
    let sessions = c.scripts.sessions.items in
    let session = c.in_ok-session.session in
    let items : c.push_reserved.new.self.items ≡ sessions ++ session ∷ [] = search rules in
    let is : c.new.result ≡ connection_at c.scripts.file-index = omega (arith, c.new.ensures, c.saturating_add-conn.ensures, c.scripts.invariant.conn) in
    record {
      count = rw items (omega (arith, length-append sessions (session ∷ []), c.scripts.invariant.count));
      conn = omega (arith, c.saturating_add-conn.ensures);
      of = subst (AreOfFiles held (map now scripts)) (sym items)
          (of_files-more held (map now scripts) sessions session c.scripts.file-index c.new.result
          (subst (λ f. IsOfFile (held f) c.new.result session)
          (sym (get_or-map now scripts c.scripts.file-index _ _ c.scripts-test.true)) c.in_ok-session.ensures.session) c.scripts.invariant.of c.scripts.invariant.count is);
    }
