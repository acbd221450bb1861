use Rattle.std.proofs.Common.{◌≡◌, ◌∙◌, ℕ, List, map, sym, ap, subst, inl, rules}
use Rattle.std.proofs.lemmas.Result.{IfOk-weaker, IfErr-weaker}
use Rattle.clap.specs.Matches.{found_of}
use Rattle.clap.specs.Walk.{rows_of}
use Rattle.clap.specs.Simple.{App, is_simple, subcommand_of}
use Rattle.clap.specs.declared.parser.matches.ArgMatches.TheViews.{out-ArgMatches}
use Rattle.command_line.specs.Words.{AsksFor, CommandAsks, FailsFor, IsShown, IsWrong, Refuses}
use Rattle.clap.specs.Faults.{fault_of, is_simple_and_free}
use Rattle.clap.specs.Kinds.{HasKind}
use Rattle.clap.specs.Values.{kind_of}
use Rattle.clap.specs.declared.error.kind.ErrorKind.TheVariants as kind
use Rattle.command_line.proofs.Named.{asks-named, fails-named, has-fault, named, pps-simple, pps-free, shown}
use Rattle.command_line.proofs.reading.read_words.Goals as goal

pub returns-in-Some-clause-asks : goal.returns-in-Some-clause-asks
returns-in-Some-clause-asks g c =
    let words : List (List ℕ) = map g.S.AsStr.text c.args.words.now in
    let name : List ℕ = c.in-Some.name.now in
    let found = found_of c.in-Some.matches.now in
    let whole = c.in_ok-whole_command.ensures in
    let parsed = (c.in-Ok.ensures.matches (ap is_simple whole ∙ pps-simple)).1 ∙ ap (λ (a : App). subcommand_of a words) whole in
    let met = named (out-ArgMatches c.in-Ok.matches).subcommand name (rows_of found) c.in-Some.ensures.name c.in-Some.ensures.rows in
    let taken = sym (ap (λ (a : App). fault_of a words) whole) ∙ c.in-Ok.ensures.kinds (ap is_simple_and_free whole ∙ pps-free) in
    IfOk-weaker c.asked_command.result (CommandAsks name found) (AsksFor words)
    (λ asked asks. asks-named words asked name found taken (sym parsed ∙ met) asks) c.asked_command.ensures.asks

pub returns-in-Some-clause-refused : goal.returns-in-Some-clause-refused
returns-in-Some-clause-refused g c =
    let words : List (List ℕ) = map g.S.AsStr.text c.args.words.now in
    let name : List ℕ = c.in-Some.name.now in
    let found = found_of c.in-Some.matches.now in
    let whole = c.in_ok-whole_command.ensures in
    let parsed = (c.in-Ok.ensures.matches (ap is_simple whole ∙ pps-simple)).1 ∙ ap (λ (a : App). subcommand_of a words) whole in
    let met = named (out-ArgMatches c.in-Ok.matches).subcommand name (rows_of found) c.in-Some.ensures.name c.in-Some.ensures.rows in
    let taken = sym (ap (λ (a : App). fault_of a words) whole) ∙ c.in-Ok.ensures.kinds (ap is_simple_and_free whole ∙ pps-free) in
    IfErr-weaker c.asked_command.result (FailsFor name found) (Refuses words)
    (λ fault fails. fails-named words fault name found taken (sym parsed ∙ met) fails) c.asked_command.ensures.fault

pub returns-in-Err-2-clause-refused : goal.returns-in-Err-2-clause-refused
returns-in-Err-2-clause-refused g c =
    let words : List (List ℕ) = map g.S.AsStr.text c.args.words.now in
    let whole = c.in_ok-whole_command.ensures in
    let has = subst (λ (a : App). HasKind (fault_of a words) c.in-Err-2.e) whole (c.in-Err-2.ensures.kinds (ap is_simple_and_free whole ∙ pps-free)) in
    let other : kind_of c.in-Err-2.e ≡ kind.OutOfMemory → ⊥ = search rules in
    let wrong : IsWrong (kind_of c.in-Err-2.e) = search rules in
    inl (has-fault words c.in-Err-2.e IsWrong has other wrong)

pub returns-in-Err-3-clause-asks : goal.returns-in-Err-3-clause-asks
returns-in-Err-3-clause-asks g c =
    let words : List (List ℕ) = map g.S.AsStr.text c.args.words.now in
    let whole = c.in_ok-whole_command.ensures in
    let has = subst (λ (a : App). HasKind (fault_of a words) c.in-Err-3.e) whole (c.in-Err-3.ensures.kinds (ap is_simple_and_free whole ∙ pps-free)) in
    let other : kind_of c.in-Err-3.e ≡ kind.OutOfMemory → ⊥ = search rules in
    let no : IsWrong (kind_of c.in-Err-3.e) → ⊥ = search rules in
    has-fault words c.in-Err-3.e IsShown has other (shown (kind_of c.in-Err-3.e) no)
