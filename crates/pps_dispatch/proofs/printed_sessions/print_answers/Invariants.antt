use Rattle.std.proofs.Common.{◌≡◌, ◌++◌, false, drop}
use Rattle.pps_types.specs.Merge.{entries_of}
use Rattle.script_text.specs.Script.{answers_of}
use Rattle.pps_dispatch.specs.History.{joined}
use Rattle.pps_dispatch.proofs.printed_sessions.print_answers.Given as goal

abbrev pub invariant-loop-name : goal.invariant-loop-name
invariant-loop-name l =
    l.out.items ++ answers_of false (drop l.name-index (entries_of l.session.connection (joined l.segments)))
    ≡ l.initial.out.items ++ answers_of false (entries_of l.session.connection (joined l.segments))
