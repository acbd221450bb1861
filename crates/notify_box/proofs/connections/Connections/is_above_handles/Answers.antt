use Rattle.std.proofs.Common.{sym, arith}
use Rattle.std.proofs.lemmas.Bool.Decides.{nat_tests}
use Rattle.notify_box.proofs.OwnHandles.{last_below, below_got}
use Rattle.notify_box.proofs.connections.Connections.is_above_handles.Goals as goal

pub returns-in-Some : goal.returns-in-Some
returns-in-Some c =
    let got = rw c.handles_of.ensures.handles at (sym c.in-Some.ensures.value) in
    let rising = rw c.handles_of.ensures.handles at c.handles_of.ensures.rising in (
      λ lower. last_below c.args.handle c.in-Some.last.now _ rising got (grind (arith, nat_tests, lower, c.number.ensures.same, c.number-in-Some.ensures.same)),
      λ below. let last = below_got c.args.handle c.in-Some.last.now _ _ below got in grind (arith, nat_tests, last, c.number.ensures.same, c.number-in-Some.ensures.same),
    )
