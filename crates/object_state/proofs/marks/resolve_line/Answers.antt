use Rattle.std.proofs.Common.{◌∙◌, sym, ap, subst}
use Rattle.object_state.specs.MarkBefore.{StaysForetold, changes_mark}
use Rattle.object_state.proofs.MarkedLines.{stays}
use Rattle.object_state.proofs.marks.resolve_line.Goals as goal

pub returns-clause-stays : goal.returns-clause-stays
returns-clause-stays c = λ more same.
    subst (StaysForetold c.args.noted.now c.args.map.now) (sym c.resolved_by-line.ensures)
    (stays c.args.noted.now c.args.map.now c.args.is_last c.args.line c.in_ok-before.before c.in_ok-before.ensures more
    (ap (changes_mark c.in_ok-before.before) (sym c.resolved_by-line.ensures) ∙ sym c.changes_mark-changes.ensures ∙ same))
