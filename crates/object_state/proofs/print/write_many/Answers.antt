use Rattle.std.proofs.Common.{◌∙◌}
use Rattle.object_state.proofs.Printing.{next-entry}
use Rattle.object_state.proofs.print.write_many.Goals as goal

pub entries-preserved : goal.entries-preserved
entries-preserved c =
    let next = next-entry c.entries.out c.write_entry-at.new.out c.entries.at c.write_entry-at.result (c.in-Some.name.now, c.in-Some.content.now) _ _ c.in-Some.ensures.steps c.write_entry-at.ensures.text c.write_entry-at.ensures.end c.entries.invariant.3 c.write_entry-at.auto.out in
    (tt, tt, next.0 ∙ c.entries.invariant.2, next.1)
