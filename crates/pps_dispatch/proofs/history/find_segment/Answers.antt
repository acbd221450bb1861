use Rattle.pps_dispatch.proofs.Searching.{finds_each-more}
use Rattle.pps_dispatch.proofs.history.find_segment.Goals as goal

pub loop-place-preserved : goal.loop-place-preserved
loop-place-preserved c =
    finds_each-more _ _ _ _ _ _ _ c.args.segment.now.entries c.entries-entry-items.result.now c.entry-item.result c.entries-entry-items.ensures c.loop-place-test.true c.entry-item.is
    c.loop-place.invariant (rw c.number.ensures at c.in_ok-find_entry.ensures)
