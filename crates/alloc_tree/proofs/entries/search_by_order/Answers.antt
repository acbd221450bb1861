use Rattle.std.proofs.Common.{arith}
use Rattle.alloc_tree.proofs.Places.{between_all, between_later, between_earlier, gap_between, place_here}
use Rattle.alloc_tree.proofs.entries.search_by_order.Goals as goal
use Rattle.alloc_tree.proofs.entries.search_by_order.Goals.{in-Less, in-Greater}

pub loop-low-init : goal.loop-low-init
loop-low-init g c = record {
  between = between_all c.args.entries.now c.args.name.now;
  from_low = omega arith;
  below_high = omega (arith, c.saturating_sub-middle.ensures);
}

pub bounds-entries-middle : goal.bounds-entries-middle
bounds-entries-middle g c = omega (arith, c.loop-low.invariant.between.in_range, c.loop-low.invariant.below_high)

pub returns-in-Equal-clause-found : goal.returns-in-Equal-clause-found
returns-in-Equal-clause-found g c = place_here _ _ c.index-entries-middle.result _ (omega (arith, c.loop-low.invariant.between.in_range, c.loop-low.invariant.below_high)) c.index-entries-middle.is (rw (c.as_slice.ensures.value, ← c.index-entries-middle.is) at c.in-Equal.ensures)

pub loop-low-preserved : goal.loop-low-preserved
loop-low-preserved g c =
    let before = c.loop-low.invariant in
    record {
      between = elim c.match-order.branch [
        | in-Less w ↦ rw (w.low-is, w.high-is) (between_later _ _ _ _ _ c.index-entries-middle.result c.requires before.between (omega (arith, c.loop-low.invariant.below_high)) c.index-entries-middle.is (rw (c.as_slice.ensures.value, ← c.index-entries-middle.is) at w.in-Less.ensures))
        | in-Greater w ↦ rw (w.low-is, w.high-is) (between_earlier _ _ _ _ _ c.index-entries-middle.result c.requires before.between before.from_low (omega (arith, c.loop-low.invariant.below_high)) c.index-entries-middle.is (rw (c.as_slice.ensures.value, ← c.index-entries-middle.is) at w.in-Greater.ensures))
      ];
      from_low = omega arith;
      below_high = omega arith;
    }

pub returns-clause-absent : goal.returns-clause-absent
returns-clause-absent g c = gap_between _ _ _ _ c.loop-low.invariant.between c.loop-low-test.false
