use Rattle.std.proofs.Common.{◌≡◌, ◌+◌, suc, ap, sym, drop, length, arith}
use Rattle.pps_types.specs.History.{persistent}
use Rattle.object_state.specs.Lent.{lent}
use Rattle.pps_engine.proofs.Persistent.{persistent_here, persistent_past}
use Rattle.pps_engine.proofs.saved_attributes.count_persistent.Goals as goal
use Rattle.pps_engine.proofs.saved_attributes.count_persistent.Goals.{then-not-attribute, else-not-attribute}

pub loop-index-preserved : goal.loop-index-preserved
loop-index-preserved c =
    elim c.if-not-attribute.branch [
      | then-not-attribute w ↦
          let all = c.args.object.now.attributes in
          let one : length (persistent (drop c.loop-index.index all)) ≡ suc (length (persistent (drop (c.loop-index.index + 1) all))) = ap length (persistent_here all c.loop-index.index (lent c.in-Some.attribute) (sym c.in-Some.ensures) w.if-not-attribute.true) in
          record { counted = omega (arith, one); few = omega arith }
      | else-not-attribute w ↦
          let all = c.args.object.now.attributes in
          let none : length (persistent (drop c.loop-index.index all)) ≡ length (persistent (drop (c.loop-index.index + 1) all)) = ap length (persistent_past all c.loop-index.index (lent c.in-Some.attribute) (sym c.in-Some.ensures) w.if-not-attribute.false) in
          record { counted = omega (arith, none); few = omega arith }
    ]
