use Rattle.std.proofs.Common.{◌∙◌, ◌++◌, List, ℕ, length, sym, ap, arith}
use Rattle.std.specs.Vec.Iter.{into_iter_items}
use Rattle.pps_types.specs.AttributeContent.{Content}
use Rattle.object_state.proofs.Kept.{filled}
use Rattle.object_state.proofs.attributes.fill.Goals as goal

pub entries-preserved-in-Some : goal.entries-preserved-in-Some
entries-preserved-in-Some c =
    let split = ap (λ (es : List (List ℕ × Content)). c.entries.index.entries ++ es) (sym c.in-Some.ensures.steps.0) ∙ c.entries.invariant.2 in (
      tt,
      tt,
      filled _ (into_iter_items c.next.new.self) _ _ c.in-Some.name c.in-Some.content split c.requires.names (rw c.unwrap.ensures at c.insert.ensures.entries),
      omega (arith, c.entries.invariant.3, ap length c.in-Some.ensures.steps.0, c.insert.ensures.spare),
    )

pub entries-preserved : goal.entries-preserved
entries-preserved c =
    let split = ap (λ (es : List (List ℕ × Content)). c.entries.index.entries ++ es) (sym c.in-Some.ensures.steps.0) ∙ c.entries.invariant.2 in (
      tt,
      tt,
      filled _ (into_iter_items c.next.new.self) _ _ c.in-Some.name c.in-Some.content split c.requires.names (rw c.unwrap.ensures at c.insert.ensures.entries),
      omega (arith, c.entries.invariant.3, ap length c.in-Some.ensures.steps.0, c.insert.ensures.spare),
    )
