use Rattle.std.proofs.Common.{◌≡◌, ◌≤◌, ◌++◌, length}
use Rattle.std.specs.Vec.Iter.{into_iter_items}
use Rattle.indexmap.specs.IndexMap.{spare}
use Rattle.object_state.proofs.attributes.fill.Given as goal

abbrev pub invariant-entries : goal.invariant-entries
invariant-entries l =
    (goal.iterator-entries).can_next l.name-iterator ×
    (goal.iterator-entries).is_finite l.name-iterator ×
    (l.index.entries ++ into_iter_items l.name-iterator ≡ l.fn.entries.items) ×
    (length (into_iter_items l.name-iterator) ≤ spare l.index)
