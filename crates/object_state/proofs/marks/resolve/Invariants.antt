use Rattle.std.proofs.Common.{◌≡◌, ◌+◌, ◌<◌, ◌++◌, length}
use Rattle.std.specs.Prelude.{fold, vec_len, vec_capacity}
use Rattle.std.specs.Vec.Iter.{into_iter_items}
use Rattle.pps_types.specs.History as history
use Rattle.object_state.specs.Effect.{noted_in, ForetellsMarks}
use Rattle.object_state.specs.Entries.{attributes_of}
use Rattle.object_state.proofs.marks.resolve.Given as goal

abbrev pub invariant-lines : goal.invariant-lines
invariant-lines l = record {
  counted : vec_len l.made + length (into_iter_items l.line-iterator) ≡ l.count;
  room : vec_capacity l.made ≡ l.count;
  foretold : 0 < length (into_iter_items l.line-iterator) → ForetellsMarks (noted_in l.noted) (attributes_of l.map.entries) (fold history.apply_line (attributes_of l.map.entries) l.made.items);
  resolved : l.made.items ++ history.resolve (fold history.apply_line (attributes_of l.map.entries) l.made.items) (into_iter_items l.line-iterator) ≡ history.resolve (attributes_of l.map.entries) l.fn.lines.items;
}
