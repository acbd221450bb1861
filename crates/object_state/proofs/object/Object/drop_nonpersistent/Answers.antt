use Rattle.std.proofs.Common.{◌∙◌, ap, arith, length, not}
use Rattle.pps_types.specs.History.{text_length}
use Rattle.object_state.specs.Entries.{attributes_of}
use Rattle.object_state.specs.Marks.{are_unmarked}
use Rattle.object_state.proofs.Unmarked.{unmarked-persistent}
use Rattle.object_state.proofs.Printing.{filter-bytes_le, filter-count_le}
use Rattle.object_state.proofs.object.Object.drop_nonpersistent.Goals as goal

pub invariant_of-self : goal.invariant_of-self
invariant_of-self c =
    let kept = c.drop_nonpersistent.ensures.attributes in
    record {
      kept = c.drop_nonpersistent.ensures.kept;
      within = record {
        count = omega (arith, ap length kept, filter-count_le (λ a. not a.n) (attributes_of c.self.inside.map.entries), c.self.invariant.within.count);
        bytes = omega (arith, ap text_length kept, filter-bytes_le (λ a. not a.n) (attributes_of c.self.inside.map.entries), c.self.invariant.within.bytes);
      };
      marked = λ none. ap are_unmarked kept ∙ unmarked-persistent (attributes_of c.self.inside.map.entries);
    }

pub overflow_cast-self : goal.overflow_cast-self
overflow_cast-self c =
    let kept = c.drop_nonpersistent.ensures.attributes in
    omega (arith, c.drop_nonpersistent.ensures.kept, ap text_length kept, filter-bytes_le (λ a. not a.n) (attributes_of c.self.inside.map.entries), c.self.invariant.within.bytes)
