use Rattle.std.proofs.Common.{◌∙◌, ap, sym, subst}
use Rattle.std.specs.Prelude.{fold}
use Rattle.std.proofs.lemmas.Bool.{or_parts}
use Rattle.pps_types.specs.History.{apply_line}
use Rattle.object_state.specs.Entries.{attributes_of}
use Rattle.object_state.specs.Held.{Held}
use Rattle.object_state.specs.Limits.{IsWithinLimits}
use Rattle.object_state.specs.Marks.{are_unmarked}
use Rattle.object_state.proofs.Unmarked.{unmarked-lines}
use Rattle.object_state.proofs.object.Object.apply_commit.Goals as goal

pub invariant_of-self : goal.invariant_of-self
invariant_of-self c =
    let changed = c.apply_ready.ensures.attributes in
    let held = ap (λ (h : Held). fold apply_line h.attributes c.args.lines.now) c.self.view_is in
    record {
      kept = c.apply_ready.ensures.kept;
      within = subst IsWithinLimits (sym (changed ∙ held)) c.requires.takes.within;
      marked = λ none.
          let parts = or_parts c.self.inside.has_marks c.set_marks.result none in
          ap are_unmarked changed
          ∙ unmarked-lines c.args.lines.now (attributes_of c.self.inside.map.entries) (sym c.set_marks.ensures ∙ parts.1) (c.self.invariant.marked parts.0);
    }
