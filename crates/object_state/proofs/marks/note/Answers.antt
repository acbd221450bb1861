use Rattle.std.proofs.Common.{◌∙◌, sym, ap, subst}
use Rattle.pps_types.specs.LentLine.{lent_line}
use Rattle.pps_types.specs.declared.line.Line.{Line}
use Rattle.pps_types.specs.declared.line.Line.TheVariants.{Set}
use Rattle.pps_types.specs.History.{Attribute, apply_line}
use Rattle.object_state.specs.Effect.{noted_in, ForetellsMarks}
use Rattle.object_state.proofs.Foretold.{ForetellsMarks-set, ForetellsMarks-del}
use Rattle.object_state.proofs.marks.note.Goals as goal

pub returns-in_ok-insert-in-Set : goal.returns-in_ok-insert-in-Set
returns-in_ok-insert-in-Set c = λ before after told.
    let a : Attribute = record { name = c.in-Set.name.now; enc = c.in-Set.content.enc; value = c.in-Set.content.value; n = c.n.result } in
    let is = (λ i. Set c.in-Set.name.now c.in-Set.content.enc c.in-Set.content.value (c.n.ensures i)) ∙ sym (ap lent_line c.in-Set.is) ∙ c.parts.ensures in
    subst (λ (l : Line). ForetellsMarks (noted_in c.insert.new.self) before (apply_line after l)) is
    (ForetellsMarks-set (noted_in c.args.noted.now) (noted_in c.insert.new.self) before after c.new-name.result a
    (c.new-name.ensures ∙ c.in_ok-from_slice-in-Set.ensures) c.in_ok-insert-in-Set.ensures.noted told)

pub returns-in_ok-insert-in-Del : goal.returns-in_ok-insert-in-Del
returns-in_ok-insert-in-Del c = λ before after told.
    let is = sym (ap lent_line c.in-Del.is) ∙ c.parts.ensures in
    subst (λ (l : Line). ForetellsMarks (noted_in c.insert-in-Del.new.self) before (apply_line after l)) is
    (ForetellsMarks-del (noted_in c.args.noted.now) (noted_in c.insert-in-Del.new.self) before after c.new-name-in-Del.result c.in-Del.name.now
    (c.new-name-in-Del.ensures ∙ c.in_ok-from_slice-in-Del.ensures) c.in_ok-insert-in-Del.ensures.noted told)
