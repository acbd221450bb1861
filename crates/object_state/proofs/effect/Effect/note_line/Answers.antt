use Rattle.std.proofs.Common.{◌∙◌, sym, ap, subst, refl, length, Some, arith}
use Rattle.pps_types.specs.declared.line.Line.{Line}
use Rattle.pps_types.specs.LentLine.{lent_line}
use Rattle.pps_types.specs.History.{Attribute, apply_line}
use Rattle.pps_types.specs.Text.{print_line}
use Rattle.object_state.specs.Effect.{noted_in, Foretells}
use Rattle.object_state.specs.Entries.{attributes_of}
use Rattle.object_state.proofs.Foretold.{Foretells-set, Foretells-del, printed-some}
use Rattle.object_state.proofs.effect.Effect.note_line.Goals as goal

pub returns-in_ok-note-in-Set : goal.returns-in_ok-note-in-Set
returns-in_ok-note-in-Set c = λ after told.
    let a : Attribute = record { name = c.in-Set.name.now; enc = c.in-Set.content.enc; value = c.in-Set.content.value; n = c.in-Set.content.n } in
    let is = sym (ap lent_line c.in-Set.is) ∙ c.parts.ensures in
    let before = attributes_of c.args.map.now.entries in
    subst (λ (l : Line). Foretells (noted_in c.note.new.self.noted) c.note.new.self.count c.note.new.self.text_len before (apply_line after l)) is
    (Foretells-set (noted_in c.args.self.now.noted) (noted_in c.note.new.self.noted) c.args.self.now.count c.args.self.now.text_len c.note.new.self.count c.note.new.self.text_len
    before after c.new-name.result c.line_len.result c.in_ok-note-in-Set.ensures.noted c.in_ok-note-in-Set.ensures.count c.in_ok-note-in-Set.ensures.text_len told a
    (c.new-name.ensures ∙ c.in_ok-from_slice-in-Set.ensures)
    (printed-some c.line_len.result c.args.line.now c.line_len.ensures.some c.line_len.ensures.none (omega arith) ∙ ap (λ l. Some (length (print_line l))) (sym is)))

pub returns-in_ok-note-in-Del : goal.returns-in_ok-note-in-Del
returns-in_ok-note-in-Del c = λ after told.
    let before = attributes_of c.args.map.now.entries in
    let is = sym (ap lent_line c.in-Del.is) ∙ c.parts.ensures in
    subst (λ (l : Line). Foretells (noted_in c.note-in-Del.new.self.noted) c.note-in-Del.new.self.count c.note-in-Del.new.self.text_len before (apply_line after l)) is
    (Foretells-del (noted_in c.args.self.now.noted) (noted_in c.note-in-Del.new.self.noted) c.args.self.now.count c.args.self.now.text_len c.note-in-Del.new.self.count c.note-in-Del.new.self.text_len
    before after c.new-name-in-Del.result _ c.in_ok-note-in-Del.ensures.noted c.in_ok-note-in-Del.ensures.count c.in_ok-note-in-Del.ensures.text_len told c.in-Del.name.now
    (c.new-name-in-Del.ensures ∙ c.in_ok-from_slice-in-Del.ensures) refl)
