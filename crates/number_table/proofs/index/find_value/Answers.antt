use Rattle.std.proofs.Common.{◌≡◌, ◌∙◌, false, get_or, None, find, sym, ap, refl, arith}
use Rattle.std.specs.Option.{option_map}
use Rattle.std.proofs.lemmas.Bool.{ne_eqb}
use Rattle.std.proofs.lemmas.List.{get_or_default}
use Rattle.number_table.specs.declared.index.Place.{Place}
use Rattle.number_table.specs.Numbered.{Entry, has_number}
use Rattle.number_table.specs.Index.{Slot, entries_in, slot_at, slots_in, stands}
use Rattle.number_table.proofs.Entries.{absent, value_at_place}
use Rattle.number_table.proofs.Held.{numbers_listed, length_listed, slot_read}
use Rattle.number_table.proofs.index.find_value.Goals as goal

pub returns-then-place-index : goal.returns-then-place-index
returns-then-place-index g c =
    let values = c.args.values.now in
    let ps = c.args.index.now in
    let n = length_listed values ps in
    let none : find (has_number c.args.number) (entries_in (slots_in values ps)) ≡ None =
    absent c.args.number c.place_near-place.result 0 (slots_in values ps) c.requires.0 (rw (numbers_listed values ps) c.place_near-place.ensures) (rw (numbers_listed values ps) c.requires.1) (λ d l. absurd (omega arith)) in
    sym (ap (option_map (λ (e : Entry g.row.T.Denot). e.value)) none)

pub returns-then-place-number : goal.returns-then-place-number
returns-then-place-number g c =
    let values = c.args.values.now in
    let ps = c.args.index.now in
    let place = c.place_near-place.result in
    let blank : Place = record { number = 0; key = 0 } in
    let other : stands c.args.number (slot_at values (get_or ps place blank)) ≡ false = rw (ne_eqb (get_or ps place blank).number c.args.number (λ e. absurd (c.if-place-number.true e))) refl in
    let none : find (has_number c.args.number) (entries_in (slots_in values ps)) ≡ None =
    absent c.args.number place 0 (slots_in values ps) c.requires.0 (rw (numbers_listed values ps) c.place_near-place.ensures) (rw (numbers_listed values ps) c.requires.1)
    (λ d l. ap (stands c.args.number) (get_or_default (slots_in values ps) place d (slot_at values blank) l ∙ slot_read values place ps blank) ∙ other) in
    sym (ap (option_map (λ (e : Entry g.row.T.Denot). e.value)) none)

pub returns : goal.returns
returns g c =
    let values = c.args.values.now in
    let ps = c.args.index.now in
    let place = c.place_near-place.result in
    let blank : Place = record { number = 0; key = 0 } in
    let n = length_listed values ps in
    let read = slot_read values place ps blank in
    c.value_at.ensures
    ∙ ap (λ (s : Slot g.row.T.Denot). s.value) (sym read)
    ∙ value_at_place c.args.number place 0 (slots_in values ps) (slot_at values blank) c.requires.0 (rw (numbers_listed values ps) c.place_near-place.ensures) (rw (numbers_listed values ps) c.requires.1) (let l = c.if-place-index.false in omega arith) (ap (λ (s : Slot g.row.T.Denot). s.number) read ∙ c.if-place-number.false)
