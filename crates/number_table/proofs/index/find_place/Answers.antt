use Rattle.std.proofs.Common.{sym, ap, ◌∙◌, arith}
use Rattle.std.proofs.lemmas.List.{get_or_default}
use Rattle.number_table.specs.declared.index.Place.{Place}
use Rattle.number_table.specs.Index.{stands, slot_at, slots_in}
use Rattle.number_table.proofs.Entries.{absent, stands_at}
use Rattle.number_table.proofs.Held.{numbers_listed, length_listed, slot_read}
use Rattle.number_table.proofs.index.find_place.Goals as goal

pub returns-then-place-index-clause-none : goal.returns-then-place-index-clause-none
returns-then-place-index-clause-none g c =
    let n = length_listed c.args.values.now c.args.index.now in
    absent c.args.number c.place_near-place.result 0 (slots_in c.args.values.now c.args.index.now) c.requires.rises.0
    (rw (numbers_listed c.args.values.now c.args.index.now) c.place_near-place.ensures)
    (rw (numbers_listed c.args.values.now c.args.index.now) c.requires.rises.1)
    (λ d l. absurd (omega arith))

pub returns-then-found-clause-some : goal.returns-then-found-clause-some
returns-then-found-clause-some g c =
    let blank : Place = record { number = 0; key = 0 } in
    stands_at c.args.number c.place_near-place.result (slots_in c.args.values.now c.args.index.now) (slot_at c.args.values.now blank)
    (rw (numbers_listed c.args.values.now c.args.index.now) c.place_near-place.ensures)
    (let n = length_listed c.args.values.now c.args.index.now in let l = c.if-place-index.false in omega arith)
    (ap (stands c.args.number) (slot_read c.args.values.now c.place_near-place.result c.args.index.now blank) ∙ sym c.is_of-found.ensures ∙ c.if-found.true)

pub returns-else-found-clause-none : goal.returns-else-found-clause-none
returns-else-found-clause-none g c =
    let blank : Place = record { number = 0; key = 0 } in
    let ss = slots_in c.args.values.now c.args.index.now in
    absent c.args.number c.place_near-place.result 0 ss c.requires.rises.0
    (rw (numbers_listed c.args.values.now c.args.index.now) c.place_near-place.ensures)
    (rw (numbers_listed c.args.values.now c.args.index.now) c.requires.rises.1)
    (λ d l. ap (stands c.args.number) (get_or_default ss c.place_near-place.result d (slot_at c.args.values.now blank) l ∙ slot_read c.args.values.now c.place_near-place.result c.args.index.now blank) ∙ sym c.is_of-found.ensures ∙ c.if-found.false)
