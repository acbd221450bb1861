use Rattle.std.proofs.Common.{◌≡◌, ◌∙◌, refl, sym, ap, arith, Some}
use Rattle.std.specs.Option.{option_map}
use Rattle.slab.specs.Slab.{get}
use Rattle.number_table.specs.declared.index.Held.{Held}
use Rattle.number_table.specs.Numbered.{value_at}
use Rattle.number_table.specs.Index.{key_at, slots_in, StandsAt}
use Rattle.number_table.proofs.Entries.{stands_within}
use Rattle.number_table.proofs.Held.{length_listed, key_has_value, key_value, len_written, entries_written, sound_written}
use Rattle.number_table.proofs.table.Table.value_mut.Goals as goal

pub key_at-key-requires : goal.key_at-key-requires
key_at-key-requires g c =
    let e = stands_within c.args.number c.known_place-place.result (slots_in c.self.inside.values c.as_slice.result.now) c.known_place-place.ensures in
    let n = length_listed c.self.inside.values c.as_slice.result.now in
    omega arith

pub index_mut-requires : goal.index_mut-requires
index_mut-requires g c =
    let at = rw c.as_slice.ensures.value at c.known_place-place.ensures in
    rw (c.key_at-key.ensures, c.as_slice-2.ensures.value) (key_has_value c.args.number c.known_place-place.result c.self.inside.values c.self.inside.index.items (record { number = 0; key = 0 }) at)

pub invariant_of-self-lent : goal.invariant_of-self-lent
invariant_of-self-lent g c w =
    let at = rw c.as_slice.ensures.value at c.known_place-place.ensures in
    sound_written c.args.number c.known_place-place.result c.self.inside.values c.self.inside.index.items c.self.inside.next c.self.invariant at c.key_at-key.result (rw c.as_slice-2.ensures.value at c.key_at-key.ensures) c.index_mut.result.now c.index_mut.ensures.value w

pub returns : goal.returns
returns g c =
    let ps = c.self.inside.index.items in
    let place = c.known_place-place.result in
    let at : StandsAt c.args.number place (slots_in c.self.inside.values ps) = rw c.as_slice.ensures.value at c.known_place-place.ensures in
    let key : c.key_at-key.result ≡ key_at ps place = rw c.as_slice-2.ensures.value at c.key_at-key.ensures in
    let held = c.index_mut.result.now in
    let read : Some held ≡ get c.self.inside.values (key_at ps place) = sym (rw key at c.index_mut.ensures.value) in (
      (refl, λ w. rw (← c.self.view_is, entries_written c.args.number place c.self.inside.values ps c.self.inside.next c.self.invariant at c.key_at-key.result key held c.index_mut.ensures.value w, len_written c.args.number place c.self.inside.values ps c.self.inside.next c.self.invariant at c.key_at-key.result key held c.index_mut.ensures.value w) refl),
      record {
        writes_back = tt;
        value =
            ap (value_at c.args.number) (sym c.self.view_is)
            ∙ sym (ap (option_map (λ (h : Held g.row.T.Denot). h.value)) {y = get c.self.inside.values (key_at ps place)} read ∙ key_value c.args.number place c.self.inside.values ps (record { number = 0; key = 0 }) at)
            ∙ ap Some c.value_mut.ensures.value;
      },
    )
