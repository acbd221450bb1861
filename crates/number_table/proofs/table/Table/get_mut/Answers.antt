use Rattle.std.proofs.Common.{◌≡◌, ◌∙◌, ◌-◌, ℕ, List, min, vec_len, vec_capacity, sym, ap, arith, Some, inl}
use Rattle.std.specs.Option.{option_map}
use Rattle.slab.specs.Slab.{get, slab_len, with_value as held_with}
use Rattle.number_table.specs.declared.index.Held.{Held}
use Rattle.number_table.specs.Numbered.{Entry, Numbered, value_at, with_value}
use Rattle.number_table.specs.Index.{entries_in, key_at, slots_in, with_held_value, StandsAt}
use Rattle.number_table.proofs.Entries.{stands_within}
use Rattle.number_table.proofs.Held.{length_listed, key_has_value, key_value, len_written, entries_written, sound_written}
use Rattle.number_table.proofs.table.Table.get_mut.Goals as goal

pub key_at-key-requires : goal.key_at-key-requires
key_at-key-requires g c =
    let at = rw c.as_slice.ensures.value at c.in-Some.ensures.some in
    let e = stands_within c.args.number c.in-Some.place (slots_in c.self.inside.values c.self.inside.index.items) at in
    let n = length_listed c.self.inside.values c.self.inside.index.items in
    rw c.as_slice-in-Some.ensures.value (omega arith)

pub index_mut-requires : goal.index_mut-requires
index_mut-requires g c =
    let at = rw c.as_slice.ensures.value at c.in-Some.ensures.some in
    rw (c.key_at-key.ensures, c.as_slice-in-Some.ensures.value) (key_has_value c.args.number c.in-Some.place c.self.inside.values c.self.inside.index.items (record { number = 0; key = 0 }) at)

pub invariant_of-self-lent : goal.invariant_of-self-lent
invariant_of-self-lent g c w =
    let at = rw c.as_slice.ensures.value at c.in-Some.ensures.some in
    sound_written c.args.number c.in-Some.place c.self.inside.values c.self.inside.index.items c.self.inside.next c.self.invariant at c.key_at-key.result (rw c.as_slice-in-Some.ensures.value at c.key_at-key.ensures) c.index_mut.result.now c.index_mut.ensures.value w

pub returns-in-Some : goal.returns-in-Some
returns-in-Some g c =
    let values = c.self.inside.values in
    let index = c.self.inside.index in
    let ps = index.items in
    let place = c.in-Some.place in
    let at : StandsAt c.args.number place (slots_in values ps) = rw c.as_slice.ensures.value at c.in-Some.ensures.some in
    let key : c.key_at-key.result ≡ key_at ps place = rw c.as_slice-in-Some.ensures.value at c.key_at-key.ensures in
    let held = c.index_mut.result.now in
    let read : Some held ≡ get values (key_at ps place) = sym (rw key at c.index_mut.ensures.value) in
    let seen : List (Entry g.row.T.Denot) → ℕ → Numbered g.row.T.Denot = λ es n. record { entries = es; next = c.self.inside.next; taken = vec_len index; room = min (vec_capacity index - vec_len index) (values.capacity - n) } in
    let written : (w : g.row.T.Denot) → seen (entries_in (slots_in (held_with values c.key_at-key.result (with_held_value held w)) ps)) (slab_len (held_with values c.key_at-key.result (with_held_value held w))) ≡ with_value c.args.self.now c.args.number w = λ w.
    (λ i. seen (entries_written c.args.number place values ps c.self.inside.next c.self.invariant at c.key_at-key.result key held c.index_mut.ensures.value w i) (len_written c.args.number place values ps c.self.inside.next c.self.invariant at c.key_at-key.result key held c.index_mut.ensures.value w i))
    ∙ ap (λ t. with_value t c.args.number w) c.self.view_is in (
      λ i. inl (c.value_mut.result.ghost_name, λ w. written w i),
      record {
        writes_back = tt;
        value =
            sym (ap Some c.value_mut.ensures.value)
            ∙ ap (option_map (λ (h : Held g.row.T.Denot). h.value)) {y = get values (key_at ps place)} read
            ∙ key_value c.args.number place values ps (record { number = 0; key = 0 }) at
            ∙ ap (value_at c.args.number) c.self.view_is;
      },
    )
