use Rattle.std.proofs.Common.{◌≡◌, ◌∙◌, length, map, find, sym, ap, subst, arith, Some, None}
use Rattle.std.specs.Option.{option_map}
use Rattle.slab.specs.Slab.{get, Updates}
use Rattle.number_table.specs.declared.index.Held.{Held}
use Rattle.number_table.specs.declared.index.Place.{Place}
use Rattle.number_table.specs.Numbered.{Entry, AllTell, has_number, value_at, without_first}
use Rattle.number_table.specs.Index.{StandsAt, entries_in, key_at, slots_in}
use Rattle.number_table.proofs.Entries.{stands_within}
use Rattle.number_table.proofs.Edits.{entries_removed, without_absent}
use Rattle.number_table.proofs.Held.{length_listed, key_has_value, key_value, slots_set, counted_left}
use Rattle.number_table.proofs.Told.{find_told, without_told, tell_without}
use Rattle.number_table.proofs.table.Table.remove.Goals as goal

pub key_at-requires : goal.key_at-requires
key_at-requires g c =
    let e = stands_within c.args.number c.in-Some.place (slots_in c.self.inside.values c.as_slice-index.result.now) c.in-Some.ensures.some in
    let n = length_listed c.self.inside.values c.as_slice-index.result.now in
    omega arith

pub remove-held-requires : goal.remove-held-requires
remove-held-requires g c =
    rw c.key_at.ensures (key_has_value c.args.number c.in-Some.place c.self.inside.values c.as_slice-index.result.now (record { number = 0; key = 0 }) c.in-Some.ensures.some)

pub compact_if_sparse-requires : goal.compact_if_sparse-requires
compact_if_sparse-requires g c =
    let at = rw c.as_slice-index.ensures.value at c.in-Some.ensures.some in
    let gone : Updates c.self.inside.values c.remove-held.new.self (key_at c.self.inside.index.items c.in-Some.place) None = rw (← c.as_slice-index.ensures.value, ← c.key_at.ensures) c.remove-held.ensures.updates in
    record { counted = counted_left c.args.number c.in-Some.place c.self.inside.values c.remove-held.new.self c.self.inside.index.items c.self.inside.next c.self.invariant at gone c.remove-held.ensures.len }

pub invariant_of-self : goal.invariant_of-self
invariant_of-self g c =
    let at = rw c.as_slice-index.ensures.value at c.in-Some.ensures.some in
    let gone : Updates c.self.inside.values c.remove-held.new.self (key_at c.self.inside.index.items c.in-Some.place) None = rw (← c.as_slice-index.ensures.value, ← c.key_at.ensures) c.remove-held.ensures.updates in
    let counted = counted_left c.args.number c.in-Some.place c.self.inside.values c.remove-held.new.self c.self.inside.index.items c.self.inside.next c.self.invariant at gone c.remove-held.ensures.len in
    record {
      rises = c.compact_if_sparse.ensures.rises 0 c.self.inside.next c.self.invariant.rises;
      counted = counted ∙ sym (ap length c.compact_if_sparse.ensures.entries);
      dense = let d = c.compact_if_sparse.ensures.dense in let n = c.compact_if_sparse.new.index.ok.0 in omega (arith, n);
      fits = let f = c.self.invariant.fits in let l = c.remove-held.ensures.len in let k = c.remove-held.ensures.capacity in omega arith;
    }

pub returns-in-None-clause-entries : goal.returns-in-None-clause-entries
returns-in-None-clause-entries g c =
    sym (without_absent (has_number c.args.number) c.args.self.now.entries
    (ap (λ t. find (has_number c.args.number) t.entries) (sym c.self.view_is) ∙ (rw c.as_slice-index.ensures.value at c.in-None.ensures.none)))

pub returns-in-None-clause-values : goal.returns-in-None-clause-values
returns-in-None-clause-values g c f h = ap (map (λ (e : Entry _). e.value)) (returns-in-None-clause-entries g c) ∙ without_told f c.args.number c.args.self.now.entries h

pub returns-in-None-clause-found : goal.returns-in-None-clause-found
returns-in-None-clause-found g c f h =
    sym (ap (option_map (λ (e : Entry _). e.value)) (rw c.as_slice-index.ensures.value at c.in-None.ensures.none)) ∙ ap (value_at c.args.number) c.self.view_is
    ∙ find_told f c.args.number c.args.self.now.entries h

pub returns-in-Some-clause-value : goal.returns-in-Some-clause-value
returns-in-Some-clause-value g c =
    let ps = c.self.inside.index.items in
    let at : StandsAt c.args.number c.in-Some.place (slots_in c.self.inside.values ps) = rw c.as_slice-index.ensures.value at c.in-Some.ensures.some in
    let key : c.key_at.result ≡ key_at ps c.in-Some.place = rw c.as_slice-index.ensures.value at c.key_at.ensures in
    let read : Some c.remove-held.result ≡ get c.self.inside.values (key_at ps c.in-Some.place) = sym (rw key at c.remove-held.ensures.value) in
    ap (option_map (λ (h : Held g.row.T.Denot). h.value)) {y = get c.self.inside.values (key_at ps c.in-Some.place)} read
    ∙ key_value c.args.number c.in-Some.place c.self.inside.values ps (record { number = 0; key = 0 }) at
    ∙ ap (value_at c.args.number) c.self.view_is

pub returns-in-Some-clause-entries : goal.returns-in-Some-clause-entries
returns-in-Some-clause-entries g c =
    let ps = c.self.inside.index.items in
    let blank : Place = record { number = 0; key = 0 } in
    let at = rw c.as_slice-index.ensures.value at c.in-Some.ensures.some in
    let gone : Updates c.self.inside.values c.remove-held.new.self (key_at ps c.in-Some.place) None = rw (← c.as_slice-index.ensures.value, ← c.key_at.ensures) c.remove-held.ensures.updates in
    c.compact_if_sparse.ensures.entries
    ∙ ap entries_in (slots_set c.args.number c.in-Some.place c.self.inside.values c.remove-held.new.self None ps blank c.self.inside.next c.self.invariant.rises at gone tt)
    ∙ entries_removed c.args.number c.in-Some.place (slots_in c.self.inside.values ps) c.args.number at
    ∙ ap (λ t. without_first (has_number c.args.number) t.entries) c.self.view_is

pub returns-in-Some-clause-values : goal.returns-in-Some-clause-values
returns-in-Some-clause-values g c f h = ap (map (λ (e : Entry _). e.value)) (returns-in-Some-clause-entries g c) ∙ without_told f c.args.number c.args.self.now.entries h

pub returns-in-Some-clause-found : goal.returns-in-Some-clause-found
returns-in-Some-clause-found g c f h = returns-in-Some-clause-value g c ∙ find_told f c.args.number c.args.self.now.entries h

pub returns-in-Some-clause-told : goal.returns-in-Some-clause-told
returns-in-Some-clause-told g c f h = subst (AllTell f) (sym (returns-in-Some-clause-entries g c)) (tell_without f c.args.number c.args.self.now.entries h)

pub returns-in-Some-clause-dense : goal.returns-in-Some-clause-dense
returns-in-Some-clause-dense g c =
    let h = invariant_of-self g c in
    let n = c.compact_if_sparse.new.index.ok.0 in
    rw (← h.counted) (let d = h.dense in omega (arith, n))
