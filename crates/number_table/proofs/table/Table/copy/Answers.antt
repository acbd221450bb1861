use Rattle.std.proofs.Common.{◌≡◌, ◌∙◌, ℕ, [], ◌∷◌, ◌++◌, length, refl, sym, ap, append_assoc, append-nil, add-one, arith}
use Rattle.std.proofs.lemmas.List.Elements.{AllZip-push, same_from_all_zip}
use Rattle.number_table.specs.Numbered.{Entry, IsCloneEntry}
use Rattle.number_table.specs.Index.{entries_in, numbers_in, slots_in}
use Rattle.number_table.proofs.Standing.{rises_within, rises_below}
use Rattle.number_table.proofs.Entries.{rises_entries}
use Rattle.number_table.proofs.Held.{numbers_listed}
use Rattle.number_table.proofs.table.Table.copy.Goals as goal

entry_is : {T : Type 0} (n m : ℕ) (v w : T) → m ≡ n → w ≡ v → ◌≡◌ {A = Entry T} (record { number = m; value = w }) (record { number = n; value = v })
entry_is n m v w h k = rw (h, k) refl

pub loop-first-init : goal.loop-first-init
loop-first-init g c =
    let ss = slots_in c.self.inside.values c.self.inside.index.items in
    let e = ap (λ ps. entries_in (slots_in c.self.inside.values ps)) c.as_slice-rest.ensures.value ∙ ap (λ t. t.entries) c.self.view_is in
    let l = ap length e in
    let n = ap (λ ps. length (entries_in (slots_in c.self.inside.values ps))) c.as_slice-rest.ensures.value in
    record {
      rises = rw (c.reserve.ensures.next, c.new-copy.ensures.next, c.as_slice-rest.ensures.value, ← ap (λ t. t.next) c.self.view_is) (rises_entries 0 ss c.self.inside.next (rw (numbers_listed c.self.inside.values c.self.inside.index.items) c.self.invariant.rises));
      room = let r = c.in_ok-reserve.ensures.room in let h = c.self.invariant.counted in omega arith;
      taken = let t = c.reserve.ensures.taken in let u = c.new-copy.ensures.taken in omega arith;
      clones = ([], sym e, rw (c.reserve.ensures.entries, c.new-copy.ensures.entries) tt);
    }

pub push_reserved-requires-clause-last : goal.push_reserved-requires-clause-last
push_reserved-requires-clause-last g c =
    let r = rw c.in-Some.ensures.some at c.loop-first.invariant.rises in
    let e = rises_within _ _ _ r.1 in
    omega arith

pub loop-first-preserved : goal.loop-first-preserved
loop-first-preserved g c =
    let r = rw c.in-Some.ensures.some at c.loop-first.invariant.rises in
    let k = c.loop-first.invariant.clones in
    let l = ap length c.in-Some.ensures.some in
    let entry : Entry g.row.T.Denot = record { number = c.in-Some.first.number; value = c.in-Some.first.value.now } in
    let clone : Entry g.row.T.Denot = record { number = c.in-Some.first.number; value = c.in_ok-clone.field-0 } in
    record {
      rises = rw (c.push_reserved.ensures.next, add-one) r.1;
      room = let h = c.loop-first.invariant.room in let p = c.push_reserved.ensures.room in omega arith;
      taken = let h = c.loop-first.invariant.taken in let p = c.push_reserved.ensures.taken in omega arith;
      clones = (
        k.0 ++ entry ∷ [],
        k.1 ∙ ap (λ es. k.0 ++ es) c.in-Some.ensures.some ∙ sym (append_assoc k.0 (entry ∷ []) (entries_in (slots_in c.self.inside.values c.in-Some.first.rest.now))),
        rw c.push_reserved.ensures.entries (AllZip-push (IsCloneEntry g.T.Clone.is_clone) k.0 c.loop-first.copy.entries entry clone k.2 (refl, c.in_ok-clone.ensures.cases)),
      );
    }

pub invariant_of-copy : goal.invariant_of-copy
invariant_of-copy g c =
    let h = c.copy-2.invariant in
    let e = rises_within _ _ _ c.loop-first.invariant.rises in
    let n = ap (λ t. t.next) c.copy-2.view_is in
    let m = c.next-next.ensures in
    record {
      rises = rises_below 0 (numbers_in c.copy-2.inside.index.items) c.copy-2.inside.next c.next-next.result h.rises (omega arith);
      counted = h.counted;
      dense = h.dense;
      fits = h.fits;
    }

pub returns-clause-entries : goal.returns-clause-entries
returns-clause-entries g c f =
    let k = c.loop-first.invariant.clones in
    ap (λ t. t.entries) c.copy-2.view_is
    ∙ same_from_all_zip (IsCloneEntry g.T.Clone.is_clone) k.0 c.loop-first.copy.entries k.2 (λ x y h. entry_is x.number y.number x.value y.value h.0 (f x.value y.value h.1))
    ∙ sym (k.1 ∙ ap (λ es. k.0 ++ es) c.in_default.ensures.none ∙ append-nil k.0)
