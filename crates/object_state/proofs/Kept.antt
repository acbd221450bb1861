-- Attributes in a vector: what is found among them, and what each change makes of them.
use Rattle.std.proofs.Common.{◌≡◌, ◌∙◌, ℕ, zero, suc, ◌+◌, ◌<◌, Bool, true, false, cond, not, List, [], ◌∷◌, ◌++◌, length, take, get_or, slice_get, slice_set, position, remove, is_some, option_map, unwrap_or, Some, None, refl, sym, ap, subst, append_assoc, nat_lt}
use Rattle.std.specs.List.{position_or_len, swap, AllByRecursion, IsDistinct}
use Rattle.std.specs.Map.{keys_of, lookup, remove_entry}
use Rattle.std.proofs.lemmas.Cmp.{nat_list_eq_equiv}
use Rattle.std.proofs.lemmas.List.Sorted.{IsPermutation-map, IsPermutation-swap}
use Rattle.std.proofs.lemmas.Map.Entries.{length-keys_of}
use Rattle.std.proofs.lemmas.Map.Keys.{IsDistinct-IsPermutation}
use Rattle.std.proofs.lemmas.List.{same_lists}
use Rattle.std.proofs.lemmas.Option.{slice_get-map, slice_get_read, unwrap_or-slice_get}
use Rattle.indexmap.specs.IndexMap.{insert_entry, set_value_at}
use Rattle.indexmap.proofs.MapLemmas.{Found-position, Missing-position, insert_entry-absent, insert_entry-first, remove_entry-first, some_index, absent_before, absent_from_lookup}
use Rattle.pps_types.specs.Bytes.{same}
use Rattle.pps_types.specs.AttributeContent.{Content}
use Rattle.pps_types.proofs.SameBytes.{same-sym}
use Rattle.object_state.specs.Kept.{has_name, HaveOwnNames}

-- ---- places

module _ (k : List ℕ) where
  names-first : (es : List (List ℕ × Content)) → position_or_len (has_name k) es ≡ position_or_len (same k) (keys_of es)
  names-first [] = refl
  names-first (e ∷ es) = ap (λ n. cond (not (same k e.0)) (1 + n) 0) (names-first es)

  -- the place of the entry of that name is that of the name
  pub place-named : (es : List (List ℕ × Content)) → position (has_name k) es ≡ position (same k) (keys_of es)
  place-named es =
      ap (λ n. cond (nat_lt n (length es)) (Some n) None) (names-first es)
      ∙ ap (λ n. cond (nat_lt (position_or_len (same k) (keys_of es)) n) (Some (position_or_len (same k) (keys_of es))) None) (sym (length-keys_of es))

  module _ (es : List (List ℕ × Content)) where
    pub found-within : (i : ℕ) → Some i ≡ position (has_name k) es → i < length es
    found-within i place = (Found-position (same k) es i (sym (place ∙ place-named es))).within

    pub found-at : (i : ℕ) (e : List ℕ × Content) → Some i ≡ position (has_name k) es → e ≡ get_or es i e → slice_get es i ≡ Some e
    found-at i e place is = slice_get_read es (length es) i e refl (found-within i place) is

    pub found-value : (i : ℕ) (e : List ℕ × Content) → Some i ≡ position (has_name k) es → slice_get es i ≡ Some e → Some e.1 ≡ lookup (same k) es
    found-value i e place at =
        let valued = (Found-position (same k) es i (sym (place ∙ place-named es))).value in
        sym (valued ∙ slice_get-map (λ (x : List ℕ × Content). x.1) es i ∙ ap (option_map (λ (x : List ℕ × Content). x.1)) at)

    pub missing-value : None ≡ position (has_name k) es → None ≡ lookup (same k) es
    missing-value place = sym (Missing-position (same k) es (sym (place ∙ place-named es))).value

    pub found-is : is_some (position (has_name k) es) ≡ is_some (lookup (same k) es)
    found-is = ap is_some (place-named es) ∙ some_index (same k) es

-- ---- changes

set-value : (es : List (List ℕ × Content)) (i : ℕ) (e : List ℕ × Content) (c : Content) → slice_get es i ≡ Some e → set_value_at es i c ≡ slice_set es i (e.0, c)
set-value [] i e c at = absurd (let bad = at in cc)
set-value (x ∷ es) zero e c at =
    let is : x ≡ e = cc in ap (λ (y : List ℕ × Content). (y.0, c) ∷ es) is
set-value (x ∷ es) (suc i) e c at = ap (λ rest. x ∷ rest) (set-value es i e c at)

module _ (k : List ℕ) (es : List (List ℕ × Content)) where
  pub inserted-here : (i : ℕ) (e : List ℕ × Content) (c : Content) → Some i ≡ position (has_name k) es → slice_get es i ≡ Some e → slice_set es i (e.0, c) ≡ insert_entry same es k c
  inserted-here i e c place at =
      sym (insert_entry-first same k c es i (Found-position (same k) es i (sym (place ∙ place-named k es))).first ∙ set-value es i e c at)

  pub inserted-last : (c : Content) → None ≡ position (has_name k) es → es ++ (k, c) ∷ [] ≡ insert_entry same es k c
  inserted-last c place = sym (insert_entry-absent same k c es (Missing-position (same k) es (sym (place ∙ place-named k es))).absent)

  pub removed-here : (i : ℕ) → Some i ≡ position (has_name k) es → remove es i ≡ remove_entry (same k) es
  removed-here i place = sym (remove_entry-first (same k) es i (Found-position (same k) es i (sym (place ∙ place-named k es))).first)

  pub removed-none : None ≡ position (has_name k) es → es ≡ remove_entry (same k) es
  removed-none place = removed-absent es (Missing-position (same k) es (sym (place ∙ place-named k es))).absent
    where
      removed-absent : (fs : List (List ℕ × Content)) → AllByRecursion (λ y. same k y ≡ false) (keys_of fs) → fs ≡ remove_entry (same k) fs
      removed-absent [] none = refl
      removed-absent (f ∷ fs) none = ap (λ rest. f ∷ rest) (removed-absent fs none.1) ∙ sym (ap (λ b. cond b fs (f ∷ remove_entry (same k) fs)) none.0)

-- ---- names

pub names-none : HaveOwnNames []
unfolding IsDistinct
names-none = tt

apart-insert : (n k : List ℕ) (c : Content) (es : List (List ℕ × Content)) → same n k ≡ false → AllByRecursion (λ y. same n y ≡ false) (keys_of es) → AllByRecursion (λ y. same n y ≡ false) (keys_of (insert_entry same es k c))
apart-insert n k c [] other apart = (other, tt)
apart-insert n k c (e ∷ es) other apart = by (same k e.0) (apart-insert n k c es other apart.1)
  where
    by : (s : Bool) → AllByRecursion (λ y. same n y ≡ false) (keys_of (insert_entry same es k c)) → AllByRecursion (λ y. same n y ≡ false) (keys_of (cond s ((e.0, c) ∷ es) (e ∷ insert_entry same es k c)))
    by true rest = apart
    by false rest = (apart.0, rest)

pub names-insert : (k : List ℕ) (c : Content) (es : List (List ℕ × Content)) → IsDistinct same (keys_of es) → IsDistinct same (keys_of (insert_entry same es k c))
unfolding IsDistinct
names-insert k c [] names = (tt, tt)
names-insert k c (e ∷ es) names = by (same k e.0) refl (names-insert k c es names.1)
  where
    by : (s : Bool) → same k e.0 ≡ s → IsDistinct same (keys_of (insert_entry same es k c)) → IsDistinct same (keys_of (cond s ((e.0, c) ∷ es) (e ∷ insert_entry same es k c)))
    by true is rest = names
    by false is rest = (apart-insert e.0 k c es (same-sym e.0 k ∙ is) names.0, rest)

apart-remove : (n k : List ℕ) (es : List (List ℕ × Content)) → AllByRecursion (λ y. same n y ≡ false) (keys_of es) → AllByRecursion (λ y. same n y ≡ false) (keys_of (remove_entry (same k) es))
apart-remove n k [] apart = tt
apart-remove n k (e ∷ es) apart = by (same k e.0) (apart-remove n k es apart.1)
  where
    by : (s : Bool) → AllByRecursion (λ y. same n y ≡ false) (keys_of (remove_entry (same k) es)) → AllByRecursion (λ y. same n y ≡ false) (keys_of (cond s es (e ∷ remove_entry (same k) es)))
    by true rest = apart.1
    by false rest = (apart.0, rest)

pub names-remove : (k : List ℕ) (es : List (List ℕ × Content)) → IsDistinct same (keys_of es) → IsDistinct same (keys_of (remove_entry (same k) es))
unfolding IsDistinct
names-remove k [] names = tt
names-remove k (e ∷ es) names = by (same k e.0) (names-remove k es names.1)
  where
    by : (s : Bool) → IsDistinct same (keys_of (remove_entry (same k) es)) → IsDistinct same (keys_of (cond s es (e ∷ remove_entry (same k) es)))
    by true rest = names.1
    by false rest = (apart-remove e.0 k es names.0, rest)

apart-take : (n : List ℕ) (i : ℕ) (es : List (List ℕ × Content)) → AllByRecursion (λ y. same n y ≡ false) (keys_of es) → AllByRecursion (λ y. same n y ≡ false) (keys_of (take i es))
apart-take n zero es apart = tt
apart-take n (suc i) [] apart = tt
apart-take n (suc i) (e ∷ es) apart = (apart.0, apart-take n i es apart.1)

pub names-take : (i : ℕ) (es : List (List ℕ × Content)) → IsDistinct same (keys_of es) → IsDistinct same (keys_of (take i es))
unfolding IsDistinct
names-take zero es names = tt
names-take (suc i) [] names = tt
names-take (suc i) (e ∷ es) names = (apart-take e.0 i es names.0, names-take i es names.1)

pub names-swap : (es fs : List (List ℕ × Content)) (i j : ℕ) → i < length es → j < length es → fs ≡ swap es i j → IsDistinct same (keys_of es) → IsDistinct same (keys_of fs)
names-swap es fs i j one other is names =
    let moves = IsPermutation-swap es fs i j one other is in
    IsDistinct-IsPermutation same same-sym (keys_of es) (keys_of fs) (IsPermutation-map (λ (e : List ℕ × Content). e.0) es fs moves) names

-- the next of attributes that are moved goes last
pub filled : (done rest all new : List (List ℕ × Content)) (k : List ℕ) (c : Content) → done ++ (k, c) ∷ rest ≡ all → HaveOwnNames all → new ≡ insert_entry same done k c → new ++ rest ≡ all
filled done rest all new k c split names grown =
    let absent = absent_from_lookup (same k) done (absent_before nat_list_eq_equiv done rest (k, c) (subst HaveOwnNames (sym split) names)) in
    ap (λ (es : List (List ℕ × Content)). es ++ rest) (grown ∙ insert_entry-absent same k c done absent) ∙ append_assoc done ((k, c) ∷ []) rest ∙ split

-- ---- sameness

-- lists with equal items in each place are equal
pub all-same : (es fs : List (List ℕ × Content)) → length es ≡ length fs → ((i : ℕ) → i < length es → slice_get es i ≡ slice_get fs i) → es ≡ fs
all-same es fs len at =
    same_lists es fs len (λ i d within. sym (unwrap_or-slice_get es i d) ∙ ap (λ r. unwrap_or r d) (at i within) ∙ unwrap_or-slice_get fs i d)
