-- A list that was sorted, of whose keys no two tie, is the one list in order.
use Rattle.std.proofs.Common.{◌≡◌, ◌<◌, ◌+◌, ℕ, Bool, false, List, [], ◌∷◌, length, get_or, refl, sym, ap, subst, ◌∙◌, ◌⊎◌, inl, inr, arith}
use Rattle.std.specs.List.{AllByRecursion, IsDistinct}
use Rattle.std.specs.List.Sorted.{IsPermutation, IsSortedBy, IsStrictlySortedBy}
use Rattle.std.specs.Ordering.{is_lt, is_eq, ordering_reverse}
use Rattle.std.specs.Cmp.{IsTotalOrder}
use Rattle.std.specs.declared.cmp.Ordering.{Ordering}
use Rattle.std.specs.declared.cmp.Ordering.TheVariants.{Less, Equal, Greater}
use Rattle.std.proofs.lemmas.List.Elements.{recursion_from_All, All-from_recursion}
use Rattle.std.proofs.lemmas.List.Sorted.{All-permutation, IsPermutation-sym}
use Rattle.std.proofs.lemmas.Map.Keys.{IsDistinct-IsPermutation, apart_from_distinct, sorted_from_all_adjacent, sorted_head, sorted_tail}
use Rattle.pps_types.specs.Names.{sorted_by}
use Rattle.service_laws.proofs.Finds.{all-imp}
use Rattle.name_table.proofs.Sorting.{Rises, AreDistinct, all_sorted, all_unsorted, sorted_rises}

-- ---- elements

module _ {X : Type 0} where
  -- it is one of them
  abbrev In : List X → X → Type 0
  In [] x = ⊥
  In (y ∷ ys) x = (x ≡ y) ⊎ In ys x

  each_in : (xs : List X) → AllByRecursion (In xs) xs
  each_in [] = tt
  each_in (x ∷ xs) = (inl refl, all-imp (In xs) (In (x ∷ xs)) (λ y h. inr h) xs (each_in xs))

  all_in : (P : X → Type 0) (xs : List X) (x : X) → AllByRecursion P xs → In xs x → P x
  all_in P [] x all h = absurd h
  all_in P (y ∷ ys) x all (inl e) = subst P (sym e) all.0
  all_in P (y ∷ ys) x all (inr m) = all_in P ys x all.1 m

  all_moved : (P : X → Type 0) (xs ys : List X) → IsPermutation xs ys → AllByRecursion P xs → AllByRecursion P ys
  all_moved P xs ys moved all = recursion_from_All P ys (All-permutation P xs ys moved (All-from_recursion P xs all))

-- ---- lists that rise and have the same elements

module _ {X K : Type 0} (cmp : K → K → Ordering) (key : X → K) (o : IsTotalOrder cmp) where
  not_both : (j k : K) → cmp j k ≡ Less → cmp k j ≡ Less → ⊥
  not_both j k e f = let no : Less ≡ Greater = sym e ∙ o.antisymm j k ∙ ap ordering_reverse f in cc

  -- what is above the first is among the others
  others : (x y : X) (xs ys : List X) → x ≡ y → AllByRecursion (λ z. cmp (key x) (key z) ≡ Less) xs → AllByRecursion (In (y ∷ ys)) xs → AllByRecursion (In ys) xs
  others x y [] ys is above all = tt
  others x y (z ∷ xs) ys is above all = (by all.0, others x y xs ys is above.1 all.1)
    where
      by : (z ≡ y) ⊎ In ys z → In ys z
      by (inl e) = absurd (let own : cmp (key x) (key x) ≡ Less = subst (λ w. cmp (key x) (key w) ≡ Less) (e ∙ sym is) above.0 in not_both (key x) (key x) own own)
      by (inr m) = m

  same_rising : (xs ys : List X) → Rises cmp key xs → Rises cmp key ys → AllByRecursion (In ys) xs → AllByRecursion (In xs) ys → xs ≡ ys
  same_rising [] [] r s a b = refl
  same_rising [] (y ∷ ys) r s a b = absurd b.0
  same_rising (x ∷ xs) [] r s a b = absurd a.0
  same_rising (x ∷ xs) (y ∷ ys) r s a b =
      let is = firsts a.0 b.0 in
      let rest = same_rising xs ys r.1 s.1 (others x y xs ys is r.0 a.1) (others y x ys xs (sym is) s.0 b.1) in
      λ i. is i ∷ rest i
    where
      firsts : (x ≡ y) ⊎ In ys x → (y ≡ x) ⊎ In xs y → x ≡ y
      firsts (inl e) h = e
      firsts (inr m) (inl e) = sym e
      firsts (inr m) (inr n) = absurd (not_both (key y) (key x) (all_in (λ z. cmp (key y) (key z) ≡ Less) ys x s.0 m) (all_in (λ z. cmp (key x) (key z) ≡ Less) xs y r.0 n))

  -- ---- what a sort leaves

  abbrev pub ranks : X → X → Bool
  ranks x y = is_lt (cmp (key x) (key y))

  abbrev ties : X → X → Bool
  ties x y = is_eq (cmp (key x) (key y))

  flips : (x y : X) → ties x y ≡ ties y x
  flips x y = ap is_eq (o.antisymm (key x) (key y)) ∙ by (cmp (key y) (key x))
    where
      by : (r : Ordering) → is_eq (ordering_reverse r) ≡ is_eq r
      by Less = refl
      by Equal = refl
      by Greater = refl

  over : IsTotalOrder (λ (x y : X). cmp (key x) (key y))
  over = record {
    antisymm = λ x y. o.antisymm (key x) (key y);
    trans = λ x y z. o.trans (key x) (key y) (key z);
    congr = λ x y z. o.congr (key x) (key y) (key z);
  }

  distinct_in : (xs : List X) → AreDistinct cmp key xs → IsDistinct ties xs
  unfolding IsDistinct
  distinct_in [] d = tt
  distinct_in (x ∷ xs) d = (d.0, distinct_in xs d.1)

  rises_in : (xs : List X) → IsStrictlySortedBy (λ x y. cmp (key x) (key y)) xs → Rises cmp key xs
  rises_in [] up = tt
  rises_in (x ∷ xs) up = (sorted_head (λ x y. cmp (key x) (key y)) x xs up, rises_in xs (sorted_tail (λ x y. cmp (key x) (key y)) x xs up))

  less : (r : Ordering) → is_eq r ≡ false → is_lt (ordering_reverse r) ≡ false → r ≡ Less
  less Less e f = refl
  less Equal e f = absurd (let no = e in cc)
  less Greater e f = absurd (let no = f in cc)

  sorted_up : (xs : List X) → IsDistinct ties xs → IsSortedBy ranks xs → Rises cmp key xs
  sorted_up [] d up = tt
  sorted_up (x ∷ xs) d up = rises_in (x ∷ xs) (sorted_from_all_adjacent over (x ∷ xs) x next)
    where
      next : (k : ℕ) → k + 1 < length (x ∷ xs) → cmp (key (get_or (x ∷ xs) k x)) (key (get_or (x ∷ xs) (k + 1) x)) ≡ Less
      next k lt =
          let a = get_or (x ∷ xs) k x in
          let b = get_or (x ∷ xs) (k + 1) x in
          less (cmp (key a) (key b)) (apart_from_distinct ties (x ∷ xs) k (k + 1) x d (omega arith) lt) (ap is_lt (sym (o.antisymm (key b) (key a))) ∙ up k x (omega arith) lt)

  -- the one list in order
  pub sorted_unique : (xs ys : List X) → AreDistinct cmp key xs → IsPermutation xs ys → IsSortedBy ranks ys → ys ≡ sorted_by cmp key xs
  sorted_unique xs ys d moved up =
      let there = all_moved (In (sorted_by cmp key xs)) xs ys moved (all_unsorted cmp key (In (sorted_by cmp key xs)) xs (each_in (sorted_by cmp key xs))) in
      let back = all_sorted cmp key (In ys) xs (all_moved (In ys) ys xs (IsPermutation-sym xs ys moved) (each_in ys)) in
      same_rising ys (sorted_by cmp key xs) (sorted_up ys (IsDistinct-IsPermutation ties flips xs ys moved (distinct_in xs d)) up) (sorted_rises cmp key o xs d) there back
