-- Lists that are put in the order of keys which differ.
use Rattle.std.proofs.Common.{◌≡◌, suc, Bool, true, false, cond, ◌&&◌, T, List, [], ◌∷◌, ◌++◌, map, length, refl, sym, ap, subst, ◌∙◌}
use Rattle.std.specs.Prelude.{filter}
use Rattle.std.specs.List.{AllByRecursion}
use Rattle.std.specs.Ordering.{is_lt, is_eq, ordering_reverse}
use Rattle.std.specs.Cmp.{IsTotalOrder}
use Rattle.std.specs.declared.cmp.Ordering.{Ordering}
use Rattle.std.specs.declared.cmp.Ordering.TheVariants.{Less, Equal, Greater}
use Rattle.std.specs.FinMap.{is_sorted}
use Rattle.std.specs.FinMap.Entries.{below_all}
use Rattle.pps_types.specs.Names.{sorted_by, insert_by}
use Rattle.service_laws.proofs.Finds.{all-imp, all-filter}

-- ---- what holds of each

pub all_map_in : {X Y : Type 0} (P : Y → Type 0) (f : X → Y) (xs : List X) → AllByRecursion (λ x. P (f x)) xs → AllByRecursion P (map f xs)
all_map_in P f [] all = tt
all_map_in P f (x ∷ xs) all = (all.0, all_map_in P f xs all.1)

pub all_map_out : {X Y : Type 0} (P : Y → Type 0) (f : X → Y) (xs : List X) → AllByRecursion P (map f xs) → AllByRecursion (λ x. P (f x)) xs
all_map_out P f [] all = tt
all_map_out P f (x ∷ xs) all = (all.0, all_map_out P f xs all.1)

module _ {X : Type 0} (P : X → Type 0) where
  pub all_append_in : (xs ys : List X) → AllByRecursion P xs → AllByRecursion P ys → AllByRecursion P (xs ++ ys)
  all_append_in [] ys p q = q
  all_append_in (x ∷ xs) ys p q = (p.0, all_append_in xs ys p.1 q)

  pub all_append_out : (xs ys : List X) → AllByRecursion P (xs ++ ys) → AllByRecursion P xs × AllByRecursion P ys
  all_append_out [] ys p = (tt, p)
  all_append_out (x ∷ xs) ys p = let rest = all_append_out xs ys p.1 in ((p.0, rest.0), rest.1)

  -- of those that pass, what holds of each that passes
  pub all_passing : (test : X → Bool) (xs : List X) → AllByRecursion (λ x. test x ≡ true → P x) xs → AllByRecursion P (filter test xs)
  all_passing test [] all = tt
  all_passing test (x ∷ xs) all = by (test x) refl (all_passing test xs all.1)
    where
      by : (b : Bool) → test x ≡ b → AllByRecursion P (filter test xs) → AllByRecursion P (cond b (x ∷ filter test xs) (filter test xs))
      by true is rest = (all.0 is, rest)
      by false is rest = rest

  pub all_passed : (test : X → Bool) (xs : List X) → AllByRecursion P (filter test xs) → AllByRecursion (λ x. test x ≡ true → P x) xs
  all_passed test [] all = tt
  all_passed test (x ∷ xs) all = by (test x) refl all (all_passed test xs)
    where
      by : (b : Bool) → test x ≡ b → AllByRecursion P (cond b (x ∷ filter test xs) (filter test xs)) → (AllByRecursion P (filter test xs) → AllByRecursion (λ x. test x ≡ true → P x) xs)
          → (test x ≡ true → P x) × AllByRecursion (λ x. test x ≡ true → P x) xs
      by true is all rest = ((λ yes. all.0), rest all.1)
      by false is all rest = ((λ yes. absurd (let no = sym yes ∙ is in cc)), rest all)

-- ---- order

module _ {X K : Type 0} (cmp : K → K → Ordering) (key : X → K) where
  -- each key is below those behind it
  abbrev pub Rises : List X → Type 0
  Rises [] = Unit {0}
  Rises (x ∷ xs) = AllByRecursion (λ y. cmp (key x) (key y) ≡ Less) xs × Rises xs

  -- no two keys tie
  abbrev pub AreDistinct : List X → Type 0
  AreDistinct [] = Unit {0}
  AreDistinct (x ∷ xs) = AllByRecursion (λ y. is_eq (cmp (key x) (key y)) ≡ false) xs × AreDistinct xs

  pub rises_distinct : (xs : List X) → Rises xs → AreDistinct xs
  rises_distinct [] r = tt
  rises_distinct (x ∷ xs) r = (all-imp (λ y. cmp (key x) (key y) ≡ Less) (λ y. is_eq (cmp (key x) (key y)) ≡ false) (λ y less. ap is_eq less) xs r.0, rises_distinct xs r.1)

  pub distinct_append : (xs ys : List X) → AreDistinct xs → AreDistinct ys → AllByRecursion (λ x. AllByRecursion (λ y. is_eq (cmp (key x) (key y)) ≡ false) ys) xs → AreDistinct (xs ++ ys)
  distinct_append [] ys p q cross = q
  distinct_append (x ∷ xs) ys p q cross = (all_append_in (λ y. is_eq (cmp (key x) (key y)) ≡ false) xs ys p.0 cross.0, distinct_append xs ys p.1 q cross.1)

  pub all_insert : (P : X → Type 0) (x : X) (xs : List X) → P x → AllByRecursion P xs → AllByRecursion P (insert_by cmp key x xs)
  all_insert P x [] p all = (p, tt)
  all_insert P x (y ∷ ys) p all =
      elim (is_lt (cmp (key x) (key y))) as (λ b. AllByRecursion P (cond b (x ∷ y ∷ ys) (y ∷ insert_by cmp key x ys)))
      [ true ↦ (p, all) | false ↦ (all.0, all_insert P x ys p all.1) ]

  pub all_sorted : (P : X → Type 0) (xs : List X) → AllByRecursion P xs → AllByRecursion P (sorted_by cmp key xs)
  all_sorted P [] all = tt
  all_sorted P (x ∷ xs) all = all_insert P x (sorted_by cmp key xs) all.0 (all_sorted P xs all.1)

  all_uninsert : (P : X → Type 0) (x : X) (xs : List X) → AllByRecursion P (insert_by cmp key x xs) → P x × AllByRecursion P xs
  all_uninsert P x [] all = (all.0, tt)
  all_uninsert P x (y ∷ ys) all = by (is_lt (cmp (key x) (key y))) (all_uninsert P x ys) all
    where
      by : (b : Bool) → (AllByRecursion P (insert_by cmp key x ys) → P x × AllByRecursion P ys) → AllByRecursion P (cond b (x ∷ y ∷ ys) (y ∷ insert_by cmp key x ys)) → P x × AllByRecursion P (y ∷ ys)
      by true rest all = (all.0, all.1)
      by false rest all = let r = rest all.1 in (r.0, (all.0, r.1))

  pub all_unsorted : (P : X → Type 0) (xs : List X) → AllByRecursion P (sorted_by cmp key xs) → AllByRecursion P xs
  all_unsorted P [] all = tt
  all_unsorted P (x ∷ xs) all = let r = all_uninsert P x (sorted_by cmp key xs) all in (r.0, all_unsorted P xs r.1)

  module _ (o : IsTotalOrder cmp) where
    below_trans : (x y : X) (xs : List X) → cmp (key x) (key y) ≡ Less → AllByRecursion (λ z. cmp (key y) (key z) ≡ Less) xs → AllByRecursion (λ z. cmp (key x) (key z) ≡ Less) xs
    below_trans x y xs less all = all-imp (λ z. cmp (key y) (key z) ≡ Less) (λ z. cmp (key x) (key z) ≡ Less) (λ z h. o.trans (key x) (key y) (key z) less h) xs all

    above : (x y : X) → is_lt (cmp (key x) (key y)) ≡ false → is_eq (cmp (key x) (key y)) ≡ false → cmp (key y) (key x) ≡ Less
    above x y lt eq = o.antisymm (key y) (key x) ∙ go (cmp (key x) (key y)) lt eq
      where
        go : (r : Ordering) → is_lt r ≡ false → is_eq r ≡ false → ordering_reverse r ≡ Less
        go Less lt eq = absurd (let no = lt in cc)
        go Equal lt eq = absurd (let no = eq in cc)
        go Greater lt eq = refl

    insert_rises : (x : X) (xs : List X) → AllByRecursion (λ y. is_eq (cmp (key x) (key y)) ≡ false) xs → Rises xs → Rises (insert_by cmp key x xs)
    insert_rises x [] other r = (tt, tt)
    insert_rises x (y ∷ ys) other r = by (is_lt (cmp (key x) (key y))) refl (insert_rises x ys other.1 r.1)
      where
        is_less : (r : Ordering) → is_lt r ≡ true → r ≡ Less
        is_less Less e = refl
        is_less Equal e = absurd (let no = e in cc)
        is_less Greater e = absurd (let no = e in cc)

        by : (b : Bool) → is_lt (cmp (key x) (key y)) ≡ b → Rises (insert_by cmp key x ys) → Rises (cond b (x ∷ y ∷ ys) (y ∷ insert_by cmp key x ys))
        by true lt rest =
            let less : cmp (key x) (key y) ≡ Less = is_less (cmp (key x) (key y)) lt in
            ((less, below_trans x y ys less r.0), r)
        by false lt rest = (all_insert (λ z. cmp (key y) (key z) ≡ Less) x ys (above x y lt other.0) r.0, rest)

    pub sorted_rises : (xs : List X) → AreDistinct xs → Rises (sorted_by cmp key xs)
    sorted_rises [] d = tt
    sorted_rises (x ∷ xs) d = insert_rises x (sorted_by cmp key xs) (all_sorted (λ y. is_eq (cmp (key x) (key y)) ≡ false) xs d.0) (sorted_rises xs d.1)

-- ---- lists of entries

both : (a b : Bool) → T a → T b → T (a && b)
both true b p q = q
both false b p q = p

first : (a b : Bool) → T (a && b) → T a
first true b p = tt
first false b p = p

second : (a b : Bool) → T (a && b) → T b
second true b p = p
second false b p = absurd p

less : (o : Ordering) → T (is_lt o) → o ≡ Less
less Less p = refl
less Equal p = absurd p
less Greater p = absurd p

module _ {K V : Type 0} (cmp : K → K → Ordering) where
  below_rises : (k : K) (es : List (K × V)) → T (below_all cmp k es) → AllByRecursion (λ (e : K × V). cmp k e.0 ≡ Less) es
  below_rises k [] h = tt
  below_rises k (e ∷ es) h = (less (cmp k e.0) (first (is_lt (cmp k e.0)) (below_all cmp k es) h), below_rises k es (second (is_lt (cmp k e.0)) (below_all cmp k es) h))

  pub entries_rise : (es : List (K × V)) → T (is_sorted cmp es) → Rises cmp (λ (e : K × V). e.0) es
  entries_rise [] h = tt
  entries_rise (e ∷ es) h = (below_rises e.0 es (first (below_all cmp e.0 es) (is_sorted cmp es) h), entries_rise es (second (below_all cmp e.0 es) (is_sorted cmp es) h))

  rises_below : (k : K) (es : List (K × V)) → AllByRecursion (λ (e : K × V). cmp k e.0 ≡ Less) es → T (below_all cmp k es)
  rises_below k [] h = tt
  rises_below k (e ∷ es) h = both (is_lt (cmp k e.0)) (below_all cmp k es) (subst (λ o. T (is_lt o)) (sym h.0) tt) (rises_below k es h.1)

  pub rising_entries : (es : List (K × V)) → Rises cmp (λ (e : K × V). e.0) es → T (is_sorted cmp es)
  rising_entries [] h = tt
  rising_entries (e ∷ es) h = both (below_all cmp e.0 es) (is_sorted cmp es) (rises_below e.0 es h.0) (rising_entries es h.1)

-- ---- how many pass

module _ {X K : Type 0} (cmp : K → K → Ordering) (key : X → K) (test : X → Bool) where
  count_step : (x y : X) (fs gs : List X) (a b : Bool) → length fs ≡ length (cond a (x ∷ gs) gs) → length (cond b (y ∷ fs) fs) ≡ length (cond a (x ∷ cond b (y ∷ gs) gs) (cond b (y ∷ gs) gs))
  count_step x y fs gs true true h = ap (λ n. suc n) h
  count_step x y fs gs true false h = h
  count_step x y fs gs false true h = ap (λ n. suc n) h
  count_step x y fs gs false false h = h

  insert_count : (x : X) (xs : List X) → length (filter test (insert_by cmp key x xs)) ≡ length (filter test (x ∷ xs))
  insert_count x [] = refl
  insert_count x (y ∷ ys) =
      elim (is_lt (cmp (key x) (key y))) as (λ b. length (filter test (cond b (x ∷ y ∷ ys) (y ∷ insert_by cmp key x ys))) ≡ length (filter test (x ∷ y ∷ ys)))
      [ true ↦ refl | false ↦ count_step x y (filter test (insert_by cmp key x ys)) (filter test ys) (test x) (test y) (insert_count x ys) ]

  front_step : (x : X) (fs gs : List X) (b : Bool) → length fs ≡ length gs → length (cond b (x ∷ fs) fs) ≡ length (cond b (x ∷ gs) gs)
  front_step x fs gs true h = ap (λ n. suc n) h
  front_step x fs gs false h = h

  -- order does not count
  pub sorted_count : (xs : List X) → length (filter test (sorted_by cmp key xs)) ≡ length (filter test xs)
  sorted_count [] = refl
  sorted_count (x ∷ xs) = insert_count x (sorted_by cmp key xs) ∙ front_step x (filter test (sorted_by cmp key xs)) (filter test xs) (test x) (sorted_count xs)

-- ---- those that pass, and what becomes of each

module _ {X K : Type 0} (cmp : K → K → Ordering) (key : X → K) where
  insert_front : (x : X) (xs : List X) → AllByRecursion (λ y. cmp (key x) (key y) ≡ Less) xs → insert_by cmp key x xs ≡ x ∷ xs
  insert_front x [] all = refl
  insert_front x (y ∷ ys) all = ap (λ o. cond (is_lt o) (x ∷ y ∷ ys) (y ∷ insert_by cmp key x ys)) all.0

  -- what rises is in order
  pub sorted_itself : (xs : List X) → Rises cmp key xs → sorted_by cmp key xs ≡ xs
  sorted_itself [] r = refl
  sorted_itself (x ∷ xs) r = ap (insert_by cmp key x) (sorted_itself xs r.1) ∙ insert_front x xs r.0

  module _ (o : IsTotalOrder cmp) (test : X → Bool) where
    insert_passes : (x : X) (xs : List X) → Rises cmp key xs → test x ≡ true → filter test (insert_by cmp key x xs) ≡ insert_by cmp key x (filter test xs)
    insert_passes x [] r passes = ap (λ b. cond b (x ∷ []) []) passes
    insert_passes x (y ∷ ys) r passes = by (is_lt (cmp (key x) (key y))) refl (insert_passes x ys r.1 passes)
      where
        is_less : (r : Ordering) → is_lt r ≡ true → r ≡ Less
        is_less Less e = refl
        is_less Equal e = absurd (let no = e in cc)
        is_less Greater e = absurd (let no = e in cc)

        step : (b : Bool) → is_lt (cmp (key x) (key y)) ≡ false → filter test (insert_by cmp key x ys) ≡ insert_by cmp key x (filter test ys)
            → cond b (y ∷ filter test (insert_by cmp key x ys)) (filter test (insert_by cmp key x ys)) ≡ insert_by cmp key x (cond b (y ∷ filter test ys) (filter test ys))
        step true lt rest = ap (λ zs. y ∷ zs) rest ∙ ap (λ b. cond b (x ∷ y ∷ filter test ys) (y ∷ insert_by cmp key x (filter test ys))) (sym lt)
        step false lt rest = rest

        by : (b : Bool) → is_lt (cmp (key x) (key y)) ≡ b → filter test (insert_by cmp key x ys) ≡ insert_by cmp key x (filter test ys)
            → filter test (cond b (x ∷ y ∷ ys) (y ∷ insert_by cmp key x ys)) ≡ insert_by cmp key x (filter test (y ∷ ys))
        by true lt rest =
            let less : cmp (key x) (key y) ≡ Less = is_less (cmp (key x) (key y)) lt in
            ap (λ b. cond b (x ∷ filter test (y ∷ ys)) (filter test (y ∷ ys))) passes
            ∙ sym (insert_front x (filter test (y ∷ ys)) (all-filter (λ z. cmp (key x) (key z) ≡ Less) test (y ∷ ys) (less, below_trans cmp key o x y ys less r.0)))
        by false lt rest = step (test y) lt rest

    insert_fails : (x : X) (xs : List X) → test x ≡ false → filter test (insert_by cmp key x xs) ≡ filter test xs
    insert_fails x [] fails = ap (λ b. cond b (x ∷ []) []) fails
    insert_fails x (y ∷ ys) fails = by (is_lt (cmp (key x) (key y))) (insert_fails x ys fails)
      where
        by : (b : Bool) → filter test (insert_by cmp key x ys) ≡ filter test ys → filter test (cond b (x ∷ y ∷ ys) (y ∷ insert_by cmp key x ys)) ≡ filter test (y ∷ ys)
        by true rest = ap (λ b. cond b (x ∷ filter test (y ∷ ys)) (filter test (y ∷ ys))) fails
        by false rest = ap (λ zs. cond (test y) (y ∷ zs) zs) rest

    -- those that pass are in the same order
    pub filter_sorted : (xs : List X) → AreDistinct cmp key xs → filter test (sorted_by cmp key xs) ≡ sorted_by cmp key (filter test xs)
    filter_sorted [] d = refl
    filter_sorted (x ∷ xs) d = by (test x) refl (filter_sorted xs d.1)
      where
        by : (b : Bool) → test x ≡ b → filter test (sorted_by cmp key xs) ≡ sorted_by cmp key (filter test xs)
            → filter test (insert_by cmp key x (sorted_by cmp key xs)) ≡ sorted_by cmp key (cond b (x ∷ filter test xs) (filter test xs))
        by true is rest = insert_passes x (sorted_by cmp key xs) (sorted_rises cmp key o xs d.1) is ∙ ap (insert_by cmp key x) rest
        by false is rest = insert_fails x (sorted_by cmp key xs) is ∙ rest

module _ {X Y K : Type 0} (cmp : K → K → Ordering) (key : Y → K) (f : X → Y) where
  map_insert : (x : X) (xs : List X) → map f (insert_by cmp (λ x. key (f x)) x xs) ≡ insert_by cmp key (f x) (map f xs)
  map_insert x [] = refl
  map_insert x (y ∷ ys) =
      elim (is_lt (cmp (key (f x)) (key (f y)))) as (λ b. map f (cond b (x ∷ y ∷ ys) (y ∷ insert_by cmp (λ x. key (f x)) x ys)) ≡ cond b (f x ∷ f y ∷ map f ys) (f y ∷ insert_by cmp key (f x) (map f ys)))
      [ true ↦ refl | false ↦ ap (λ zs. f y ∷ zs) (map_insert x ys) ]

  -- what becomes of each is in the same order
  pub map_sorted : (xs : List X) → map f (sorted_by cmp (λ x. key (f x)) xs) ≡ sorted_by cmp key (map f xs)
  map_sorted [] = refl
  map_sorted (x ∷ xs) = map_insert x (sorted_by cmp (λ x. key (f x)) xs) ∙ ap (insert_by cmp key (f x)) (map_sorted xs)
