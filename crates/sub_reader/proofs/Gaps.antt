-- Handles among the gaps of closed ones: how handles are found, changed, added and taken out.
use Rattle.std.proofs.Common.{◌≡◌, ℕ, zero, suc, ◌+◌, ◌-◌, ◌<◌, ◌≤◌, Bool, true, false, List, [], ◌∷◌, ◌++◌, length, map, filter, find, take, get_or, set, Option, Some, None, IsSome, IfSome, IfNone, ◌==◌, refl, sym, ap, subst, ◌∙◌, arith, length-append}
use Rattle.std.specs.List.{AllByRecursion, remove}
use Rattle.std.proofs.lemmas.Bool.{false≢true}
use Rattle.std.proofs.lemmas.List.{length-set, length-take}
use Rattle.pps_types.specs.Rising.{AllAbove, IsRising, IsPlaceOf, IsGapFor}
use Rattle.pps_types.proofs.RisingEdits.{find_gap, find_place}
use Rattle.sub_reader.specs.declared.row.HandleRow.{HandleRow}
use Rattle.sub_reader.specs.declared.row.Slot.{Slot}
use Rattle.sub_reader.specs.declared.row.Slot.TheVariants.{Row, Gap}
use Rattle.sub_reader.specs.Rows.{number_at, number_in, is_row, row_of, row_at, rows_in, rank, on_row, changed_at, ends_in_row, EndsInRow, IsAbsent, IsSound, most_handles}
use Rattle.pps_types.specs.Plan.{on_first}
use Rattle.sub_reader.proofs.Edits.{rising_set, rising_push, change_place}

-- what there is
pub some_of : {X : Type 0} (o : Option X) → IsSome o → (x : X) × (Some x ≡ o)
some_of None some = absurd (false≢true some)
some_of (Some x) some = (x, refl)

pub item_at : {X : Type 0} (xs : List X) (i : ℕ) → i < length xs → (x : X) × ((d : X) → x ≡ get_or xs i d)
item_at [] i lt = absurd (omega arith)
item_at (x ∷ xs) zero lt = (x, λ d. refl)
item_at (x ∷ xs) (suc i) lt = item_at xs i (omega arith)

module _ {P : Type 0} where
  -- ---- numbers rise among the handles too

  pub rows_above : (n : ℕ) (ss : List (Slot P)) → AllAbove number_at n ss → AllAbove number_in n (rows_in ss)
  rows_above n [] above = tt
  rows_above n (Row r ∷ ss) above = (above.0, rows_above n ss above.1)
  rows_above n (Gap m ∷ ss) above = rows_above n ss above.1

  pub rows_rising : (ss : List (Slot P)) → IsRising number_at ss → IsRising number_in (rows_in ss)
  rows_rising [] rising = tt
  rows_rising (Row r ∷ ss) rising = (rows_above r.opening.number ss rising.0, rows_rising ss rising.1)
  rows_rising (Gap m ∷ ss) rising = rows_rising ss rising.1

  -- ---- a handle is found

  -- a number that is nowhere among the slots is nowhere among the handles
  pub gap_rows : (ss : List (Slot P)) (n i : ℕ) → IsGapFor number_at ss n i → IsGapFor number_in (rows_in ss) n (rank i ss)
  gap_rows ss n zero gap = rows_above n ss gap
  gap_rows [] n (suc i) gap = absurd gap
  gap_rows (Row r ∷ ss) n (suc i) gap = (gap.0, gap_rows ss n i gap.1)
  gap_rows (Gap m ∷ ss) n (suc i) gap = gap_rows ss n i gap.1

  -- nor is one whose slot is a gap
  pub closed_rows : (ss : List (Slot P)) (n i : ℕ) → IsPlaceOf number_at ss n i → row_at i ss ≡ None → IsGapFor number_in (rows_in ss) n (rank i ss)
  closed_rows [] n i place none = absurd place
  closed_rows (Row r ∷ ss) n zero place none = absurd (cc)
  closed_rows (Gap m ∷ ss) n zero place none = rows_above n ss place.1
  closed_rows (Row r ∷ ss) n (suc i) place none = (place.0, closed_rows ss n i place.1 none)
  closed_rows (Gap m ∷ ss) n (suc i) place none = closed_rows ss n i place.1 none

  -- where its slot has a handle, its place among the handles is behind as many as are before it
  pub place_rows : (ss : List (Slot P)) (n i : ℕ) → IsPlaceOf number_at ss n i → IsSome (row_at i ss) → IsPlaceOf number_in (rows_in ss) n (rank i ss)
  place_rows [] n i place some = absurd place
  place_rows (Row r ∷ ss) n zero place some = (place.0, rows_above n ss place.1)
  place_rows (Gap m ∷ ss) n zero place some = absurd (false≢true some)
  place_rows (Row r ∷ ss) n (suc i) place some = (place.0, place_rows ss n i place.1 some)
  place_rows (Gap m ∷ ss) n (suc i) place some = place_rows ss n i place.1 some

  -- ---- a handle at its place

  pub row_here : (ss : List (Slot P)) (i : ℕ) (d : Slot P) → i < length ss → row_of (get_or ss i d) ≡ row_at i ss
  row_here [] i d lt = absurd (omega arith)
  row_here (s ∷ ss) zero d lt = refl
  row_here (s ∷ ss) (suc i) d lt = row_here ss i d (omega arith)

  pub row_some : (ss : List (Slot P)) (i : ℕ) (s : Slot P) → i < length ss → s ≡ get_or ss i s → is_row s ≡ true → IsSome (row_at i ss)
  row_some ss i s lt at row = subst IsSome (row_here ss i s lt) (by (get_or ss i s) (ap is_row (sym at) ∙ row))
    where
      by : (t : Slot P) → is_row t ≡ true → IsSome (row_of t)
      by (Row r) row = refl
      by (Gap m) row = absurd (false≢true row)

  pub row_none : (ss : List (Slot P)) (i : ℕ) (s : Slot P) → i < length ss → s ≡ get_or ss i s → is_row s ≡ false → row_at i ss ≡ None
  row_none ss i s lt at gap = sym (row_here ss i s lt) ∙ by (get_or ss i s) (ap is_row (sym at) ∙ gap)
    where
      by : (t : Slot P) → is_row t ≡ false → row_of t ≡ None
      by (Row r) gap = absurd (false≢true (sym gap))
      by (Gap m) gap = refl

  pub place_within : (ss : List (Slot P)) (i : ℕ) → IsSome (row_at i ss) → i < length ss
  place_within [] i some = absurd (false≢true some)
  place_within (s ∷ ss) zero some = omega arith
  place_within (s ∷ ss) (suc i) some = omega (arith, place_within ss i some)

  pub rank_within : (ss : List (Slot P)) (i : ℕ) → IsSome (row_at i ss) → rank i ss < length (rows_in ss)
  rank_within [] i some = absurd (false≢true some)
  rank_within (Row r ∷ ss) zero some = omega arith
  rank_within (Gap m ∷ ss) zero some = absurd (false≢true some)
  rank_within (Row r ∷ ss) (suc i) some = omega (arith, rank_within ss i some)
  rank_within (Gap m ∷ ss) (suc i) some = rank_within ss i some

  pub rank_row : (ss : List (Slot P)) (i : ℕ) (r d : HandleRow P) → Some r ≡ row_at i ss → r ≡ get_or (rows_in ss) (rank i ss) d
  rank_row [] i r d is = absurd (cc)
  rank_row (Row x ∷ ss) zero r d is = cc
  rank_row (Gap m ∷ ss) zero r d is = absurd (cc)
  rank_row (Row x ∷ ss) (suc i) r d is = rank_row ss i r d is
  rank_row (Gap m ∷ ss) (suc i) r d is = rank_row ss i r d is

  -- ---- what a search says

  pub record Looked (ss : List (Slot P)) (n : ℕ) (r : Option ℕ) : Type 0 where
    pub found : IfSome r (λ i. IsPlaceOf number_in (rows_in ss) n (rank i ss))
    pub row : IfSome r (λ i. IsSome (row_at i ss))
    pub absent : IfNone r (IsAbsent n (rows_in ss))

  -- of the list and the number that were meant
  pub looked : (ss xs : List (Slot P)) (n m : ℕ) (r : Option ℕ) → xs ≡ ss → m ≡ n → IfSome r (IsPlaceOf number_at xs m) → IfSome r (λ i. IsSome (row_at i xs)) → IfNone r (IsAbsent m (rows_in xs)) → Looked ss n r
  looked ss xs n m r list number found row absent = subst (λ l. Looked l n r) list (subst (λ k. Looked xs k r) number (by r found row absent))
    where
      by : (r : Option ℕ) → IfSome r (IsPlaceOf number_at xs m) → IfSome r (λ i. IsSome (row_at i xs)) → IfNone r (IsAbsent m (rows_in xs)) → Looked xs m r
      by None found row absent = record { found = tt; row = tt; absent = absent }
      by (Some i) found row absent = record { found = place_rows xs m i found row; row = row; absent = tt }

  pub row_found : (ss xs : List (Slot P)) (n m i : ℕ) → xs ≡ ss → m ≡ n → IsPlaceOf number_at xs m i → IsSome (row_at i xs) → row_at i ss ≡ find (λ r. number_in r == n) (rows_in ss)
  row_found ss xs n m i list number place some = subst (λ l. row_at i l ≡ find (λ r. number_in r == n) (rows_in l)) list (subst (λ k. row_at i xs ≡ find (λ r. number_in r == k) (rows_in xs)) number here)
    where
      here : row_at i xs ≡ find (λ r. number_in r == m) (rows_in xs)
      here =
          let s = some_of (row_at i xs) some in
          sym s.1 ∙ find_place number_in m (rows_in xs) (rank i xs) s.0 (place_rows xs m i place some) (rank_row xs i s.0 s.0 s.1)

  pub none_found : (ss xs : List (Slot P)) (n m : ℕ) → xs ≡ ss → m ≡ n → IsAbsent m (rows_in xs) → None ≡ find (λ r. number_in r == n) (rows_in ss)
  none_found ss xs n m list number absent = subst (λ l. None ≡ find (λ r. number_in r == n) (rows_in l)) list (subst (λ k. None ≡ find (λ r. number_in r == k) (rows_in xs)) number (sym (find_gap number_in m (rows_in xs) absent.0 absent.1)))

  -- a place that has a handle is a small number
  pub few_looked : (ss : List (Slot P)) (r : Option ℕ) → length ss ≤ most_handles → IfSome r (λ i. IsSome (row_at i ss)) → IfSome r (λ i. i < most_handles)
  few_looked ss None few row = tt
  few_looked ss (Some i) few row = omega (arith, few, place_within ss i row)

  -- ---- a handle changes

  pub rows_set : (ss : List (Slot P)) (i : ℕ) (change : HandleRow P → HandleRow P) (s : Slot P) (d : HandleRow P) → IsSome (row_at i ss)
      → rows_in (set ss i (on_row change (get_or ss i s))) ≡ set (rows_in ss) (rank i ss) (change (get_or (rows_in ss) (rank i ss) d))
  rows_set [] i change s d some = absurd (false≢true some)
  rows_set (Row r ∷ ss) zero change s d some = refl
  rows_set (Gap m ∷ ss) zero change s d some = absurd (false≢true some)
  rows_set (Row r ∷ ss) (suc i) change s d some = ap (λ rs. r ∷ rs) (rows_set ss i change s d some)
  rows_set (Gap m ∷ ss) (suc i) change s d some = rows_set ss i change s d some

  -- the handle of a number changes, which is at a place
  pub rows_numbered : (ss : List (Slot P)) (i n : ℕ) (change : HandleRow P → HandleRow P) (s t : Slot P) → t ≡ on_row change (get_or ss i s) → IsSome (row_at i ss) → IsPlaceOf number_in (rows_in ss) n (rank i ss)
      → rows_in (set ss i t) ≡ on_first (λ r. number_in r == n) change (rows_in ss)
  rows_numbered ss i n change s t is some place =
      let d = (some_of (row_at i ss) some).0 in
      ap (λ x. rows_in (set ss i x)) is ∙ rows_set ss i change s d some ∙ sym (change_place number_in change n (rows_in ss) (rank i ss) d place)

  -- where there is no handle at a place, or one that stays as it is, nothing changes
  pub set_gap : (ss : List (Slot P)) (i : ℕ) (change : HandleRow P → HandleRow P) (d : Slot P) → row_at i ss ≡ None → ss ≡ set ss i (on_row change (get_or ss i d))
  set_gap [] i change d none = refl
  set_gap (Row r ∷ ss) zero change d none = absurd (cc)
  set_gap (Gap m ∷ ss) zero change d none = refl
  set_gap (s ∷ ss) (suc i) change d none = ap (λ xs. s ∷ xs) (set_gap ss i change d none)

  pub set_same : (ss : List (Slot P)) (i : ℕ) (change : HandleRow P → HandleRow P) (r : HandleRow P) (d : Slot P) → Some r ≡ row_at i ss → change r ≡ r → ss ≡ set ss i (on_row change (get_or ss i d))
  set_same [] i change r d is same = refl
  set_same (Row x ∷ ss) zero change r d is same = let e : r ≡ x = cc in ap (λ y. Row y ∷ ss) (sym e ∙ sym same ∙ ap change e)
  set_same (Gap m ∷ ss) zero change r d is same = refl
  set_same (s ∷ ss) (suc i) change r d is same = ap (λ xs. s ∷ xs) (set_same ss i change r d is same)

  -- the same change, without a default
  pub changed_is : (ss : List (Slot P)) (i : ℕ) (change : HandleRow P → HandleRow P) (d : Slot P) → changed_at i change ss ≡ set ss i (on_row change (get_or ss i d))
  changed_is [] i change d = refl
  changed_is (s ∷ ss) zero change d = refl
  changed_is (s ∷ ss) (suc i) change d = ap (λ xs. s ∷ xs) (changed_is ss i change d)

  pub rows_changed : (ss : List (Slot P)) (i : ℕ) (change : HandleRow P → HandleRow P) (r : HandleRow P) → Some r ≡ row_at i ss → rows_in (changed_at i change ss) ≡ set (rows_in ss) (rank i ss) (change r)
  rows_changed [] i change r is = absurd (cc)
  rows_changed (Row x ∷ ss) zero change r is = let e : r ≡ x = cc in ap (λ y. change y ∷ rows_in ss) (sym e)
  rows_changed (Gap m ∷ ss) zero change r is = absurd (cc)
  rows_changed (Row x ∷ ss) (suc i) change r is = ap (λ rs. x ∷ rs) (rows_changed ss i change r is)
  rows_changed (Gap m ∷ ss) (suc i) change r is = rows_changed ss i change r is

  -- two changes that do the same to the handle at a place
  pub set_alike : (ss : List (Slot P)) (i : ℕ) (f g : HandleRow P → HandleRow P) (r : HandleRow P) (d : Slot P) → Some r ≡ row_at i ss → f r ≡ g r → set ss i (on_row f (get_or ss i d)) ≡ set ss i (on_row g (get_or ss i d))
  set_alike [] i f g r d is same = refl
  set_alike (Row x ∷ ss) zero f g r d is same = let e : r ≡ x = cc in ap (λ y. Row y ∷ ss) (ap f (sym e) ∙ same ∙ ap g e)
  set_alike (Gap m ∷ ss) zero f g r d is same = refl
  set_alike (s ∷ ss) (suc i) f g r d is same = ap (λ xs. s ∷ xs) (set_alike ss i f g r d is same)

  pub rows_map : (change : HandleRow P → HandleRow P) (ss : List (Slot P)) → rows_in (map (on_row change) ss) ≡ map change (rows_in ss)
  rows_map change [] = refl
  rows_map change (Row r ∷ ss) = ap (λ rs. change r ∷ rs) (rows_map change ss)
  rows_map change (Gap m ∷ ss) = rows_map change ss

  on_row_number : (change : HandleRow P → HandleRow P) → ((r : HandleRow P) → number_in (change r) ≡ number_in r) → (s : Slot P) → number_at (on_row change s) ≡ number_at s
  on_row_number change same (Row r) = same r
  on_row_number change same (Gap m) = refl

  ends_more : (none : Bool) (ss : List (Slot P)) → ends_in_row none ss ≡ true → ends_in_row true ss ≡ true
  ends_more none [] ends = refl
  ends_more none (s ∷ ss) ends = ends

  ends_set : (none : Bool) (ss : List (Slot P)) (i : ℕ) (change : HandleRow P → HandleRow P) (d : Slot P) → ends_in_row none ss ≡ true → ends_in_row none (set ss i (on_row change (get_or ss i d))) ≡ true
  ends_set none [] i change d ends = ends
  ends_set none (Row r ∷ ss) zero change d ends = ends
  ends_set none (Gap m ∷ ss) zero change d ends = ends
  ends_set none (s ∷ ss) (suc i) change d ends = ends_set (is_row s) ss i change d ends

  pub sound_set : (ss : List (Slot P)) (count i : ℕ) (change : HandleRow P → HandleRow P) (d : Slot P) → ((r : HandleRow P) → number_in (change r) ≡ number_in r) → IsSome (row_at i ss) → IsSound ss count
      → IsSound (set ss i (on_row change (get_or ss i d))) count
  sound_set ss count i change d same some sound = record {
    rising = rising_set number_at (on_row change (get_or ss i d)) d ss i sound.rising (on_row_number change same (get_or ss i d)) (place_within ss i some);
    counted = sound.counted ∙ sym (count_set ss i change d);
    dense = omega (arith, sound.dense, length-set ss i (on_row change (get_or ss i d)));
    ends = ends_set true ss i change d sound.ends;
    few = omega (arith, sound.few, length-set ss i (on_row change (get_or ss i d)));
  }
    where
      count_set : (ss : List (Slot P)) (i : ℕ) (change : HandleRow P → HandleRow P) (d : Slot P) → length (rows_in (set ss i (on_row change (get_or ss i d)))) ≡ length (rows_in ss)
      count_set [] i change d = refl
      count_set (Row r ∷ ss) zero change d = refl
      count_set (Gap m ∷ ss) zero change d = refl
      count_set (Row r ∷ ss) (suc i) change d = ap suc (count_set ss i change d)
      count_set (Gap m ∷ ss) (suc i) change d = count_set ss i change d

  -- ---- one more handle

  pub rows_push : (ss : List (Slot P)) (r : HandleRow P) → rows_in (ss ++ Row r ∷ []) ≡ rows_in ss ++ r ∷ []
  rows_push [] r = refl
  rows_push (Row x ∷ ss) r = ap (λ rs. x ∷ rs) (rows_push ss r)
  rows_push (Gap m ∷ ss) r = rows_push ss r

  pub ends_push : (none : Bool) (ss : List (Slot P)) (r : HandleRow P) → ends_in_row none (ss ++ Row r ∷ []) ≡ true
  ends_push none [] r = refl
  ends_push none (s ∷ ss) r = ends_push (is_row s) ss r

  -- what is above all handles is above the gaps too, where the last slot has a handle
  slots_below : (n : ℕ) (ss : List (Slot P)) → IsRising number_at ss → EndsInRow ss → AllByRecursion (λ r. number_in r < n) (rows_in ss) → AllByRecursion (λ s. number_at s < n) ss
  slots_below n [] rising ends below = tt
  slots_below n (Row r ∷ ss) rising ends below = (below.0, slots_below n ss rising.1 ends below.1)
  slots_below n (Gap m ∷ []) rising ends below = absurd (false≢true ends)
  slots_below n (Gap m ∷ t ∷ ss) rising ends below =
      let rest = slots_below n (t ∷ ss) rising.1 ends below in
      (omega (arith, rising.0.0, rest.0), rest)

  pub push_rising : (ss : List (Slot P)) (r : HandleRow P) → IsRising number_at ss → EndsInRow ss → AllByRecursion (λ x. number_in x < number_in r) (rows_in ss) → IsRising number_at (ss ++ Row r ∷ [])
  push_rising ss r rising ends below = rising_push number_at ss (Row r) rising (slots_below r.opening.number ss rising ends below)

  pub sound_push : (ss : List (Slot P)) (count : ℕ) (r : HandleRow P) → IsSound ss count → AllByRecursion (λ x. number_in x < number_in r) (rows_in ss) → length ss < most_handles → IsSound (ss ++ Row r ∷ []) (count + 1)
  sound_push ss count r sound below room = record {
    rising = push_rising ss r sound.rising sound.ends below;
    counted = omega (arith, sound.counted, ap length (rows_push ss r), length-append (rows_in ss) (r ∷ []));
    dense = omega (arith, sound.dense, length-append ss (Row r ∷ []));
    ends = ends_push true ss r;
    few = omega (arith, room, length-append ss (Row r ∷ []));
  }

  -- ---- a handle leaves

  pub rows_removed : (ss : List (Slot P)) (i n : ℕ) → IsSome (row_at i ss) → rows_in (set ss i (Gap n)) ≡ remove (rows_in ss) (rank i ss)
  rows_removed [] i n some = absurd (false≢true some)
  rows_removed (Row r ∷ ss) zero n some = refl
  rows_removed (Gap m ∷ ss) zero n some = absurd (false≢true some)
  rows_removed (Row r ∷ ss) (suc i) n some = ap (λ rs. r ∷ rs) (rows_removed ss i n some)
  rows_removed (Gap m ∷ ss) (suc i) n some = rows_removed ss i n some

  pub count_removed : (ss : List (Slot P)) (i n : ℕ) → IsSome (row_at i ss) → length (rows_in (set ss i (Gap n))) + 1 ≡ length (rows_in ss)
  count_removed [] i n some = absurd (false≢true some)
  count_removed (Row r ∷ ss) zero n some = omega arith
  count_removed (Gap m ∷ ss) zero n some = absurd (false≢true some)
  count_removed (Row r ∷ ss) (suc i) n some = omega (arith, count_removed ss i n some)
  count_removed (Gap m ∷ ss) (suc i) n some = count_removed ss i n some

  above_take : (n k : ℕ) (ss : List (Slot P)) → AllAbove number_at n ss → AllAbove number_at n (take k ss)
  above_take n zero ss above = tt
  above_take n (suc k) [] above = tt
  above_take n (suc k) (s ∷ ss) above = (above.0, above_take n k ss above.1)

  pub rising_take : (k : ℕ) (ss : List (Slot P)) → IsRising number_at ss → IsRising number_at (take k ss)
  rising_take zero ss rising = tt
  rising_take (suc k) [] rising = tt
  rising_take (suc k) (s ∷ ss) rising = (above_take (number_at s) k ss rising.0, rising_take k ss rising.1)

  -- a gap at the end is nobody's
  pub rows_gap : (ss : List (Slot P)) (s : Slot P) → is_row s ≡ false → rows_in (ss ++ s ∷ []) ≡ rows_in ss
  rows_gap [] (Row r) gap = absurd (false≢true (sym gap))
  rows_gap [] (Gap m) gap = refl
  rows_gap (Row r ∷ ss) s gap = ap (λ rs. r ∷ rs) (rows_gap ss s gap)
  rows_gap (Gap m ∷ ss) s gap = rows_gap ss s gap

  pub ends_last : (none : Bool) (ss : List (Slot P)) (s : Slot P) → is_row s ≡ true → ends_in_row none (ss ++ s ∷ []) ≡ true
  ends_last none [] s row = row
  ends_last none (t ∷ ss) s row = ends_last (is_row t) ss s row

  pub rows_few : (ss : List (Slot P)) → length (rows_in ss) ≤ length ss
  rows_few [] = omega arith
  rows_few (Row r ∷ ss) = omega (arith, rows_few ss)
  rows_few (Gap m ∷ ss) = omega (arith, rows_few ss)

  -- what is left once the handle at a place has left a gap, without the gaps at the end
  module _ (ss : List (Slot P)) (count i : ℕ) (s t : Slot P) (sound : IsSound ss count) (some : IsSome (row_at i ss)) (at : s ≡ get_or ss i s) (gap : t ≡ Gap (number_at s))
      (xs ys : List (Slot P)) (end : ℕ) (left : xs ≡ set ss i t) (rows : rows_in (take end xs) ≡ rows_in xs) (cut : ys ≡ take end (set ss i t)) where
    cut-is : ys ≡ take end (set ss i (Gap (number_at s)))
    cut-is = cut ∙ ap (λ x. take end (set ss i x)) gap

    rows-cut : rows_in ys ≡ rows_in (set ss i (Gap (number_at s)))
    rows-cut = ap rows_in (cut ∙ ap (take end) (sym left)) ∙ rows ∙ ap rows_in (left ∙ ap (set ss i) gap)

    pub left-rows : rows_in ys ≡ remove (rows_in ss) (rank i ss)
    left-rows = rows-cut ∙ rows_removed ss i (number_at s) some

    pub left-count : count - 1 ≡ length (rows_in ys)
    left-count = omega (arith, sound.counted, ap length rows-cut, count_removed ss i (number_at s) some)

    pub left-rising : IsRising number_at ys
    left-rising = subst (IsRising number_at) (sym cut-is) (rising_take end (set ss i (Gap (number_at s))) (rising_set number_at (Gap (number_at s)) s ss i sound.rising (ap number_at at) (place_within ss i some)))

    pub left-few : length ys ≤ length ss
    left-few = omega (arith, ap length cut-is, length-take end (set ss i (Gap (number_at s))), length-set ss i (Gap (number_at s)))

  -- ---- without the gaps

  pub rows_filter : (ss : List (Slot P)) → rows_in (filter is_row ss) ≡ rows_in ss
  rows_filter [] = refl
  rows_filter (Row r ∷ ss) = ap (λ rs. r ∷ rs) (rows_filter ss)
  rows_filter (Gap m ∷ ss) = rows_filter ss

  pub length_filter : (ss : List (Slot P)) → length (filter is_row ss) ≡ length (rows_in ss)
  length_filter [] = refl
  length_filter (Row r ∷ ss) = ap suc (length_filter ss)
  length_filter (Gap m ∷ ss) = length_filter ss

  above_filter : (n : ℕ) (ss : List (Slot P)) → AllAbove number_at n ss → AllAbove number_at n (filter is_row ss)
  above_filter n [] above = tt
  above_filter n (Row r ∷ ss) above = (above.0, above_filter n ss above.1)
  above_filter n (Gap m ∷ ss) above = above_filter n ss above.1

  pub rising_filter : (ss : List (Slot P)) → IsRising number_at ss → IsRising number_at (filter is_row ss)
  rising_filter [] rising = tt
  rising_filter (Row r ∷ ss) rising = (above_filter r.opening.number ss rising.0, rising_filter ss rising.1)
  rising_filter (Gap m ∷ ss) rising = rising_filter ss rising.1

  pub ends_filter : (ss : List (Slot P)) → ends_in_row true (filter is_row ss) ≡ true
  ends_filter [] = refl
  ends_filter (Row r ∷ ss) = ends_filter ss
  ends_filter (Gap m ∷ ss) = ends_filter ss
