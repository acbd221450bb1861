-- A handle that was given what it is owed, or some of it.
use Rattle.std.proofs.Common.{◌≡◌, ℕ, zero, suc, ◌-◌, ◌≤◌, ◌<◌, Bool, true, false, cond, ltb, ◌||◌, List, [], ◌∷◌, length, drop, refl, sym, ap, subst, ◌∙◌, arith}
use Rattle.std.specs.Prelude.{filter}
use Rattle.std.proofs.lemmas.List.{length-drop}
use Rattle.std.proofs.lemmas.Bool.Decides.{nat_tests}
use Rattle.pps_types.specs.History.{Entry}
use Rattle.pps_types.specs.Reading.{OpenHandle, Style, Full, Delta, Queue, style, is_full_style, is_delta_style, visible}
use Rattle.pps_types.specs.Rests.{Over as SeenOver, Owed, seen_of, stand, over_limit, from_first, past, unread}
use Rattle.pps_types.specs.Plan.{left, caught_up, first_seen}
use Rattle.pps_types.proofs.Lists.{filter-from_first}
use Rattle.sub_reader.specs.declared.place.Place.{Place}
use Rattle.sub_reader.specs.declared.place.Place.TheVariants.{News, Fresh, Over, Idle, At}
use Rattle.sub_reader.specs.Opened.{is_reader}
use Rattle.sub_reader.specs.Places.{seen_at, Begins, IsAt, IsPlace, caught_place, first_place}
use Rattle.sub_reader.proofs.Offered.{seen-within}

past-count : (test : Entry → Bool) (n : ℕ) (xs : List Entry) → length (filter test (past test n xs)) ≡ length (filter test xs) - n
past-count test zero xs = omega arith
past-count test (suc n) [] = omega arith
past-count test (suc n) (x ∷ xs) =
    elim (test x) as (λ b. length (filter test (cond b (past test n xs) (past test (suc n) xs))) ≡ length (cond b (x ∷ filter test xs) (filter test xs)) - suc n)
    [ true ↦ omega (arith, past-count test n xs) | false ↦ past-count test (suc n) xs ]

first-begins : (test : Entry → Bool) (xs : List Entry) → 0 < length (filter test (from_first test xs)) → Begins test (from_first test xs)
first-begins test [] lt = absurd (omega arith)
first-begins test (x ∷ xs) lt = by (first-begins test xs) (test x) refl lt
  where
    by : (0 < length (filter test (from_first test xs)) → Begins test (from_first test xs)) → (b : Bool) → test x ≡ b → 0 < length (filter test (cond b (x ∷ xs) (from_first test xs))) → Begins test (cond b (x ∷ xs) (from_first test xs))
    by rec true e lt = e
    by rec false e lt = rec lt

first-none : (test : Entry → Bool) (xs : List Entry) → length (filter test (from_first test xs)) ≡ 0 → from_first test xs ≡ []
first-none test [] z = refl
first-none test (x ∷ xs) z = by (first-none test xs) (test x) refl z
  where
    by : (length (filter test (from_first test xs)) ≡ 0 → from_first test xs ≡ []) → (b : Bool) → test x ≡ b → length (filter test (cond b (x ∷ xs) (from_first test xs))) ≡ 0 → cond b (x ∷ xs) (from_first test xs) ≡ []
    by rec true e z = absurd (let one : length (filter test (x ∷ xs)) ≡ suc (length (filter test xs)) = ap (λ b. length (cond b (x ∷ filter test xs) (filter test xs))) e in omega arith)
    by rec false e z = rec z

begins-some : (test : Entry → Bool) (xs : List Entry) → Begins test xs → 0 < length xs
begins-some test [] b = absurd b
begins-some test (x ∷ xs) b = omega arith

module _ {S : Type 0} (h : OpenHandle S) (start : ℕ) (entries : List Entry) where
  rest-count : (first owed n : ℕ) → IsAt h start entries first owed → length (filter (visible h) (from_first (visible h) (past (visible h) n (drop (first - start) entries)))) ≡ owed - n
  rest-count first owed n is = ap length (filter-from_first (visible h) (past (visible h) n (drop (first - start) entries))) ∙ past-count (visible h) n (drop (first - start) entries) ∙ ap (λ m. m - n) is.count

  -- all of it
  pub passed-all : (first owed n : ℕ) → IsAt h start entries first owed → owed ≤ n → Owed [] ≡ left h n (Owed (drop (first - start) entries))
  passed-all first owed n is le =
      sym (ap (seen_of h) (first-none (visible h) (past (visible h) n (drop (first - start) entries)) (omega (arith, rest-count first owed n is)))
      ∙ seen-within h [] is.delta (omega arith))

  -- next: the position of the first that is owed behind them
  module _ (first owed n next : ℕ) (is : IsAt h start entries first owed) (lt : n < owed) (from : start ≤ next) (there : drop (next - start) entries ≡ from_first (visible h) (past (visible h) n (drop (first - start) entries))) where
    many : length (filter (visible h) (drop (next - start) entries)) ≡ owed - n
    many = ap (λ xs. length (filter (visible h) xs)) there ∙ rest-count first owed n is

    begins : Begins (visible h) (drop (next - start) entries)
    begins = subst (Begins (visible h)) (sym there) (first-begins (visible h) (past (visible h) n (drop (first - start) entries)) (omega (arith, rest-count first owed n is)))

    pub passed-at : IsAt h start entries next (owed - n)
    passed-at = record {
      delta = is.delta;
      from_start = from;
      before_end = omega (arith, begins-some (visible h) (drop (next - start) entries) begins, length-drop (next - start) entries);
      begins = begins;
      count = many;
      few = omega (arith, is.few);
    }

    pub passed-seen : Owed (drop (next - start) entries) ≡ left h n (Owed (drop (first - start) entries))
    passed-seen = ap Owed there ∙ sym (seen-within h (from_first (visible h) (past (visible h) n (drop (first - start) entries))) is.delta (omega (arith, rest-count first owed n is, is.few)))

  -- any other place
  pub passed-other : (n : ℕ) (p : Place) → IsPlace h start entries p → ((first owed : ℕ) → p ≡ At first owed → ⊥) → seen_at start entries p ≡ left h n (seen_at start entries p)
  passed-other n (News b) is other = refl
  passed-other n Fresh is other = refl
  passed-other n Over is other = refl
  passed-other n Idle is other = sym (ap (seen_of h) (none n) ∙ seen-within h [] is (omega arith))
    where
      none : (m : ℕ) → from_first (visible h) (past (visible h) m []) ≡ []
      none zero = refl
      none (suc m) = refl
  passed-other n (At first owed) is other = absurd (other first owed refl)

-- ---- a read of everything, and an opening

by-style : (s : Style) (reads over : Bool) → (is_full_style s || is_delta_style s) ≡ true → (over ≡ false) → seen_at 0 [] (cond (is_full_style s) (News false) Idle) ≡ stand s reads over []
by-style Full true over is o = refl
by-style Full false over is o = refl
by-style Delta reads over is o = ap (λ b. cond b SeenOver (Owed [])) (sym o)
by-style Queue reads over is o = absurd cc

caught-seen-at : (start : ℕ) (entries : List Entry) (b : Bool) → seen_at start entries (cond b (News false) Idle) ≡ seen_at 0 [] (cond b (News false) Idle)
caught-seen-at start entries true = refl
caught-seen-at start entries false = refl

pub caught-seen : {S : Type 0} (h : OpenHandle S) (start : ℕ) (entries : List Entry) → is_reader h.kind ≡ true → seen_at start entries (caught_place h.kind) ≡ caught_up h
caught-seen h start entries is = caught-seen-at start entries (is_full_style (style h.kind)) ∙ by-style (style h.kind) h.reads (over_limit h []) is (let f : ltb h.limit 0 ≡ false = grind (arith, nat_tests) in f)

pub caught-is : {S : Type 0} (h : OpenHandle S) (start : ℕ) (entries : List Entry) → is_reader h.kind ≡ true → IsPlace h start entries (caught_place h.kind)
caught-is h start entries is = by (is_full_style (style h.kind)) refl is
  where
    by : (b : Bool) → is_full_style (style h.kind) ≡ b → (b || is_delta_style (style h.kind)) ≡ true → IsPlace h start entries (cond b (News false) Idle)
    by true e r = e
    by false e r = r

first-by : (s : Style) (reads : Bool) (start : ℕ) (entries : List Entry) → (is_full_style s || is_delta_style s) ≡ true → seen_at start entries (cond (is_full_style s) (News reads) Fresh) ≡ unread s reads
first-by Full reads start entries is = refl
first-by Delta reads start entries is = refl
first-by Queue reads start entries is = absurd cc

first-unread : {S : Type 0} (h : OpenHandle S) (s : Style) → (is_full_style s || is_delta_style s) ≡ true → first_seen h s ≡ unread s h.reads
first-unread h Full is = refl
first-unread h Delta is = refl
first-unread h Queue is = absurd cc

pub first-place-seen : {S : Type 0} (h : OpenHandle S) (start : ℕ) (entries : List Entry) → is_reader h.kind ≡ true → seen_at start entries (first_place h.kind h.reads) ≡ first_seen h (style h.kind)
first-place-seen h start entries is = first-by (style h.kind) h.reads start entries is ∙ sym (first-unread h (style h.kind) is)

pub first-place-is : {S : Type 0} (h : OpenHandle S) (start : ℕ) (entries : List Entry) → is_reader h.kind ≡ true → IsPlace h start entries (first_place h.kind h.reads)
first-place-is h start entries is = by (is_full_style (style h.kind)) refl is
  where
    by : (b : Bool) → is_full_style (style h.kind) ≡ b → (b || is_delta_style (style h.kind)) ≡ true → IsPlace h start entries (cond b (News h.reads) Fresh)
    by true e r = e
    by false e r = r
