-- How many handles stand at each position.
use Rattle.std.proofs.Common.{◌≡◌, ℕ, zero, suc, ◌+◌, ◌-◌, ◌≤◌, ◌<◌, Bool, true, false, cond, eqb, ltb, List, [], ◌∷◌, length, map, drop, set, get_or, refl, sym, ap, subst, ◌∙◌, arith, ⊎_elim}
use Rattle.std.specs.List.{AllByRecursion}
use Rattle.std.proofs.lemmas.Bool.{eqb-true, eqb-false, eq-eqb, cases_lt}
use Rattle.std.specs.Prelude.{filter}
use Rattle.std.proofs.lemmas.List.{drop-drop, length-set, get_or-set_same, get_or-set_other, get_or-drop, length-drop}
use Rattle.std.proofs.lemmas.List.Sums.{sum_by-set, sum_by-cons, get_or-le-sum_by}
use Rattle.pps_types.specs.History.{Entry}
use Rattle.pps_types.specs.Reading.{OpenHandle, reseen, visible}
use Rattle.pps_types.specs.Rests.{Owed}
use Rattle.sub_reader.specs.declared.place.Place.{Place}
use Rattle.sub_reader.specs.declared.place.Place.TheVariants.{News, Fresh, Over, Idle, At}
use Rattle.sub_reader.specs.Readers.{Reader}
use Rattle.sub_reader.specs.Opened.{opened}
use Rattle.sub_reader.specs.Places.{seen_at, waiting, handle_of, place_after, Begins, IsPlace, IsReader}
use Rattle.sub_reader.specs.Counts.{stands, uncounted, counted, recounted, standing, IsCounted, IsWithin, zeros}
use Rattle.sub_reader.specs.Standing.{IsLoose, IsTarget}

-- ---- lists

module _ {X : Type 0} where
  pub all-set : (P : X → Type 0) (xs : List X) (k : ℕ) (y : X) → AllByRecursion P xs → P y → AllByRecursion P (set xs k y)
  all-set P [] k y all p = all
  all-set P (x ∷ xs) zero y all p = (p, all.1)
  all-set P (x ∷ xs) (suc k) y all p = (all.0, all-set P xs k y all.1 p)

  pub all-at : (P : X → Type 0) (xs : List X) (k : ℕ) (d : X) → AllByRecursion P xs → k < length xs → P (get_or xs k d)
  all-at P [] k d all lt = absurd (omega arith)
  all-at P (x ∷ xs) zero d all lt = all.0
  all-at P (x ∷ xs) (suc k) d all lt = all-at P xs k d all.1 (omega arith)

  pub all-both : {P Q R : X → Type 0} → ((x : X) → P x → Q x → R x) → (xs : List X) → AllByRecursion P xs → AllByRecursion Q xs → AllByRecursion R xs
  all-both f [] p q = tt
  all-both f (x ∷ xs) p q = (f x p.0 q.0, all-both f xs p.1 q.1)

  pub map-all : {Y : Type 0} (f g : X → Y) (xs : List X) → AllByRecursion (λ x. f x ≡ g x) xs → map f xs ≡ map g xs
  map-all f g [] all = refl
  map-all f g (x ∷ xs) all = λ i. all.0 i ∷ map-all f g xs all.1 i

-- ---- leaving and taking a place

stands-le : (position : ℕ) (p : Place) → stands position p ≤ 1
stands-le position (At first owed) = elim (eqb first position) as (λ b. cond b 1 0 ≤ 1) [ true ↦ omega arith | false ↦ omega arith ]
stands-le position (News b) = omega arith
stands-le position Fresh = omega arith
stands-le position Over = omega arith
stands-le position Idle = omega arith

pub standing-le : (readers : List Reader) (position : ℕ) → standing readers position ≤ length readers
standing-le [] position = omega arith
standing-le (s ∷ ss) position = omega (arith, sum_by-cons (λ (x : Reader). stands position x.progress) s ss, stands-le position s.progress, standing-le ss position)

pub uncounted-length : (start : ℕ) (p : Place) (counts : List ℕ) → length (uncounted start p counts) ≡ length counts
uncounted-length start (At first owed) counts = length-set counts (first - start) (get_or counts (first - start) 0 - 1)
uncounted-length start (News b) counts = refl
uncounted-length start Fresh counts = refl
uncounted-length start Over counts = refl
uncounted-length start Idle counts = refl

pub counted-length : (start : ℕ) (p : Place) (counts : List ℕ) → length (counted start p counts) ≡ length counts
counted-length start (At first owed) counts = length-set counts (first - start) (get_or counts (first - start) 0 + 1)
counted-length start (News b) counts = refl
counted-length start Fresh counts = refl
counted-length start Over counts = refl
counted-length start Idle counts = refl

pub recounted-length : (start : ℕ) (from to : Place) (counts : List ℕ) → length (recounted start from to counts) ≡ length counts
recounted-length start from to counts = counted-length start to (uncounted start from counts) ∙ uncounted-length start from counts

pub uncounted-at : (start : ℕ) (p : Place) (counts : List ℕ) (i : ℕ) → IsWithin start (start + length counts) p → i < length counts → get_or (uncounted start p counts) i 0 ≡ get_or counts i 0 - stands (start + i) p
uncounted-at start (At first owed) counts i w lt = by (eqb first (start + i)) refl
  where
    by : (b : Bool) → eqb first (start + i) ≡ b → get_or (set counts (first - start) (get_or counts (first - start) 0 - 1)) i 0 ≡ get_or counts i 0 - cond b 1 0
    by true e =
        let same : i ≡ first - start = omega (arith, eqb-true first (start + i) e) in
        ap (λ j. get_or (set counts (first - start) (get_or counts (first - start) 0 - 1)) j 0) same
        ∙ get_or-set_same counts (first - start) (get_or counts (first - start) 0 - 1) 0 (omega arith)
        ∙ ap (λ j. get_or counts j 0 - 1) (sym same)
    by false e = get_or-set_other counts (first - start) i (get_or counts (first - start) 0 - 1) 0 (λ same. eqb-false first (start + i) e (omega (arith, w.0, w.1))) ∙ (let z : get_or counts i 0 ≡ get_or counts i 0 - 0 = omega arith in z)
uncounted-at start (News b) counts i w lt = omega arith
uncounted-at start Fresh counts i w lt = omega arith
uncounted-at start Over counts i w lt = omega arith
uncounted-at start Idle counts i w lt = omega arith

pub counted-at : (start : ℕ) (p : Place) (counts : List ℕ) (i : ℕ) → IsWithin start (start + length counts) p → i < length counts → get_or (counted start p counts) i 0 ≡ get_or counts i 0 + stands (start + i) p
counted-at start (At first owed) counts i w lt = by (eqb first (start + i)) refl
  where
    by : (b : Bool) → eqb first (start + i) ≡ b → get_or (set counts (first - start) (get_or counts (first - start) 0 + 1)) i 0 ≡ get_or counts i 0 + cond b 1 0
    by true e =
        let same : i ≡ first - start = omega (arith, eqb-true first (start + i) e) in
        ap (λ j. get_or (set counts (first - start) (get_or counts (first - start) 0 + 1)) j 0) same
        ∙ get_or-set_same counts (first - start) (get_or counts (first - start) 0 + 1) 0 (omega arith)
        ∙ ap (λ j. get_or counts j 0 + 1) (sym same)
    by false e = get_or-set_other counts (first - start) i (get_or counts (first - start) 0 + 1) 0 (λ same. eqb-false first (start + i) e (omega (arith, w.0, w.1))) ∙ (let z : get_or counts i 0 ≡ get_or counts i 0 + 0 = omega arith in z)
counted-at start (News b) counts i w lt = omega arith
counted-at start Fresh counts i w lt = omega arith
counted-at start Over counts i w lt = omega arith
counted-at start Idle counts i w lt = omega arith

-- one handle goes from its place to another
pub counted-set : (start : ℕ) (readers : List Reader) (counts : List ℕ) (k : ℕ) (d s : Reader) → IsCounted start readers counts → k < length readers
    → IsWithin start (start + length counts) (get_or readers k d).progress → IsWithin start (start + length counts) s.progress
    → IsCounted start (set readers k s) (recounted start (get_or readers k d).progress s.progress counts)
counted-set start readers counts k d s agree lt from to i within =
    let from_place : Place = (get_or readers k d).progress in
    let n = uncounted-length start from_place counts in
    let here : i < length counts = omega (arith, recounted-length start from_place s.progress counts) in
    let a = counted-at start s.progress (uncounted start from_place counts) i (subst (λ m. IsWithin start (start + m) s.progress) (sym n) to) (omega arith) in
    let b = uncounted-at start from_place counts i from here in
    let c = agree i here in
    let f = sum_by-set (λ (x : Reader). stands (start + i) x.progress) readers k s d lt in
    let le = get_or-le-sum_by (λ (x : Reader). stands (start + i) x.progress) readers k d lt in
    a ∙ ap (λ m. m + stands (start + i) s.progress) (b ∙ ap (λ m. m - stands (start + i) from_place) c)
    ∙ by (standing readers (start + i)) (stands (start + i) from_place) (stands (start + i) s.progress) (standing (set readers k s) (start + i)) f le
  where
    by : (all old new after : ℕ) → after + old ≡ all + new → old ≤ all → (all - old) + new ≡ after
    by all old new after f le = omega arith

-- ---- the cut

pub zeros-le : (counts : List ℕ) → zeros counts ≤ length counts
zeros-le [] = omega arith
zeros-le (zero ∷ counts) = omega (arith, zeros-le counts)
zeros-le (suc n ∷ counts) = omega arith

pub zeros-are : (counts : List ℕ) (i : ℕ) → i < zeros counts → get_or counts i 0 ≡ 0
zeros-are [] i lt = absurd (omega arith)
zeros-are (zero ∷ counts) zero lt = refl
zeros-are (zero ∷ counts) (suc i) lt = zeros-are counts i (omega arith)
zeros-are (suc n ∷ counts) i lt = absurd (omega arith)

pub zeros-exact : (counts : List ℕ) → zeros (drop (zeros counts) counts) ≡ 0
zeros-exact [] = refl
zeros-exact (zero ∷ counts) = zeros-exact counts
zeros-exact (suc n ∷ counts) = refl

-- the place is not before a position
abbrev IsBehind : ℕ → Place → Type 0
IsBehind position (At first owed) = position ≤ first
IsBehind position _ = Unit {0}

drop-less : {X : Type 0} (f start z : ℕ) (xs : List X) → start + z ≤ f → drop (f - (start + z)) (drop z xs) ≡ drop (f - start) xs
drop-less f start z xs le = drop-drop (f - (start + z)) z xs ∙ ap (λ n. drop n xs) (let e : z + (f - (start + z)) ≡ f - start = omega arith in e)

place-cut : {S : Type 0} (h : OpenHandle S) (start z : ℕ) (entries : List Entry) (p : Place) → z ≤ length entries → IsPlace h start entries p → IsBehind (start + z) p → IsPlace h (start + z) (drop z entries) p × (seen_at (start + z) (drop z entries) p ≡ seen_at start entries p)
place-cut h start z entries (News b) le is behind = (is, refl)
place-cut h start z entries Fresh le is behind = (is, refl)
place-cut h start z entries Over le is behind = (is, refl)
place-cut h start z entries Idle le is behind = (is, refl)
place-cut h start z entries (At first owed) le is behind =
    let same : drop (first - (start + z)) (drop z entries) ≡ drop (first - start) entries = drop-less first start z entries behind in (
      record {
        delta = is.delta;
        from_start = behind;
        before_end = omega (arith, is.before_end, length-drop z entries);
        begins = subst (Begins (visible h)) (sym same) is.begins;
        count = ap (λ xs. length (filter (visible h) xs)) same ∙ is.count;
        few = is.few;
      },
      ap Owed same,
    )

-- each counts for something where it stands
all-standing : (most : ℕ → ℕ) (readers : List Reader) → ((p : ℕ) → standing readers p ≤ most p) → AllByRecursion (λ s. (p : ℕ) → stands p s.progress ≤ most p) readers
all-standing most [] le = tt
all-standing most (s ∷ ss) le = ((λ p. omega (arith, sum_by-cons (λ (x : Reader). stands p x.progress) s ss, le p)), all-standing most ss (λ p. omega (arith, sum_by-cons (λ (x : Reader). stands p x.progress) s ss, le p)))

stands-here : (first owed : ℕ) → stands first (At first owed) ≡ 1
stands-here first owed = ap (λ b. cond b 1 0) (eq-eqb first first refl)

module _ (d : Bool) (t : ℕ) (name : List ℕ) (start : ℕ) (entries : List Entry) (counts : List ℕ) (readers : List Reader) (loose : IsLoose d t name start entries counts readers) where
  behind : (s : Reader) (p : Place) → IsPlace (opened t name s.opening) start entries p → ((q : ℕ) → stands q p ≤ standing readers q) → IsBehind (start + zeros counts) p
  behind s (News b) is le = tt
  behind s Fresh is le = tt
  behind s Over is le = tt
  behind s Idle is le = tt
  behind s (At first owed) is le = ⊎_elim
      (λ lt. let i : ℕ = first - start in
      let in_counts : i < length counts = omega (arith, loose.paired, is.before_end, is.from_start) in
      let none : get_or counts i 0 ≡ 0 = zeros-are counts i (omega (arith, is.from_start)) in
      let at : start + i ≡ first = omega (arith, is.from_start) in
      absurd (let some = le first in let one = stands-here first owed in let same = loose.agree i in_counts in let there = ap (standing readers) at in omega arith))
      (λ ge. ge)
      (cases_lt first (start + zeros counts))

  cut-reader : (s : Reader) → IsReader d t name start entries s → ((q : ℕ) → stands q s.progress ≤ standing readers q) → IsReader d t name (start + zeros counts) (drop (zeros counts) entries) s × (handle_of t name (start + zeros counts) (drop (zeros counts) entries) s ≡ handle_of t name start entries s)
  cut-reader s is le =
      let c = place-cut (opened t name s.opening) start (zeros counts) entries s.progress (omega (arith, zeros-le counts, loose.paired)) is.place (behind s s.progress is.place le) in
      (record { flag = is.flag; place = c.0 }, ap (λ x. waiting s (reseen (λ h. x) (opened t name s.opening))) c.1)

  pub cut-seen : map (handle_of t name (start + zeros counts) (drop (zeros counts) entries)) readers ≡ map (handle_of t name start entries) readers
  cut-seen = map-all (handle_of t name (start + zeros counts) (drop (zeros counts) entries)) (handle_of t name start entries) readers (all-both {P = IsReader d t name start entries} {Q = λ s. (q : ℕ) → stands q s.progress ≤ standing readers q} {R = λ s. handle_of t name (start + zeros counts) (drop (zeros counts) entries) s ≡ handle_of t name start entries s} (λ s is le. (cut-reader s is le).1) readers loose.each (all-standing (standing readers) readers (λ p. omega arith)))

  pub cut-is : IsTarget d t name (start + zeros counts) (drop (zeros counts) entries) (drop (zeros counts) counts) readers
  cut-is = record {
    loose = record {
      paired = omega (arith, loose.paired, length-drop (zeros counts) counts, length-drop (zeros counts) entries);
      fits = omega (arith, loose.fits, loose.paired, zeros-le counts, length-drop (zeros counts) entries);
      each = all-both {P = IsReader d t name start entries} {Q = λ s. (q : ℕ) → stands q s.progress ≤ standing readers q} {R = IsReader d t name (start + zeros counts) (drop (zeros counts) entries)} (λ s is le. (cut-reader s is le).0) readers loose.each (all-standing (standing readers) readers (λ p. omega arith));
      rising = loose.rising;
      agree = λ i lt. get_or-drop (zeros counts) counts i 0 ∙ loose.agree (zeros counts + i) (omega (arith, length-drop (zeros counts) counts)) ∙ ap (standing readers) (let e : start + (zeros counts + i) ≡ (start + zeros counts) + i = omega arith in e);
    };
    exact = zeros-exact counts;
  }

-- where a record leads
pub within-after : (start end limit position : ℕ) (b : Bool) (p : Place) → start ≤ position → position < end → IsWithin start end p → IsWithin start end (place_after limit b position p)
within-after start end limit position b (News n) from to is = tt
within-after start end limit position b Fresh from to is = tt
within-after start end limit position b Over from to is = tt
within-after start end limit position true Idle from to is = elim (ltb 0 limit) as (λ x. IsWithin start end (cond x (At position 1) Over)) [ true ↦ (from, to) | false ↦ tt ]
within-after start end limit position false Idle from to is = tt
within-after start end limit position true (At first owed) from to is = elim (ltb owed limit) as (λ x. IsWithin start end (cond x (At first (owed + 1)) Over)) [ true ↦ is | false ↦ tt ]
within-after start end limit position false (At first owed) from to is = is
