-- All handles that are on one object or directory are those of its place.
use Rattle.std.proofs.Common.{◌≡◌, ◌<◌, ℕ, suc, Bool, true, false, cond, not, ◌&&◌, eqb, eqb-true, eq-eqb, ne_eqb, List, [], ◌∷◌, length, Option, Some, None, refl, sym, ap, ◌∙◌, subst, arith, ◌⊎◌, inl, inr}
use Rattle.std.specs.Prelude.{filter, option_and_then, nat_lt}
use Rattle.std.specs.List.{filter_map}
use Rattle.std.proofs.lemmas.Bool.Decides.{nat_tests}
use Rattle.pps_types.specs.declared.found.Found.{Found}
use Rattle.pps_types.specs.declared.found.Found.TheVariants.{Object as FoundObject, Directory as FoundDirectory}
use Rattle.pps_types.specs.History.{Entry}
use Rattle.pps_types.specs.Reading.{OpenHandle, style, is_delta_style, is_directory_kind}
use Rattle.pps_types.specs.Rests.{Progress}
use Rattle.pps_types.specs.Owed.{is_of, rest_seen, longer, longest_rest, same_flag}
use Rattle.service_laws.proofs.Finds.{all-find}
use Rattle.pps_types.specs.Rising.{AllAbove, IsRising}
use Rattle.number_table.specs.Numbered.{Entry as Numbering, value_under}
use Rattle.sub_reader.specs.Opened.{handle_at, is_directory, number_of}
use Rattle.sub_reader.specs.HandlesOf.{IsOn}
use Rattle.open_handles.specs.Whole.{row_handle, AreRowed, is_on}
use Rattle.open_handles.proofs.Finds.{some_is, differ, found_cases, none_at, none_above}
use Rattle.open_handles.proofs.Rows.{found_in, all_rise, none_elsewhere, none_anywhere}

-- ---- two lists in rising number with the same handles

found_above : (m n : ℕ) (hs : List (OpenHandle Progress)) (h : OpenHandle Progress) → AllAbove (λ h. h.number) m hs → handle_at n hs ≡ Some h → m < n
found_above m n [] h above at = absurd (let bad = at in cc)
found_above m n (x ∷ hs) h above at = by (eqb x.number n) refl at (found_above m n hs h above.1)
  where
    by : (b : Bool) → eqb x.number n ≡ b → cond b (Some x) (handle_at n hs) ≡ Some h → (handle_at n hs ≡ Some h → m < n) → m < n
    by true is at rest = let same = eqb-true x.number n is in let lt = above.0 in omega arith
    by false is at rest = rest at

at_head : (x : OpenHandle Progress) (xs : List (OpenHandle Progress)) → handle_at x.number (x ∷ xs) ≡ Some x
at_head x xs = ap (λ b. cond b (Some x) (handle_at x.number xs)) (eq-eqb x.number x.number refl)

at_tail : (n : ℕ) (x : OpenHandle Progress) (xs : List (OpenHandle Progress)) → eqb x.number n ≡ false → handle_at n (x ∷ xs) ≡ handle_at n xs
at_tail n x xs other = ap (λ b. cond b (Some x) (handle_at n xs)) other

head_same : (x y : OpenHandle Progress) (xs ys : List (OpenHandle Progress)) → AllAbove (λ h. h.number) x.number xs → AllAbove (λ h. h.number) y.number ys → handle_at x.number (y ∷ ys) ≡ Some x → handle_at y.number (x ∷ xs) ≡ Some y → y ≡ x
head_same x y xs ys above_x above_y at_x at_y = by (eqb y.number x.number) refl
  where
    by : (b : Bool) → eqb y.number x.number ≡ b → y ≡ x
    by true is = some_is y x (sym (ap (λ b. cond b (Some y) (handle_at x.number ys)) is) ∙ at_x)
    by false is =
        let lt : y.number < x.number = found_above y.number x.number ys x above_y (sym (at_tail x.number y ys is) ∙ at_x) in
        let more : x.number < y.number = found_above x.number y.number xs y above_x (sym (at_tail y.number x xs (ne_eqb x.number y.number (λ same. differ y.number x.number is (sym same)))) ∙ at_y) in
        absurd (omega arith)

pub rising_same : (xs ys : List (OpenHandle Progress)) → IsRising (λ h. h.number) xs → IsRising (λ h. h.number) ys → ((n : ℕ) → handle_at n xs ≡ handle_at n ys) → xs ≡ ys
rising_same [] [] rx ry same = refl
rising_same [] (y ∷ ys) rx ry same = absurd (let bad : None ≡ Some y = same y.number ∙ at_head y ys in cc)
rising_same (x ∷ xs) [] rx ry same = absurd (let bad : None ≡ Some x = sym (same x.number) ∙ at_head x xs in cc)
rising_same (x ∷ xs) (y ∷ ys) rx ry same =
    let is : y ≡ x = head_same x y xs ys rx.0 ry.0 (sym (same x.number) ∙ at_head x xs) (same y.number ∙ at_head y ys) in
    λ i. sym is i ∷ rising_same xs ys rx.1 ry.1 (λ n. tail n is (eqb x.number n) refl) i
  where
    tail : (n : ℕ) → y ≡ x → (b : Bool) → eqb x.number n ≡ b → handle_at n xs ≡ handle_at n ys
    tail n is true at =
        let here = eqb-true x.number n at in
        none_at n xs (none_above x.number n xs (omega arith) rx.0) ∙ sym (none_at n ys (none_above y.number n ys (let e : y.number ≡ x.number = ap (λ (h : OpenHandle Progress). h.number) is in omega arith) ry.0))
    tail n is false at = sym (at_tail n x xs at) ∙ same n ∙ at_tail n y ys (ap (λ (h : OpenHandle Progress). eqb h.number n) is ∙ at)

-- ---- those that pass a test

above_filter : (test : OpenHandle Progress → Bool) (m : ℕ) (hs : List (OpenHandle Progress)) → AllAbove (λ h. h.number) m hs → AllAbove (λ h. h.number) m (filter test hs)
above_filter test m [] above = tt
above_filter test m (h ∷ hs) above = elim (test h) as (λ b. AllAbove (λ h. h.number) m (cond b (h ∷ filter test hs) (filter test hs))) [ true ↦ (above.0, above_filter test m hs above.1) | false ↦ above_filter test m hs above.1 ]

rising_filter : (test : OpenHandle Progress → Bool) (hs : List (OpenHandle Progress)) → IsRising (λ h. h.number) hs → IsRising (λ h. h.number) (filter test hs)
rising_filter test [] rising = tt
rising_filter test (h ∷ hs) rising = elim (test h) as (λ b. IsRising (λ h. h.number) (cond b (h ∷ filter test hs) (filter test hs))) [ true ↦ (above_filter test h.number hs rising.0, rising_filter test hs rising.1) | false ↦ rising_filter test hs rising.1 ]

abbrev keep : (OpenHandle Progress → Bool) → Option (OpenHandle Progress) → Option (OpenHandle Progress)
keep test o = option_and_then (λ h. cond (test h) (Some h) None) o

at_filter : (test : OpenHandle Progress → Bool) (n : ℕ) (hs : List (OpenHandle Progress)) → IsRising (λ h. h.number) hs → handle_at n (filter test hs) ≡ keep test (handle_at n hs)
at_filter test n [] rising = refl
at_filter test n (h ∷ hs) rising = by (eqb h.number n) refl (test h) refl (at_filter test n hs rising.1)
  where
    by : (b : Bool) → eqb h.number n ≡ b → (t : Bool) → test h ≡ t → handle_at n (filter test hs) ≡ keep test (handle_at n hs)
        → handle_at n (cond t (h ∷ filter test hs) (filter test hs)) ≡ keep test (cond b (Some h) (handle_at n hs))
    by true is true passes rest = ap (λ b. cond b (Some h) (handle_at n (filter test hs))) is ∙ sym (ap (λ t. cond t (Some h) None) passes)
    by true is false passes rest = rest ∙ ap (keep test) (none_at n hs (none_above h.number n hs (let same = eqb-true h.number n is in omega arith) rising.0)) ∙ sym (ap (λ t. cond t (Some h) None) passes)
    by false is true passes rest = ap (λ b. cond b (Some h) (handle_at n (filter test hs))) is ∙ rest
    by false is false passes rest = rest

-- ---- where a handle is

pub on_own : (g : Found) (h : OpenHandle Progress) → IsOn (is_directory g) (number_of g) h → is_on g h ≡ true
on_own (FoundObject n) h s = (λ i. not (s.flag i) && eqb n (s.on i)) ∙ eq-eqb n n refl
on_own (FoundDirectory n) h s = (λ i. s.flag i && eqb n (s.on i)) ∙ eq-eqb n n refl

pub on_other : (f g : Found) (h : OpenHandle Progress) → IsOn (is_directory g) (number_of g) h → (f ≡ g → ⊥) → is_on f h ≡ false
on_other (FoundObject m) (FoundObject n) h s other = (λ i. not (s.flag i) && eqb m (s.on i)) ∙ ne_eqb m n (λ same. other (ap FoundObject same))
on_other (FoundObject m) (FoundDirectory n) h s other = (λ i. not (s.flag i) && eqb m (s.on i))
on_other (FoundDirectory m) (FoundObject n) h s other = (λ i. s.flag i && eqb m (s.on i))
on_other (FoundDirectory m) (FoundDirectory n) h s other = (λ i. s.flag i && eqb m (s.on i)) ∙ ne_eqb m n (λ same. other (ap FoundDirectory same))

module _ (on : Found → List (OpenHandle Progress)) (rows : List (Numbering Found)) (next : ℕ) (rowed : AreRowed on rows next) (f : Found) where
  handle_in_topic : (n : ℕ) (g : Found) (h : OpenHandle Progress) → handle_at n (on g) ≡ Some h → IsOn (is_directory g) (number_of g) h
  handle_in_topic n g h at = all-find (IsOn (is_directory g) (number_of g)) (λ (h : OpenHandle Progress). eqb h.number n) (on g) h (rowed.on_topic g).each at

  at_place : (n : ℕ) (o : Option Found) → value_under n rows ≡ o → keep (is_on f) (option_and_then (λ g. handle_at n (on g)) o) ≡ handle_at n (on f)
  at_place n None under = sym (none_at n (on f) (none_anywhere on rows next rowed n f under))
  at_place n (Some g) under = by (found_cases f g)
    where
      own : (o : Option (OpenHandle Progress)) → handle_at n (on g) ≡ o → keep (is_on g) o ≡ o
      own None at = refl
      own (Some h) at = ap (λ t. cond t (Some h) None) (on_own g h (handle_in_topic n g h at))

      other_gone : (f ≡ g → ⊥) → (o : Option (OpenHandle Progress)) → handle_at n (on g) ≡ o → keep (is_on f) o ≡ None
      other_gone other None at = refl
      other_gone other (Some h) at = ap (λ t. cond t (Some h) None) (on_other f g h (handle_in_topic n g h at) other)

      by : (f ≡ g) ⊎ (f ≡ g → ⊥) → keep (is_on f) (handle_at n (on g)) ≡ handle_at n (on f)
      by (inl same) = subst (λ e. keep (is_on e) (handle_at n (on g)) ≡ handle_at n (on e)) (sym same) (own (handle_at n (on g)) refl)
      by (inr other) = other_gone other (handle_at n (on g)) refl ∙ sym (none_at n (on f) (none_elsewhere on rows next rowed n g f under other))

  pub those_on : filter (is_on f) (filter_map (row_handle on) rows) ≡ on f
  those_on =
      let rising = all_rise on rows next rowed in
      rising_same (filter (is_on f) (filter_map (row_handle on) rows)) (on f) (rising_filter (is_on f) (filter_map (row_handle on) rows) rising) (rowed.on_topic f).rising
      (λ n. at_filter (is_on f) n (filter_map (row_handle on) rows) rising ∙ ap (keep (is_on f)) (found_in on n rows rowed.each) ∙ at_place n (value_under n rows) refl)

-- ---- the longest rest is one of those that are on it

longer_nothing : (rest : List Entry) → longer [] rest ≡ rest
longer_nothing [] = refl
longer_nothing (e ∷ es) = ap (λ b. cond b (e ∷ es) []) (lt (length es))
  where
    lt : (n : ℕ) → nat_lt 0 (suc n) ≡ true
    lt n = grind (arith, nat_tests)

not_of : (f : Found) (h : OpenHandle Progress) → is_on f h ≡ false → is_of (is_directory f) (number_of f) h ≡ false
not_of (FoundObject n) h other = by (is_delta_style (style h.kind)) (is_directory_kind h.kind) other
  where
    flip : (b : Bool) → eqb n h.target ≡ b → b ≡ false → eqb h.target n ≡ false
    flip b is fails = ne_eqb h.target n (λ same. differ n h.target (is ∙ fails) (sym same))

    by : (d k : Bool) → (not k && eqb n h.target) ≡ false → (d && same_flag k false && eqb h.target n) ≡ false
    by false k other = refl
    by true true other = refl
    by true false other = flip (eqb n h.target) refl other
not_of (FoundDirectory n) h other = by (is_delta_style (style h.kind)) (is_directory_kind h.kind) other
  where
    flip : (b : Bool) → eqb n h.target ≡ b → b ≡ false → eqb h.target n ≡ false
    flip b is fails = ne_eqb h.target n (λ same. differ n h.target (is ∙ fails) (sym same))

    by : (d k : Bool) → (k && eqb n h.target) ≡ false → (d && same_flag k true && eqb h.target n) ≡ false
    by false k other = refl
    by true true other = flip (eqb n h.target) refl other
    by true false other = refl

pub longest_on : (f : Found) (hs : List (OpenHandle Progress)) → longest_rest (is_directory f) (number_of f) hs ≡ longest_rest (is_directory f) (number_of f) (filter (is_on f) hs)
longest_on f [] = refl
longest_on f (h ∷ hs) = by (is_on f h) refl (longest_on f hs)
  where
    by : (b : Bool) → is_on f h ≡ b → longest_rest (is_directory f) (number_of f) hs ≡ longest_rest (is_directory f) (number_of f) (filter (is_on f) hs)
        → longest_rest (is_directory f) (number_of f) (h ∷ hs) ≡ longest_rest (is_directory f) (number_of f) (cond b (h ∷ filter (is_on f) hs) (filter (is_on f) hs))
    by true is rest = ap (longer (cond (is_of (is_directory f) (number_of f) h) (rest_seen h.seen) [])) rest
    by false is rest = ap (λ b. longer (cond b (rest_seen h.seen) []) (longest_rest (is_directory f) (number_of f) hs)) (not_of f h is) ∙ longer_nothing (longest_rest (is_directory f) (number_of f) hs) ∙ rest
