-- Whom records wake: those of two lists as one.
use Rattle.std.proofs.Common.{◌≡◌, ◌<◌, ℕ, zero, suc, ◌+◌, take, get_or, length, eqb, eqb-true, Result, Ok, Err, IfOk, Bool, true, false, cond, not, ◌&&◌, ◌||◌, List, [], ◌∷◌, ◌++◌, map, refl, sym, ap, ◌∙◌, arith}
use Rattle.std.specs.Prelude.{filter, nat_lt, ◌==◌}
use Rattle.std.specs.List.{list_any}
use Rattle.std.proofs.lemmas.Bool.Decides.{nat_tests}
use Rattle.std.proofs.lemmas.List.Folds.{list_any-append}
use Rattle.pps_types.specs.declared.found.Found.TheVariants.{Object as FoundObject, Directory as FoundDirectory}
use Rattle.pps_types.specs.History.{Entry}
use Rattle.pps_types.specs.Reading.{OpenHandle, visible, concerns, is_directory_kind}
use Rattle.pps_types.specs.Rests.{Progress}
use Rattle.pps_types.specs.Content.{news, is_waiting, learns}
use Rattle.service_laws.proofs.Finds.{and-both}
use Rattle.pps_types.specs.Rising.{AllAbove, IsRising}
use Rattle.sub_reader.specs.Woken.{woken_by}
use Rattle.open_handles.specs.Whole.{is_on}
use Rattle.open_handles.specs.United.{united_from, united}

abbrev number : OpenHandle Progress → ℕ
number h = h.number

-- ---- numbers of handles that pass one of two tests

lower : (m n : ℕ) → m < n → nat_lt m n ≡ true
lower m n lt = grind (arith, nat_tests, lt)

higher : (m n : ℕ) → m < n → nat_lt n m ≡ false
higher m n lt = grind (arith, nat_tests, lt)

equal : (n : ℕ) → nat_lt n n ≡ false
equal n = grind (arith, nat_tests)

above_filter : (test : OpenHandle Progress → Bool) (m : ℕ) (hs : List (OpenHandle Progress)) → AllAbove number m hs → AllAbove number m (filter test hs)
above_filter test m [] above = tt
above_filter test m (h ∷ hs) above = elim (test h) as (λ b. AllAbove number m (cond b (h ∷ filter test hs) (filter test hs))) [ true ↦ (above.0, above_filter test m hs above.1) | false ↦ above_filter test m hs above.1 ]

-- a lower number is before
one_first : (h : OpenHandle Progress) (xs : List ℕ) (ys : List (OpenHandle Progress)) → AllAbove number h.number ys → united (h.number ∷ xs) (map number ys) ≡ h.number ∷ united xs (map number ys)
one_first h xs [] above = refl
one_first h xs (y ∷ ys) above = ap (λ b. cond b (h.number ∷ united xs (map number (y ∷ ys))) (cond (nat_lt y.number h.number) (y.number ∷ united_from h.number (united xs) (map number ys)) (y.number ∷ united xs (map number ys)))) (lower h.number y.number above.0)

other_first : (h : OpenHandle Progress) (xs : List (OpenHandle Progress)) (ys : List ℕ) → AllAbove number h.number xs → united (map number xs) (h.number ∷ ys) ≡ h.number ∷ united (map number xs) ys
other_first h [] ys above = refl
other_first h (x ∷ xs) ys above =
    (λ i. cond (higher h.number x.number above.0 i) (x.number ∷ united (map number xs) (h.number ∷ ys)) (cond (lower h.number x.number above.0 i) (h.number ∷ united (map number (x ∷ xs)) ys) (h.number ∷ united (map number xs) ys)))

both_first : (n : ℕ) (xs ys : List ℕ) → united (n ∷ xs) (n ∷ ys) ≡ n ∷ united xs ys
both_first n xs ys = λ i. cond (equal n i) (n ∷ united xs (n ∷ ys)) (cond (equal n i) (n ∷ united_from n (united xs) ys) (n ∷ united xs ys))

pub united_filter : (p q : OpenHandle Progress → Bool) (hs : List (OpenHandle Progress)) → IsRising number hs → united (map number (filter p hs)) (map number (filter q hs)) ≡ map number (filter (λ h. p h || q h) hs)
united_filter p q [] rising = refl
united_filter p q (h ∷ hs) rising = by (p h) (q h) (united_filter p q hs rising.1)
  where
    by : (a b : Bool) → united (map number (filter p hs)) (map number (filter q hs)) ≡ map number (filter (λ h. p h || q h) hs)
        → united (map number (cond a (h ∷ filter p hs) (filter p hs))) (map number (cond b (h ∷ filter q hs) (filter q hs))) ≡ map number (cond (a || b) (h ∷ filter (λ h. p h || q h) hs) (filter (λ h. p h || q h) hs))
    by true true rest = both_first h.number (map number (filter p hs)) (map number (filter q hs)) ∙ ap (λ ns. h.number ∷ ns) rest
    by true false rest = one_first h (map number (filter p hs)) (filter q hs) (above_filter q h.number hs rising.0) ∙ ap (λ ns. h.number ∷ ns) rest
    by false true rest = other_first h (filter p hs) (map number (filter q hs)) (above_filter p h.number hs rising.0) ∙ ap (λ ns. h.number ∷ ns) rest
    by false false rest = rest

-- ---- tests that agree

same_tests : (p q : OpenHandle Progress → Bool) → ((h : OpenHandle Progress) → p h ≡ q h) → (hs : List (OpenHandle Progress)) → filter p hs ≡ filter q hs
same_tests p q same [] = refl
same_tests p q same (h ∷ hs) = λ i. cond (same h i) (h ∷ same_tests p q same hs i) (same_tests p q same hs i)

both_tests : (p q : OpenHandle Progress → Bool) (hs : List (OpenHandle Progress)) → filter p (filter q hs) ≡ filter (λ h. q h && p h) hs
both_tests p q [] = refl
both_tests p q (h ∷ hs) = by (q h) (both_tests p q hs)
  where
    by : (b : Bool) → filter p (filter q hs) ≡ filter (λ h. q h && p h) hs → filter p (cond b (h ∷ filter q hs) (filter q hs)) ≡ cond (b && p h) (h ∷ filter (λ h. q h && p h) hs) (filter (λ h. q h && p h) hs)
    by true rest = ap (λ xs. cond (p h) (h ∷ xs) xs) rest
    by false rest = rest

-- ---- one record: those on its object, and those on its directory

abbrev wakes : List Entry → OpenHandle Progress → Bool
wakes es h = is_waiting h && learns es h

-- a handle that sees a record is on its object or on its directory
sees_on : (e : Entry) (h : OpenHandle Progress) → visible h e ≡ true → (is_on (FoundObject e.record_of.object) h || is_on (FoundDirectory e.directory) h) ≡ true
sees_on e h sees = by (is_directory_kind h.kind) ((and-both (concerns h e) _ sees).0)
  where
    by : (k : Bool) → cond k (e.directory == h.target) (e.record_of.object == h.target) ≡ true → ((not k && (e.record_of.object == h.target)) || (k && (e.directory == h.target))) ≡ true
    by true is = is
    by false is = ap (λ b. b || false) is

one_place : (e : Entry) (h : OpenHandle Progress) → ((is_on (FoundObject e.record_of.object) h && wakes (e ∷ []) h) || (is_on (FoundDirectory e.directory) h && wakes (e ∷ []) h)) ≡ wakes (e ∷ []) h
one_place e h = by (is_on (FoundObject e.record_of.object) h) (is_on (FoundDirectory e.directory) h) (is_waiting h) (not (news h)) (visible h e) (sees_on e h)
  where
    by : (o d w n v : Bool) → (v ≡ true → (o || d) ≡ true) → ((o && (w && (n && (v || false)))) || (d && (w && (n && (v || false))))) ≡ (w && (n && (v || false)))
    by true d true true true on = refl
    by false true true true true on = refl
    by false false true true true on = absurd (let bad = on refl in cc)
    by true true true true false on = refl
    by true false true true false on = refl
    by false true true true false on = refl
    by false false true true false on = refl
    by true true true false v on = refl
    by true false true false v on = refl
    by false true true false v on = refl
    by false false true false v on = refl
    by true true false n v on = refl
    by true false false n v on = refl
    by false true false n v on = refl
    by false false false n v on = refl

module _ (hs : List (OpenHandle Progress)) (rising : IsRising number hs) where
  pub woken_one : (e : Entry) → united (woken_by (e ∷ []) (filter (is_on (FoundObject e.record_of.object)) hs)) (woken_by (e ∷ []) (filter (is_on (FoundDirectory e.directory)) hs)) ≡ woken_by (e ∷ []) hs
  woken_one e =
      (λ i. united (map number (both_tests (wakes (e ∷ [])) (is_on (FoundObject e.record_of.object)) hs i)) (map number (both_tests (wakes (e ∷ [])) (is_on (FoundDirectory e.directory)) hs i)))
      ∙ united_filter (λ h. is_on (FoundObject e.record_of.object) h && wakes (e ∷ []) h) (λ h. is_on (FoundDirectory e.directory) h && wakes (e ∷ []) h) hs rising
      ∙ ap (map number) (same_tests (λ h. (is_on (FoundObject e.record_of.object) h && wakes (e ∷ []) h) || (is_on (FoundDirectory e.directory) h && wakes (e ∷ []) h)) (wakes (e ∷ [])) (one_place e) hs)

  -- records before, and one more
  pub woken_more : (es : List Entry) (e : Entry) → united (woken_by es hs) (woken_by (e ∷ []) hs) ≡ woken_by (es ++ e ∷ []) hs
  woken_more es e =
      united_filter (wakes es) (wakes (e ∷ [])) hs rising
      ∙ ap (map number) (same_tests (λ h. wakes es h || wakes (e ∷ []) h) (wakes (es ++ e ∷ [])) more hs)
    where
      go : (w n a b : Bool) → ((w && (n && a)) || (w && (n && b))) ≡ (w && (n && (a || b)))
      go true true a b = refl
      go true false a b = refl
      go false n a b = refl

      more : (h : OpenHandle Progress) → (wakes es h || wakes (e ∷ []) h) ≡ wakes (es ++ e ∷ []) h
      more h = go (is_waiting h) (not (news h)) (list_any (visible h) es) (list_any (visible h) (e ∷ [])) ∙ sym (ap (λ b. is_waiting h && (not (news h) && b)) (list_any-append (visible h) es (e ∷ [])))

pub united_none : (xs : List ℕ) → united xs [] ≡ xs
united_none [] = refl
united_none (x ∷ xs) = ap (λ ys. x ∷ ys) (united_none xs)

pub nothing : (xs : List ℕ) → eqb (length xs) 0 ≡ true → xs ≡ []
nothing [] is = refl
nothing (x ∷ xs) is = absurd (let bad = eqb-true (length (x ∷ xs)) 0 is in omega arith)

-- no records wake nobody
pub woken_none : (hs : List (OpenHandle Progress)) → woken_by [] hs ≡ []
woken_none [] = refl
woken_none (h ∷ hs) = ap (λ b. map number (cond b (h ∷ filter (wakes []) hs) (filter (wakes []) hs))) (none (is_waiting h) (not (news h))) ∙ woken_none hs
  where
    none : (w n : Bool) → (w && (n && false)) ≡ false
    none true true = refl
    none true false = refl
    none false n = refl

-- ---- one more of a list

next_taken : {X : Type 0} (xs : List X) (i : ℕ) (x : X) → i < length xs → x ≡ get_or xs i x → take i xs ++ x ∷ [] ≡ take (suc i) xs
next_taken [] i x lt is = absurd (omega arith)
next_taken (y ∷ ys) zero x lt is = ap (λ z. z ∷ []) is
next_taken (y ∷ ys) (suc i) x lt is = ap (λ zs. y ∷ zs) (next_taken ys i x (omega arith) is)

pub more_taken : {X : Type 0} (xs : List X) (i : ℕ) (x : X) → i < length xs → x ≡ get_or xs i x → take i xs ++ x ∷ [] ≡ take (i + 1) xs
more_taken xs i x lt is = next_taken xs i x lt is ∙ ap (λ n. take n xs) (let e : suc i ≡ i + 1 = omega arith in e)

-- what a call that succeeds gives, told otherwise
pub if_ok_then : {T E : Type 0} (r : Result T E) (P Q : T → Type 0) → ((x : T) → P x → Q x) → IfOk r P → IfOk r Q
if_ok_then (Ok x) P Q then p = then x p
if_ok_then (Err e) P Q then p = tt
