-- What a change of one connection at its place, or of none, does to what stands.
use Rattle.std.proofs.Common.{◌≡◌, ◌≢◌, ℕ, zero, suc, ◌+◌, ◌<◌, ◌≤◌, List, [], ◌∷◌, Bool, true, false, if◌then◌else◌, ◌==◌, ◌++◌, Some, None, Result, Ok, Err, IfOk, IfErr, is_some, Option, IfSome, length, get_or, set, find, map, option_map, refl, sym, subst, ap, arith, ◌∙◌}
use Rattle.std.specs.Result.{is_ok}
use Rattle.std.specs.List.{insert, remove, AllByRecursion}
use Rattle.std.proofs.lemmas.Bool.{eqb-true, eqb-false, eq-eqb}
use Rattle.std.proofs.lemmas.Bool.Decides.{nat_tests}
use Rattle.pps_types.specs.Outbox.{Outbox, put_rising}
use Rattle.pps_types.specs.Plan.{on_first, without_first}
use Rattle.pps_types.specs.Rising.{AllAbove, IsRising, IsGapFor, IsPlaceOf}
use Rattle.notify_box.specs.Roomed.{Roomed}
use Rattle.pps_types.proofs.RisingEdits.{find_place, find_gap, rising_set}
use Rattle.notify_box.specs.Standing.{Standing, RoomedConnection, number_of, standing_of, is_numbered, ChangesOutbox, ChangesHandles, ChangesRoom, AreOthersSame}

same_step : {X : Type 0} (test : X → Bool) (x : X) (xs : List X) (b : Bool) → on_first test (λ x. x) xs ≡ xs → (if b then x ∷ xs else x ∷ on_first test (λ x. x) xs) ≡ x ∷ xs
same_step test x xs true same = refl
same_step test x xs false same = ap (λ ys. x ∷ ys) same

on_first_same : {X : Type 0} (test : X → Bool) (xs : List X) → on_first test (λ x. x) xs ≡ xs
on_first_same test [] = refl
on_first_same test (x ∷ xs) = same_step test x xs (test x) (on_first_same test xs)

module _ (n : ℕ) where
  -- ---- at its place

  place_set : (xs : List RoomedConnection) (i : ℕ) (e : RoomedConnection) → IsPlaceOf number_of xs n i → e.number ≡ n → IsPlaceOf number_of (set xs i e) n i
  place_set [] i e place is = place
  place_set (x ∷ xs) zero e place is = (is, place.1)
  place_set (x ∷ xs) (suc i) e place is = (place.0, place_set xs i e place.1 is)

  -- what stands there has the number
  same_number : (xs : List RoomedConnection) (i : ℕ) (o : RoomedConnection) → IsPlaceOf number_of xs n i → o ≡ get_or xs i o → o.number ≡ n
  same_number [] i o place is = absurd place
  same_number (x ∷ xs) zero o place is = ap number_of is ∙ place.0
  same_number (x ∷ xs) (suc i) o place is = same_number xs i o place.1 is

  set_at : (xs : List RoomedConnection) (i : ℕ) (e : RoomedConnection) → IsPlaceOf number_of xs n i → e ≡ get_or (set xs i e) i e
  set_at [] i e place = absurd place
  set_at (x ∷ xs) zero e place = refl
  set_at (x ∷ xs) (suc i) e place = set_at xs i e place.1

  standing_set : (f : Standing → Standing) (xs : List RoomedConnection) (i : ℕ) (o e : RoomedConnection) → IsPlaceOf number_of xs n i → o ≡ get_or xs i o → standing_of e ≡ f (standing_of o) → map standing_of (set xs i e) ≡ on_first (is_numbered n) f (map standing_of xs)
  standing_set f [] i o e place is now = absurd place
  standing_set f (x ∷ xs) zero o e place is now = grind (arith, nat_tests, place.0, is, now)
  standing_set f (x ∷ xs) (suc i) o e place is now = grind (arith, nat_tests, place.0, standing_set f xs i o e place.1 is now)

  pub others_set : (m : ℕ) (xs : List RoomedConnection) (i : ℕ) (e : RoomedConnection) → m ≢ n → IsPlaceOf number_of xs n i → e.number ≡ n → find (λ x. x.number == m) (set xs i e) ≡ find (λ x. x.number == m) xs
  others_set m [] i e other place is = absurd place
  others_set m (x ∷ xs) zero e other place is = grind (arith, nat_tests, place.0, is, other)
  others_set m (x ∷ xs) (suc i) e other place is = grind (arith, nat_tests, others_set m xs i e other place.1 is)

  pub others_remove : (m : ℕ) (xs : List RoomedConnection) (i : ℕ) → m ≢ n → IsPlaceOf number_of xs n i → find (λ x. x.number == m) (remove xs i) ≡ find (λ x. x.number == m) xs
  others_remove m [] i other place = absurd place
  others_remove m (x ∷ xs) zero other place = grind (arith, nat_tests, place.0, other)
  others_remove m (x ∷ xs) (suc i) other place = grind (arith, nat_tests, others_remove m xs i other place.1)

  pub standing_remove : (xs : List RoomedConnection) (i : ℕ) → IsPlaceOf number_of xs n i → map standing_of (remove xs i) ≡ without_first (is_numbered n) (map standing_of xs)
  standing_remove [] i place = absurd place
  standing_remove (x ∷ xs) zero place = grind (arith, nat_tests, place.0)
  standing_remove (x ∷ xs) (suc i) place = grind (arith, nat_tests, place.0, standing_remove xs i place.1)

  -- ---- at its gap

  above_same : (f : Standing → Standing) (xs : List RoomedConnection) → AllAbove number_of n xs → on_first (is_numbered n) f (map standing_of xs) ≡ map standing_of xs
  above_same f [] above = refl
  above_same f (x ∷ xs) above = grind (arith, nat_tests, above.0, above_same f xs above.1)

  gap_same : (f : Standing → Standing) (xs : List RoomedConnection) (i : ℕ) → IsGapFor number_of xs n i → on_first (is_numbered n) f (map standing_of xs) ≡ map standing_of xs
  gap_same f xs zero gap = above_same f xs gap
  gap_same f [] (suc i) gap = absurd gap
  gap_same f (x ∷ xs) (suc i) gap = grind (arith, nat_tests, gap.0, gap_same f xs i gap.1)

  above_without : (xs : List RoomedConnection) → AllAbove number_of n xs → without_first (is_numbered n) (map standing_of xs) ≡ map standing_of xs
  above_without [] above = refl
  above_without (x ∷ xs) above = grind (arith, nat_tests, above.0, above_without xs above.1)

  pub gap_without : (xs : List RoomedConnection) (i : ℕ) → IsGapFor number_of xs n i → without_first (is_numbered n) (map standing_of xs) ≡ map standing_of xs
  gap_without xs zero gap = above_without xs gap
  gap_without [] (suc i) gap = absurd gap
  gap_without (x ∷ xs) (suc i) gap = grind (arith, nat_tests, gap.0, gap_without xs i gap.1)

  pub others_insert : (m : ℕ) (xs : List RoomedConnection) (i : ℕ) (e : RoomedConnection) → m ≢ n → e.number ≡ n → find (λ x. x.number == m) (insert xs i e) ≡ find (λ x. x.number == m) xs
  others_insert m xs zero e other is = grind (arith, nat_tests, other, is)
  others_insert m [] (suc i) e other is = grind (arith, nat_tests, other, is)
  others_insert m (x ∷ xs) (suc i) e other is = grind (arith, nat_tests, others_insert m xs i e other is)

  -- ---- in one

  module _ (xs : List RoomedConnection) (i : ℕ) where
    -- what is found of a connection that is not attached
    pub gone : IsGapFor number_of xs n i → find (λ x. x.number == n) xs ≡ None
    gone gap = find_gap number_of n xs i gap

    module _ (o : RoomedConnection) (place : IsPlaceOf number_of xs n i) (is : o ≡ get_or xs i o) where
      pub found : find (λ x. x.number == n) xs ≡ Some o
      found = sym (find_place number_of n xs i o place is)

      pub numbered : o.number ≡ n
      numbered = same_number xs i o place is

      module _ (e : RoomedConnection) (same : e.number ≡ o.number) where
        pub found_new : find (λ x. x.number == n) (set xs i e) ≡ Some e
        found_new = sym (find_place number_of n (set xs i e) i e (place_set xs i e place (same ∙ numbered)) (set_at xs i e place))

        -- the numbers still rise
        pub rising_changed : IsRising number_of xs → IsRising number_of (set xs i e)
        rising_changed rising = rising_set number_of e xs i rising (subst (λ m. IsPlaceOf number_of xs m i) (sym (same ∙ numbered)) place)

        pub others_changed : (k : ℕ) → AreOthersSame n (record { connections = xs; room = k }) (record { connections = set xs i e; room = k })
        others_changed k other different = others_set other xs i e different place (same ∙ numbered)

-- ---- what is found

find_step : (b : Bool) (x : RoomedConnection) (r : Option RoomedConnection) (s : Option Standing) → s ≡ option_map standing_of r → (if b then Some (standing_of x) else s) ≡ option_map standing_of (if b then Some x else r)
find_step true x r s same = refl
find_step false x r s same = same

-- what stands of a connection is found as the connection is
pub standing_found : (n : ℕ) (xs : List RoomedConnection) → find (is_numbered n) (map standing_of xs) ≡ option_map standing_of (find (λ x. x.number == n) xs)
standing_found n [] = refl
standing_found n (x ∷ xs) = find_step (x.number == n) x (find (λ x. x.number == n) xs) (find (is_numbered n) (map standing_of xs)) (standing_found n xs)

module _ (n : ℕ) where
  pub stood : (xs : List RoomedConnection) (i : ℕ) (o : RoomedConnection) → IsPlaceOf number_of xs n i → o ≡ get_or xs i o → find (is_numbered n) (map standing_of xs) ≡ Some (standing_of o)
  stood xs i o place is = standing_found n xs ∙ ap (option_map standing_of) (found n xs i o place is)

  pub not_stood : (xs : List RoomedConnection) (i : ℕ) → IsGapFor number_of xs n i → find (is_numbered n) (map standing_of xs) ≡ None
  not_stood xs i gap = standing_found n xs ∙ ap (option_map standing_of) (gone n xs i gap)

  -- what has a place is attached
  pub stands : (xs : List RoomedConnection) (i : ℕ) → IsPlaceOf number_of xs n i → is_some (find (is_numbered n) (map standing_of xs)) ≡ true
  stands [] i place = absurd place
  stands (x ∷ xs) zero place = grind (arith, nat_tests, place.0)
  stands (x ∷ xs) (suc i) place = grind (arith, nat_tests, place.0, stands xs i place.1)

  -- what a search tells
  pub told : (xs : List RoomedConnection) (r : Result ℕ ℕ) → IfOk r (IsPlaceOf number_of xs n) → IfErr r (IsGapFor number_of xs n) → is_ok r ≡ is_some (find (is_numbered n) (map standing_of xs))
  told xs (Ok i) place _ = sym (stands xs i place)
  told xs (Err i) _ gap = sym (ap is_some (not_stood xs i gap))

  above_gone : (xs : List RoomedConnection) → AllAbove number_of n xs → find (λ x. x.number == n) xs ≡ None
  above_gone xs above = gone n xs zero above

  -- what left is not attached
  pub removed_gone : (xs : List RoomedConnection) (i : ℕ) → IsPlaceOf number_of xs n i → find (λ x. x.number == n) (remove xs i) ≡ None
  removed_gone [] i place = absurd place
  removed_gone (x ∷ xs) zero place = above_gone xs place.1
  removed_gone (x ∷ xs) (suc i) place = grind (arith, nat_tests, place.0, removed_gone xs i place.1)

-- what came is attached
pub inserted : (e : RoomedConnection) (xs : List RoomedConnection) (i : ℕ) → IsGapFor number_of xs e.number i → find (λ x. x.number == e.number) (insert xs i e) ≡ Some e
inserted e xs zero gap = grind (arith, nat_tests)
inserted e [] (suc i) gap = absurd gap
inserted e (x ∷ xs) (suc i) gap = grind (arith, nat_tests, gap.0, inserted e xs i gap.1)

above_put : (e : RoomedConnection) (xs : List RoomedConnection) → AllAbove number_of e.number xs → standing_of e ∷ map standing_of xs ≡ put_rising (λ (s : Standing). s.number) (standing_of e) (map standing_of xs)
above_put e [] above = refl
above_put e (x ∷ xs) above = grind (arith, nat_tests, above.0)

pub standing_insert : (e : RoomedConnection) (xs : List RoomedConnection) (i : ℕ) → IsGapFor number_of xs e.number i → map standing_of (insert xs i e) ≡ put_rising (λ (s : Standing). s.number) (standing_of e) (map standing_of xs)
standing_insert e xs zero gap = above_put e xs gap
standing_insert e [] (suc i) gap = absurd gap
standing_insert e (x ∷ xs) (suc i) gap = grind (arith, nat_tests, gap.0, standing_insert e xs i gap.1)

-- ---- room

split_step : (P : ℕ → Type 0) (n m : ℕ) (b : Bool) → (m == n) ≡ b → P n → (m ≢ n → P m) → P m
split_step P n m true is own other = subst P (sym (eqb-true m n is)) own
split_step P n m false is own other = other (eqb-false m n is)

-- what holds of one and of all others holds of each
of_each : (P : ℕ → Type 0) (n : ℕ) → P n → ((m : ℕ) → m ≢ n → P m) → (m : ℕ) → P m
of_each P n own others m = split_step P n m (m == n) refl own (others m)

module _ (n : ℕ) (xs : List RoomedConnection) (i : ℕ) (o : RoomedConnection) (place : IsPlaceOf number_of xs n i) (is : o ≡ get_or xs i o) (e : RoomedConnection) (same : e.number ≡ o.number) where
  -- what stays of the one stays of each
  pub each_same : {B : Type 0} (f : RoomedConnection → B) → f e ≡ f o → (m : ℕ) → option_map f (find (λ x. x.number == m) (set xs i e)) ≡ option_map f (find (λ x. x.number == m) xs)
  each_same f kept = of_each (λ m. option_map f (find (λ x. x.number == m) (set xs i e)) ≡ option_map f (find (λ x. x.number == m) xs)) n
      (ap (option_map f) (found_new n xs i o place is e same) ∙ ap Some kept ∙ sym (ap (option_map f) (found n xs i o place is)))
      (λ m different. ap (option_map f) (others_set n m xs i e different place (same ∙ numbered n xs i o place is)))

  -- room for as many and more
  pub each_grown : o.handle_room ≤ e.handle_room → (m count : ℕ) → IfSome (option_map (λ x. x.handle_room) (find (λ x. x.number == m) xs)) (λ room. count ≤ room) → IfSome (option_map (λ x. x.handle_room) (find (λ x. x.number == m) (set xs i e))) (λ room. count ≤ room)
  each_grown grown = of_each (λ m. (count : ℕ) → IfSome (option_map (λ x. x.handle_room) (find (λ x. x.number == m) xs)) (λ room. count ≤ room) → IfSome (option_map (λ x. x.handle_room) (find (λ x. x.number == m) (set xs i e))) (λ room. count ≤ room)) n
      (λ count. rw (found n xs i o place is, found_new n xs i o place is e same) (λ room. omega (arith, room, grown)))
      (λ m different count. rw (others_set n m xs i e different place (same ∙ numbered n xs i o place is)) (λ room. room))

  -- room for one less
  pub each_taken : o.handle_room ≤ e.handle_room + 1 → (m count : ℕ) → IfSome (option_map (λ x. x.handle_room) (find (λ x. x.number == m) xs)) (λ room. count + (if m == n then 1 else 0) ≤ room) → IfSome (option_map (λ x. x.handle_room) (find (λ x. x.number == m) (set xs i e))) (λ room. count ≤ room)
  each_taken less = of_each (λ m. (count : ℕ) → IfSome (option_map (λ x. x.handle_room) (find (λ x. x.number == m) xs)) (λ room. count + (if m == n then 1 else 0) ≤ room) → IfSome (option_map (λ x. x.handle_room) (find (λ x. x.number == m) (set xs i e))) (λ room. count ≤ room)) n
      (λ count. rw (found n xs i o place is, found_new n xs i o place is e same, eq-eqb n n refl) (λ room. omega (arith, room, less)))
      (λ m different count. rw (others_set n m xs i e different place (same ∙ numbered n xs i o place is)) (no_more (m == n) count (find (λ x. x.number == m) xs)))
    where
      no_more : (b : Bool) (count : ℕ) (r : Option RoomedConnection) → IfSome (option_map (λ x. x.handle_room) r) (λ room. count + (if b then 1 else 0) ≤ room) → IfSome (option_map (λ x. x.handle_room) r) (λ room. count ≤ room)
      no_more b count None room = tt
      no_more true count (Some x) room = omega (arith, room)
      no_more false count (Some x) room = omega (arith, room)

-- where none is attached, there is room enough
pub none_taken : (n : ℕ) (xs : List RoomedConnection) (i : ℕ) → IsGapFor number_of xs n i → (m count : ℕ) → IfSome (option_map (λ x. x.handle_room) (find (λ x. x.number == m) xs)) (λ room. count + (if m == n then 1 else 0) ≤ room) → IfSome (option_map (λ x. x.handle_room) (find (λ x. x.number == m) xs)) (λ room. count ≤ room)
none_taken n xs i gap m count = fewer (find (λ x. x.number == m) xs) (if m == n then 1 else 0)
  where
    fewer : (r : Option RoomedConnection) (k : ℕ) → IfSome (option_map (λ x. x.handle_room) r) (λ room. count + k ≤ room) → IfSome (option_map (λ x. x.handle_room) r) (λ room. count ≤ room)
    fewer None k room = tt
    fewer (Some x) k room = omega (arith, room)

-- what leaves wants no room
pub each_left : (n : ℕ) (xs : List RoomedConnection) (i : ℕ) → IsPlaceOf number_of xs n i → (m count : ℕ) → IfSome (option_map (λ x. x.handle_room) (find (λ x. x.number == m) xs)) (λ room. count ≤ room) → IfSome (option_map (λ x. x.handle_room) (find (λ x. x.number == m) (remove xs i))) (λ room. count ≤ room)
each_left n xs i place = of_each (λ m. (count : ℕ) → IfSome (option_map (λ x. x.handle_room) (find (λ x. x.number == m) xs)) (λ room. count ≤ room) → IfSome (option_map (λ x. x.handle_room) (find (λ x. x.number == m) (remove xs i))) (λ room. count ≤ room)) n
    (λ count. rw (removed_gone n xs i place) (λ room. tt))
    (λ m different count. rw (others_remove n m xs i different place) (λ room. room))

-- ---- rising

above_standing : (n : ℕ) (xs : List RoomedConnection) → AllAbove number_of n xs → AllAbove (λ (s : Standing). s.number) n (map standing_of xs)
above_standing n [] above = tt
above_standing n (x ∷ xs) above = (above.0, above_standing n xs above.1)

-- what stands rises as the connections do
pub rising_standing : (xs : List RoomedConnection) → IsRising number_of xs → IsRising (λ (s : Standing). s.number) (map standing_of xs)
rising_standing [] rising = tt
rising_standing (x ∷ xs) rising = (above_standing x.number xs rising.0, rising_standing xs rising.1)

-- ---- handles

module _ {X : Type 0} (number : X → ℕ) (n : ℕ) where
  -- what has a place is taken out
  pub without_place : (xs : List X) (i : ℕ) → IsPlaceOf number xs n i → remove xs i ≡ without_first (λ x. number x == n) xs
  without_place [] i place = absurd place
  without_place (x ∷ xs) zero place = grind (arith, nat_tests, place.0)
  without_place (x ∷ xs) (suc i) place = grind (arith, nat_tests, place.0, without_place xs i place.1)

  without_above : (xs : List X) → AllAbove number n xs → without_first (λ x. number x == n) xs ≡ xs
  without_above [] above = refl
  without_above (x ∷ xs) above = grind (arith, nat_tests, above.0, without_above xs above.1)

  -- what has none is not
  pub without_gap : (xs : List X) (i : ℕ) → IsGapFor number xs n i → without_first (λ x. number x == n) xs ≡ xs
  without_gap xs zero gap = without_above xs gap
  without_gap [] (suc i) gap = absurd gap
  without_gap (x ∷ xs) (suc i) gap = grind (arith, nat_tests, gap.0, without_gap xs i gap.1)

above_push : (n m : ℕ) (hs : List ℕ) → AllAbove (λ (h : ℕ). h) n hs → n < m → AllAbove (λ (h : ℕ). h) n (hs ++ m ∷ [])
above_push n m [] above lower = (lower, tt)
above_push n m (h ∷ hs) above lower = (above.0, above_push n m hs above.1 lower)

-- a handle above all others goes to the end
pub rising_push : (n : ℕ) (hs : List ℕ) → IsRising (λ (h : ℕ). h) hs → AllByRecursion (λ h. h < n) hs → IsRising (λ (h : ℕ). h) (hs ++ n ∷ [])
rising_push n [] rising below = (tt, tt)
rising_push n (h ∷ hs) rising below = (above_push h n hs rising.0 below.0, rising_push n hs rising.1 below.1)

-- ---- parts of equal lists

cons_first : {X : Type 0} (x y : X) (xs ys : List X) → x ∷ xs ≡ y ∷ ys → x ≡ y
cons_first x y xs ys same = cc

cons_rest : {X : Type 0} (x y : X) (xs ys : List X) → x ∷ xs ≡ y ∷ ys → xs ≡ ys
cons_rest x y xs ys same = cc

same_first : (x y : RoomedConnection) (xs ys : List RoomedConnection) → map standing_of (x ∷ xs) ≡ map standing_of (y ∷ ys) → standing_of x ≡ standing_of y
same_first x y xs ys same = cons_first (standing_of x) (standing_of y) (map standing_of xs) (map standing_of ys) same

same_head : (x y : RoomedConnection) (xs ys : List RoomedConnection) → map standing_of (y ∷ ys) ≡ map standing_of (x ∷ xs) → x.number ≡ y.number
same_head x y xs ys same = ap (λ s. s.number) (sym (same_first y x ys xs same))

same_tail : (x y : RoomedConnection) (xs ys : List RoomedConnection) → map standing_of (y ∷ ys) ≡ map standing_of (x ∷ xs) → map standing_of ys ≡ map standing_of xs
same_tail x y xs ys same = cons_rest (standing_of y) (standing_of x) (map standing_of ys) (map standing_of xs) same

-- ---- calls

module _ (n : ℕ) (room : ℕ) (xs : List RoomedConnection) (i : ℕ) where
  -- where the connection is not attached
  pub outbox_absent : (change : Outbox → Outbox) → IsGapFor number_of xs n i → ChangesOutbox n change (record { connections = xs; room = room }) (record { connections = xs; room = room })
  outbox_absent change gap = record {
    standing = sym (gap_same n (λ x. record x { outbox = change x.outbox }) xs i gap);
    others = λ other different. refl;
    handle_rooms = λ each. refl;
    room = refl;
  }

  pub handles_absent : (change : List ℕ → List ℕ) → IsGapFor number_of xs n i → ChangesHandles n change (record { connections = xs; room = room }) (record { connections = xs; room = room })
  handles_absent change gap = record {
    standing = sym (gap_same n (λ x. record x { handles = change x.handles }) xs i gap);
    others = λ other different. refl;
    roomed = λ each. refl;
    room = refl;
  }

  module _ (o : RoomedConnection) (place : IsPlaceOf number_of xs n i) (is : o ≡ get_or xs i o) where
    -- an outbox became another
    pub outbox_changed : (change : Outbox → Outbox) (box : Roomed) → box.outbox ≡ change o.roomed.outbox → ChangesOutbox n change (record { connections = xs; room = room }) (record { connections = set xs i (record o { roomed = box }); room = room })
    outbox_changed change box became = record {
      standing = standing_set n (λ x. record x { outbox = change x.outbox }) xs i o (record o { roomed = box }) place is (ap (λ b. record { number = o.number; outbox = b; handles = o.handles }) became);
      others = others_changed n xs i o place is (record o { roomed = box }) refl room;
      handle_rooms = each_same n xs i o place is (record o { roomed = box }) refl (λ x. x.handle_room) refl;
      room = refl;
    }

    -- handles became others
    pub handles_changed : (change : List ℕ → List ℕ) (handles : List ℕ) (more : ℕ) → handles ≡ change o.handles → ChangesHandles n change (record { connections = xs; room = room }) (record { connections = set xs i (record o { handles = handles; handle_room = more }); room = room })
    handles_changed change handles more became =
        let new = record o { handles = handles; handle_room = more } in
        record {
          standing = standing_set n (λ x. record x { handles = change x.handles }) xs i o new place is (ap (λ hs. record { number = o.number; outbox = o.roomed.outbox; handles = hs }) became);
          others = others_changed n xs i o place is new refl room;
          roomed = each_same n xs i o place is new refl (λ x. x.roomed) refl;
          room = refl;
        }

    -- room alone became another
    pub room_changed : (e : RoomedConnection) → standing_of e ≡ standing_of o → ChangesRoom n (record { connections = xs; room = room }) (record { connections = set xs i e; room = room })
    room_changed e same = record {
      standing = standing_set n (λ x. x) xs i o e place is same ∙ on_first_same (is_numbered n) (map standing_of xs);
      others = others_changed n xs i o place is e (ap (λ s. s.number) same) room;
      room = refl;
    }

-- ---- copies and comparisons

above_same_numbers : (n : ℕ) (xs ys : List RoomedConnection) → map standing_of ys ≡ map standing_of xs → AllAbove number_of n xs → AllAbove number_of n ys
above_same_numbers n [] [] same above = tt
above_same_numbers n [] (y ∷ ys) same above = cc
above_same_numbers n (x ∷ xs) [] same above = tt
above_same_numbers n (x ∷ xs) (y ∷ ys) same above = (subst (λ m. n < m) (same_head x y xs ys same) above.0, above_same_numbers n xs ys (same_tail x y xs ys same) above.1)

-- what stands alike rises alike
pub rising_same : (xs ys : List RoomedConnection) → map standing_of ys ≡ map standing_of xs → IsRising number_of xs → IsRising number_of ys
rising_same [] [] same rising = tt
rising_same [] (y ∷ ys) same rising = cc
rising_same (x ∷ xs) [] same rising = tt
rising_same (x ∷ xs) (y ∷ ys) same rising = (subst (λ m. AllAbove number_of m ys) (same_head x y xs ys same) (above_same_numbers x.number xs ys (same_tail x y xs ys same) rising.0), rising_same xs ys (same_tail x y xs ys same) rising.1)

-- where the same stands, it does at each place
pub same_at : (xs ys : List RoomedConnection) (i : ℕ) (a b : RoomedConnection) → i < length xs → i < length ys → a ≡ get_or xs i a → b ≡ get_or ys i b → map standing_of xs ≡ map standing_of ys → standing_of a ≡ standing_of b
same_at [] ys i a b here there is be same = absurd (omega arith)
same_at (x ∷ xs) [] i a b here there is be same = absurd (omega arith)
same_at (x ∷ xs) (y ∷ ys) zero a b here there is be same = ap standing_of is ∙ same_first x y xs ys same ∙ sym (ap standing_of be)
same_at (x ∷ xs) (y ∷ ys) (suc i) a b here there is be same = same_at xs ys i a b (omega arith) (omega arith) is be (same_tail y x ys xs same)
