-- The handle of a number, found among those of the target.
use Rattle.std.proofs.Common.{◌≡◌, ◌==◌, ℕ, Bool, true, false, cond, eqb, List, [], ◌∷◌, map, refl, sym, ap, subst, ◌∙◌, Option, Some, None}
use Rattle.std.specs.Prelude.{find, option_map, option_and_then}
use Rattle.std.specs.List.{AllByRecursion}
use Rattle.pps_types.specs.History.{Entry}
use Rattle.pps_types.specs.Plan.{on_first, on_numbered, without_first, without_number}
use Rattle.pps_types.proofs.Lists.{map-on_first, map-without_first}
use Rattle.pps_types.specs.Reading.{OpenHandle, block}
use Rattle.pps_types.specs.Rests.{Progress, News, Unread, Over, Owed, owed_in}
use Rattle.sub_reader.specs.Readers.{Reader}
use Rattle.sub_reader.specs.declared.row.HandleRow.{HandleRow}
use Rattle.sub_reader.specs.HandleAt.{parked_at, armed_at}
use Rattle.sub_reader.specs.Opened.{opened, as_opened, armed_pulse, handle_at}
use Rattle.sub_reader.specs.Rows.{number_in}
use Rattle.sub_reader.specs.Places.{handle_of, IsPlace, IsReader}

-- ---- of whatever kind, where what is seen of a handle has its number

module _ {P : Type 0} (see : HandleRow P → OpenHandle Progress) (numbered : (r : HandleRow P) → (see r).number ≡ number_in r) where
  pub found-seen : (n : ℕ) (rs : List (HandleRow P)) → option_map see (find (λ r. number_in r == n) rs) ≡ handle_at n (map see rs)
  found-seen n [] = refl
  found-seen n (r ∷ rs) = by (eqb (number_in r) n) (found-seen n rs) ∙ ap (λ k. cond (eqb k n) (Some (see r)) (handle_at n (map see rs))) (sym (numbered r))
    where
      by : (b : Bool) → option_map see (find (λ r. number_in r == n) rs) ≡ handle_at n (map see rs) → option_map see (cond b (Some r) (find (λ r. number_in r == n) rs)) ≡ cond b (Some (see r)) (handle_at n (map see rs))
      by true rest = refl
      by false rest = rest

  -- what its open fixed
  pub opening-seen : (target : ℕ) (name : List ℕ) → ((r : HandleRow P) → opened target name r.opening ≡ as_opened (see r)) → (n : ℕ) (rs : List (HandleRow P))
      → option_map (opened target name) (option_map (λ (r : HandleRow P). r.opening) (find (λ r. number_in r == n) rs)) ≡ option_map as_opened (handle_at n (map see rs))
  opening-seen target name same n rs = by (find (λ r. number_in r == n) rs) ∙ ap (option_map as_opened) (found-seen n rs)
    where
      by : (o : Option (HandleRow P)) → option_map (opened target name) (option_map (λ (r : HandleRow P). r.opening) o) ≡ option_map as_opened (option_map see o)
      by None = refl
      by (Some r) = ap Some (same r)

  -- what waits on it
  pub parked-seen : ((r : HandleRow P) → r.parked ≡ (see r).parked) → (n : ℕ) (rs : List (HandleRow P)) → option_and_then (λ (r : HandleRow P). r.parked) (find (λ r. number_in r == n) rs) ≡ parked_at n (map see rs)
  parked-seen same n rs = by (find (λ r. number_in r == n) rs) ∙ ap (option_and_then (λ (h : OpenHandle Progress). h.parked)) (found-seen n rs)
    where
      by : (o : Option (HandleRow P)) → option_and_then (λ (r : HandleRow P). r.parked) o ≡ option_and_then (λ (h : OpenHandle Progress). h.parked) (option_map see o)
      by None = refl
      by (Some r) = same r

  pub armed-seen : ((r : HandleRow P) → armed_pulse r.armed ≡ (see r).armed) → (n : ℕ) (rs : List (HandleRow P)) → armed_pulse (option_and_then (λ (r : HandleRow P). r.armed) (find (λ r. number_in r == n) rs)) ≡ armed_at n (map see rs)
  armed-seen same n rs = by (find (λ r. number_in r == n) rs) ∙ ap (option_and_then (λ (h : OpenHandle Progress). h.armed)) (found-seen n rs)
    where
      by : (o : Option (HandleRow P)) → armed_pulse (option_and_then (λ (r : HandleRow P). r.armed) o) ≡ option_and_then (λ (h : OpenHandle Progress). h.armed) (option_map see o)
      by None = refl
      by (Some r) = same r

  -- the handle of a number has changed
  pub changed-seen : (n : ℕ) (change : HandleRow P → HandleRow P) (move : OpenHandle Progress → OpenHandle Progress) → ((r : HandleRow P) → see (change r) ≡ move (see r)) → (rs : List (HandleRow P))
      → map see (on_first (λ r. number_in r == n) change rs) ≡ on_numbered n move (map see rs)
  changed-seen n change move same rs = map-on_first see (λ r. number_in r == n) (λ (h : OpenHandle Progress). h.number == n) change move (λ r. ap (λ k. eqb k n) (sym (numbered r))) same rs

  -- it is gone
  pub gone-seen : (n : ℕ) (rs : List (HandleRow P)) → map see (without_first (λ r. number_in r == n) rs) ≡ without_number n (map see rs)
  gone-seen n rs = map-without_first see (λ r. number_in r == n) (λ (h : OpenHandle Progress). h.number == n) (λ r. ap (λ k. eqb k n) (sym (numbered r))) rs

-- ---- the readers

module _ (t : ℕ) (name : List ℕ) (start : ℕ) (entries : List Entry) where
  module _ (rs : List Reader) (n : ℕ) where
    -- none, or one, is found
    pub found-handle : (o : Option Reader) → o ≡ find (λ r. eqb r.opening.number n) rs → option_map (handle_of t name start entries) o ≡ handle_at n (map (handle_of t name start entries) rs)
    found-handle o is = ap (option_map (handle_of t name start entries)) is ∙ found-seen (handle_of t name start entries) (λ r. refl) n rs

    pub found-right : (d : Bool) (r : Reader) → AllByRecursion (IsReader d t name start entries) rs → Some r ≡ find (λ r. eqb r.opening.number n) rs → IsPlace (opened t name r.opening) start entries r.progress
    found-right d r all is = by rs all is
      where
        by : (rs : List Reader) → AllByRecursion (IsReader d t name start entries) rs → Some r ≡ find (λ r. eqb r.opening.number n) rs → IsPlace (opened t name r.opening) start entries r.progress
        by [] all is = absurd cc
        by (x ∷ xs) all is = elim (eqb x.opening.number n) as (λ b. Some r ≡ cond b (Some x) (find (λ r. eqb r.opening.number n) xs) → IsPlace (opened t name r.opening) start entries r.progress)
            [ true ↦ (λ found. let same : x ≡ r = cc in subst (λ y. IsPlace (opened t name y.opening) start entries y.progress) same all.0.place) | false ↦ by xs all.1 ] is

-- there is nothing to see only where there is nothing
pub map-none : {X Y : Type 0} (f : X → Y) (xs : List X) → map f xs ≡ [] → xs ≡ []
map-none f [] none = refl
map-none f (x ∷ xs) none = absurd (no (f x) (map f xs) none)
  where
    no : {Y : Type 0} (y : Y) (ys : List Y) → y ∷ ys ≡ [] → ⊥
    no y ys none = cc

-- what a handle is owed at its place, as a read gives it
pub same-blocks : (t : ℕ) (name : List ℕ) (start : ℕ) (entries : List Entry) (r : Reader) (seen : Progress) → map (block (opened t [] r.opening)) (owed_in (opened t [] r.opening) seen) ≡ map (block (handle_of t name start entries r)) (owed_in (handle_of t name start entries r) seen)
same-blocks t name start entries r (News b) = refl
same-blocks t name start entries r Unread = refl
same-blocks t name start entries r Over = refl
same-blocks t name start entries r (Owed rest) = refl
