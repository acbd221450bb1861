-- What follows for the handles that an event wakes, by their numbers.
use Rattle.std.proofs.Common.{◌≡◌, ℕ, Bool, true, false, cond, not, ◌&&◌, ◌||◌, List, [], ◌∷◌, ◌++◌, map, Some, refl, sym, ◌∙◌}
use Rattle.std.specs.Prelude.{◌==◌, filter}
use Rattle.std.specs.Option.{option_map_or}
use Rattle.std.specs.List.{flat_map, list_any, AllByRecursion}
use Rattle.std.proofs.lemmas.Bool.{eq-eqb, eqb-true}
use Rattle.pps_types.specs.History.{Entry}
use Rattle.pps_types.specs.Reading.{OpenHandle}
use Rattle.pps_types.specs.Rests.{Progress}
use Rattle.pps_types.specs.Content.{Content, handle_numbered, news, is_waiting, learns}
use Rattle.pps_types.specs.Plan.{Move, Attaches, Leaves, Creates, AppendsRecord, Opens, Closes, CatchesUp, Advances, Parks, Arms, Queues, Takes, MakesDirectory, RemovesDirectory}
use Rattle.service_laws.proofs.Rising.{found-each}
use Rattle.service_laws.specs.Told.{entries_told, HandlesRise, closes_handle, is_woken}
use Rattle.pps_engine.specs.SettlingTold.{handles_closed}
use Rattle.pps_engine.specs.Behind.{follows_behind, follows_numbered}

flip : (a b : ℕ) → (a == b) ≡ (b == a)
flip a b = by (a == b) refl (b == a) refl
  where
    by : (p : Bool) → (a == b) ≡ p → (q : Bool) → (b == a) ≡ q → p ≡ q
    by true e true f = refl
    by false e false f = refl
    by true e false f = let bad : true ≡ false = sym (eq-eqb b a (sym (eqb-true a b e))) ∙ f in absurd (let no = bad in cc)
    by false e true f = let bad : true ≡ false = sym (eq-eqb a b (sym (eqb-true b a f))) ∙ e in absurd (let no = bad in cc)

-- a handle closes where its number is among those that do
pub closes-told : (n : ℕ) (ms : List Move) → list_any (λ m. m == n) (handles_closed ms) ≡ list_any (closes_handle n) ms
closes-told n [] = refl
closes-told n (Closes number ∷ ms) = λ i. flip number n i || closes-told n ms i
closes-told n (Attaches conn ∷ ms) = closes-told n ms
closes-told n (Leaves conn ∷ ms) = closes-told n ms
closes-told n (Creates o ∷ ms) = closes-told n ms
closes-told n (AppendsRecord e ∷ ms) = closes-told n ms
closes-told n (Opens h ∷ ms) = closes-told n ms
closes-told n (CatchesUp number ∷ ms) = closes-told n ms
closes-told n (Advances number count ∷ ms) = closes-told n ms
closes-told n (Parks number size ∷ ms) = closes-told n ms
closes-told n (Arms number pulse ∷ ms) = closes-told n ms
closes-told n (Queues conn item ∷ ms) = closes-told n ms
closes-told n (Takes conn ∷ ms) = closes-told n ms
closes-told n (MakesDirectory path ∷ ms) = closes-told n ms
closes-told n (RemovesDirectory number ∷ ms) = closes-told n ms

abbrev wakes : List Entry → OpenHandle Progress → Bool
wakes es h = is_waiting h && learns es h

-- what follows by the numbers of those that the records wake
pub wakes-told : (c : Content) → HandlesRise c → (ms : List Move)
    → flat_map (follows_numbered c (entries_told ms) (handles_closed ms)) (map (λ h. h.number) (filter (wakes (entries_told ms)) c.handles))
    ≡ flat_map (follows_behind c (entries_told ms)) (filter (is_woken ms) c.handles)
wakes-told c rise ms = all c.handles (found-each (λ (h : OpenHandle Progress). h.number) 0 c.next_handle c.handles rise)
  where
    es : List Entry
    es = entries_told ms

    one : (h : OpenHandle Progress) → handle_numbered c h.number ≡ Some h → follows_numbered c es (handles_closed ms) h.number ≡ cond (list_any (closes_handle h.number) ms) [] (follows_behind c es h)
    one h found = λ i. cond (closes-told h.number ms i) [] (option_map_or (follows_behind c es) (found i) [])

    all : (hs : List (OpenHandle Progress)) → AllByRecursion (λ h. handle_numbered c h.number ≡ Some h) hs
        → flat_map (follows_numbered c es (handles_closed ms)) (map (λ h. h.number) (filter (wakes es) hs)) ≡ flat_map (follows_behind c es) (filter (is_woken ms) hs)
    all [] found = refl
    all (h ∷ hs) found = by (wakes es h) (list_any (closes_handle h.number) ms) (one h found.0) (all hs found.1)
      where
        by : (w k : Bool) → follows_numbered c es (handles_closed ms) h.number ≡ cond k [] (follows_behind c es h)
            → flat_map (follows_numbered c es (handles_closed ms)) (map (λ h. h.number) (filter (wakes es) hs)) ≡ flat_map (follows_behind c es) (filter (is_woken ms) hs)
            → flat_map (follows_numbered c es (handles_closed ms)) (map (λ h. h.number) (cond w (h ∷ filter (wakes es) hs) (filter (wakes es) hs)))
            ≡ flat_map (follows_behind c es) (cond (w && not k) (h ∷ filter (is_woken ms) hs) (filter (is_woken ms) hs))
        by true true is rest = λ i. is i ++ rest i
        by true false is rest = λ i. is i ++ rest i
        by false k is rest = rest

-- and none where no record is told
pub none-wakes : (hs : List (OpenHandle Progress)) → map (λ (h : OpenHandle Progress). h.number) (filter (wakes []) hs) ≡ []
none-wakes [] = refl
none-wakes (h ∷ hs) = by (is_waiting h) (not (news h)) (none-wakes hs)
  where
    by : (a b : Bool) → map (λ (h : OpenHandle Progress). h.number) (filter (wakes []) hs) ≡ [] → map (λ (h : OpenHandle Progress). h.number) (cond (a && (b && false)) (h ∷ filter (wakes []) hs) (filter (wakes []) hs)) ≡ []
    by true true rest = rest
    by true false rest = rest
    by false b rest = rest
