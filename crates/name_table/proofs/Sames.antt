-- What stays as it was.
use Rattle.std.proofs.Common.{◌≡◌, ℕ, List, [], ◌∷◌, Bool, true, false, cond, Option, Some, map, find, refl, ap, eqb}
use Rattle.std.specs.Option.{option_map}
use Rattle.std.specs.FinMap.{get}
use Rattle.pps_types.specs.Names as paths
use Rattle.pps_types.specs.Names.{Map, Path}
use Rattle.pps_types.specs.Content.{Directory, LiveObject, at}
use Rattle.number_table.specs.Numbered.{Entry}
use Rattle.name_table.specs.Standing.{Placed, known_of, standing_by, content_of}
use Rattle.name_table.specs.Agrees.{IsNamed}

-- names agree with what stands where neither changed
pub same_named : (m n : Map) (es fs : List (Entry Placed)) (k l : ℕ) (ds : List (Entry Directory)) (j : ℕ) → n ≡ m → fs ≡ es → l ≡ k → IsNamed m es k ds j → IsNamed n fs l ds j
same_named m n es fs k l ds j p q r h = rw (p, q, r) h

-- the map finds what stands
pub found_at : (m : Map) (es : List (Entry Placed)) (k : ℕ) (ds : List (Entry Directory)) (j : ℕ) → IsNamed m es k ds j → (path : Path) → paths.find_at (get m) path ≡ paths.find_at (at (content_of (standing_by es k ds j))) path
found_at m es k ds j h path = ap (λ f. paths.find_at f path) (λ i p. h.names p i)

known_step : (b : Bool) (x : Placed) (r : Option Placed) (s : Option LiveObject) → option_map known_of r ≡ s → option_map known_of (cond b (Some x) r) ≡ cond b (Some (known_of x)) s
known_step true x r s h = refl
known_step false x r s h = h

-- what is known of an object that is found
pub known_found : (number : ℕ) (es : List (Entry Placed)) → option_map known_of (find (λ (x : Placed). eqb x.object.number number) (map (λ (e : Entry Placed). e.value) es)) ≡ find (λ (o : LiveObject). eqb o.object.number number) (map (λ (e : Entry Placed). known_of e.value) es)
known_found number [] = refl
known_found number (e ∷ es) = known_step (eqb e.value.object.number number) e.value (find (λ (x : Placed). eqb x.object.number number) (map (λ (e : Entry Placed). e.value) es)) (find (λ (o : LiveObject). eqb o.object.number number) (map (λ (e : Entry Placed). known_of e.value) es)) (known_found number es)
