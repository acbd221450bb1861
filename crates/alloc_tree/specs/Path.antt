-- What stands at paths, as a list, and how that changes.
use Rattle.std.specs.Prelude.{◌≡◌, ℕ, List, [], ◌∷◌, cond, Option}
use Rattle.std.specs.Option.{unwrap_or}
use Rattle.std.specs.Ordering.{eq_by_cmp}
use Rattle.std.specs.FinMap.{find}
use Rattle.pps_types.specs.Names.{Path, path_cmp}

-- what the list has at a path
abbrev pub at : {X : Type 0} → List (Path × X) → Path → Option X
at es q = find path_cmp q es

-- at p the new list has v, and elsewhere what the old one has
abbrev pub Changes : {X : Type 0} → List (Path × X) → List (Path × X) → Path → Option X → Type 0
Changes old new p v = (q : Path) → at new q ≡ cond (eq_by_cmp path_cmp q p) v (at old q)

-- the room in the directory that a new path would stand in
abbrev pub room_for : (Path → Option ℕ) → Path → ℕ
room_for rooms [] = 0
room_for rooms (n ∷ []) = unwrap_or (rooms []) 0
room_for rooms (n ∷ m ∷ path) = room_for (λ q. rooms (n ∷ q)) (m ∷ path)
