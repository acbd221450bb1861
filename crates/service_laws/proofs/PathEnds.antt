-- The last name of a path, and the names before it.
use Rattle.std.proofs.Common.{◌≡◌, [], ◌∷◌, ◌++◌, refl, ap}
use Rattle.pps_types.specs.Names.{Path, Name, parent, last_name}

pub parent-push : (names : Path) (n : Name) → parent (names ++ n ∷ []) ≡ names
parent-push [] n = refl
parent-push (m ∷ []) n = refl
parent-push (m ∷ p ∷ ps) n = ap (λ ns. m ∷ ns) (parent-push (p ∷ ps) n)

pub last_name-push : (names : Path) (n : Name) → last_name (names ++ n ∷ []) ≡ n
last_name-push [] n = refl
last_name-push (m ∷ []) n = refl
last_name-push (m ∷ p ∷ ps) n = last_name-push (p ∷ ps) n
