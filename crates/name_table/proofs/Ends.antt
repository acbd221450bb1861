-- The end of a path.
use Rattle.std.proofs.Common.{◌≡◌, ℕ, ◌-◌, List, [], ◌∷◌, length, Some, refl, ap, ◌∙◌, arith}
use Rattle.std.specs.Prelude.{slice_get}
use Rattle.std.specs.Option.{unwrap_or}
use Rattle.pps_types.specs.Names.{Path, last_name}

last_at : (n : List ℕ) (ns : Path) → slice_get (n ∷ ns) (length ns) ≡ Some (last_name (n ∷ ns))
last_at n [] = refl
last_at n (m ∷ ms) = last_at m ms

-- the last of the names is that of the path
pub last_is : (p : Path) → unwrap_or (slice_get p (length p - 1)) [] ≡ last_name p
last_is [] = refl
last_is (n ∷ ns) = let one : length (n ∷ ns) - 1 ≡ length ns = omega arith in ap (λ i. unwrap_or (slice_get (n ∷ ns) i) []) one ∙ ap (λ o. unwrap_or o []) (last_at n ns)
