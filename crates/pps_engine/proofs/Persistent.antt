-- Attributes, one after the other.
use Rattle.std.proofs.Common.{◌≡◌, ℕ, suc, zero, ◌+◌, true, false, cond, not, List, [], ◌∷◌, drop, Some, ap, ◌∙◌, add-one}
use Rattle.std.specs.Prelude.{slice_get}
use Rattle.pps_types.specs.History.{Attribute, persistent}

from_place : (xs : List Attribute) (i : ℕ) (x : Attribute) → slice_get xs i ≡ Some x → drop i xs ≡ x ∷ drop (i + 1) xs
from_place xs i x e = rw add-one (next xs i x e)
  where
    next : (xs : List Attribute) (i : ℕ) (x : Attribute) → slice_get xs i ≡ Some x → drop i xs ≡ x ∷ drop (suc i) xs
    next [] i x e = absurd (let no = e in cc)
    next (y ∷ ys) zero x e = let is : y ≡ x = cc in ap (λ z. z ∷ ys) is
    next (y ∷ ys) (suc i) x e = next ys i x e

-- from a place on, where the one there is persistent
pub persistent_here : (xs : List Attribute) (i : ℕ) (x : Attribute) → slice_get xs i ≡ Some x → x.n ≡ false → persistent (drop i xs) ≡ x ∷ persistent (drop (i + 1) xs)
persistent_here xs i x e is = ap persistent (from_place xs i x e) ∙ ap (λ b. cond (not b) (x ∷ persistent (drop (i + 1) xs)) (persistent (drop (i + 1) xs))) is

-- and where it is not
pub persistent_past : (xs : List Attribute) (i : ℕ) (x : Attribute) → slice_get xs i ≡ Some x → x.n ≡ true → persistent (drop i xs) ≡ persistent (drop (i + 1) xs)
persistent_past xs i x e is = ap persistent (from_place xs i x e) ∙ ap (λ b. cond (not b) (x ∷ persistent (drop (i + 1) xs)) (persistent (drop (i + 1) xs))) is
