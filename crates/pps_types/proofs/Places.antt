-- What a list has from a place on.
use Rattle.std.proofs.Common.{◌≡◌, ℕ, zero, suc, ◌+◌, List, [], ◌∷◌, drop, Some, sym, ap, ◌∙◌, add-one}
use Rattle.std.specs.Prelude.{slice_get}

module _ {X : Type 0} where
  -- it begins with what is at the place
  pub from_place : (xs : List X) (i : ℕ) (x : X) → slice_get xs i ≡ Some x → drop i xs ≡ x ∷ drop (i + 1) xs
  from_place xs i x e = next xs i x e ∙ ap (λ k. x ∷ drop k xs) (sym (add-one i))
    where
      next : (xs : List X) (i : ℕ) (x : X) → slice_get xs i ≡ Some x → drop i xs ≡ x ∷ drop (suc i) xs
      next [] i x e = absurd (let no = e in cc)
      next (y ∷ ys) zero x e = let is : y ≡ x = cc in ap (λ z. z ∷ ys) is
      next (y ∷ ys) (suc i) x e = next ys i x e
