-- Objects in their places.
use Rattle.std.proofs.Common.{◌≡◌, ℕ, suc, zero, ◌+◌, List, [], ◌∷◌, map, drop, Option, Some, None, ap, sym, ◌∙◌, add-one}
use Rattle.std.specs.Prelude.{slice_get}
use Rattle.std.specs.List.{filter_map}
use Rattle.pps_types.specs.Content.{LiveObject}
use Rattle.pps_engine.specs.Behind.{row_of}

module _ {X : Type 0} where
  -- what stands from a place on begins with what stands there
  from_place : (xs : List X) (i : ℕ) (x : X) → slice_get xs i ≡ Some x → drop i xs ≡ x ∷ drop (i + 1) xs
  from_place xs i x e = next xs i x e ∙ ap (λ k. x ∷ drop k xs) (sym (add-one i))
    where
      next : (xs : List X) (i : ℕ) (x : X) → slice_get xs i ≡ Some x → drop i xs ≡ x ∷ drop (suc i) xs
      next [] i x e = absurd (let no = e in cc)
      next (y ∷ ys) zero x e = let is : y ≡ x = cc in ap (λ z. z ∷ ys) is
      next (y ∷ ys) (suc i) x e = next ys i x e

module _ (os : List (Option LiveObject)) (i : ℕ) where
  pub row_some : (o : LiveObject) → slice_get os i ≡ Some (Some o) → map row_of (filter_map (λ o. o) (drop i os)) ≡ row_of o ∷ map row_of (filter_map (λ o. o) (drop (i + 1) os))
  row_some o e = ap (λ l. map row_of (filter_map (λ o. o) l)) (from_place os i (Some o) e)

  pub row_none : slice_get os i ≡ Some None → map row_of (filter_map (λ o. o) (drop i os)) ≡ map row_of (filter_map (λ o. o) (drop (i + 1) os))
  row_none e = ap (λ l. map row_of (filter_map (λ o. o) l)) (from_place os i None e)
