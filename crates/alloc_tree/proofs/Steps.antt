-- What a loop over entries has done so far.
use Rattle.std.proofs.Common.{◌≡◌, ℕ, ◌+◌, ◌<◌, List, [], ◌∷◌, ◌++◌, length, get_or, take, map, ap, sym, ◌∙◌}
use Rattle.std.proofs.lemmas.List.{take_more, map-append}

module _ {X : Type 0} where
  pub take_one_more : (xs : List X) (i : ℕ) (x : X) → i < length xs → x ≡ get_or xs i x → take (i + 1) xs ≡ take i xs ++ x ∷ []
  take_one_more xs i x in_range read = take_more xs i x in_range ∙ ap (λ y. take i xs ++ y ∷ []) (sym read)

  pub map_one_more : {Y : Type 0} (f : X → Y) (xs : List X) (i : ℕ) (x : X) → i < length xs → x ≡ get_or xs i x → map f (take (i + 1) xs) ≡ map f (take i xs) ++ f x ∷ []
  map_one_more f xs i x in_range read = ap (map f) (take_one_more xs i x in_range read) ∙ map-append f (take i xs) (x ∷ [])
