-- Copies of records and handles.
use Rattle.std.proofs.Common.{◌≡◌, ◌<◌, ℕ, zero, suc, ◌+◌, arith, List, [], ◌∷◌, ◌++◌, map, take, refl, sym, ap, subst, ◌∙◌, Some}
use Rattle.std.specs.Prelude.{slice_get}
use Rattle.std.specs.List.{AllByRecursion, AllZip}
use Rattle.pps_types.specs.Rising.{AllAbove, IsRising}
use Rattle.sub_reader.specs.declared.place.Place.{Place}
use Rattle.sub_reader.specs.declared.place.Place.TheVariants.{News, Fresh, Over, Idle, At}
use Rattle.sub_reader.specs.declared.row.HandleRow.{HandleRow}
use Rattle.sub_reader.specs.Readers.{Reader}
use Rattle.sub_reader.specs.Rows.{Rows, number_in, rows_of}
use Rattle.sub_reader.specs.Alike.{place_from, row_told, IsCopyOf, AreCopiesOf}
use Rattle.sub_reader.proofs.Edits.{rising_map}

module _ {X : Type 0} where
  -- one more is taken
  taken-suc : (xs : List X) (i : ℕ) (x : X) → slice_get xs i ≡ Some x → take (suc i) xs ≡ take i xs ++ x ∷ []
  taken-suc [] i x e = absurd (let no = e in cc)
  taken-suc (y ∷ ys) zero x e = let same : y ≡ x = cc in ap (λ z. z ∷ []) same
  taken-suc (y ∷ ys) (suc i) x e = ap (λ zs. y ∷ zs) (taken-suc ys i x e)

  pub taken : (xs : List X) (i j k : ℕ) (x : X) → slice_get xs i ≡ Some x → j ≡ i → k ≡ i + 1 → take k xs ≡ take j xs ++ x ∷ []
  taken xs i j k x e same more =
      ap (λ n. take n xs) (let is : k ≡ suc i = omega (arith, more) in is) ∙ taken-suc xs i x e ∙ ap (λ n. take n xs ++ x ∷ []) (sym same)

module _ {X : Type 0} (number : X → ℕ) where
  above-middle : (n : ℕ) (xs ys : List X) (y : X) → AllAbove number n (xs ++ y ∷ ys) → n < number y
  above-middle n [] ys y above = above.0
  above-middle n (x ∷ xs) ys y above = above-middle n xs ys y above.1

  -- where numbers rise, those before one are lower
  pub rising-before : (xs ys : List X) (y : X) → IsRising number (xs ++ y ∷ ys) → AllByRecursion (λ x. number x < number y) xs
  rising-before [] ys y rising = tt
  rising-before (x ∷ xs) ys y rising = (above-middle (number x) xs ys y rising.0, rising-before xs ys y rising.1)

-- handles of which the same stands as of those so far are below the next one
module _ {P : Type 0} (told : ℕ → P → P) where
  told-below : (n : ℕ) (xs : List (HandleRow P)) → AllByRecursion (λ (r : HandleRow P). number_in r < n) (map (row_told told 0) xs) → AllByRecursion (λ (r : HandleRow P). number_in r < n) xs
  told-below n [] below = tt
  told-below n (x ∷ xs) below = (below.0, told-below n xs below.1)

  pub copied-below : (xs done behind : List (HandleRow P)) (first copy : HandleRow P) → IsRising number_in xs → map (row_told told 0) xs ≡ map (row_told told 0) done ++ map (row_told told 0) (first ∷ behind) → IsCopyOf told first copy
      → AllByRecursion (λ (r : HandleRow P). number_in r < number_in copy) done
  copied-below xs done behind first copy rising are same =
      told-below (number_in copy) done
      (subst (λ (x : HandleRow P). AllByRecursion (λ (r : HandleRow P). number_in r < number_in x) (map (row_told told 0) done)) (sym same)
      (rising-before number_in (map (row_told told 0) done) (map (row_told told 0) behind) (row_told told 0 first)
      (subst (IsRising number_in) are (rising_map number_in (row_told told 0) (λ r. refl) xs rising))))

-- where all records are held, all of a place stands
all-told : (rs : List Reader) → map (row_told place_from 0) rs ≡ rs
all-told [] = refl
all-told (r ∷ rs) = λ i. record r { progress = by r.progress i } ∷ all-told rs i
  where
    by : (p : Place) → place_from 0 p ≡ p
    by (News b) = refl
    by Fresh = refl
    by Over = refl
    by Idle = refl
    by (At first owed) = ap (λ k. At k owed) (omega arith)

-- and so copies of readers are the readers
pub copied_rows : (rows copies : Rows Place) → AreCopiesOf place_from rows copies → rows_of copies ≡ rows_of rows
copied_rows rows copies same = sym (all-told (rows_of copies)) ∙ same ∙ all-told (rows_of rows)

-- numbers that are copied one by one
pub same_numbers : (xs ys : List ℕ) → AllZip (λ x y. y ≡ x) xs ys → ys ≡ xs
same_numbers [] [] all = refl
same_numbers [] (y ∷ ys) all = absurd all
same_numbers (x ∷ xs) [] all = absurd all
same_numbers (x ∷ xs) (y ∷ ys) all = λ i. all.0 i ∷ same_numbers xs ys all.1 i
