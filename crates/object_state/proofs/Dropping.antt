-- The persistent entries, moved down in their places, and how long their printed lines are.
use Rattle.std.proofs.Common.{◌≡◌, ℕ, ◌+◌, ◌<◌, Bool, true, false, cond, not, List, [], ◌∷◌, length, drop, get_or, Option, None, Some, is_some, sym, ap, ◌∙◌, arith}
use Rattle.std.specs.Prelude.{◌^◌, IfSome}
use Rattle.std.specs.List.{swap, SwappedAt}
use Rattle.std.specs.Option.{option_map_or}
use Rattle.std.proofs.lemmas.List.{drop_more, get_or_default}
use Rattle.std.proofs.lemmas.List.Edits.{swap_is, swapped_from_swap}
use Rattle.std.proofs.lemmas.List.Filters.{FiltersInPlace, FiltersInPlace-more_swap, FiltersInPlace-more_no}
use Rattle.std.proofs.lemmas.Option.{slice_get-get_or}
use Rattle.pps_types.specs.History.{persistent, text_length}
use Rattle.pps_types.specs.AttributeContent.{Content}
use Rattle.object_state.specs.Effect.{bytes_of}
use Rattle.object_state.specs.Entries.{attribute_of, attributes_of, line_length, persistent_length}
use Rattle.object_state.proofs.Printing.{printed-content, text_length-cons}

swap-at : {X : Type 0} (xs zs : List X) (a b : ℕ) → a < length xs → b < length xs → zs ≡ swap xs a b → SwappedAt xs zs a b
swap-at xs zs a b la lb is = (
  λ d. (swapped_from_swap xs zs a b d la lb is).0,
  λ d. (swapped_from_swap xs zs a b d la lb is).1,
  λ k d. (swapped_from_swap xs zs a b d la lb is).2 k,
  λ d. is ∙ sym (swap_is xs a b d la lb),
)

persistent-cons : (e : List ℕ × Content) (es : List (List ℕ × Content))
    → text_length (persistent (attributes_of (e ∷ es))) ≡ bytes_of (cond e.1.n None (Some (line_length (length e.0) e.1))) + text_length (persistent (attributes_of es))
persistent-cons e es = by e.1.n
  where
    by : (n : Bool) → text_length (cond (not n) (attribute_of e ∷ persistent (attributes_of es)) (persistent (attributes_of es))) ≡ bytes_of (cond n None (Some (line_length (length e.0) e.1))) + text_length (persistent (attributes_of es))
    by true = omega arith
    by false = text_length-cons (attribute_of e) (persistent (attributes_of es)) ∙ ap (λ len. len + text_length (persistent (attributes_of es))) (printed-content e.0 e.1)

-- any entry
abbrev none : List ℕ × Content
none = ([], record { enc = []; value = []; n = false })

-- the entry at i, in xs as it is now in ys
module _ {xs ys : List (List ℕ × Content)} {k i : ℕ} (moved : FiltersInPlace (λ (e : List ℕ × Content). not e.1.n) xs ys k i) (within : i < length ys) where
  abbrev entry : List ℕ × Content
  entry = get_or ys i none

  read : persistent_length ys i ≡ cond entry.1.n None (Some (line_length (length entry.0) entry.1))
  read = ap (λ o. option_map_or (λ (e : List ℕ × Content). cond e.1.n None (Some (line_length (length e.0) e.1))) o None) (slice_get-get_or ys i none within)

  left : drop i xs ≡ entry ∷ drop (i + 1) xs
  left =
      let tails : drop (i + 1) ys ≡ drop (i + 1) xs = ap (drop 1) (sym (drop_more ys i none within) ∙ moved.rest ∙ drop_more xs i none (omega (arith, moved.long))) in
      sym moved.rest ∙ drop_more ys i none within ∙ ap (λ es. entry ∷ es) tails

  -- its printed line is the first of those that are left
  pub persistent-drop : text_length (persistent (attributes_of (drop i xs))) ≡ bytes_of (persistent_length ys i) + text_length (persistent (attributes_of (drop (i + 1) xs)))
  persistent-drop = ap (λ es. text_length (persistent (attributes_of es))) left ∙ persistent-cons entry (drop (i + 1) xs)
      ∙ ap (λ len. bytes_of len + text_length (persistent (attributes_of (drop (i + 1) xs)))) (sym read)

  marked : (n : Bool) (len : Option ℕ) → cond n None (Some (line_length (length entry.0) entry.1)) ≡ len → not n ≡ is_some len
  marked true len is = ap is_some is
  marked false len is = ap is_some is

  -- it is kept
  pub moved-some : (len : ℕ) (zs : List (List ℕ × Content)) → persistent_length ys i ≡ Some len → zs ≡ swap ys k i → FiltersInPlace (λ (e : List ℕ × Content). not e.1.n) xs zs (k + 1) (i + 1)
  moved-some len zs some is = FiltersInPlace-more_swap moved within (marked entry.1.n (Some len) (sym read ∙ some)) (get_or_default ys i none entry within) (swap-at ys zs k i (omega (arith, moved.behind)) within is)

  -- it is not
  pub moved-none : persistent_length ys i ≡ None → FiltersInPlace (λ (e : List ℕ × Content). not e.1.n) xs ys k (i + 1)
  moved-none left_out = FiltersInPlace-more_no moved within (marked entry.1.n None (sym read ∙ left_out)) (get_or_default ys i none entry within)

-- a length that is there is a length
pub some-fits : (len : Option ℕ) → bytes_of len < 2 ^ 64 → IfSome len (λ n. n < 2 ^ 64)
some-fits None fits = tt
some-fits (Some n) fits = fits
