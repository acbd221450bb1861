-- The entries of the map as attributes: what each change makes of them.
use Rattle.std.proofs.Common.{◌≡◌, ℕ, suc, ◌+◌, Bool, true, false, cond, not, List, [], ◌∷◌, length, map, Some, None, option_map, refl, sym, ap, ◌∙◌, ◌≤◌, arith}
use Rattle.std.specs.Prelude.{nat_eq, filter}
use Rattle.std.specs.List.{AllByRecursion, IsDistinct}
use Rattle.std.specs.Map.{keys_of, lookup, remove_entry}
use Rattle.std.proofs.lemmas.Map.Keys.{IsDistinct-head, IsDistinct-tail}
use lib.Pointwise.{pointwise}
use Rattle.indexmap.specs.IndexMap.{insert_entry}
use Rattle.pps_types.specs.Bytes.{same}
use Rattle.pps_types.specs.History.{Attribute, put, persistent, text_length}
use Rattle.pps_types.specs.AttributeContent.{Content}
use Rattle.object_state.specs.Entries.{attribute_of, attributes_of, line_length}
use Rattle.object_state.specs.Effect.{printed_length, of_named, length_at, bytes_of, AreDistinct}
use Rattle.pps_types.proofs.SameBytes.{same-is, same-sym}
use Rattle.object_state.proofs.Printing.{printed-content, text_length-cons}
use Rattle.object_state.proofs.LineChanges.{cut, put-bytes, cut-bytes}

-- the entry that an attribute is
abbrev entry_of : Attribute → List ℕ × Content
entry_of a = (a.name, record { enc = a.enc; value = a.value; n = a.n })

entries-attributes : (es : List (List ℕ × Content)) → map entry_of (attributes_of es) ≡ es
entries-attributes [] = refl
entries-attributes (e ∷ es) = ap (λ rest. e ∷ rest) (entries-attributes es)

-- two maps have the same entries where they have the same attributes
pub attributes-inj : (es fs : List (List ℕ × Content)) → attributes_of es ≡ attributes_of fs → es ≡ fs
attributes-inj es fs e = sym (entries-attributes es) ∙ ap (map entry_of) e ∙ entries-attributes fs

-- ---- changes

pub attributes-insert : (k : List ℕ) (c : Content) (es : List (List ℕ × Content)) → attributes_of (insert_entry (pointwise nat_eq) es k c) ≡ put (attributes_of es) (attribute_of (k, c))
attributes-insert k c [] = refl
attributes-insert k c (e ∷ es) = by (attributes-insert k c es) (same k e.0) refl
  where
    by : attributes_of (insert_entry (pointwise nat_eq) es k c) ≡ put (attributes_of es) (attribute_of (k, c)) → (s : Bool) → same k e.0 ≡ s
        → attributes_of (cond s ((e.0, c) ∷ es) (e ∷ insert_entry (pointwise nat_eq) es k c)) ≡ cond s (attribute_of (k, c) ∷ attributes_of es) (attribute_of e ∷ put (attributes_of es) (attribute_of (k, c)))
    by rec true s = ap (λ n. attribute_of (n, c) ∷ attributes_of es) (sym (same-is k e.0 s))
    by rec false s = ap (λ rest. attribute_of e ∷ rest) rec

pub attributes-filter : (es : List (List ℕ × Content)) → attributes_of (filter (λ (e : List ℕ × Content). not e.1.n) es) ≡ persistent (attributes_of es)
attributes-filter [] = refl
attributes-filter (e ∷ es) = by (attributes-filter es) e.1.n
  where
    by : attributes_of (filter (λ (e : List ℕ × Content). not e.1.n) es) ≡ persistent (attributes_of es) → (n : Bool)
        → attributes_of (cond (not n) (e ∷ filter (λ (e : List ℕ × Content). not e.1.n) es) (filter (λ (e : List ℕ × Content). not e.1.n) es)) ≡ cond (not n) (attribute_of e ∷ persistent (attributes_of es)) (persistent (attributes_of es))
    by rec true = rec
    by rec false = ap (λ rest. attribute_of e ∷ rest) rec

cut-none : (k : List ℕ) (es : List (List ℕ × Content)) → AllByRecursion (λ y. same k y ≡ false) (keys_of es) → cut k (attributes_of es) ≡ attributes_of es
cut-none k [] none = refl
cut-none k (e ∷ es) none =
    ap (λ t. cond (not t) (attribute_of e ∷ cut k (attributes_of es)) (cut k (attributes_of es))) (same-sym e.0 k ∙ none.0)
    ∙ ap (λ rest. attribute_of e ∷ rest) (cut-none k es none.1)

pub attributes-remove : (k : List ℕ) (es : List (List ℕ × Content)) → IsDistinct (pointwise nat_eq) (keys_of es) → attributes_of (remove_entry (pointwise nat_eq k) es) ≡ cut k (attributes_of es)
attributes-remove k [] apart = refl
attributes-remove k (e ∷ es) apart =
    by (attributes-remove k es (IsDistinct-tail (pointwise nat_eq) e.0 (keys_of es) apart)) (same k e.0) refl
    ∙ ap (λ t. cond (not t) (attribute_of e ∷ cut k (attributes_of es)) (cut k (attributes_of es))) (same-sym k e.0)
  where
    by : attributes_of (remove_entry (pointwise nat_eq k) es) ≡ cut k (attributes_of es) → (s : Bool) → same k e.0 ≡ s
        → attributes_of (cond s es (e ∷ remove_entry (pointwise nat_eq k) es)) ≡ cond (not s) (attribute_of e ∷ cut k (attributes_of es)) (cut k (attributes_of es))
    by rec true s = ap (λ n. attributes_of es) s ∙ sym (ap (λ n. cut n (attributes_of es)) (same-is k e.0 s) ∙ cut-none e.0 es (IsDistinct-head (pointwise nat_eq) e.0 (keys_of es) apart))
    by rec false s = ap (λ rest. attribute_of e ∷ rest) rec

-- ---- look-ups

pub lookup-at : {X : Type 0} (f : Attribute → X) (k : List ℕ) (es : List (List ℕ × Content)) → of_named f k (attributes_of es) ≡ option_map (λ c. f (attribute_of (k, c))) (lookup (pointwise nat_eq k) es)
lookup-at f k [] = refl
lookup-at {X = X} f k (e ∷ es) = by (lookup-at f k es) (same k e.0) refl
  where
    by : of_named f k (attributes_of es) ≡ option_map (λ c. f (attribute_of (k, c))) (lookup (pointwise nat_eq k) es) → (s : Bool) → same k e.0 ≡ s
        → cond s (Some (f (attribute_of e))) (of_named f k (attributes_of es)) ≡ option_map (λ c. f (attribute_of (k, c))) (cond s (Some e.1) (lookup (pointwise nat_eq k) es))
    by rec true s = ap (λ n. Some (f (attribute_of (n, e.1)))) (sym (same-is k e.0 s))
    by rec false s = rec

module _ {X : Type 0} (f : Attribute → X) (k : List ℕ) (es : List (List ℕ × Content)) where
  pub named-none : lookup (pointwise nat_eq k) es ≡ None → of_named f k (attributes_of es) ≡ None
  named-none none = lookup-at f k es ∙ ap (option_map (λ c. f (attribute_of (k, c)))) none

  pub named-some : (old : Content) → lookup (pointwise nat_eq k) es ≡ Some old → of_named f k (attributes_of es) ≡ Some (f (attribute_of (k, old)))
  named-some old some = lookup-at f k es ∙ ap (option_map (λ c. f (attribute_of (k, c)))) some

pub length-attributes : (es : List (List ℕ × Content)) → length (attributes_of es) ≡ length es
length-attributes [] = refl
length-attributes (e ∷ es) = ap suc (length-attributes es)

distinct-at : (k : List ℕ) (es : List (List ℕ × Content)) → AllByRecursion (λ y. same k y ≡ false) (keys_of es) → length_at k (attributes_of es) ≡ None
distinct-at k [] none = refl
distinct-at k (e ∷ es) none = ap (λ t. cond t (Some (printed_length (attribute_of e))) (length_at k (attributes_of es))) none.0 ∙ distinct-at k es none.1

pub attributes-distinct : (es : List (List ℕ × Content)) → IsDistinct (pointwise nat_eq) (keys_of es) → AreDistinct (attributes_of es)
attributes-distinct [] apart = tt
attributes-distinct (e ∷ es) apart =
    (distinct-at e.0 es (IsDistinct-head (pointwise nat_eq) e.0 (keys_of es) apart), attributes-distinct es (IsDistinct-tail (pointwise nat_eq) e.0 (keys_of es) apart))

-- ---- how long the printed lines are then

at-bytes_le : (k : List ℕ) (rest : List Attribute) → bytes_of (length_at k rest) ≤ text_length rest
at-bytes_le k [] = omega arith
at-bytes_le k (a ∷ rest) = by (at-bytes_le k rest) (same k a.name)
  where
    by : bytes_of (length_at k rest) ≤ text_length rest → (s : Bool) → bytes_of (cond s (Some (printed_length a)) (length_at k rest)) ≤ text_length (a ∷ rest)
    by less true = omega (arith, text_length-cons a rest)
    by less false = omega (arith, text_length-cons a rest)

module _ (k : List ℕ) (es : List (List ℕ × Content)) where
  length-none : lookup (pointwise nat_eq k) es ≡ None → bytes_of (length_at k (attributes_of es)) ≡ 0
  length-none none = ap bytes_of (lookup-at printed_length k es ∙ ap (option_map (λ c. printed_length (attribute_of (k, c)))) none)

  length-some : (old : Content) → lookup (pointwise nat_eq k) es ≡ Some old → bytes_of (length_at k (attributes_of es)) ≡ line_length (length k) old
  length-some old some = ap bytes_of (lookup-at printed_length k es ∙ ap (option_map (λ c. printed_length (attribute_of (k, c)))) some) ∙ printed-content k old

  pub line_le : (old : Content) → lookup (pointwise nat_eq k) es ≡ Some old → line_length (length k) old ≤ text_length (attributes_of es)
  line_le old some = omega (arith, length-some old some, at-bytes_le k (attributes_of es))

  module _ (c : Content) where
    inserted : text_length (attributes_of (insert_entry (pointwise nat_eq) es k c)) + bytes_of (length_at k (attributes_of es)) ≡ text_length (attributes_of es) + line_length (length k) c
    inserted = ap (λ (rest : List Attribute). text_length rest + bytes_of (length_at k (attributes_of es))) (attributes-insert k c es) ∙ put-bytes (attribute_of (k, c)) (attributes_of es) ∙ ap (λ n. text_length (attributes_of es) + n) (printed-content k c)

    pub insert-new : lookup (pointwise nat_eq k) es ≡ None → text_length (attributes_of (insert_entry (pointwise nat_eq) es k c)) ≡ text_length (attributes_of es) + line_length (length k) c
    insert-new none = omega (arith, inserted, length-none none)

    pub insert-old : (old : Content) → lookup (pointwise nat_eq k) es ≡ Some old → text_length (attributes_of (insert_entry (pointwise nat_eq) es k c)) + line_length (length k) old ≡ text_length (attributes_of es) + line_length (length k) c
    insert-old old some = omega (arith, inserted, length-some old some)

  module _ (apart : IsDistinct (pointwise nat_eq) (keys_of es)) where
    removed : text_length (attributes_of (remove_entry (pointwise nat_eq k) es)) + bytes_of (length_at k (attributes_of es)) ≡ text_length (attributes_of es)
    removed = ap (λ (rest : List Attribute). text_length rest + bytes_of (length_at k (attributes_of es))) (attributes-remove k es apart) ∙ cut-bytes k (attributes_of es) (attributes-distinct es apart)

    pub remove-none : lookup (pointwise nat_eq k) es ≡ None → text_length (attributes_of (remove_entry (pointwise nat_eq k) es)) ≡ text_length (attributes_of es)
    remove-none none = omega (arith, removed, length-none none)

    pub remove-some : (old : Content) → lookup (pointwise nat_eq k) es ≡ Some old → text_length (attributes_of (remove_entry (pointwise nat_eq k) es)) + line_length (length k) old ≡ text_length (attributes_of es)
    remove-some old some = omega (arith, removed, length-some old some)
