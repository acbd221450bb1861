-- Printed lines of attributes, and how long they are.
use Rattle.std.proofs.Common.{◌≡◌, ℕ, ◌+◌, ◌≤◌, Bool, true, false, cond, List, [], ◌∷◌, ◌++◌, length, map, Option, None, refl, sym, ap, ◌∙◌, arith, length-append}
use Rattle.std.specs.Prelude.{filter}
use Rattle.pps_types.specs.Filter.{Part, matches}
use Rattle.pps_types.specs.History.{Attribute, line_of, text_length}
use Rattle.pps_types.specs.Text.{print_line, print_lines}
use Rattle.pps_types.specs.AttributeContent.{Content}
use Rattle.attr_text.specs.Written.{overwritten}
use Rattle.attr_text.proofs.Overwritten.{next-piece}
use Rattle.object_state.specs.Entries.{attribute_of, attributes_of, line_length}
use Rattle.object_state.specs.Effect.{printed_length}
use Rattle.object_state.specs.Held.{print_all, print_matching}
use Rattle.object_state.specs.Printed.{print_entry}

pub printed-content : (name : List ℕ) (content : Content) → printed_length (attribute_of (name, content)) ≡ line_length (length name) content
printed-content name content = by content.n
  where
    by : (n : Bool) → length (print_line (line_of (record { name = name; enc = content.enc; value = content.value; n = n }))) ≡ cond n 6 3 + length name + length content.enc + length content.value
    by true = simp length-append (omega arith)
    by false = simp length-append (omega arith)

pub text_length-cons : (a : Attribute) (rest : List Attribute) → text_length (a ∷ rest) ≡ printed_length a + text_length rest
text_length-cons a rest = length-append (print_line (line_of a)) (print_lines (map line_of rest))

-- those that match are no longer than all
pub matching_le : (wanted : Option (List Part)) (rest : List Attribute) → length (print_matching wanted rest) ≤ text_length rest
matching_le wanted [] = omega arith
matching_le wanted (a ∷ rest) = by (matching_le wanted rest) (matches wanted (line_of a))
  where
    by : length (print_matching wanted rest) ≤ text_length rest → (b : Bool) → length (print_lines (cond b (line_of a ∷ filter (matches wanted) (map line_of rest)) (filter (matches wanted) (map line_of rest)))) ≤ text_length (a ∷ rest)
    by less true = omega (arith, length-append (print_line (line_of a)) (print_matching wanted rest), text_length-cons a rest)
    by less false = omega (arith, text_length-cons a rest)

-- without a filter all match
pub matching-all : (rest : List Attribute) → print_matching None rest ≡ print_lines (map line_of rest)
matching-all [] = refl
matching-all (a ∷ rest) = ap (λ t. print_line (line_of a) ++ t) (matching-all rest)

-- ---- lines make it no longer than they are

pub filter-bytes_le : (keep : Attribute → Bool) (rest : List Attribute) → text_length (filter keep rest) ≤ text_length rest
filter-bytes_le keep [] = omega arith
filter-bytes_le keep (a ∷ rest) = by (filter-bytes_le keep rest) (keep a)
  where
    by : text_length (filter keep rest) ≤ text_length rest → (b : Bool) → text_length (cond b (a ∷ filter keep rest) (filter keep rest)) ≤ text_length (a ∷ rest)
    by less true = omega (arith, text_length-cons a (filter keep rest), text_length-cons a rest)
    by less false = omega (arith, text_length-cons a rest)

pub filter-count_le : (keep : Attribute → Bool) (rest : List Attribute) → length (filter keep rest) ≤ length rest
filter-count_le keep [] = omega arith
filter-count_le keep (a ∷ rest) = by (filter-count_le keep rest) (keep a)
  where
    by : length (filter keep rest) ≤ length rest → (b : Bool) → length (cond b (a ∷ filter keep rest) (filter keep rest)) ≤ length (a ∷ rest)
    by less true = omega arith
    by less false = omega arith

-- what is written over a list once the first of some attributes is written, and what is still to be written
pub next-entry : (out new : List ℕ) (at end : ℕ) (e : List ℕ × Content) (all rest : List (List ℕ × Content)) → all ≡ e ∷ rest → new ≡ overwritten out at (print_entry e.0 e.1) → end ≡ at + length (print_entry e.0 e.1)
    → at + length (print_all (attributes_of all)) ≤ length out → length new ≡ length out
    → (overwritten new end (print_all (attributes_of rest)) ≡ overwritten out at (print_all (attributes_of all))) × (end + length (print_all (attributes_of rest)) ≤ length new)
next-entry out new at end e all rest is written ends fits len =
    let line : List ℕ = print_entry e.0 e.1 in
    let text : List ℕ = print_all (attributes_of rest) in
    let whole : print_all (attributes_of all) ≡ line ++ text = ap (λ es. print_all (attributes_of es)) is in
    let lens : length (print_all (attributes_of all)) ≡ length line + length text = ap length whole ∙ length-append line text in
    let room : at + length line + length text ≤ length out = omega (arith, fits, lens) in
    (next-piece out new (overwritten new end text) at end line text room written ends refl ∙ ap (overwritten out at) (sym whole), omega (arith, room, ends, len))
