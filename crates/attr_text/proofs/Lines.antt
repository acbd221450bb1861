-- What the lengths of a line's parts are, and what its printing is made of.
use Rattle.std.proofs.Common.{◌≡◌, ℕ, ◌+◌, ◌≤◌, ◌<◌, Bool, true, false, List, [], ◌∷◌, ◌++◌, length, append_assoc, refl, sym, ap, ◌∙◌, arith}
use Rattle.std.specs.Prelude.{◌&&◌, nat_le}
use Rattle.std.specs.List.{list_all}
use Rattle.std.proofs.lemmas.Bool.{and_parts}
use Rattle.std.proofs.lemmas.Bool.Decides.{nat_tests}
use Rattle.pps_types.specs.declared.line.Line.{Line}
use Rattle.pps_types.specs.declared.line.Line.TheVariants.{Set, Del}
use Rattle.pps_types.specs.Bytes.{is_between}
use Rattle.pps_types.specs.HeldLine.{start_of, text_of}
use Rattle.pps_types.specs.Text.{starts_name, continues_name, is_attribute_name, is_encoding, print_line}

-- a name has at most 255 bytes
pub name-fits : (name : List ℕ) → is_attribute_name name ≡ true → length name < 256
name-fits [] is = omega arith
name-fits (b ∷ bs) is =
    let short : nat_le (length bs) 254 ≡ true = (and_parts (starts_name b && list_all continues_name bs) (nat_le (length bs) 254) is).1 in
    grind (arith, nat_tests, short)

-- an encoding has at most 32
pub encoding-fits : (enc : List ℕ) → is_encoding enc ≡ true → length enc < 256
encoding-fits enc is =
    let short : nat_le (length enc) 32 ≡ true = (and_parts (nat_le (length enc) 32) (list_all (λ b. is_between 33 126 b) enc) is).0 in
    grind (arith, nat_tests, short)

-- a printing, by what it begins with and its text
pub print_line-is : (line : Line) → print_line line ≡ start_of line ++ (text_of line ++ 10 ∷ [])
print_line-is (Set name enc value n) = simp append_assoc
print_line-is (Del name) = simp append_assoc
