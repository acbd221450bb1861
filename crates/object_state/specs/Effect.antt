-- What lines make of attributes, told of each name.
use Rattle.std.specs.Prelude.{ℕ, ◌≡◌, List, [], ◌∷◌, Bool, if◌then◌else◌, Option, Some, None, unwrap_or, length}
use Rattle.std.specs.Map.{lookup}
use Rattle.pps_types.specs.Bytes.{same}
use Rattle.pps_types.specs.History.{Attribute, line_of, is_marked, text_length}
use Rattle.pps_types.specs.Text.{print_line}

-- how long the printed line of an attribute is
abbrev pub printed_length : Attribute → ℕ
printed_length a = length (print_line (line_of a))

-- a fact of the attribute of that name, where there is one
abbrev pub of_named : {X : Type 0} → (Attribute → X) → List ℕ → List Attribute → Option X
of_named f name [] = None
of_named f name (a ∷ rest) = if same name a.name then Some (f a) else of_named f name rest

-- how long the printed line of the attribute of that name is
abbrev pub length_at : List ℕ → List Attribute → Option ℕ
length_at = of_named printed_length

-- no name stands twice
abbrev pub AreDistinct : List Attribute → Type 0
AreDistinct [] = Unit {0}
AreDistinct (a ∷ rest) = (length_at a.name rest ≡ None) × AreDistinct rest

-- what was noted of that name
abbrev pub noted_in : {X : Type 0} → List (List ℕ × X) → List ℕ → Option X
noted_in notes name = lookup (same name) notes

-- what stands now: what was noted, or else what stood before
abbrev pub noted_or : {X : Type 0} → Option X → X → X
noted_or noted before = unwrap_or noted before

abbrev pub count_of : Option ℕ → ℕ
count_of None = 0
count_of (Some len) = 1

abbrev pub bytes_of : Option ℕ → ℕ
bytes_of len = unwrap_or len 0

-- The notes, the count and the length are those of the attributes after some lines, by the attributes before them.
pub record Foretells (noted : List ℕ → Option (Option ℕ)) (count text_len : ℕ) (before after : List Attribute) : Type 0 where
  pub lens : (name : List ℕ) → noted_or (noted name) (length_at name before) ≡ length_at name after
  pub counted : count ≡ length after
  pub measured : text_len ≡ text_length after
  pub distinct : AreDistinct after

-- the notes are the marks of the attributes after some lines, by the attributes before them
pub record ForetellsMarks (noted : List ℕ → Option Bool) (before after : List Attribute) : Type 0 where
  pub marks : (name : List ℕ) → noted_or (noted name) (is_marked name before) ≡ is_marked name after
