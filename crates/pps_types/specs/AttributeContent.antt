-- What an attribute has besides its name, as it is held: its encoding and its value in one text. Own.
use Rattle.std.specs.Prelude.{◌≡◌, ℕ, ◌+◌, List, ◌++◌, Bool, ◌&&◌, take, drop, codes}
use mathlib.Core.Bool.{beq}
use Rattle.pps_types.specs.Bytes.{same}

-- n: it is nonpersistent
pub record Content : Type 0 where
  pub enc : List ℕ
  pub value : List ℕ
  pub n : Bool

-- both in one text, with a colon between them
abbrev pub content_text : Content → List ℕ
content_text content = content.enc ++ codes ":" ++ content.value

-- the content of a text whose encoding is that long
abbrev pub content_in : ℕ → Bool → List ℕ → Content
content_in enc n text = record { enc = take enc text; value = drop (enc + 1) text; n = n }

-- the text is an encoding that is that long, a colon, and a value
abbrev pub IsContentText : ℕ → Bool → List ℕ → Type 0
IsContentText enc n text = content_text (content_in enc n text) ≡ text

-- both are the same
abbrev pub same_content : Content → Content → Bool
same_content a b = same a.enc b.enc && same a.value b.value && beq a.n b.n
