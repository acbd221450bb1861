-- The digits at the front of a text.
use Rattle.std.specs.Prelude.{◌≡◌, ◌<◌, ◌≤◌, ℕ, List, [], ◌∷◌, Bool, true, false, length, take, drop}
use Rattle.std.specs.List.{list_all}
use Rattle.pps_types.specs.Bytes.{is_digit, number_from}
use Rattle.script_text.specs.declared.numbers.Digits.{Digits}

abbrev pub starts_with_digit : List ℕ → Bool
starts_with_digit [] = false
starts_with_digit (b ∷ bs) = is_digit b

-- these are all leading digits of the text, or its first ten
pub record AreLeading (text : List ℕ) (d : Digits) : Type 0 where
  pub within : d.count ≤ length text
  pub few : d.count ≤ 10
  pub digits : list_all is_digit (take d.count text) ≡ true
  pub number : d.number ≡ number_from 0 (take d.count text)
  pub all : d.count < 10 → starts_with_digit (drop d.count text) ≡ false
