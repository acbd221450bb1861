-- How long a text is, the room for it, and what comes to the end of a list.
use Rattle.std.specs.Prelude.{◌≡◌, ◌^◌, ◌≤◌, ◌++◌, ℕ, List, length, Vec}

-- the text has so many bytes
abbrev pub IsLenOf : List ℕ → ℕ → Type 0
IsLenOf text = λ len. len ≡ length text

-- how many bytes it has is no number of 64 bits
abbrev pub IsTooLong : List ℕ → Type 0
IsTooLong text = 2 ^ 64 ≤ length text

-- these came to the end of the list
abbrev pub Gains : {X A : Type 0} → Vec X A → Vec X A → List X → Type 0
Gains old new more = new.items ≡ old.items ++ more
