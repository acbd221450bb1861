-- The open handles of one connection, and the places that closed ones leave before them. Own.
use Rattle.std.specs.Prelude.{ℕ, ◌+◌, ◌-◌, ◌≤◌, List, length}

-- The open handles, in rising number, and for how many more there is memory.
pub record Owned : Type 0 where
  pub handles : List ℕ
  pub room : ℕ

-- So many places at the front are of closed handles: no more than there are open ones and 16.
pub record AreClosed (closed : ℕ) (places : List ℕ) : Type 0 where
  pub within : closed ≤ length places
  pub few : closed ≤ (length places - closed) + 16
