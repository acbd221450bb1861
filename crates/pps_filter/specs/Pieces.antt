-- The pieces of what stands behind a separator, where there was one.
use Rattle.std.specs.Prelude.{ℕ, List, [], Option, Some, None, false}
use Rattle.pps_types.specs.Bytes.{plain_pieces}

abbrev pub pieces_left : ℕ → Option (List ℕ) → List (List ℕ)
pieces_left separator None = []
pieces_left separator (Some rest) = plain_pieces false separator rest
