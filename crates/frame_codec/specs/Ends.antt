-- How a stream of requests ends.
use Rattle.std.specs.Prelude.{◌≡◌, ◌≢◌, ℕ, List, [], Option}
use Rattle.std.specs.Io.KnownBytes.{IsAtEnd}
use Rattle.pps_types.specs.Frame.{IsPartial, IsMalformed}
use Rattle.frame_codec.specs.declared.ends.Ended.{Ended}
use Rattle.frame_codec.specs.declared.ends.Ended.TheVariants.{Clean, Malformed, Truncated}

-- what stands behind the whole frames, and whether all was read
abbrev pub IsTail : Ended → List ℕ → Option (List ℕ) → Type 0
IsTail Clean tail left = (tail ≡ []) × IsAtEnd left
IsTail Truncated tail left = (tail ≢ []) × IsPartial tail × IsAtEnd left
IsTail Malformed tail left = IsMalformed tail
