-- What is read already, in front of what is still to be read.
use Rattle.std.proofs.Common.{List, ◌++◌, Option}
use Rattle.std.specs.Prelude.{option_map}

abbrev pub before : {X : Type 0} → List X → Option (List X) → Option (List X)
before xs o = option_map (λ rest. xs ++ rest) o
