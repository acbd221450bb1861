-- Whose queue it is.
use Rattle.std.specs.Prelude.{◌≡◌, List, [], ◌∷◌, true}
use Rattle.pps_types.specs.History.{Entry}
use Rattle.pps_types.specs.Reading.{OpenHandle, Queue, style, visible}
use Rattle.pps_types.specs.Rests.{Progress}

-- each is visible to the handle
abbrev pub AllVisible : OpenHandle Progress → List Entry → Type 0
AllVisible handle [] = Unit {0}
AllVisible handle (e ∷ es) = (visible handle e ≡ true) × AllVisible handle es

-- these are owed to a server's or a client's handle
pub record IsOwedTo (handle : OpenHandle Progress) (owed : List Entry) : Type 0 where
  pub kind : style handle.kind ≡ Queue
  pub seen : AllVisible handle owed
