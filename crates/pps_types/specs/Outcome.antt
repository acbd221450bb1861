-- What an event is answered, and which answers carry bytes, so that one more share of them takes memory. Own.
use Rattle.std.specs.Prelude.{◌≤◌, Bool, true, false, Result, Ok, Err, length}
use Rattle.pps_types.specs.declared.outcome.Item.{Item}
use Rattle.pps_types.specs.declared.outcome.Item.TheVariants.{ReadDone}
use Rattle.pps_types.specs.declared.outcome.Outcome.{Outcome}
use Rattle.pps_types.specs.declared.outcome.Outcome.TheVariants.{Data, Item as ItemOutcome}
use Rattle.pps_types.specs.declared.refusal.Refusal.{Refusal}
use Rattle.pps_types.specs.declared.refusal.Refusal.TheVariants.{OutOfMemory}

-- a late reply of bytes
abbrev pub item_has_bytes : Item → Bool
item_has_bytes (ReadDone handle (Ok bytes)) = true
item_has_bytes _ = false

abbrev pub has_bytes : Outcome → Bool
has_bytes (Data bytes) = true
has_bytes (ItemOutcome item) = item_has_bytes item
has_bytes _ = false

-- what an event is answered
abbrev pub Reply : Type 0
Reply = Result Outcome Refusal

-- an answer for want of memory
abbrev pub is_marked : Reply → Bool
is_marked (Err OutOfMemory) = true
is_marked _ = false

-- The bytes of an answer fit a frame of an answer, which holds 17,000,000 of them.
abbrev pub IsSendable : Reply → Type 0
IsSendable (Ok (Data bytes)) = length bytes ≤ 17000000
IsSendable (Ok (ItemOutcome (ReadDone handle (Ok bytes)))) = length bytes ≤ 17000000
IsSendable _ = Unit {0}
