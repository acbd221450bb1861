-- What is encoded: answers by their parts, and requests that have no frame.
use Rattle.std.specs.Prelude.{◌<◌, ℕ, List, ◌∷◌, length, Result, Ok}
use Rattle.pps_types.specs.declared.event.Event.{Event}
use Rattle.pps_types.specs.declared.outcome.Item.TheVariants.{ReadDone}
use Rattle.pps_types.specs.declared.outcome.Outcome.TheVariants.{Item}
use Rattle.pps_types.specs.declared.refusal.Refusal.{Refusal}
use Rattle.pps_types.specs.Outcome.{Reply}
use Rattle.pps_types.specs.Frame.{longest_body, event_body, answer_tag, answer_fields}

-- the late answer to a read by this handle
abbrev pub late_answer : ℕ → Result (List ℕ) Refusal → Reply
late_answer handle late = Ok (Item (ReadDone handle late))

-- an answer's tag, and its fields
abbrev pub tagged_fields : Reply → List ℕ
tagged_fields answer = answer_tag answer ∷ answer_fields answer

-- its body is too long for a frame
abbrev pub IsTooLong : Event → Type 0
IsTooLong event = longest_body < length (event_body event)
