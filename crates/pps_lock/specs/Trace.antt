-- A trace of events with their answers, and what it tells of what stood before it and what stands after it.
use Rattle.std.specs.Prelude.{◌≡◌, ◌≤◌, ◌⊎◌, ℕ, ◌+◌, ◌-◌, ◌^◌, List, [], ◌∷◌, ◌++◌, All, Some, OnErr, length, take, slice_get}
use Rattle.pps_types.specs.declared.event.Event.{Event}
use Rattle.pps_types.specs.declared.refusal.Refusal.{Refusal}
use Rattle.pps_types.specs.declared.refusal.Refusal.TheVariants.{OutOfMemory, TableFull}
use Rattle.pps_types.specs.Outcome.{Reply, IsSendable}
use Rattle.pps_types.specs.Content.{Content}
use Rattle.pps_types.specs.Runs.{Answered}
use Rattle.pps_types.specs.Stands.{Steps, StepsSeen, RunsSeen}
use Rattle.pps_lock.specs.declared.book.Receipt.{Receipt}

-- one entry
abbrev pub answer_to : Event → Reply → Answered
answer_to event reply = record { event = event; reply = reply }

-- the name of an entry
abbrev pub receipt : ℕ → ℕ → Receipt
receipt segment index = record { segment = segment; index = index }

-- Asked the events of the trace in their order, what stood before gives just these answers and comes to what stands after.
-- This is of contents: by the law `steps_stand` it is so of each machine that the base stands for. Each answer fits a frame.
pub record Replays (base : Content) (trace : List Answered) (engine : Content) : Type 0 where
  pub seen : RunsSeen base trace engine
  pub sends : All (λ x. IsSendable x.reply) trace

-- what holds of each book: its trace replays, and the memory for as many entries as it may have is there
pub record IsKept (base : Content) (trace : List Answered) (engine : Content) (limit capacity : ℕ) : Type 0 where
  pub replays : Replays base trace engine
  pub within : length trace ≤ limit
  pub room : limit ≤ capacity

-- A book, as callers see it: what stands, what stood when the trace was empty, the trace, the number that its segment will
-- have, and how many entries it may have.
pub record Log : Type 0 where
  pub engine : Content
  pub base : Content
  pub trace : List Answered
  pub number : ℕ
  pub limit : ℕ

-- a segment, as callers see it
pub record Piece : Type 0 where
  pub number : ℕ
  pub base : Content
  pub entries : List Answered
  pub end : Content

-- the book whose trace begins here
abbrev pub emptied : Content → ℕ → ℕ → Log
emptied c number limit = record { engine = c; base = c; trace = []; number = number; limit = limit }

-- the segment that a book's trace makes
abbrev pub numbered : Log → Piece
numbered b = record { number = b.number; base = b.base; entries = b.trace; end = b.engine }

-- ---- a step of a book

-- the name of the entry that comes next
abbrev pub next_receipt : Log → Receipt
next_receipt b = receipt b.number (length b.trace)

-- the trace has this entry more
abbrev pub AddsEntry : (old new : Log) → Event → Reply → Type 0
AddsEntry old new event reply = new.trace ≡ old.trace ++ answer_to event reply ∷ []

-- the engine made this step
abbrev pub StepsLog : Log → Event → Reply → Log → Type 0
StepsLog old event reply new = Steps old.engine event reply new.engine

-- the same of contents
abbrev pub StepsLogSeen : Log → Event → Reply → Log → Type 0
StepsLogSeen old event reply new = StepsSeen old.engine event reply new.engine

-- the segment that its trace will be is the same: what was there before its first entry, its number, and its most entries
abbrev pub KeepsSegment : (old new : Log) → Type 0
KeepsSegment old new = (new.base ≡ old.base) × (new.number ≡ old.number) × (new.limit ≡ old.limit)

-- The trace has one entry more, of this event, with an answer that the engine gave it in this step. It fits a frame, and after a
-- refusal the engine is as it was.
pub record Enters (old new : Log) (event : Event) : Type 0 where
  pub reply : Reply
  pub added : AddsEntry old new event reply
  pub steps : StepsLog old event reply new
  pub seen : StepsLogSeen old event reply new
  pub kept : OnErr reply (new.engine ≡ old.engine)
  pub sends : IsSendable reply

-- the trace has no room for an entry more: what was given comes back, and nothing is changed
abbrev pub FindsNoRoom : {E : Type 0} → (old new : Log) → (given back : E) → Type 0
FindsNoRoom old new given back = (back ≡ given) × (new ≡ old) × (length old.trace ≡ old.limit)

-- ---- a cut

-- the book after it, with the next number
abbrev pub next_book : Log → Log
next_book b = emptied b.engine (b.number + 1) b.limit

-- why it is refused
abbrev pub RefusesCut : Log → Refusal → Type 0
RefusesCut b r = (r ≡ OutOfMemory) ⊎ ((r ≡ TableFull) × (b.number ≡ 2 ^ 64 - 1))

-- ---- receipts

-- At the place that the receipt names, a segment that replays has the event with this answer as its entry.
pub record IsRecorded (event : Event) (reply : Reply) (place : Receipt) : Type 0 where
  pub segment : Piece
  pub number : segment.number ≡ place.segment
  pub replays : Replays segment.base segment.entries segment.end
  pub entry : slice_get segment.entries place.index ≡ Some (answer_to event reply)

-- the same with some answer
pub record IsEntered (event : Event) (place : Receipt) : Type 0 where
  pub reply : Reply
  pub recorded : IsRecorded event reply place

-- each of these events, with some answer, at the place that is named for it
abbrev pub AreEntered : List Event → List Receipt → Type 0
AreEntered [] [] = Unit {0}
AreEntered (event ∷ events) (place ∷ places) = IsEntered event place × AreEntered events places
AreEntered _ _ = ⊥

-- the names are those of before, and then the places of these events, in their order
pub record EntersAll (events : List Event) (old new : List Receipt) : Type 0 where
  pub names : List Receipt
  pub added : new ≡ old ++ names
  pub entered : AreEntered events names

-- the same of so many of the events, from the first one on
pub record EntersFirst (events : List Event) (old new : List Receipt) : Type 0 where
  pub count : ℕ
  pub within : count ≤ length events
  pub entered : EntersAll (take count events) old new
