-- Reads, by what they answer.
use Rattle.std.specs.Prelude.{◌≡◌, ◌⊎◌, ◌^◌, ◌&&◌, ℕ, List, [], Bool, true, false, nat_le, Option, Some, None, Result, IsSomeAnd, IfSome, is_none, option_map, option_and_then, map}
use Rattle.std.specs.Option.{option_map_or}
use Rattle.pps_types.specs.declared.event.Request.TheVariants.{Read}
use Rattle.pps_types.specs.declared.line.Line.{Line}
use Rattle.pps_types.specs.declared.refusal.Refusal.{Refusal}
use Rattle.pps_types.specs.declared.refusal.Refusal.TheVariants.{OutOfMemory}
use Rattle.pps_types.specs.Names.{refusal_of}
use Rattle.pps_types.specs.History.{line_of}
use Rattle.pps_types.specs.Reading.{OpenHandle, Answer, Everything, Blocks, Needs, Waits}
use Rattle.pps_types.specs.Rests as rests
use Rattle.pps_types.specs.Rests.{Progress}
use Rattle.pps_types.specs.Owed.{owed_in_seen}
use Rattle.pps_types.specs.Content.{Content, LiveObject, own_handle, read_answer, news}
use Rattle.pps_types.specs.Refused.{IsRefusedAs}
use Rattle.name_table.specs.Standing.{Placed, known_of}
use Rattle.sub_reader.specs.Opened.{handle_at}
use Rattle.notify_box.specs.Standing.{CanPark}
use Rattle.whole_texts.specs.declared.answer.Effect.TheVariants.{Parks}
use Rattle.server_queue.specs.declared.plan.GivenBlocks.{GivenBlocks}
use Rattle.whole_texts.specs.Answered.{Owes, moves_of, refusal_in}
use Rattle.whole_texts.specs.Whole.{Source, source_of}
use Rattle.service_state.specs.Tables.{Tabled, content_in}
use Rattle.service_state.specs.Refused.{effect_in}
use Rattle.handle_requests.specs.declared.reading.ReadDone.{ReadDone}
use Rattle.handle_requests.specs.Own.{IfOwn}

-- the size that an answer needs is no number of 32 bits
abbrev pub is_too_long : Answer → Bool
is_too_long (Needs n) = nat_le (2 ^ 32) n
is_too_long a = false

-- making an answer takes memory
abbrev pub takes_memory : Answer → Bool
takes_memory (Everything text) = true
takes_memory (Blocks count text) = true
takes_memory (Needs n) = nat_le (2 ^ 32) n
takes_memory a = false

abbrev pub text_in : Answer → List ℕ
text_in (Everything text) = text
text_in (Blocks count text) = text
text_in a = []

abbrev pub waits : Answer → Bool
waits Waits = true
waits a = false

-- an answer is a refusal, or memory for it is wanting
abbrev pub Refuses : Answer → Refusal → Type 0
Refuses a r = (refusal_in a ≡ Some r) ⊎ ((r ≡ OutOfMemory) × (takes_memory a ≡ true))

-- the handle reads, and everything of its target is read from this
pub record IsReader (c : Content) (waits : Bool) (w : Source) (handle : OpenHandle Progress) : Type 0 where
  pub reads : handle.reads ≡ true
  pub wait : handle.options.wait ≡ waits
  pub source : w ≡ source_of c handle

-- nothing is owed of a list, and there is news
abbrev pub is_given_all : Option (OpenHandle Progress) → Bool
is_given_all found =
    is_none (option_and_then (λ (handle : OpenHandle Progress). owed_in_seen handle handle.seen) found) && option_map_or news found false

-- The handle is the connection's own and reads, no read waits on it, and this is its answer to a read of that size, which is one
-- that may be asked.
pub record IsRead (c : Content) (size : ℕ) (a : Answer) (handle : OpenHandle Progress) : Type 0 where
  pub reads : handle.reads ≡ true
  pub size_fits : (nat_le 1 size && nat_le size 17000000) ≡ true
  pub free : handle.parked ≡ None
  pub answer : a ≡ read_answer c handle size
  pub given : refusal_in a ≡ None

abbrev pub IsAnswered : Content → ℕ → ℕ → ℕ → Answer → Type 0
IsAnswered c conn handle size a = IsSomeAnd (own_handle c conn handle) (IsRead c size a)

-- ---- refusals of a read that gives this answer

-- where memory does not lack, it is refused as the answer is, or not at all
abbrev pub RefusesAs : {X : Type 0} → Result X Refusal → Answer → Type 0
RefusesAs given a = IsRefusedAs given (refusal_in a)

-- memory lacks only where the answer takes some
abbrev pub LacksMemoryFor : {X : Type 0} → Result X Refusal → Answer → Type 0
LacksMemoryFor given a = refusal_of given ≡ Some OutOfMemory → takes_memory a ≡ true

-- ---- of the connection's own handle, where it has one of that number

-- this answers a read of that size
abbrev pub IsReadAnswer : Tabled → ℕ → ℕ → ℕ → Answer → Type 0
IsReadAnswer t conn number size a = IfOwn t conn number (λ handle. a ≡ read_answer (content_in t) handle size)

-- a read of that size is refused so
abbrev pub RefusesRead : Tabled → ℕ → ℕ → ℕ → Refusal → Type 0
RefusesRead t conn number size r = IfOwn t conn number (λ handle. Refuses (read_answer (content_in t) handle size) r)

-- it reads, it waits or not as is said, and everything of its target is read from this
abbrev pub ReadsFrom : Tabled → ℕ → ℕ → Bool → Source → Type 0
ReadsFrom t conn handle wait w = IfOwn t conn handle (IsReader (content_in t) wait w)

-- an object's attributes as lines, where it is alive
abbrev pub attribute_lines : Option Placed → List Line
attribute_lines x = map line_of (option_map_or (λ (o : LiveObject). o.attributes) (option_map known_of x) [])

-- ---- of the handle of a number among these, where it reads

-- this is what a read of that size gives it of what it is owed
abbrev pub IsOwedAt : ℕ → List (OpenHandle Progress) → ℕ → Option GivenBlocks → Type 0
IsOwedAt number handles size owed = IfSome (handle_at number handles) (λ handle. handle.reads ≡ true → Owes size handle handle.seen owed)

-- a read of that size is refused so, whatever everything is
abbrev pub RefusesAt : ℕ → List (OpenHandle Progress) → ℕ → Refusal → Type 0
RefusesAt number handles size r = IfSome (handle_at number handles)
    (λ handle. handle.reads ≡ true → (everything : List ℕ) (dead : Bool) → Refuses (rests.answer handle handle.seen everything dead size) r)

-- ---- what a read does

-- this is what a read of that size answers and leaves of its handle, where no check refuses it
abbrev pub IsReadEffect : Tabled → ℕ → ℕ → ℕ → ReadDone → Type 0
IsReadEffect t conn handle size d = effect_in t conn (Read handle size) ≡ (d.reply, moves_of handle d.effect)

-- where it waits, there is room for it
abbrev pub HasReadRoom : Tabled → ℕ → ℕ → ReadDone → Type 0
HasReadRoom t conn handle d = (asked : ℕ) → d.effect ≡ Parks asked → CanPark conn handle t.connections
