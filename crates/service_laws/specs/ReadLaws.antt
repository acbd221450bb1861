-- The laws of reads, in the plain words: what a read replies and where it leaves the cursor, and whose pulses and parked reads an event answers. Own.
use Rattle.std.specs.Prelude.{◌≡◌, ℕ, List, [], ◌++◌, Bool, true, false, not, ◌&&◌, ◌==◌, if◌then◌else◌, Option, Some, None, is_some, Ok, Err, nat_le, find, length, drop}
use Rattle.std.specs.Option.{option_map_or, option_or}
use Rattle.std.specs.List.{flat_map}
use Rattle.pps_types.specs.declared.event.Event.{Event}
use Rattle.pps_types.specs.declared.event.Request.TheVariants.{Read}
use Rattle.pps_types.specs.declared.outcome.Outcome.{Outcome}
use Rattle.pps_types.specs.declared.outcome.Outcome.TheVariants.{Data, Parked}
use Rattle.pps_types.specs.declared.refusal.Refusal.{Refusal}
use Rattle.pps_types.specs.declared.refusal.Refusal.TheVariants.{BadMode, BadArgument, ReadPending, TooSmall, Gone, TableFull}
use Rattle.pps_types.specs.Outcome.{Reply}
use Rattle.pps_types.specs.History.{Entry}
use Rattle.pps_types.specs.Reading.{OpenHandle, style, is_full_style, Answer, Everything, Blocks, Needs, TargetGone, Waits, Nothing}
use Rattle.pps_types.specs.Outbox.{park_refusal}
use Rattle.pps_types.specs.Content.{outbox_of}
use Rattle.pps_types.specs.Checks.{first_refusal}
use Rattle.pps_types.specs.Plan.{Move, on_numbered, fired, late_reply, all_checks_of, passes_last_number, effect, settling}
use Rattle.pps_types.specs.Machine.{Machine, IsMachine, content_of, passed, step, apply_all}
use Rattle.pps_types.specs.Owed.{owed, is_past_limit, has_news, answer_of}

-- ---- where a cursor goes

-- the connection's handle of that number
abbrev pub own_handle : Machine → ℕ → ℕ → Option (OpenHandle (Option ℕ))
own_handle m conn number = find (λ handle. (handle.number == number) && (handle.connection == conn)) m.handles

-- a cursor from which a handle is owed what it was owed but for the first n
abbrev pub IsPast : OpenHandle (Option ℕ) → List Entry → ℕ → ℕ → Type 0
IsPast handle history n cursor = owed handle history (Some cursor) ≡ drop n (owed handle history handle.seen)

-- What an accepted read of that size is told by its answer, and the handle that it leaves. After everything the cursor is at the end of the
-- history, and after n blocks past the first n records that were owed. A read that waits is parked; one that gives nothing leaves all.
abbrev pub IsReadAs : Machine → OpenHandle (Option ℕ) → ℕ → Answer → Outcome → OpenHandle (Option ℕ) → Type 0
IsReadAs m handle size (Everything text) outcome after = (outcome ≡ Data text) × (after ≡ record handle { seen = Some (length m.history) })
IsReadAs m handle size (Blocks n text) outcome after =
    (outcome ≡ Data text) × ((cursor : ℕ) × IsPast handle m.history n cursor × (after ≡ record handle { seen = Some cursor }))
IsReadAs m handle size Waits outcome after = (outcome ≡ Parked) × (after ≡ record handle { parked = Some size })
IsReadAs m handle size Nothing outcome after = (outcome ≡ Data []) × (after ≡ handle)
IsReadAs m handle size (Needs need) outcome after = ⊥
IsReadAs m handle size TargetGone outcome after = ⊥

-- the machine is the same but for that handle, which is found in its place, left as the answer says
pub record ReadMoves (m : Machine) (handle : OpenHandle (Option ℕ)) (size : ℕ) (outcome : Outcome) (next : Machine) : Type 0 where
  pub after : OpenHandle (Option ℕ)
  pub moved : IsReadAs m handle size (answer_of m handle size) outcome after
  pub found : own_handle next handle.connection handle.number ≡ Some after
  pub rest : next ≡ record m { handles = on_numbered handle.number (λ g. after) m.handles }

-- why its answer refuses a read: it needs more room, its object is gone, or no more may wait
abbrev pub answer_refusal : Machine → OpenHandle (Option ℕ) → Answer → Option Refusal
answer_refusal m handle (Needs need) = Some (TooSmall need)
answer_refusal m handle TargetGone = Some Gone
answer_refusal m handle Waits = park_refusal (outbox_of (content_of m) handle.connection) handle.number
answer_refusal m handle _ = None

-- Why a read of that size is refused, if it is: the handle does not read, the size is not 1 to 17,000,000, a read is parked already,
-- its answer refuses it, or the last number of all is passed. The first of these is the reason.
abbrev pub read_refusal : Machine → OpenHandle (Option ℕ) → ℕ → Option Refusal
read_refusal m handle size =
    option_or
    (if not handle.reads then Some BadMode
    else if not (nat_le 1 size && nat_le size 17000000) then Some BadArgument
    else if is_some handle.parked then Some ReadPending
    else answer_refusal m handle (answer_of m handle size))
    (if passes_last_number (content_of m) then Some TableFull else None)

-- a refused read changes nothing
abbrev pub ReadLeaves : Machine → OpenHandle (Option ℕ) → ℕ → Reply → Machine → Type 0
ReadLeaves m handle size (Err refusal) next = (read_refusal m handle size ≡ Some refusal) × (next ≡ m)
ReadLeaves m handle size (Ok outcome) next = (read_refusal m handle size ≡ None) × ReadMoves m handle size outcome next

-- blocks: behind n blocks a handle is owed what it was owed but for the first n.
-- everything: at the end of the history nothing is owed.
-- reads: what each read of a handle of the connection's own replies and leaves.
pub record CursorsMove : Type 0 where
  pub blocks : (handle : OpenHandle (Option ℕ)) (history : List Entry) (n : ℕ) (cursor : Option ℕ)
      → is_full_style (style handle.kind) ≡ false → is_past_limit handle (owed handle history cursor) ≡ false
      → owed handle history (passed handle history n cursor) ≡ drop n (owed handle history cursor)
  pub everything : (handle : OpenHandle (Option ℕ)) (history : List Entry) → owed handle history (Some (length history)) ≡ []
  pub reads : (m : Machine) → IsMachine m → (conn number size : ℕ) (handle : OpenHandle (Option ℕ)) → own_handle m conn number ≡ Some handle
      → let done = step m (record { conn = conn; request = Read number size }) in
      ReadLeaves m handle size done.0 done.1

-- ---- what follows an event

-- whether the handle of that number had news; without such a handle there was none
abbrev pub had_news_of : Machine → ℕ → Bool
had_news_of before number =
    option_map_or (λ handle. has_news handle before.history handle.seen) (find (λ handle. handle.number == number) before.handles) false

-- it had no news before, and has some now
abbrev pub gets_news : Machine → Machine → OpenHandle (Option ℕ) → Bool
gets_news before now handle = not (had_news_of before handle.number) && has_news handle now.history handle.seen

-- a handle that gets news: first its pulse is queued and disarmed, then its parked read is given the machine's answer and ends
abbrev pub follows_for : Machine → Machine → OpenHandle (Option ℕ) → List Move
follows_for before now handle =
    if gets_news before now handle then fired handle ++ option_map_or (λ size. late_reply handle (answer_of now handle size)) handle.parked [] else []

-- for each handle, in order
abbrev pub what_follows : Machine → Machine → List Move
what_follows before now = flat_map (follows_for before now) now.handles

-- ---- how handles stand then

-- A handle whose parked read is given this answer: its cursor moves as by a read, and it has no parked read and no pulse any more.
-- With news there always is an answer.
abbrev pub IsAnsweredAs : Machine → OpenHandle (Option ℕ) → Answer → OpenHandle (Option ℕ) → Type 0
IsAnsweredAs now handle (Everything text) after = after ≡ record handle { seen = Some (length now.history); parked = None; armed = None }
IsAnsweredAs now handle (Blocks n text) after =
    (cursor : ℕ) × IsPast handle now.history n cursor × (after ≡ record handle { seen = Some cursor; parked = None; armed = None })
IsAnsweredAs now handle (Needs need) after = after ≡ record handle { parked = None; armed = None }
IsAnsweredAs now handle _ after = ⊥

-- a handle that gets news, by the size of its parked read
abbrev pub IsAwokenAs : Machine → OpenHandle (Option ℕ) → Option ℕ → OpenHandle (Option ℕ) → Type 0
IsAwokenAs now handle None after = after ≡ record handle { armed = None }
IsAwokenAs now handle (Some size) after = IsAnsweredAs now handle (answer_of now handle size) after

-- a handle that gets none stays as it is
abbrev pub IsSettledAs : Machine → OpenHandle (Option ℕ) → Bool → OpenHandle (Option ℕ) → Type 0
IsSettledAs now handle true after = IsAwokenAs now handle handle.parked after
IsSettledAs now handle false after = after ≡ handle

-- the handle of that number, after what follows
pub record Settles (before now next : Machine) (number : ℕ) (handle : OpenHandle (Option ℕ)) : Type 0 where
  pub after : OpenHandle (Option ℕ)
  pub found : find (λ g. g.number == number) next.handles ≡ Some after
  pub settled : IsSettledAs now handle (gets_news before now handle) after

-- moves: what stands before and after says what follows.
-- steps: an event that no check refuses has its own moves, and then what follows from them.
-- handles: so each handle is settled.
-- records: what follows is no record.
pub record SettlingIsTold : Type 0 where
  pub moves : (before now : Machine) → settling (content_of before) (content_of now) ≡ what_follows before now
  pub steps : (m : Machine) → IsMachine m → (e : Event) → first_refusal (all_checks_of (content_of m) e) ≡ None
      → let done = effect (content_of m) e.conn e.request in
      let now = apply_all done.1 m in
      step m e ≡ (Ok done.0, apply_all (what_follows m now) now)
  pub handles : (m : Machine) → IsMachine m → (e : Event) → first_refusal (all_checks_of (content_of m) e) ≡ None
      → let now = apply_all (effect (content_of m) e.conn e.request).1 m in
      (number : ℕ) (handle : OpenHandle (Option ℕ)) → find (λ g. g.number == number) now.handles ≡ Some handle → Settles m now (step m e).1 number handle
  pub records : (m : Machine) → IsMachine m → (e : Event) → first_refusal (all_checks_of (content_of m) e) ≡ None
      → (step m e).1.history ≡ (apply_all (effect (content_of m) e.conn e.request).1 m).history
