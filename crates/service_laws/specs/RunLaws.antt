-- The laws of moves, of runs and of marks, and which records have to be kept, each the contract of a function that does nothing.
use Rattle.std.specs.Prelude.{◌≡◌, ◌==◌, ℕ, List, [], ◌∷◌, ◌++◌, Bool, true, false, Option, Some, Err, length, map, filter, find}
use Rattle.std.specs.List.{list_any, AllByRecursion}
use Rattle.pps_types.specs.declared.event.Event.{Event}
use Rattle.pps_types.specs.declared.event.Request.{Request}
use Rattle.pps_types.specs.declared.refusal.Refusal.{Refusal}
use Rattle.pps_types.specs.Outcome.{Reply, is_marked}
use Rattle.pps_types.specs.Content.{Content}
use Rattle.pps_types.specs.Checks.{first_refusal, checks}
use Rattle.pps_types.specs.WellFormed.{IsContent}
use Rattle.pps_types.specs.Plan.{Move, plan, apply_all_seen, step_seen}
use Rattle.pps_types.specs.Machine.{Machine, IsMachine, IsMade, AreLawful, AreAlive, content_of, apply_all, step, marked_step}
use Rattle.pps_types.specs.Runs.{Answered, IsReply, IsRun, answered, events_of, replies, replies_seen, after, after_seen, end_of}
use Rattle.pps_types.specs.Stands.{StepsSeen, RunsSeen, Runs, marked_seen}
use Rattle.pps_types.specs.Merge.{Session, IsMerge, with_event}
use Rattle.pps_types.specs.History.{Entry}
use Rattle.pps_types.specs.Reading.{OpenHandle, visible}
use Rattle.pps_types.specs.Owed.{owed, is_past_limit, is_of, kept_records, kept_records_seen, longest}

-- ---- which records have to be kept

-- What stands has just the records that have to be kept, and their number is the length of the longest rest. All that is owed to a delta or
-- names handle of the object or directory, not past its limit, is kept: of what is kept and it sees, it is owed all from somewhere on.
pub record RecordsAreKept : Type 0 where
  pub records : (m : Machine) (directory : Bool) (target : ℕ) → kept_records_seen (content_of m) directory target ≡ kept_records m directory target
  pub count : (c : Content) (directory : Bool) (target : ℕ) → length (kept_records_seen c directory target) ≡ longest directory target c.handles
  pub owed_are_kept : (m : Machine) (directory : Bool) (target number : ℕ) (handle : OpenHandle (Option ℕ))
      → find (λ handle. handle.number == number) m.handles ≡ Some handle
      → is_of directory target handle ≡ true → is_past_limit handle (owed handle m.history handle.seen) ≡ false
      → (read : List Entry) × (filter (visible handle) (kept_records m directory target) ≡ read ++ owed handle m.history handle.seen)

-- ---- moves

-- each plan creates objects with the next number alone, and where what stands is well formed, opens and tells only of what is alive
pub record PlansAreLawful : Type 0 where
  pub lawful : (c : Content) (e : Event) → AreLawful c.next_object (plan c e).1
  pub alive : (c : Content) → IsContent c → (e : Event) → AreAlive c (plan c e).1

-- Lawful moves of what is alive keep what a machine is made of, and what stands after them is what they make of what stood before.
-- So between any two moves of an event, what stands of the machine is what the moves so far make of what stood.
pub record MovesAreShown : Type 0 where
  pub apart : (m : Machine) → IsMachine m → IsMade m × IsContent (content_of m)
  pub whole : (m : Machine) → IsMade m → IsContent (content_of m) → IsMachine m
  pub stays : (m : Machine) → IsMade m → (moves : List Move) → AreLawful (length m.objects) moves → AreAlive (content_of m) moves → IsMade (apply_all moves m)
  pub agrees : (m : Machine) → IsMade m → (moves : List Move) → AreLawful (length m.objects) moves → AreAlive (content_of m) moves
      → content_of (apply_all moves m) ≡ apply_all_seen moves (content_of m)
  pub between : (m : Machine) → IsMachine m → (e : Event) (done left : List Move) → (plan (content_of m) e).1 ≡ done ++ left
      → content_of (apply_all done m) ≡ apply_all_seen done (content_of m)

-- ---- marks

-- what a check refuses is no want of memory
abbrev pub ChecksWantNothing : Type 0
ChecksWantNothing = (c : Content) (conn : ℕ) (request : Request) (r : Refusal) → first_refusal (checks c conn request) ≡ Some r → is_marked (Err r) ≡ false

-- no event is answered OutOfMemory by itself, so that a reply is OutOfMemory just where the event is marked
pub record WantsAreMarked : Type 0 where
  pub unmarked : (m : Machine) (e : Event) → is_marked (step m e).0 ≡ false
  pub unmarked_seen : (c : Content) (e : Event) → is_marked (step_seen c e).0 ≡ false
  pub just : (m : Machine) (e : Event) (mark : Bool) → is_marked (marked_step m e mark).0 ≡ mark
  pub just_seen : (c : Content) (e : Event) (mark : Bool) → is_marked (marked_seen c e mark).0 ≡ mark

-- ---- lists of events

-- the replies to a list of events are the replies of what stands, and what stands after them is what they leave of it
abbrev pub RepliesAreShown : Type 0
RepliesAreShown = (m : Machine) → IsMachine m → (es : List Event) → (replies m es ≡ replies_seen (content_of m) es) × (content_of (after m es) ≡ after_seen (content_of m) es)

-- a list of events with its replies is a run, whose end is what stands after them; and a run without marks is no other
pub record RepliesAreRuns : Type 0 where
  pub events : (m : Machine) (es : List Event) → events_of (answered es (replies m es)) ≡ es
  pub runs : (m : Machine) (es : List Event) → IsRun m (answered es (replies m es))
  pub ends : (m : Machine) (es : List Event) → end_of m (answered es (replies m es)) ≡ after m es
  pub seen : (c : Content) (es : List Event) → RunsSeen c (answered es (replies_seen c es)) (after_seen c es)
  pub only : (m : Machine) (run : List Answered) → IsRun m run → AllByRecursion (λ x. is_marked x.reply ≡ false) run → run ≡ answered (events_of run) (replies m (events_of run))

-- ---- one run behind another

-- two runs, one from where the other ends, are a run, and each run is such two wherever it is cut; so with one more event at the end
pub record RunsJoin : Type 0 where
  pub joined : (m : Machine) (first second : List Answered) → IsRun m first → IsRun (end_of m first) second → IsRun m (first ++ second)
  pub parted : (m : Machine) (first second : List Answered) → IsRun m (first ++ second) → IsRun m first × IsRun (end_of m first) second
  pub ends : (m : Machine) (first second : List Answered) → end_of m (first ++ second) ≡ end_of (end_of m first) second
  pub one_more : (m : Machine) (run : List Answered) (x : Answered) → IsRun m run → IsReply (end_of m run) x.event x.reply → IsRun m (run ++ x ∷ [])

-- the same of contents, and of the machines that they stand for
pub record SeenRunsJoin : Type 0 where
  pub joined : (old middle new : Content) (first second : List Answered) → RunsSeen old first middle → RunsSeen middle second new → RunsSeen old (first ++ second) new
  pub parted : (old new : Content) (first second : List Answered) → RunsSeen old (first ++ second) new → (middle : Content) × RunsSeen old first middle × RunsSeen middle second new
  pub one_more : (old middle new : Content) (run : List Answered) (e : Event) (reply : Reply) → RunsSeen old run middle → StepsSeen middle e reply new
      → RunsSeen old (run ++ record { event = e; reply = reply } ∷ []) new
  pub machines : (old middle new : Content) (first second : List Answered) → Runs old first middle → Runs middle second new → Runs old (first ++ second) new

-- ---- merges

-- Before anything is sent, the empty trace is a merge of the sessions of any connections. One more entry of a session's connection, at the
-- end of the trace and of the session, is a merge again, of the same connections' sessions; and so is one more session of a new connection.
pub record MergesGrow : Type 0 where
  pub begins : (connections : List ℕ) → IsMerge [] (map (λ n. record { connection = n; events = [] }) connections)
  pub grows : (trace : List Answered) (sessions : List Session) (x : Answered) → IsMerge trace sessions → list_any (λ s. s.connection == x.event.conn) sessions ≡ true
      → IsMerge (trace ++ x ∷ []) (map (with_event x.event) sessions)
  pub same : (e : Event) (sessions : List Session) → map (λ s. s.connection) (map (with_event e) sessions) ≡ map (λ s. s.connection) sessions
  pub attaches : (trace : List Answered) (sessions : List Session) (conn : ℕ) → IsMerge trace sessions → list_any (λ s. s.connection == conn) sessions ≡ false
      → IsMerge trace (sessions ++ record { connection = conn; events = [] } ∷ [])
