-- The laws of the service, each the contract of a function that does nothing.
use Rattle.std.specs.Prelude.{◌≡◌, ◌≤◌, ℕ, ◌+◌, List, [], ◌∷◌, ◌++◌, Bool, true, false, if◌then◌else◌, Option, Some, None, Ok, Err, length}
use Rattle.pps_types.specs.declared.event.Event.{Event}
use Rattle.pps_types.specs.declared.refusal.Refusal.{Refusal}
use Rattle.pps_types.specs.Outcome.{Reply}
use Rattle.pps_types.specs.Names.{Path}
use Rattle.pps_types.specs.History.{Entry}
use Rattle.pps_types.specs.Reading.{OpenHandle, visible, style, is_full_style}
use Rattle.pps_types.specs.Rests.{seen_with, news_in, is_over, owed_in}
use Rattle.pps_types.specs.Content.{Content, queue_of, handles_of, read_answer}
use Rattle.pps_types.specs.Checks.{first_refusal}
use Rattle.pps_types.specs.Plan.{all_checks_of, effect, settling, apply_all_seen, step_seen}
use Rattle.pps_types.specs.WellFormed.{IsContent}
use Rattle.pps_types.specs.Machine.{Machine, IsMachine, start, content_of, shown_handle, step, marked_step, apply_all}
use Rattle.pps_types.specs.Runs.{Answered, IsRun, after, after_seen, end_of, replies_to, queued_in}
use Rattle.pps_types.specs.Privacy.{Agree}
use Rattle.pps_types.specs.Stands.{StepsSeen, Steps, RunsSeen, Runs}
use Rattle.pps_types.specs.Image.{Image, IsImage, read_image, started, started_seen}
use Rattle.pps_types.specs.Owed.{owed, is_past_limit, has_news, answer_of, owed_by, owed_by_seen, kept, kept_seen}

-- ---- the machine and what stands of it

-- the start is well formed, and each event keeps a machine well formed, marked or not
pub record MachinesStay : Type 0 where
  pub begins : (first_handle default_limit : ℕ) → IsMachine (start first_handle default_limit)
  pub stays : (m : Machine) → IsMachine m → (e : Event) → IsMachine (step m e).1
  pub marked : (m : Machine) → IsMachine m → (e : Event) (mark : Bool) → IsMachine (marked_step m e mark).1
  pub ends : (m : Machine) → IsMachine m → (answered : List Answered) → IsMachine (end_of m answered)

-- what stands is well formed, and each step of it keeps that, so that a service that keeps only what stands has it too
pub record ContentsStay : Type 0 where
  pub stands : (m : Machine) → IsMachine m → IsContent (content_of m)
  pub begins : (first_handle default_limit : ℕ) → IsContent (content_of (start first_handle default_limit))
  pub images : (i : Image) → IsImage i → IsContent (started_seen i)
  pub stays : (c : Content) → IsContent c → (e : Event) → IsContent (step_seen c e).1
  pub ends : (c : Content) → IsContent c → (es : List Event) → IsContent (after_seen c es)

-- what stands after an event is the step of what stood before, and the replies are equal; so for each list of events
pub record StepsAreShown : Type 0 where
  pub event : (m : Machine) → IsMachine m → (e : Event) → ((step m e).0, content_of (step m e).1) ≡ step_seen (content_of m) e
  pub events : (m : Machine) → IsMachine m → (es : List Event) → content_of (after m es) ≡ after_seen (content_of m) es

-- what steps a content, steps each machine that it stands for; so for each list of events
pub record StepsStand : Type 0 where
  pub event : (old : Content) (e : Event) (reply : Reply) (new : Content) → StepsSeen old e reply new → Steps old e reply new
  pub events : (old : Content) (answered : List Answered) (new : Content) → RunsSeen old answered new → Runs old answered new

-- what an image starts is a well formed machine, and what stands of it is what the image's entries restore one after the other;
-- in what is read as an image each entry may follow those before it
pub record ImagesStart : Type 0 where
  pub made : (i : Image) → IsImage i → IsMachine (started i)
  pub read : (bytes : List ℕ) (i : Image) → read_image bytes ≡ Ok i → IsImage i
  pub stands : (i : Image) → content_of (started i) ≡ started_seen i

-- ---- the plain words

-- what stands of a handle says whether it has news and is past its limit, and what it is owed
pub record HandlesAreTold : Type 0 where
  pub news : (handle : OpenHandle (Option ℕ)) (history : List Entry)
      → news_in handle.reads (seen_with handle history handle.seen) ≡ has_news handle history handle.seen
  pub over : (handle : OpenHandle (Option ℕ)) (history : List Entry)
      → is_over (seen_with handle history handle.seen) ≡ is_past_limit handle (owed handle history handle.seen)
  pub owes : (handle : OpenHandle (Option ℕ)) (history : List Entry) → is_full_style (style handle.kind) ≡ false
      → is_past_limit handle (owed handle history handle.seen) ≡ false
      → owed_in handle (seen_with handle history handle.seen) ≡ owed handle history handle.seen
  pub count : (m : Machine) (number : ℕ) → owed_by_seen (content_of m) number ≡ owed_by m number

-- what stands says what each read answers
abbrev pub AnswersAreTold : Type 0
AnswersAreTold =
    (m : Machine) (handle : OpenHandle (Option ℕ)) (max : ℕ) → handle.reads ≡ true → read_answer (content_of m) (shown_handle m.history handle) max ≡ answer_of m handle max

-- what stands says how many records have to be kept
abbrev pub KeptIsTold : Type 0
KeptIsTold = (m : Machine) (path : Path) → kept_seen (content_of m) path ≡ kept m path

-- ---- basic laws

-- a refusal is the first check that fails, and changes nothing; where none fails, the event takes effect and what follows does
pub record StepsAreDecided : Type 0 where
  pub refused : (m : Machine) (e : Event) (r : Refusal) → first_refusal (all_checks_of (content_of m) e) ≡ Some r → step m e ≡ (Err r, m)
  pub accepted : (m : Machine) (e : Event) → first_refusal (all_checks_of (content_of m) e) ≡ None
      → let done = effect (content_of m) e.conn e.request in
      step m e ≡ (Ok done.0, apply_all (done.1 ++ settling (content_of m) (apply_all_seen done.1 (content_of m))) m)

-- a refused event changes nothing
abbrev pub RefusalsKeep : Type 0
RefusalsKeep = (m : Machine) (e : Event) (r : Refusal) → (step m e).0 ≡ Err r → (step m e).1 ≡ m

-- one more record is owed to the handles that see it, behind all else; and without a cursor nothing is owed
pub record DebtsGrow : Type 0 where
  pub record_more : (handle : OpenHandle (Option ℕ)) (history : List Entry) (e : Entry) (cursor : ℕ) → cursor ≤ length history
      → owed handle (history ++ e ∷ []) (Some cursor) ≡ owed handle history (Some cursor) ++ (if visible handle e then e ∷ [] else [])
  pub no_cursor : (handle : OpenHandle (Option ℕ)) (history : List Entry) → owed handle history None ≡ []

-- ---- private traffic

-- In two runs from one machine a connection is given the same replies and is queued the same items, in order,
-- and at the end the same items stand in its queue, and its handles stand alike.
pub record MeetsAlike (conn : ℕ) (m : Machine) (first second : List Answered) : Type 0 where
  pub replies : replies_to conn first ≡ replies_to conn second
  pub items : queued_in conn m first ≡ queued_in conn m second
  pub queue : queue_of (content_of (end_of m first)) conn ≡ queue_of (content_of (end_of m second)) conn
  pub handles : handles_of (content_of (end_of m first)) conn ≡ handles_of (content_of (end_of m second)) conn

-- runs that agree for a connection, it can't tell apart
abbrev pub PrivateTraffic : Type 0
PrivateTraffic = (conn : ℕ) (m : Machine) → IsMachine m → (first second : List Answered) → IsRun m first → IsRun m second
    → Agree conn m first second → MeetsAlike conn m first second
