-- The laws of what follows from an event, each a function's contract.
use Rattle.std.specs.Prelude.{◌≡◌, ◌≤◌, ℕ, ◌+◌, List, [], ◌∷◌, ◌++◌, Bool, true, false, ◌||◌, ◌==◌, if◌then◌else◌, Some, None, is_some, Ok, filter, length}
use Rattle.std.specs.Option.{option_map_or}
use Rattle.std.specs.List.{AllByRecursion, filter_map, flat_map, list_any, list_all}
use Rattle.pps_types.specs.declared.event.Event.{Event}
use Rattle.pps_types.specs.declared.event.Request.{Request}
use Rattle.pps_types.specs.declared.event.Request.TheVariants.{Detach}
use Rattle.pps_types.specs.History.{Entry}
use Rattle.pps_types.specs.Reading.{OpenHandle, Member, style, visible}
use Rattle.pps_types.specs.Rests.{Progress, News, seen_of, rest_of}
use Rattle.pps_types.specs.Content.{Content, news, object_numbered, members, target_members, target_is_dead, handles_of, connection_numbered, queue_of, read_answer, is_waiting}
use Rattle.pps_types.specs.Owed.{is_past_limit}
use Rattle.pps_types.specs.Runs.{queued_by}
use Rattle.pps_types.specs.Plan.{Move, Leaves, apply_all_seen, effect, fired, late_replies, settling, closings, step_seen, plan, all_checks_of, passes_last_number}
use Rattle.pps_types.specs.Checks.{checks, first_refusal}
use Rattle.pps_types.specs.WellFormed.{IsContent, AreTold, IsWhole, fits}
use Rattle.service_laws.specs.Told.{entries_told, handle_after, handles_opened, HandlesRise, AreNumbered, is_woken, names_handle, only_tells, seen_after, offer_all}
use Rattle.service_laws.specs.SettlingTargets.{object_after, objects_after, NamesAreFree, members_after, target_members_after, target_is_dead_after, last_number_passed_after}
use Rattle.pps_types.specs.SettlingReplies.{visible_to, late_answer, pulse_and_reply}
use Rattle.service_laws.specs.SettlingMoves.{follows_in, follows, follows_in_turn}
use Rattle.service_laws.specs.Closings.{closings_behind}
use Rattle.service_laws.specs.Concerned.{is_concerned, is_on_object, is_on_directory, merged, AreFew}
use Rattle.service_laws.specs.SettlingQueues.{keeps_queue}

-- Moves change each handle by itself. Where they tell no record, nothing follows; and where they only tell, what follows
-- is the pulse and the late reply of each handle that they wake, in rising number. No handle that they open may wait.
pub record MovesAreSettled : Type 0 where
  pub handles : (ms : List Move) (c : Content) → HandlesRise c → AreNumbered c.next_handle ms
      → (apply_all_seen ms c).handles ≡ filter_map (handle_after ms) c.handles ++ handles_opened ms
  pub silent : (ms : List Move) (c : Content) → HandlesRise c → AreNumbered c.next_handle ms
      → AllByRecursion (λ handle. is_waiting handle ≡ false) (handles_opened ms) → entries_told ms ≡ []
      → settling c (apply_all_seen ms c) ≡ []
  pub told : (ms : List Move) (c : Content) → HandlesRise c → AreNumbered c.next_handle ms
      → AllByRecursion (λ handle. is_waiting handle ≡ false) (handles_opened ms) → list_all only_tells ms ≡ true
      → settling c (apply_all_seen ms c)
      ≡ flat_map (λ handle. fired handle ++ late_replies (apply_all_seen ms c) (offer_all (entries_told ms) handle)) (filter (is_woken ms) c.handles)

-- What a handle has seen behind records, by the records alone: in full mode whether it sees one; else, where it was owed nothing,
-- the rest that it keeps of them. A handle without news that reads and fits its mode is owed nothing; and one that sees a record
-- has news by it.
pub record SeenIsTold : Type 0 where
  pub full : (handle : OpenHandle Progress) (es : List Entry) (b : Bool)
      → seen_after handle es (News b) ≡ News (b || list_any (visible handle) es)
  pub caught_up : (handle : OpenHandle Progress) (es : List Entry)
      → seen_after handle es (seen_of handle []) ≡ seen_of handle (rest_of handle es)
  pub no_news : (handle : OpenHandle Progress) → fits (style handle.kind) handle.seen ≡ true
      → news handle ≡ false → handle.reads ≡ true → handle.seen ≡ seen_of handle []
  pub wakes : (handle : OpenHandle Progress) (es : List Entry) → news handle ≡ false → list_any (visible handle) es ≡ true
      → news (offer_all es handle) ≡ true

-- Records leave each handle as it is that they do not concern, and moves each that they are not of either; and whatever the moves,
-- what handles have seen stays fitting.
pub record OthersStay : Type 0 where
  pub untouched : (es : List Entry) (handle : OpenHandle Progress) → IsWhole handle handle.seen → is_concerned es handle ≡ false
      → offer_all es handle ≡ handle
  pub left : (ms : List Move) (handle : OpenHandle Progress) → IsWhole handle handle.seen → is_concerned (entries_told ms) handle ≡ false
      → list_any (names_handle handle.number) ms ≡ false → handle_after ms handle ≡ Some handle
  pub stays : (ms : List Move) (c : Content) → AreTold c → AreTold (apply_all_seen ms c)

-- The answer to a parked read behind records, by its handle before them and by its target. One record passes no limit of 1 or more.
-- And what moves leave of the objects, of a directory's members and of a handle's target, by what stood before.
pub record RepliesAreTold : Type 0 where
  pub answer : (c : Content) (handle : OpenHandle Progress) (es : List Entry) (size : ℕ) → fits (style handle.kind) handle.seen ≡ true
      → news handle ≡ false
      → list_any (visible handle) es ≡ true
      → read_answer c (offer_all es handle) size ≡ late_answer handle es (target_is_dead c handle) (target_members c handle) size
  pub within : (handle : OpenHandle Progress) (e : Entry) → 1 ≤ handle.limit → is_past_limit handle (visible_to handle (e ∷ [])) ≡ false
  pub objects : (ms : List Move) (c : Content) → (apply_all_seen ms c).objects ≡ objects_after ms c.objects
  pub object : (ms : List Move) (c : Content) (n : ℕ) → object_numbered (apply_all_seen ms c) n ≡ object_after ms n (object_numbered c n)
  pub members : (ms : List Move) (c : Content) (directory : ℕ) → NamesAreFree c ms
      → members (apply_all_seen ms c) directory ≡ members_after ms directory (members c directory)
  pub target : (ms : List Move) (c : Content) (handle : OpenHandle Progress) → NamesAreFree c ms
      → target_members (apply_all_seen ms c) handle ≡ target_members_after c ms handle
  pub dead : (ms : List Move) (c : Content) (handle : OpenHandle Progress)
      → target_is_dead (apply_all_seen ms c) handle ≡ target_is_dead_after c ms handle
  pub before : (ms : List Move) (c : Content) (handle : OpenHandle Progress) → NamesAreFree c ms
      → follows_in (apply_all_seen ms c) (entries_told ms) handle ≡ follows c ms handle

-- An event's moves: the handle that they open has the next number and waits for nothing, the names of the objects that they create are free,
-- and they tell few records, but for those of a Detach. Where what stands is well formed, and no check refuses the event: all that follows,
-- its whole plan, and who is looked up, by what stood before it. Whether the last number is passed, by counts. And each handle behind the step.
pub record EventsAreSettled : Type 0 where
  pub numbered : (c : Content) → IsContent c → (conn : ℕ) (request : Request) → first_refusal (checks c conn request) ≡ None
      → AreNumbered c.next_handle (effect c conn request).1
  pub quiet : (c : Content) (conn : ℕ) (request : Request)
      → AllByRecursion (λ handle. is_waiting handle ≡ false) (handles_opened (effect c conn request).1)
  pub free : (c : Content) → IsContent c → (conn : ℕ) (request : Request) → first_refusal (checks c conn request) ≡ None
      → NamesAreFree c (effect c conn request).1
  pub few : (c : Content) (conn : ℕ) (request : Request) → (request ≡ Detach → ⊥) → AreFew c (entries_told (effect c conn request).1)
  pub settled : (c : Content) → IsContent c → (conn : ℕ) (request : Request) → first_refusal (checks c conn request) ≡ None
      → let done = (effect c conn request).1 in
      settling c (apply_all_seen done c) ≡ flat_map (follows c done) (filter (is_woken done) c.handles)
  pub planned : (c : Content) → IsContent c → (e : Event) → first_refusal (all_checks_of c e) ≡ None
      → let done = effect c e.conn e.request in
      plan c e ≡ (Ok done.0, done.1 ++ flat_map (follows c done.1) (filter (is_woken done.1) c.handles))
  pub silent : (c : Content) → IsContent c → (e : Event) → first_refusal (all_checks_of c e) ≡ None
      → let done = effect c e.conn e.request in
      entries_told done.1 ≡ [] → plan c e ≡ (Ok done.0, done.1)
  pub looked_up : (c : Content) → IsContent c → (conn : ℕ) (request : Request) → (request ≡ Detach → ⊥) → (e : Entry) (es : List Entry)
      → let done = (effect c conn request).1 in
      entries_told done ≡ e ∷ es
      → filter (is_woken done) c.handles
      ≡ filter (is_woken done) (merged (filter (is_on_object e.record_of.object) c.handles) (filter (is_on_directory e.directory) c.handles))
  pub numbers : (ms : List Move) (c : Content) → passes_last_number (apply_all_seen ms c) ≡ last_number_passed_after c ms
  pub handles : (c : Content) → IsContent c → (e : Event)
      → (step_seen c e).1.handles ≡ filter_map (handle_after (plan c e).1) c.handles ++ handles_opened (plan c e).1

-- closings one after the other, by what stood before them all
pub record ClosesArePlanned : Type 0 where
  pub closes : (c : Content) (hs : List (OpenHandle Progress)) → closings c hs ≡ closings_behind c [] hs
  pub detach : (c : Content) (conn : ℕ) → (effect c conn Detach).1 ≡ closings_behind c [] (handles_of c conn) ++ Leaves conn ∷ []

-- What follows may be worked out handle by handle while it is carried out: it changes no answer, no other handle and no queue but by the items
-- that it puts behind. A woken handle is given one item for its pulse and one for its read. And who wakes is among the handles
-- on the records' objects and on their directories, in rising number.
pub record StepsAreFree : Type 0 where
  pub answers : (ms : List Move) (c : Content) (handle : OpenHandle Progress) (size : ℕ) → entries_told ms ≡ []
      → read_answer (apply_all_seen ms c) handle size ≡ read_answer c handle size
  pub in_turn : (hs : List (OpenHandle Progress)) (c : Content) (es : List Entry) → follows_in_turn c es hs ≡ flat_map (follows_in c es) hs
  pub others : (g handle : OpenHandle Progress) (es : List Entry) (dead : Bool) (members : List Member)
      → (g.number == handle.number) ≡ false
      → handle_after (pulse_and_reply handle es dead members) g ≡ Some g
  pub queues : (ms : List Move) (c : Content) (conn : ℕ) → list_all (keeps_queue conn) ms ≡ true
      → queue_of (apply_all_seen ms c) conn ≡ option_map_or (λ x. x.queue ++ flat_map (queued_by conn) ms) (connection_numbered c conn) []
  pub keeps : (handle : OpenHandle Progress) (es : List Entry) (dead : Bool) (members : List Member) (conn : ℕ)
      → list_all (keeps_queue conn) (pulse_and_reply handle es dead members) ≡ true
  pub counts : (handle : OpenHandle Progress) (es : List Entry) (dead : Bool) (members : List Member) → list_any (visible handle) es ≡ true
      → length (flat_map (queued_by handle.connection) (pulse_and_reply handle es dead members))
      ≡ (if is_some handle.armed then 1 else 0) + (if is_some handle.parked then 1 else 0)
  pub elsewhere : (handle : OpenHandle Progress) (es : List Entry) (dead : Bool) (members : List Member) (conn : ℕ)
      → (handle.connection == conn) ≡ false
      → flat_map (queued_by conn) (pulse_and_reply handle es dead members) ≡ []
  pub among : (ms : List Move) (hs : List (OpenHandle Progress)) → filter (is_woken ms) hs ≡ filter (is_woken ms) (filter (is_concerned (entries_told ms)) hs)
  pub looked_up : (es : List Entry) (c : Content) → HandlesRise c
      → filter (is_concerned es) c.handles
      ≡ merged (filter (λ handle. list_any (λ e. is_on_object e.record_of.object handle) es) c.handles)
      (filter (λ handle. list_any (λ e. is_on_directory e.directory handle) es) c.handles)
  pub one_record : (ms : List Move) (c : Content) (e : Entry) → HandlesRise c → entries_told ms ≡ e ∷ []
      → filter (is_woken ms) c.handles
      ≡ filter (is_woken ms) (merged (filter (is_on_object e.record_of.object) c.handles) (filter (is_on_directory e.directory) c.handles))
  pub two_records : (ms : List Move) (c : Content) (e f : Entry) → IsContent c → entries_told ms ≡ e ∷ f ∷ []
      → f.directory ≡ e.directory → c.next_object ≤ f.record_of.object
      → filter (is_woken ms) c.handles
      ≡ filter (is_woken ms) (merged (filter (is_on_object e.record_of.object) c.handles) (filter (is_on_directory e.directory) c.handles))
