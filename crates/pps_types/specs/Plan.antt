-- What an event answers and changes where no check refuses it, and what follows from it, as a list of moves that is read off what stands.
-- QNX PPS guide, on opening, reading, writing and deleting and on server objects; QNX C library, on `ionotify`; how late replies and pulses follow is our own.
use Rattle.std.specs.Prelude.{ℕ, ◌+◌, ◌-◌, ◌^◌, List, [], ◌∷◌, ◌++◌, Bool, false, not, ◌&&◌, ◌||◌, ◌==◌, nat_lt, if◌then◌else◌, Option, Some, None, is_some, unwrap_or, Result, Ok, Err, map, length, codes}
use Rattle.std.specs.Option.{option_map_or}
use Rattle.std.specs.List.{concat, filter_map, flat_map}
use Rattle.pps_types.specs.declared.refusal.Refusal.{Refusal}
use Rattle.pps_types.specs.declared.refusal.Refusal.TheVariants.{BadHandle, TooSmall, TableFull}
use Rattle.pps_types.specs.declared.event.Event.{Event}
use Rattle.pps_types.specs.declared.event.Request.{Request}
use Rattle.pps_types.specs.declared.event.Request.TheVariants.{Attach, Detach, Open as OpenRequest, Read, Write, Close, Unlink, Mkdir, List as ListRequest, Notify, Receive}
use Rattle.pps_types.specs.declared.event.Mode.{Mode}
use Rattle.pps_types.specs.declared.outcome.Outcome.{Outcome}
use Rattle.pps_types.specs.declared.outcome.Outcome.TheVariants.{Done, Opened as OpenedHandle, Data, Wrote, Parked, Input, Item as ItemOutcome, Empty}
use Rattle.pps_types.specs.declared.outcome.Item.{Item}
use Rattle.pps_types.specs.declared.outcome.Item.TheVariants.{Pulse, ReadDone}
use Rattle.pps_types.specs.declared.line.Line.{Line}
use Rattle.pps_types.specs.declared.record.Kind.{Kind}
use Rattle.pps_types.specs.declared.record.Kind.TheVariants.{Created, Change, Truncated, Dropped, Deleted, Opened, Closed, FromClient, ToClient, ToAll}
use Rattle.pps_types.specs.Bytes.{is_empty}
use Rattle.pps_types.specs.Outcome.{Reply}
use Rattle.pps_types.specs.Text.{WriteText, write_text}
use Rattle.pps_types.specs.Names.{Path, last_name, name_cmp, sorted_by}
use Rattle.pps_types.specs.OpenText.{OpenSpec, open_text, path_text}
use Rattle.pps_types.specs.History.{Entry, after_kind, resolve, message_line}
use Rattle.pps_types.specs.declared.handle_kind.HandleKind.{HandleKind}
use Rattle.pps_types.specs.declared.handle_kind.HandleKind.TheVariants.{Object as ObjectHandle, Directory as DirectoryHandle, Names as NamesHandle, Server as ServerHandle, Client as ClientHandle}
use Rattle.pps_types.specs.Reading.{OpenHandle, reseen, style, Style, Queue, visible, Answer, Everything, Blocks, Needs, Waits}
use Rattle.pps_types.specs.Rests.{Progress, News, Unread, Over, Owed, pushed, past, from_first, unread, seen_of, keeps}
use Rattle.pps_types.specs.Outbox.{arms, first_of, behind_first, put_rising}
use Rattle.pps_types.specs.Content.{Object, Directory, LiveObject, Connection, Content, attributes_of, object_numbered, directory_at, object_at, parent_number, members, subdirectories, handle_numbered, own_handle, handles_of, news, read_answer, queue_of}
use Rattle.pps_types.specs.Checks.{first_refusal, reaches_memory, Check, Refuse, checks, addressee, Addressee, OneClient}

-- ---- moves

-- Creates: an object, with its record. AppendsRecord: any other record. CatchesUp: the handle has read everything.
-- Advances: it has been given so many of the records that it is owed. Parks: its read of that size, or none any more.
-- Arms: its pulse, or none any more. Queues and Takes: an item of a connection, at the end and at the front.
pub data Move : Type 0 where
  Attaches : ℕ → Move
  Leaves : ℕ → Move
  Creates : Object → Move
  AppendsRecord : Entry → Move
  Opens : OpenHandle (Unit {0}) → Move
  Closes : ℕ → Move
  CatchesUp : ℕ → Move
  Advances : ℕ → ℕ → Move
  Parks : ℕ → Option ℕ → Move
  Arms : ℕ → Option (ℕ × ℕ) → Move
  Queues : ℕ → Item → Move
  Takes : ℕ → Move
  MakesDirectory : Path → Move
  RemovesDirectory : ℕ → Move

module _ {X : Type 0} where
  -- the first that passes is changed
  abbrev pub on_first : (X → Bool) → (X → X) → List X → List X
  on_first test change [] = []
  on_first test change (x ∷ xs) = if test x then change x ∷ xs else x ∷ on_first test change xs

  -- the first that passes is taken out
  abbrev pub without_first : (X → Bool) → List X → List X
  without_first test [] = []
  without_first test (x ∷ xs) = if test x then xs else x ∷ without_first test xs

-- the handle of that number
abbrev pub on_numbered : {S : Type 0} → ℕ → (OpenHandle S → OpenHandle S) → List (OpenHandle S) → List (OpenHandle S)
on_numbered number change handles = on_first (λ handle. handle.number == number) change handles

abbrev pub without_number : {S : Type 0} → ℕ → List (OpenHandle S) → List (OpenHandle S)
without_number number handles = without_first (λ handle. handle.number == number) handles

-- the connection of that number, and its queue
abbrev pub requeued : (List Item → List Item) → Connection → Connection
requeued change x = record x { queue = change x.queue }

abbrev pub on_connection : ℕ → (List Item → List Item) → List Connection → List Connection
on_connection conn change connections = on_first (λ x. x.number == conn) (requeued change) connections

abbrev pub with_connection : ℕ → List Connection → List Connection
with_connection conn connections = put_rising (λ x. x.number) (record { number = conn; queue = [] }) connections

abbrev pub without_connection : ℕ → List Connection → List Connection
without_connection conn connections = without_first (λ x. x.number == conn) connections

-- a record of an object
abbrev pub entry_of : Object → Kind → Option ℕ → Entry
entry_of o kind writer = record { directory = o.directory; name = o.name; record_of = record { object = o.number; kind = kind; writer = writer } }

abbrev pub creation : Object → Entry
creation o = entry_of o Created None

-- ---- what a move does to what stands

-- a record is offered to a handle
abbrev pub offered : {S : Type 0} → OpenHandle S → Entry → Progress → Progress
offered handle e (News b) = News (b || visible handle e)
offered handle e Unread = Unread
offered handle e Over = Over
offered handle e (Owed rest) = seen_of handle (if keeps handle e then pushed (visible handle) e rest else rest)

abbrev pub offer : Entry → OpenHandle Progress → OpenHandle Progress
offer e = reseen (λ handle. offered handle e handle.seen)

abbrev pub still_known : LiveObject → Kind → Option LiveObject
still_known o Deleted = None
still_known o kind = Some (record o { attributes = after_kind o.attributes kind })

-- an object after a record, its own or another's
abbrev pub touched : Entry → LiveObject → Option LiveObject
touched e o = if e.record_of.object == o.object.number then still_known o e.record_of.kind else Some o

abbrev pub caught_up : {S : Type 0} → OpenHandle S → Progress
caught_up handle = seen_of handle []

abbrev pub left : {S : Type 0} → OpenHandle S → ℕ → Progress → Progress
left handle count (Owed rest) = seen_of handle (from_first (visible handle) (past (visible handle) count rest))
left handle count seen = seen

-- a server's or client's queue begins behind its own opening
abbrev pub first_seen : {S : Type 0} → OpenHandle S → Style → Progress
first_seen handle Queue = seen_of handle []
first_seen handle kind = unread kind handle.reads

abbrev pub apply_seen : Move → Content → Content
apply_seen (Attaches conn) c = record c { connections = with_connection conn c.connections }
apply_seen (Leaves conn) c = record c { connections = without_connection conn c.connections }
apply_seen (Creates o) c = record c { records = c.records + 1; objects = c.objects ++ record { object = o; attributes = [] } ∷ []; next_object = c.next_object + 1; handles = map (offer (creation o)) c.handles }
apply_seen (AppendsRecord e) c = record c { records = c.records + 1; objects = filter_map (touched e) c.objects; handles = map (offer e) c.handles }
apply_seen (Opens handle) c =
    record c { handles = c.handles ++ reseen (λ handle. first_seen handle (style handle.kind)) handle ∷ []; next_handle = c.next_handle + 1 }
apply_seen (Closes number) c = record c { handles = without_number number c.handles }
apply_seen (CatchesUp number) c = record c { handles = on_numbered number (reseen caught_up) c.handles }
apply_seen (Advances number count) c =
    record c { handles = on_numbered number (reseen (λ handle. left handle count handle.seen)) c.handles }
apply_seen (Parks number size) c = record c { handles = on_numbered number (λ handle. record handle { parked = size }) c.handles }
apply_seen (Arms number pulse) c = record c { handles = on_numbered number (λ handle. record handle { armed = pulse }) c.handles }
apply_seen (Queues conn item) c = record c { connections = on_connection conn (λ items. items ++ item ∷ []) c.connections }
apply_seen (Takes conn) c = record c { connections = on_connection conn behind_first c.connections }
apply_seen (MakesDirectory path) c = record c { directories = c.directories ++ record { number = c.next_directory; path = path } ∷ []; next_directory = c.next_directory + 1 }
apply_seen (RemovesDirectory number) c = record c { directories = without_first (λ d. d.number == number) c.directories }

-- one after the other
abbrev pub apply_all_seen : List Move → Content → Content
apply_all_seen [] c = c
apply_all_seen (x ∷ xs) c = apply_all_seen xs (apply_seen x c)

-- ---- Open

abbrev pub new_object : Content → OpenSpec → Object
new_object c spec = record {
  number = c.next_object;
  directory = unwrap_or (parent_number c spec.names) 0;
  name = last_name spec.names;
  nopersist = spec.options.nopersist;
  server = if spec.options.server then Some c.next_handle else None;
}

-- the object at the path, as the open finds it and leaves it
abbrev pub preparing : Content → Mode → OpenSpec → Option LiveObject → List Move
preparing c mode spec None = if spec.all then [] else Creates (new_object c spec) ∷ []
preparing c mode spec (Some o) =
    if spec.options.server then AppendsRecord (entry_of o.object Deleted None) ∷ Creates (new_object c spec) ∷ [] else
    if is_some o.object.server then AppendsRecord (entry_of o.object (Opened c.next_handle) None) ∷ [] else
    if mode.t then AppendsRecord (entry_of o.object Truncated None) ∷ [] else []

abbrev pub kind_opened : OpenSpec → Option LiveObject → HandleKind
kind_opened spec found =
    if spec.options.server then ServerHandle else
    if spec.all then (if spec.options.deltadir then NamesHandle else DirectoryHandle spec.options.delta) else
    if option_map_or (λ o. is_some o.object.server) found false then ClientHandle else ObjectHandle spec.options.delta

abbrev pub target_of : Content → OpenSpec → Option LiveObject → ℕ
target_of c spec found =
    if spec.all then option_map_or (λ d. d.number) (directory_at c spec.names) 0 else
    if spec.options.server then c.next_object else option_map_or (λ o. o.object.number) found c.next_object

abbrev pub new_handle : Content → ℕ → Mode → OpenSpec → Option LiveObject → OpenHandle (Unit {0})
new_handle c conn mode spec found = record {
  number = c.next_handle;
  connection = conn;
  target = target_of c spec found;
  name = if spec.all then [] else last_name spec.names;
  kind = kind_opened spec found;
  reads = mode.r;
  writes = mode.w;
  options = spec.options.of_handle;
  limit = unwrap_or spec.options.limit c.default_limit;
  seen = tt;
  parked = None;
  armed = None;
}

abbrev pub opening : Content → ℕ → Mode → OpenSpec → Option LiveObject → List Move
opening c conn mode spec found = preparing c mode spec found ++ Opens (new_handle c conn mode spec found) ∷ []

abbrev pub found_object : Content → OpenSpec → Option LiveObject
found_object c spec = if spec.all then None else object_at c spec.names

-- ---- Read

abbrev pub read_effect : OpenHandle Progress → ℕ → Answer → Outcome × List Move
read_effect handle size (Everything text) = (Data text, CatchesUp handle.number ∷ [])
read_effect handle size (Blocks count text) = (Data text, Advances handle.number count ∷ [])
read_effect handle size Waits = (Parked, Parks handle.number (Some size) ∷ [])
read_effect handle size _ = (Data [], [])

-- ---- Write

abbrev pub sent : Addressee → List Line → Kind
sent (OneClient id) lines = ToClient id lines
sent _ lines = ToAll lines

abbrev pub written_kind : Content → OpenHandle Progress → HandleKind → WriteText → Kind
written_kind c handle ServerHandle text = sent (addressee handle.name text.header) (map message_line text.lines)
written_kind c handle ClientHandle text = FromClient handle.number (map message_line text.lines)
written_kind c handle _ text = Change (resolve (attributes_of c handle.target) text.lines)

-- a record of the target, where it is alive
abbrev pub on_target : Content → OpenHandle Progress → Kind → Option ℕ → List Move
on_target c handle kind writer =
    option_map_or (λ o. AppendsRecord (entry_of o.object kind writer) ∷ []) (object_numbered c handle.target) []

abbrev pub writing : Content → OpenHandle Progress → WriteText → List Move
writing c handle text = if is_empty text.lines then [] else on_target c handle (written_kind c handle handle.kind text) (Some handle.number)

-- ---- Close and Detach

abbrev pub parting : Content → OpenHandle Progress → HandleKind → List Move
parting c handle ServerHandle = on_target c handle Deleted None
parting c handle ClientHandle = on_target c handle (Closed handle.number) None
parting c handle (ObjectHandle delta) = if handle.options.critical && handle.writes then on_target c handle Dropped None else []
parting c handle _ = []

-- a parked read ends with the handle, before anything that the close tells others
abbrev pub closing : Content → OpenHandle Progress → List Move
closing c handle =
    Closes handle.number ∷ (if is_some handle.parked then Queues handle.connection (ReadDone handle.number (Err BadHandle)) ∷ [] else []) ++ parting c handle handle.kind

-- one after the other, each where those before it took effect
abbrev pub closings : Content → List (OpenHandle Progress) → List Move
closings c [] = []
closings c (handle ∷ handles) = closing c handle ++ closings (apply_all_seen (closing c handle) c) handles

-- ---- paths

abbrev pub unlinking : Option LiveObject → Option Directory → List Move
unlinking (Some o) d = AppendsRecord (entry_of o.object Deleted None) ∷ []
unlinking None (Some d) = RemovesDirectory d.number ∷ []
unlinking None None = []

-- the members' names, a directory's with a `/` behind it, in byte order of the names
abbrev pub listing : Content → Path → List ℕ
listing c path =
    let objects = map {B = List ℕ × List ℕ} (λ o. (o.object.name, [])) (option_map_or (λ d. members c d.number) (directory_at c path) []) in
    let directories = map {B = List ℕ × List ℕ} (λ d. (last_name d.path, codes "/")) (subdirectories c path) in
    concat (map (λ e. e.0 ++ e.1 ++ (10 ∷ [])) (sorted_by name_cmp (λ e. e.0) (objects ++ directories)))

-- ---- the event

abbrev pub received : ℕ → Option Item → Outcome × List Move
received conn None = (Empty, [])
received conn (Some item) = (ItemOutcome item, Takes conn ∷ [])

-- An event that no check refuses is of a handle that is there, and its texts can be read: no other answer of these three is ever met.
abbrev pub with_handle : Content → ℕ → ℕ → (OpenHandle Progress → Outcome × List Move) → Outcome × List Move
with_handle c conn number effect = option_map_or effect (own_handle c conn number) (Done, [])

abbrev pub with_path : List ℕ → (Path → Outcome × List Move) → Outcome × List Move
with_path text effect = option_map_or effect (path_text text) (Done, [])

abbrev pub with_result : {X : Type 0} → Result X Refusal → (X → Outcome × List Move) → Outcome × List Move
with_result (Ok x) effect = effect x
with_result (Err e) effect = (Done, [])

-- What a request that no check refuses answers and changes.
unfoldable pub effect : Content → ℕ → Request → Outcome × List Move
effect c conn Attach = (Done, Attaches conn ∷ [])
effect c conn Detach = (Done, closings c (handles_of c conn) ++ Leaves conn ∷ [])
effect c conn (OpenRequest mode text) = with_result (open_text text) (λ spec. (OpenedHandle c.next_handle, opening c conn mode spec (found_object c spec)))
effect c conn (Read number size) = with_handle c conn number (λ handle. read_effect handle size (read_answer c handle size))
effect c conn (Write number bytes) =
    with_handle c conn number (λ handle. with_result (write_text bytes) (λ text. (Wrote (length bytes), writing c handle text)))
effect c conn (Close number) = with_handle c conn number (λ handle. (Done, closing c handle))
effect c conn (Unlink path) = with_path path (λ names. (Done, unlinking (object_at c names) (directory_at c names)))
effect c conn (Mkdir path) = with_path path (λ names. (Done, MakesDirectory names ∷ []))
effect c conn (ListRequest path) = with_path path (λ names. (Data (listing c names), []))
effect c conn (Notify number action code value) =
    with_handle c conn number (λ handle. (Input (news handle), Arms handle.number (if arms action (news handle) then Some (code, value) else None) ∷ []))
effect c conn Receive = received conn (first_of (queue_of c conn))

-- ---- what follows

abbrev pub fired : {S : Type 0} → OpenHandle S → List Move
fired handle = option_map_or (λ pulse. Arms handle.number None ∷ Queues handle.connection (Pulse pulse.0 pulse.1) ∷ []) handle.armed []

abbrev pub ended : {S : Type 0} → OpenHandle S → Result (List ℕ) Refusal → List Move
ended handle result = Parks handle.number None ∷ Queues handle.connection (ReadDone handle.number result) ∷ []

abbrev pub late_reply : {S : Type 0} → OpenHandle S → Answer → List Move
late_reply handle (Everything text) = CatchesUp handle.number ∷ ended handle (Ok text)
late_reply handle (Blocks count text) = Advances handle.number count ∷ ended handle (Ok text)
late_reply handle (Needs need) = ended handle (Err (TooSmall need))
late_reply handle _ = []

-- the parked read is answered by what stands after the event
abbrev pub late_replies : Content → OpenHandle Progress → List Move
late_replies c handle = option_map_or (λ size. late_reply handle (read_answer c handle size)) handle.parked []

abbrev pub had_news : Content → OpenHandle Progress → Bool
had_news before handle = option_map_or news (handle_numbered before handle.number) false

-- a handle's pulse comes before its late reply
abbrev pub settling_handle : Content → Content → OpenHandle Progress → List Move
settling_handle before c handle = if not (had_news before handle) && news handle then fired handle ++ late_replies c handle else []

-- each handle, in rising number, that had no news before and has some now
unfoldable pub settling : Content → Content → List Move
settling before c = flat_map (settling_handle before c) c.handles

-- ---- the plan

-- at most 2^64 - 1 records, objects and directories ever exist
abbrev pub passes_last_number : Content → Bool
passes_last_number c = nat_lt (2 ^ 64 - 1) c.records || nat_lt (2 ^ 64 - 1) c.next_object || nat_lt (2 ^ 64 - 1) c.next_directory

-- all checks of an event, the one on these numbers last
abbrev pub all_checks_of : Content → Event → List Check
all_checks_of c e = checks c e.conn e.request ++ Refuse (passes_last_number (apply_all_seen (effect c e.conn e.request).1 c)) TableFull ∷ []

abbrev pub decided : Content → Outcome × List Move → Option Refusal → Reply × List Move
decided c done (Some refusal) = (Err refusal, [])
decided c done None = (Ok done.0, done.1 ++ settling c (apply_all_seen done.1 c))

-- An event: the first check that fails is the reply, and nothing changes. Else it takes effect, and what follows from it does.
unfoldable pub plan : Content → Event → Reply × List Move
plan c e = decided c (effect c e.conn e.request) (first_refusal (all_checks_of c e))

unfoldable pub step_seen : Content → Event → Reply × Content
step_seen c e = ((plan c e).0, apply_all_seen (plan c e).1 c)

-- whether want of memory may be this event's answer
abbrev pub may_lack_memory : Content → Event → Bool
may_lack_memory c e = reaches_memory (checks c e.conn e.request)
