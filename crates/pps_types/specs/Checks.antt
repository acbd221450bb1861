-- The checks that an event meets, in their order, and from which place on want of memory may be the answer.
-- QNX C library, on the errors of `open`, `read`, `write`, `unlink` and `ionotify`; their order and most limits are our own.
use Rattle.std.specs.Prelude.{ℕ, List, [], ◌∷◌, ◌++◌, Bool, true, false, not, ◌&&◌, ◌||◌, ◌==◌, nat_le, nat_lt, if◌then◌else◌, Option, Some, None, is_none, is_some, option_and_then, ok_or, Result, Ok, Err, filter, map, length, fold, codes}
use Rattle.std.specs.Option.{option_map_or}
use Rattle.pps_types.specs.declared.found.Found.{Found}
use Rattle.pps_types.specs.declared.found.Found.TheVariants.{Object as FoundObject, Directory as FoundDirectory}
use Rattle.pps_types.specs.declared.refusal.Refusal.{Refusal}
use Rattle.pps_types.specs.declared.refusal.Refusal.TheVariants.{NotAttached, AlreadyAttached, BadPath, NotFound, NotDirectory, IsDirectory, NotEmpty, Busy, BadHandle, BadMode, BadText, TooLarge, Gone, ReadPending, TooSmall, Backlogged, NoClient, BadArgument, TableFull}
use Rattle.pps_types.specs.declared.event.Request.{Request}
use Rattle.pps_types.specs.declared.event.Request.TheVariants.{Attach, Detach, Open as OpenRequest, Read, Write, Close, Unlink, Mkdir, List as ListRequest, Notify, Receive}
use Rattle.pps_types.specs.declared.event.Mode.{Mode}
use Rattle.pps_types.specs.declared.event.Action.{Action}
use Rattle.pps_types.specs.declared.outcome.Item.{Item}
use Rattle.pps_types.specs.declared.record.Kind.{Kind}
use Rattle.pps_types.specs.declared.record.Kind.TheVariants.{FromClient, ToClient, ToAll}
use Rattle.pps_types.specs.Bytes.{same, is_empty, after_prefix, number_up_to}
use Rattle.pps_types.specs.Outcome.{item_has_bytes}
use Rattle.pps_types.specs.Text.{WriteText, write_text}
use Rattle.pps_types.specs.Names.{Path, parent, is_object, is_directory, place, find_at, new_refusal}
use Rattle.pps_types.specs.OpenText.{OpenSpec, open_text, path_text}
use Rattle.pps_types.specs.History.{Attribute, apply_line, resolve, text_length, Entry}
use Rattle.pps_types.specs.declared.handle_kind.HandleKind.{HandleKind}
use Rattle.pps_types.specs.declared.handle_kind.HandleKind.TheVariants.{Object as ObjectHandle, Server as ServerHandle, Client as ClientHandle}
use Rattle.pps_types.specs.Reading.{OpenHandle, Answer, Needs, TargetGone, Waits}
use Rattle.pps_types.specs.Rests.{Progress, owed_in}
use Rattle.pps_types.specs.Outbox.{arm_refusal, park_refusal, arms, first_of}
use Rattle.pps_types.specs.Content.{Content, object_numbered, attributes_of, at, parent_number, members, subdirectories, handle_numbered, own_handle, news, has_object_handle, has_directory_handle, target_is_dead, read_answer, is_attached, queue_of, outbox_of}

-- A refusal where the test holds; or the mark from which on memory may be wanting.
pub data Check : Type 0 where
  Refuse : Bool → Refusal → Check
  Memory : Check

-- the first check that fails
abbrev pub first_refusal : List Check → Option Refusal
first_refusal [] = None
first_refusal (Refuse fails refusal ∷ checks) = if fails then Some refusal else first_refusal checks
first_refusal (Memory ∷ checks) = first_refusal checks

-- the mark is there, and no check before it fails
abbrev pub reaches_memory : List Check → Bool
reaches_memory [] = false
reaches_memory (Refuse fails refusal ∷ checks) = not fails && reaches_memory checks
reaches_memory (Memory ∷ checks) = true

-- a refusal that is known
abbrev pub refused : Option Refusal → List Check
refused None = []
refused (Some refusal) = Refuse true refusal ∷ []

-- checks behind a step that may be refused
abbrev pub parsed : {X : Type 0} → Result X Refusal → (X → List Check) → List Check
parsed (Err refusal) checks = Refuse true refusal ∷ []
parsed (Ok x) checks = checks x

-- ---- Open

abbrev pub letters_fit : Mode → Bool
letters_fit mode = (mode.r || mode.w) && (not mode.t || mode.w)

-- `.all` is only read, and a server reads and writes
abbrev pub mode_fits : Mode → OpenSpec → Bool
mode_fits mode spec = not (spec.all && (mode.w || mode.c || mode.t)) && not (spec.options.server && not (mode.r && mode.w))

-- one more handle
abbrev pub handle_checks : Content → List Check
handle_checks c = Refuse (nat_le 65535 (length c.handles) || nat_lt 4294967295 c.next_handle) TableFull ∷ []

abbrev pub found_as : (Found → Bool) → Option Found → Bool
found_as test found = option_map_or test found false

-- the last element is `.all`
abbrev pub all_checks : Content → Option Found → List Check
all_checks c found = Refuse (is_none found) NotFound ∷ Refuse (found_as is_object found) NotDirectory ∷ handle_checks c

abbrev pub is_used : Content → Found → Bool
is_used c (FoundObject number) = has_object_handle c number || option_map_or (λ o. is_some o.object.server) (object_numbered c number) false
is_used c (FoundDirectory number) = false

abbrev pub objects_beside : Content → Path → ℕ
objects_beside c path = option_map_or (λ d. length (members c d)) (parent_number c path) 0

-- one more object
abbrev pub object_checks : Content → Path → List Check
object_checks c path = Refuse (nat_le 256 (objects_beside c path)) TableFull ∷ Refuse (nat_le 65535 (length c.objects)) TableFull ∷ []

-- the last element is a name
abbrev pub name_checks : Content → Mode → OpenSpec → Option Found → List Check
name_checks c mode spec found =
    (Refuse (is_none found && not mode.c) NotFound ∷ Refuse (found_as is_directory found) IsDirectory ∷ Refuse (spec.options.server && found_as (is_used c) found) Busy ∷ [])
    ++ handle_checks c ++ (if is_none found then object_checks c spec.names else [])

abbrev pub open_checks : Content → Mode → OpenSpec → List Check
open_checks c mode spec =
    Refuse (not (mode_fits mode spec)) BadMode
    ∷ parsed (place (at c) spec.names) (λ found. if spec.all then all_checks c found else name_checks c mode spec found)

-- ---- Read

-- checks on a handle of this connection
abbrev pub on_handle : Content → ℕ → ℕ → (OpenHandle Progress → List Check) → List Check
on_handle c conn number checks = option_map_or checks (own_handle c conn number) (Refuse true BadHandle ∷ [])

abbrev pub answer_checks : Content → OpenHandle Progress → Answer → List Check
answer_checks c handle (Needs need) = Refuse true (TooSmall need) ∷ []
answer_checks c handle TargetGone = Refuse true Gone ∷ []
answer_checks c handle Waits = refused (park_refusal (outbox_of c handle.connection) handle.number) ++ Memory ∷ []
answer_checks c handle _ = Memory ∷ []

abbrev pub read_checks : Content → ℕ → OpenHandle Progress → List Check
read_checks c size handle =
    Refuse (not handle.reads) BadMode ∷ Refuse (not (nat_le 1 size && nat_le size 17000000)) BadArgument ∷ Refuse (is_some handle.parked) ReadPending
    ∷ answer_checks c handle (read_answer c handle size)

-- ---- Write

-- whom a server's header names
pub data Addressee : Type 0 where
  Everyone : Addressee
  OneClient : ℕ → Addressee
  Nobody : Addressee

abbrev pub addressed : Option ℕ → Addressee
addressed None = Nobody
addressed (Some id) = OneClient id

-- `@name`, or `@name.id`; the object's own name is looked at first
abbrev pub addressee : List ℕ → Option (List ℕ) → Addressee
addressee name None = Everyone
addressee name (Some header) = if same header name then Everyone else addressed (option_and_then (number_up_to 10 4294967295) (after_prefix (name ++ codes ".") header))

abbrev pub is_client : HandleKind → Bool
is_client ClientHandle = true
is_client _ = false

abbrev pub is_server : HandleKind → Bool
is_server ServerHandle = true
is_server _ = false

-- the open clients of an object, in rising number
abbrev pub clients : Content → ℕ → List (OpenHandle Progress)
clients c object = filter (λ handle. is_client handle.kind && (handle.target == object)) c.handles

-- the clients that a server's message is for
abbrev pub meant : Content → ℕ → Addressee → List (OpenHandle Progress)
meant c object (OneClient id) = filter (λ handle. handle.number == id) (clients c object)
meant c object _ = clients c object

abbrev pub is_message_of : ℕ → Entry → Bool
is_message_of id e = from e.record_of.kind
  where
    from : Kind → Bool
    from (FromClient client lines) = client == id
    from _ = false

abbrev pub is_server_message : Entry → Bool
is_server_message e = sent e.record_of.kind
  where
    sent : Kind → Bool
    sent (ToClient id lines) = true
    sent (ToAll lines) = true
    sent _ = false

abbrev pub count_owed : (Entry → Bool) → OpenHandle Progress → ℕ
count_owed test handle = length (filter test (owed_in handle handle.seen))

-- the server is owed as many messages of this client as the server's limit
abbrev pub server_backlog : Content → OpenHandle Progress → List Check
server_backlog c handle =
    option_map_or (λ s. Refuse (nat_le s.limit (count_owed (is_message_of handle.number) s)) (Backlogged s.number) ∷ [])
    (option_and_then (λ o. option_and_then (handle_numbered c) o.object.server) (object_numbered c handle.target)) []

-- one of these clients is owed as many messages as its limit
abbrev pub client_backlog : List (OpenHandle Progress) → List Check
client_backlog clients =
    map (λ handle. Refuse (nat_le handle.limit (count_owed is_server_message handle)) (Backlogged handle.number)) clients

abbrev pub client_checks : Content → ℕ → Addressee → List Check
client_checks c object Everyone = []
client_checks c object Nobody = Refuse true (BadText 1) ∷ []
client_checks c object (OneClient id) = Refuse (is_empty (meant c object (OneClient id))) (NoClient id) ∷ []

-- a header is the object's own name
abbrev pub own_header : List ℕ → Option (List ℕ) → List Check
own_header name header = Refuse (option_map_or (λ h. not (same h name)) header false) (BadText 1) ∷ []

-- the limits of an object
abbrev pub limit_checks : List Attribute → List Check
limit_checks attributes = Refuse (nat_lt 1024 (length attributes) || nat_lt 65536 (text_length attributes)) TooLarge ∷ []

-- the attributes after the whole write
abbrev pub changed : Content → OpenHandle Progress → WriteText → List Attribute
changed c handle text = fold apply_line (attributes_of c handle.target) (resolve (attributes_of c handle.target) text.lines)

-- a write without lines is in nobody's way
abbrev pub where_lines : WriteText → List Check → List Check
where_lines text checks = if is_empty text.lines then [] else checks

abbrev pub text_checks : Content → OpenHandle Progress → HandleKind → WriteText → List Check
text_checks c handle (ObjectHandle delta) text = own_header handle.name text.header ++ limit_checks (changed c handle text)
text_checks c handle ServerHandle text =
    let to = addressee handle.name text.header in
    client_checks c handle.target to ++ where_lines text (client_backlog (meant c handle.target to))
text_checks c handle ClientHandle text = own_header handle.name text.header ++ where_lines text (server_backlog c handle)
text_checks c handle _ text = []

abbrev pub write_checks : Content → List ℕ → OpenHandle Progress → List Check
write_checks c bytes handle =
    Refuse (not handle.writes) BadMode ∷ Refuse (nat_lt 65536 (length bytes)) TooLarge ∷ Refuse (target_is_dead c handle) Gone ∷ Memory
    ∷ parsed (write_text bytes) (text_checks c handle handle.kind)

-- ---- Close

-- a critical publisher of an alive object
abbrev pub drops : Content → OpenHandle Progress → Bool
drops c handle = handle.options.critical && handle.writes && not (target_is_dead c handle)

abbrev pub close_checks : Content → OpenHandle Progress → List Check
close_checks c handle = wants handle.kind
  where
    wants : HandleKind → List Check
    wants ServerHandle = Memory ∷ []
    wants ClientHandle = Memory ∷ []
    wants (ObjectHandle delta) = if drops c handle then Memory ∷ [] else []
    wants _ = []

-- ---- paths

abbrev pub on_path : List ℕ → (Path → List Check) → List Check
on_path text checks = parsed (ok_or (path_text text) BadPath) checks

-- a server object is deleted by its server alone
abbrev pub unlink_found : Content → Path → Found → List Check
unlink_found c path (FoundObject number) = Refuse (option_map_or (λ o. is_some o.object.server) (object_numbered c number) false) Busy ∷ []
unlink_found c path (FoundDirectory number) =
    Refuse (not (is_empty (members c number)) || not (is_empty (subdirectories c path))) NotEmpty ∷ Refuse (has_directory_handle c number) Busy ∷ []

abbrev pub unlink_checks : Content → Path → List Check
unlink_checks c path = Refuse (is_empty path) Busy ∷ parsed (find_at (at c) path) (unlink_found c path)

abbrev pub mkdir_checks : Content → Path → List Check
mkdir_checks c path =
    refused (new_refusal (at c) path)
    ++ (Refuse (nat_le 256 (length (subdirectories c (parent path)))) TableFull ∷ Refuse (nat_lt 65535 (length c.directories)) TableFull ∷ [])

abbrev pub list_checks : Content → Path → List Check
list_checks c path = parsed (find_at (at c) path) (λ found. Refuse (is_object found) NotDirectory ∷ [])

-- ---- Notify and Receive

abbrev pub notify_checks : Content → Action → ℕ → OpenHandle Progress → List Check
notify_checks c action code handle =
    Refuse (not handle.reads) BadMode ∷ Refuse (nat_lt 127 code) BadArgument
    ∷ (if arms action (news handle) then refused (arm_refusal (outbox_of c handle.connection) handle.number) ++ Memory ∷ [] else [])

abbrev pub receive_checks : Option Item → List Check
receive_checks item = if option_map_or item_has_bytes item false then Memory ∷ [] else []

-- ---- the event

abbrev pub attach_checks : Content → ℕ → List Check
attach_checks c conn = Refuse (not (nat_le 1 conn && nat_le conn 1024)) BadArgument ∷ Refuse (is_attached c conn) AlreadyAttached ∷ Memory ∷ []

-- The table of checks for what an attached connection may ask.
abbrev pub request_checks : Content → ℕ → Request → List Check
request_checks c conn Attach = []
request_checks c conn Detach = Memory ∷ []
request_checks c conn (OpenRequest mode text) = Refuse (not (letters_fit mode)) BadMode ∷ Memory ∷ parsed (open_text text) (open_checks c mode)
request_checks c conn (Read handle size) = on_handle c conn handle (read_checks c size)
request_checks c conn (Write handle bytes) = on_handle c conn handle (write_checks c bytes)
request_checks c conn (Close handle) = on_handle c conn handle (close_checks c)
request_checks c conn (Unlink path) = Memory ∷ on_path path (unlink_checks c)
request_checks c conn (Mkdir path) = Memory ∷ on_path path (mkdir_checks c)
request_checks c conn (ListRequest path) = Memory ∷ on_path path (list_checks c)
request_checks c conn (Notify handle action code value) = on_handle c conn handle (notify_checks c action code)
request_checks c conn Receive = receive_checks (first_of (queue_of c conn))

-- Attaching has checks of its own; all else wants an attached connection first.
unfoldable pub checks : Content → ℕ → Request → List Check
checks c conn Attach = attach_checks c conn
checks c conn request = Refuse (not (is_attached c conn)) NotAttached ∷ request_checks c conn request
