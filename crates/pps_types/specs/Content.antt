-- What stands now: the names, the alive objects with their attributes, and what each open handle has still to be given.
-- QNX PPS guide, on objects, on subscribing to all objects in a directory and on server objects.
use Rattle.std.specs.Prelude.{ℕ, List, [], ◌∷◌, Bool, not, ◌&&◌, ◌||◌, ◌==◌, if◌then◌else◌, Option, None, is_none, is_some, option_map, option_and_then, filter, find, map}
use Rattle.std.specs.Option.{option_map_or, option_or}
use Rattle.std.specs.List.{filter_map, list_any}
use Rattle.pps_types.specs.declared.found.Found.{Found}
use Rattle.pps_types.specs.declared.found.Found.TheVariants.{Object as FoundObject, Directory as FoundDirectory}
use Rattle.pps_types.specs.declared.outcome.Item.{Item}
use Rattle.pps_types.specs.Bytes.{same}
use Rattle.pps_types.specs.Names.{Name, Path, same_path, parent, last_name, name_cmp, sorted_by}
use Rattle.pps_types.specs.History.{Attribute, Entry, line_of}
use Rattle.pps_types.specs.Reading.{OpenHandle, visible, is_directory_kind, Member, Answer, everything_of}
use Rattle.pps_types.specs.Rests.{Progress, news_in, is_over, answer}
use Rattle.pps_types.specs.Outbox.{Outbox}

-- What is fixed when an object is created. server: the handle that owns it, where it is a server object.
pub record Object : Type 0 where
  pub number : ℕ
  pub directory : ℕ
  pub name : Name
  pub nopersist : Bool
  pub server : Option ℕ

pub record Directory : Type 0 where
  pub number : ℕ
  pub path : Path

-- an alive object
pub record LiveObject : Type 0 where
  pub object : Object
  pub attributes : List Attribute

-- an attached connection, and the items that are queued for it
pub record Connection : Type 0 where
  pub number : ℕ
  pub queue : List Item

-- Objects, directories, handles and connections stand in rising number. records: how many there were so far.
-- next_object, next_directory, next_handle: the numbers that the next ones get.
pub record Content : Type 0 where
  pub default_limit : ℕ
  pub records : ℕ
  pub objects : List LiveObject
  pub next_object : ℕ
  pub directories : List Directory
  pub next_directory : ℕ
  pub handles : List (OpenHandle Progress)
  pub next_handle : ℕ
  pub connections : List Connection

-- ---- names

abbrev pub object_numbered : Content → ℕ → Option LiveObject
object_numbered c number = find (λ o. o.object.number == number) c.objects

abbrev pub directory_at : Content → Path → Option Directory
directory_at c path = find (λ d. same_path d.path path) c.directories

-- the number of the directory that holds a path's last name
abbrev pub parent_number : Content → Path → Option ℕ
parent_number c path = option_map (λ d. d.number) (directory_at c (parent path))

abbrev pub object_in : Content → Name → ℕ → Option LiveObject
object_in c name directory = find (λ o. (o.object.directory == directory) && same o.object.name name) c.objects

-- the alive object of a path
abbrev pub object_at : Content → Path → Option LiveObject
object_at c [] = None
object_at c (n ∷ ns) = option_and_then (object_in c (last_name (n ∷ ns))) (parent_number c (n ∷ ns))

-- what stands at a path
abbrev pub at : Content → Path → Option Found
at c path = option_or (option_map (λ d. FoundDirectory d.number) (directory_at c path)) (option_map (λ o. FoundObject o.object.number) (object_at c path))

-- the alive objects directly in a directory, in byte order of names
abbrev pub members : Content → ℕ → List LiveObject
members c directory = sorted_by name_cmp (λ o. o.object.name) (filter (λ o. o.object.directory == directory) c.objects)

-- the directories directly in one
abbrev pub subdirectories : Content → Path → List Directory
subdirectories c path = filter (λ d. not (same_path d.path []) && same_path (parent d.path) path) c.directories

-- ---- handles

abbrev pub handle_numbered : Content → ℕ → Option (OpenHandle Progress)
handle_numbered c number = find (λ handle. handle.number == number) c.handles

-- the handle of that number, where it is the connection's own
abbrev pub own_handle : Content → ℕ → ℕ → Option (OpenHandle Progress)
own_handle c conn number = find (λ handle. (handle.number == number) && (handle.connection == conn)) c.handles

abbrev pub news : OpenHandle Progress → Bool
news handle = news_in handle.reads handle.seen

-- it has a read parked or a pulse armed
abbrev pub is_waiting : OpenHandle Progress → Bool
is_waiting handle = is_some handle.parked || is_some handle.armed

-- it had no news, and sees one of the records
abbrev pub learns : List Entry → OpenHandle Progress → Bool
learns es handle = not (news handle) && list_any (visible handle) es

-- a handle on that object, as publisher, subscriber, server or client
abbrev pub has_object_handle : Content → ℕ → Bool
has_object_handle c object = is_some (find (λ handle. not (is_directory_kind handle.kind) && (handle.target == object)) c.handles)

-- an open `.all` of that directory
abbrev pub has_directory_handle : Content → ℕ → Bool
has_directory_handle c directory = is_some (find (λ handle. is_directory_kind handle.kind && (handle.target == directory)) c.handles)

abbrev pub attributes_of : Content → ℕ → List Attribute
attributes_of c number = option_map_or (λ o. o.attributes) (object_numbered c number) []

abbrev pub member : LiveObject → Member
member o = record { name = o.object.name; lines = map line_of o.attributes }

-- an object is its own one member, a dead one too
abbrev pub target_members : Content → OpenHandle Progress → List Member
target_members c handle =
    if is_directory_kind handle.kind then map member (members c handle.target)
    else record { name = handle.name; lines = map line_of (attributes_of c handle.target) } ∷ []

abbrev pub target_is_dead : Content → OpenHandle Progress → Bool
target_is_dead c handle = not (is_directory_kind handle.kind) && is_none (object_numbered c handle.target)

abbrev pub everything : Content → OpenHandle Progress → List ℕ
everything c handle =
    everything_of handle.kind handle.options.filter (is_over handle.seen) (not (target_is_dead c handle)) (target_members c handle)

abbrev pub read_answer : Content → OpenHandle Progress → ℕ → Answer
read_answer c handle max = answer handle handle.seen (everything c handle) (target_is_dead c handle) max

-- ---- connections

abbrev pub connection_numbered : Content → ℕ → Option Connection
connection_numbered c conn = find (λ x. x.number == conn) c.connections

abbrev pub is_attached : Content → ℕ → Bool
is_attached c conn = is_some (connection_numbered c conn)

abbrev pub queue_of : Content → ℕ → List Item
queue_of c conn = option_map_or (λ x. x.queue) (connection_numbered c conn) []

abbrev pub handles_of : Content → ℕ → List (OpenHandle Progress)
handles_of c conn = filter (λ handle. handle.connection == conn) c.handles

-- what a connection has to come
abbrev pub outbox_of : Content → ℕ → Outbox
outbox_of c conn = record {
  items = queue_of c conn;
  armed = filter_map (λ handle. option_map (λ pulse. (handle.number, pulse)) handle.armed) (handles_of c conn);
  parked = filter_map (λ handle. option_map (λ size. handle.number) handle.parked) (handles_of c conn);
}
