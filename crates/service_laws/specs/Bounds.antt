-- How large what stands may be. The limits on names, texts and members are our own.
use Rattle.std.specs.Prelude.{◌≡◌, ◌≤◌, ◌<◌, ℕ, ◌^◌, List, [], false, true, ◌==◌, Option, Some, None, Ok, filter, length}
use Rattle.std.specs.List.{AllByRecursion}
use Rattle.pps_types.specs.declared.line.Line.{Line}
use Rattle.pps_types.specs.declared.outcome.Item.{Item}
use Rattle.pps_types.specs.declared.outcome.Item.TheVariants.{ReadDone}
use Rattle.pps_types.specs.declared.record.Kind.{Kind}
use Rattle.pps_types.specs.declared.record.Kind.TheVariants.{Change, Opened, Closed, FromClient, ToClient, ToAll}
use Rattle.pps_types.specs.Text.{print_lines}
use Rattle.pps_types.specs.Names.{Path, last_name}
use Rattle.pps_types.specs.History.{Entry, text_length}
use Rattle.pps_types.specs.Reading.{OpenHandle, is_directory_kind}
use Rattle.pps_types.specs.Rests.{Progress, Owed}
use Rattle.pps_types.specs.Content.{LiveObject, Connection, Content, subdirectories}

-- ---- records

abbrev pub lines_of : Kind → List Line
lines_of (Change lines) = lines
lines_of (FromClient id lines) = lines
lines_of (ToClient id lines) = lines
lines_of (ToAll lines) = lines
lines_of _ = []

-- the client that a record tells of
abbrev pub client_of : Kind → ℕ
client_of (Opened id) = id
client_of (Closed id) = id
client_of (FromClient id lines) = id
client_of _ = 0

-- The lines of a write of at most 65,536 bytes have a printing below this many.
abbrev pub IsShort : Entry → Type 0
IsShort e = (length e.name ≤ 255) × (length (print_lines (lines_of e.record_of.kind)) ≤ 400000) × (client_of e.record_of.kind < 2 ^ 32)

abbrev pub AreShort : Progress → Type 0
AreShort (Owed rest) = AllByRecursion IsShort rest
AreShort _ = Unit {0}

-- ---- what stands

-- an object's name has at most 255 bytes, its attributes at most 65,536 as text
abbrev pub IsBoundObject : LiveObject → Type 0
IsBoundObject o = (length o.object.name ≤ 255) × (text_length o.attributes ≤ 65536)

-- a parked read is of at most 17,000,000 bytes
abbrev pub IsReadSize : Option ℕ → Type 0
IsReadSize None = Unit {0}
IsReadSize (Some size) = size ≤ 17000000

-- a handle on a directory does not write
pub record IsBoundHandle (handle : OpenHandle Progress) : Type 0 where
  pub name : length handle.name ≤ 255
  pub parked : IsReadSize handle.parked
  pub owed : AreShort handle.seen
  pub listens : is_directory_kind handle.kind ≡ true → handle.writes ≡ false

abbrev pub IsBoundItem : Item → Type 0
IsBoundItem (ReadDone handle (Ok bytes)) = length bytes ≤ 17000000
IsBoundItem _ = Unit {0}

abbrev pub IsBoundConnection : Connection → Type 0
IsBoundConnection x = AllByRecursion IsBoundItem x.queue

-- how many objects lie directly in a directory
abbrev pub crowd : List LiveObject → ℕ → ℕ
crowd objects directory = length (filter (λ o. o.object.directory == directory) objects)

-- The sizes alone, of what stands well formed. At most 256 objects and 256 directories lie directly in a directory.
pub record IsBound (c : Content) : Type 0 where
  pub handles_end : c.next_handle ≤ 4294967296
  pub objects : AllByRecursion IsBoundObject c.objects
  pub crowds : (directory : ℕ) → crowd c.objects directory ≤ 256
  pub directories : AllByRecursion (λ d. length (last_name d.path) ≤ 255) c.directories
  pub branches : (path : Path) → length (subdirectories c path) ≤ 256
  pub handles : AllByRecursion IsBoundHandle c.handles
  pub queues : AllByRecursion IsBoundConnection c.connections
