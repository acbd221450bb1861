-- Handles: which records one sees, what each looks like to it, what everything is, and what a read answers by what is owed.
-- QNX PPS guide, on opening modes, on full and delta mode, on subscribing to all objects and on server objects;
-- delivery marks, `deltadir`, limits and the reading of blocks are our own.
use Rattle.std.specs.Prelude.{◌≡◌, ◌<◌, ◌≤◌, ℕ, ◌+◌, ◌-◌, List, [], ◌∷◌, ◌++◌, Bool, true, false, not, ◌&&◌, ◌||◌, ◌==◌, nat_le, if◌then◌else◌, Option, Some, None, is_some, filter, map, length, take, codes}
use Rattle.std.specs.Option.{option_map_or}
use Rattle.std.specs.List.{concat, list_any}
use Rattle.std.specs.Fmt.{decimal}
use Rattle.pps_types.specs.declared.handle_kind.HandleKind.{HandleKind}
use Rattle.pps_types.specs.declared.handle_kind.HandleKind.TheVariants.{Object as ObjectHandle, Directory as DirectoryHandle, Names as NamesHandle, Server as ServerHandle, Client as ClientHandle}
use Rattle.pps_types.specs.declared.line.Line.{Line}
use Rattle.pps_types.specs.declared.record.Kind.{Kind}
use Rattle.pps_types.specs.declared.record.Kind.TheVariants.{Created, Change, Truncated, Dropped, Deleted, Opened, Closed, FromClient, ToClient, ToAll}
use Rattle.pps_types.specs.declared.record.Record.{Record}
use Rattle.pps_types.specs.Text.{print_header, print_lines}
use Rattle.pps_types.specs.Filter.{Part, matches}
use Rattle.pps_types.specs.History.{Entry}
use Rattle.pps_types.specs.OpenText.{HandleOptions}

-- ---- handles

-- One open. S is what is known of what it has seen: a cursor, or what the cursor comes to.
-- name: of its target, where that is an object. parked: the size of the parked read. armed: a code and a value.
pub record OpenHandle (S : Type 0) : Type 0 where
  pub number : ℕ
  pub connection : ℕ
  pub target : ℕ
  pub name : List ℕ
  pub kind : HandleKind
  pub reads : Bool
  pub writes : Bool
  pub options : HandleOptions
  pub limit : ℕ
  pub seen : S
  pub parked : Option ℕ
  pub armed : Option (ℕ × ℕ)

-- the same open, with another thing known of what it has seen
abbrev pub reseen : {S T : Type 0} → (OpenHandle S → T) → OpenHandle S → OpenHandle T
reseen see handle =
    record { number = handle.number; connection = handle.connection; target = handle.target; name = handle.name; kind = handle.kind; reads = handle.reads; writes = handle.writes; options = handle.options; limit = handle.limit; seen = see handle; parked = handle.parked; armed = handle.armed }

abbrev pub is_object_kind : HandleKind → Bool
is_object_kind (ObjectHandle delta) = true
is_object_kind _ = false

abbrev pub is_directory_kind : HandleKind → Bool
is_directory_kind (DirectoryHandle delta) = true
is_directory_kind NamesHandle = true
is_directory_kind _ = false

-- Full: whether there is news. Delta: a debt that is given up past the limit. Queue: all of it.
pub data Style : Type 0 where
  Full : Style
  Delta : Style
  Queue : Style

abbrev pub style : HandleKind → Style
style (ObjectHandle false) = Full
style (DirectoryHandle false) = Full
style (ObjectHandle true) = Delta
style (DirectoryHandle true) = Delta
style NamesHandle = Delta
style ServerHandle = Queue
style ClientHandle = Queue

abbrev pub is_full_style : Style → Bool
is_full_style Full = true
is_full_style s = false

abbrev pub is_delta_style : Style → Bool
is_delta_style Delta = true
is_delta_style s = false

-- ---- blocks

-- A block: the mark before `@`, what stands behind the name, and the lines.
pub record Shown : Type 0 where
  pub mark : List ℕ
  pub suffix : List ℕ
  pub lines : List Line

abbrev pub header_only : List ℕ → Option Shown
header_only mark = Some (record { mark = mark; suffix = []; lines = [] })

abbrev pub with_lines : List Line → Option Shown
with_lines lines = Some (record { mark = []; suffix = []; lines = lines })

abbrev pub with_client : List ℕ → ℕ → List Line → Option Shown
with_client mark id lines = Some (record { mark = mark; suffix = codes "." ++ decimal id; lines = lines })

-- the matching lines, where there are any
abbrev pub matching_lines : Option (List Part) → List Line → Option Shown
matching_lines parts lines = if list_any (matches parts) lines then with_lines (filter (matches parts) lines) else None

abbrev pub shown_to_object : Option (List Part) → Kind → Option Shown
shown_to_object parts (Change lines) = matching_lines parts lines
shown_to_object parts Truncated = header_only (codes "#")
shown_to_object parts Dropped = header_only (codes "*")
shown_to_object parts Deleted = header_only (codes "-")
shown_to_object parts _ = None

abbrev pub shown_to_directory : Option (List Part) → Kind → Option Shown
shown_to_directory parts Created = header_only (codes "+")
shown_to_directory parts kind = shown_to_object parts kind

abbrev pub shown_to_names : Kind → Option Shown
shown_to_names Created = header_only (codes "+")
shown_to_names Deleted = header_only (codes "-")
shown_to_names _ = None

abbrev pub shown_to_server : Kind → Option Shown
shown_to_server (Opened id) = with_client (codes "+") id []
shown_to_server (Closed id) = with_client (codes "-") id []
shown_to_server (FromClient id lines) = with_client [] id lines
shown_to_server _ = None

abbrev pub shown_to_client : ℕ → Kind → Option Shown
shown_to_client number Deleted = header_only (codes "-")
shown_to_client number (ToClient id lines) = if id == number then with_lines lines else None
shown_to_client number (ToAll lines) = with_lines lines
shown_to_client number _ = None

-- The table of blocks: a column for each kind of handle.
abbrev pub shown : HandleKind → ℕ → Option (List Part) → Kind → Option Shown
shown (ObjectHandle delta) number parts kind = shown_to_object parts kind
shown (DirectoryHandle delta) number parts kind = shown_to_directory parts kind
shown NamesHandle number parts kind = shown_to_names kind
shown ServerHandle number parts kind = shown_to_server kind
shown ClientHandle number parts kind = shown_to_client number kind

abbrev pub print_shown : List ℕ → Option Shown → List ℕ
print_shown name None = []
print_shown name (Some s) = print_header s.mark (name ++ s.suffix) ++ print_lines s.lines

-- what a record of the object of that name looks like to a handle
abbrev pub block_of : {S : Type 0} → OpenHandle S → List ℕ → Kind → List ℕ
block_of handle name kind = print_shown name (shown handle.kind handle.number handle.options.filter kind)

abbrev pub block : {S : Type 0} → OpenHandle S → Entry → List ℕ
block handle e = block_of handle e.name e.record_of.kind

-- ---- which records a handle is given

abbrev pub is_writer : ℕ → Option ℕ → Bool
is_writer number writer = option_map_or (λ w. w == number) writer false

-- of the records of its target: not its own, unless it is an object's handle that reflects, and none without a block
abbrev pub sees : {S : Type 0} → OpenHandle S → Record → Bool
sees handle r =
    handle.reads && (not (is_writer handle.number r.writer) || (handle.options.reflect && is_object_kind handle.kind))
    && is_some (shown handle.kind handle.number handle.options.filter r.kind)

-- a record of the target, or of an object directly in it
abbrev pub concerns : {S : Type 0} → OpenHandle S → Entry → Bool
concerns handle e = if is_directory_kind handle.kind then e.directory == handle.target else e.record_of.object == handle.target

abbrev pub visible : {S : Type 0} → OpenHandle S → Entry → Bool
visible handle e = concerns handle e && sees handle e.record_of

-- the records of a directory or an object that are kept for those who subscribe to it in delta mode
abbrev pub is_chained : HandleKind → Kind → Bool
is_chained ServerHandle _ = false
is_chained ClientHandle _ = false
is_chained (ObjectHandle delta) Created = false
is_chained _ Created = true
is_chained _ (Change lines) = true
is_chained _ Truncated = true
is_chained _ Dropped = true
is_chained _ Deleted = true
is_chained _ _ = false

-- ---- everything

-- a member of the target: its name, and its attributes as lines
pub record Member : Type 0 where
  pub name : List ℕ
  pub lines : List Line

abbrev pub print_member : List ℕ → Option (List Part) → Member → List ℕ
print_member mark parts m = print_header mark m.name ++ print_lines (filter (matches parts) m.lines)

abbrev pub overflow_mark : Bool → List ℕ
overflow_mark over = if over then codes "!" else []

abbrev pub overflow_line : Bool → List ℕ
overflow_line over = if over then print_header (codes "!") (codes ".all") else []

-- Everything that a read gives: of an object, which is its own one member, alive or dead; or of a directory's members.
abbrev pub everything_of : HandleKind → Option (List Part) → Bool → Bool → List Member → List ℕ
everything_of (ObjectHandle delta) parts over false members = concat (map (λ m. print_header (codes "-") m.name) members)
everything_of (ObjectHandle delta) parts over true members = concat (map (print_member (overflow_mark over) parts) members)
everything_of (DirectoryHandle delta) parts over alive members = overflow_line over ++ concat (map (print_member [] parts) members)
everything_of NamesHandle parts over alive members = overflow_line over ++ concat (map (λ m. print_header [] m.name) members)
everything_of _ parts over alive members = []

-- ---- what a read answers

pub data Answer : Type 0 where
  Everything : List ℕ → Answer
  Blocks : ℕ → List ℕ → Answer
  Needs : ℕ → Answer
  TargetGone : Answer
  Waits : Answer
  Nothing : Answer

abbrev pub with_block : List ℕ → ℕ × List ℕ → ℕ × List ℕ
with_block b given = (1 + given.0, b ++ given.1)

-- the longest run of whole blocks, from the first, that fits: how many, and their bytes
abbrev pub fitting : ℕ → List (List ℕ) → ℕ × List ℕ
fitting room [] = (0, [])
fitting room (b ∷ bs) = if nat_le (length b) room then with_block b (fitting (room - length b) bs) else (0, [])

-- so many blocks are given, whole and from the first, and one more would not fit
pub record IsLongestRun (room : ℕ) (blocks : List (List ℕ)) (given : ℕ × List ℕ) : Type 0 where
  pub within : given.0 ≤ length blocks
  pub bytes : given.1 ≡ concat (take given.0 blocks)
  pub fits : length given.1 ≤ room
  pub longest : given.0 < length blocks → room < length (concat (take (given.0 + 1) blocks))

abbrev pub BlocksFit : Type 0
BlocksFit = (room : ℕ) (blocks : List (List ℕ)) → IsLongestRun room blocks (fitting room blocks)

abbrev pub blocks_answer : ℕ × List ℕ → Answer
blocks_answer given = Blocks given.0 given.1

-- all of it, or the size that it needs
abbrev pub whole_answer : List ℕ → ℕ → Answer
whole_answer text max = if nat_le (length text) max then Everything text else Needs (length text)

-- nothing is owed
abbrev pub idle_answer : Bool → Bool → Answer
idle_answer dead wait = if dead then TargetGone else if wait then Waits else Nothing

abbrev pub owed_answer : Bool → List (List ℕ) → Bool → ℕ → Answer
owed_answer wait [] dead max = idle_answer dead wait
owed_answer wait (b ∷ bs) dead max = if nat_le (length b) max then blocks_answer (fitting max (b ∷ bs)) else Needs (length b)
