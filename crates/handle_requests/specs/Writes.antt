-- A write, by who writes and by what its text comes to.
use Rattle.std.specs.Prelude.{◌≡◌, ◌⊎◌, ℕ, List, [], ◌∷◌, ◌++◌, Bool, true, false, not, nat_lt, if◌then◌else◌, Option, Some, None, Ok, is_some, IsSomeAnd, fold, map, length}
use Rattle.std.specs.Option.{option_map_or}
use Rattle.pps_types.specs.declared.refusal.Refusal.{Refusal}
use Rattle.pps_types.specs.declared.refusal.Refusal.TheVariants.{OutOfMemory, BadMode, TooLarge, Gone}
use Rattle.pps_types.specs.declared.handle_kind.HandleKind.{HandleKind}
use Rattle.pps_types.specs.declared.handle_kind.HandleKind.TheVariants.{Object as ObjectHandle, Server as ServerHandle, Client as ClientHandle}
use Rattle.pps_types.specs.declared.record.Kind.{Kind}
use Rattle.pps_types.specs.declared.record.Kind.TheVariants.{Change, FromClient}
use Rattle.pps_types.specs.Bytes.{is_empty}
use Rattle.pps_types.specs.Text.{WriteText, write_text}
use Rattle.pps_types.specs.History.{Entry, apply_line, resolve, message_line}
use Rattle.pps_types.specs.Reading.{OpenHandle, is_directory_kind}
use Rattle.pps_types.specs.Rests.{Progress}
use Rattle.pps_types.specs.Content.{Content, object_numbered, attributes_of, target_is_dead, own_handle}
use Rattle.pps_types.specs.Checks.{Check, Refuse, first_refusal, is_server, addressee, own_header, limit_checks, client_checks, client_backlog, meant, where_lines}
use Rattle.pps_types.specs.Plan.{Move, AppendsRecord, apply_all_seen, entry_of, sent, passes_last_number}
use Rattle.name_table.specs.Standing.{Placed, known_of, AreReadyAt}
use Rattle.open_handles.specs.Whole.{Whole, name_at}
use Rattle.handle_requests.specs.declared.draft.Draft.{Draft}
use Rattle.handle_requests.specs.declared.writer.Writer.{Writer}
use Rattle.handle_requests.specs.Backlogs.{server_in, server_checks}

-- ---- who writes

-- a handle that writes, the name that it was opened under, and its object
pub record Author : Type 0 where
  pub handle : ℕ
  pub name : List ℕ
  pub object : ℕ

abbrev pub author : OpenHandle Progress → Author
author handle = record { handle = handle.number; name = handle.name; object = handle.target }

-- among these handles
abbrev pub author_of : Whole → Writer → Author
author_of whole w = record { handle = w.handle; name = name_at w.found whole; object = w.object.now.object.number }

-- the checks that come before any memory is taken
abbrev pub early_checks : Content → List ℕ → OpenHandle Progress → List Check
early_checks c bytes handle =
    Refuse (not handle.writes) BadMode ∷ Refuse (nat_lt 65536 (length bytes)) TooLarge ∷ Refuse (target_is_dead c handle) Gone ∷ []

-- its object stands as it was found, and is a server's where the handle is
pub record IsAuthor (c : Content) (w : Writer) : Type 0 where
  pub known : object_numbered c w.object.now.object.number ≡ Some (known_of w.object.now)
  pub plain : is_directory_kind w.kind ≡ false
  pub served : is_server w.kind ≡ true → is_some (server_in c w.object.now.object.number) ≡ true

-- it is that handle, which may write these bytes, and its object is alive
pub record IsWriter (c : Content) (whole : Whole) (bytes : List ℕ) (w : Writer) (handle : OpenHandle Progress) : Type 0 where
  pub early : first_refusal (early_checks c bytes handle) ≡ None
  pub author_is : author_of whole w ≡ author handle
  pub kind : w.kind ≡ handle.kind
  pub known : object_numbered c handle.target ≡ Some (known_of w.object.now)
  pub plain : is_directory_kind handle.kind ≡ false

-- ---- what its text comes to

abbrev pub server_text_checks : Content → List ℕ → ℕ → WriteText → List Check
server_text_checks c name object text =
    client_checks c object (addressee name text.header) ++ where_lines text (client_backlog (meant c object (addressee name text.header)))

abbrev pub client_text_checks : Content → ℕ → List ℕ → ℕ → WriteText → List Check
client_text_checks c handle name object text = own_header name text.header ++ where_lines text (server_checks c object handle)

-- the checks of a text
abbrev pub checks_by : Content → Author → HandleKind → WriteText → List Check
checks_by c a (ObjectHandle delta) text = own_header a.name text.header ++ limit_checks (fold apply_line (attributes_of c a.object) (resolve (attributes_of c a.object) text.lines))
checks_by c a ServerHandle text = server_text_checks c a.name a.object text
checks_by c a ClientHandle text = client_text_checks c a.handle a.name a.object text
checks_by c a _ text = []

-- what its record says
abbrev pub kind_by : Content → Author → HandleKind → WriteText → Kind
kind_by c a ServerHandle text = sent (addressee a.name text.header) (map message_line text.lines)
kind_by c a ClientHandle text = FromClient a.handle (map message_line text.lines)
kind_by c a _ text = Change (resolve (attributes_of c a.object) text.lines)

-- why lines may not be applied to an object
abbrev pub late_refusal : Content → ℕ → Kind → Option Refusal
late_refusal c object (Change lines) = first_refusal (limit_checks (fold apply_line (attributes_of c object) lines))
late_refusal c object _ = None

-- a check that fails, or want of memory, where the mark is passed already
abbrev pub FailsLate : List Check → Refusal → Type 0
FailsLate cs r = (first_refusal cs ≡ Some r) ⊎ (r ≡ OutOfMemory)

-- a text that is read, and what it comes to: of its checks the object's limits alone are left
pub record IsDrafted (c : Content) (a : Author) (kind_is : HandleKind) (bytes : List ℕ) (d : Draft) : Type 0 where
  pub text : WriteText
  pub reads : write_text bytes ≡ Ok text
  pub object : d.object ≡ a.object
  pub lines : d.has_lines ≡ not (is_empty text.lines)
  pub kind : d.kind ≡ kind_by c a kind_is text
  pub late : first_refusal (checks_by c a kind_is text) ≡ late_refusal c a.object d.kind

-- the same of a handle
pub record IsDraftOf (c : Content) (bytes : List ℕ) (d : Draft) (handle : OpenHandle Progress) : Type 0 where
  pub early : first_refusal (early_checks c bytes handle) ≡ None
  pub alive : is_some (object_numbered c handle.target) ≡ true
  pub drafted : IsDrafted c (author handle) handle.kind bytes d

abbrev pub IsDraft : Content → ℕ → ℕ → List ℕ → Draft → Type 0
IsDraft c conn handle bytes d = IsSomeAnd (own_handle c conn handle) (IsDraftOf c bytes d)

-- ---- what it tells

-- a record, where one is told
abbrev pub tells : Option Entry → List Move
tells e = option_map_or (λ e. AppendsRecord e ∷ []) e []

-- a record of an object, where it is alive
abbrev pub on_object : Content → ℕ → Kind → ℕ → List Move
on_object c object kind handle = option_map_or (λ o. AppendsRecord (entry_of o.object kind (Some handle)) ∷ []) (object_numbered c object) []

abbrev pub told_by : Content → ℕ → Draft → List Move
told_by c handle d = if d.has_lines then on_object c d.object d.kind handle else []

-- these moves pass a last number
abbrev pub is_past : Content → List Move → Bool
is_past c ms = passes_last_number (apply_all_seen ms c)

-- the lines of a record that changes the object are ready in it
abbrev pub HasLinesAt : Kind → Placed → Type 0
HasLinesAt (Change lines) x = AreReadyAt lines x
HasLinesAt _ x = Unit {0}
