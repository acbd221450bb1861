-- A write over the tables: who writes, what its text comes to, and what it begins with.
use Rattle.std.specs.Prelude.{◌≡◌, ◌⊎◌, ℕ, List, [], ◌∷◌, Bool, true, Option, Some, None, IfSome, IsSomeAnd, map, length}
use Rattle.std.specs.List.{flat_map}
use Rattle.std.specs.Option.{option_to_list}
use Rattle.pps_types.specs.declared.outcome.Outcome.TheVariants.{Wrote}
use Rattle.pps_types.specs.declared.event.Request.TheVariants.{Write}
use Rattle.pps_types.specs.declared.refusal.Refusal.{Refusal}
use Rattle.pps_types.specs.declared.refusal.Refusal.TheVariants.{OutOfMemory, TableFull}
use Rattle.pps_types.specs.declared.record.Kind.{Kind}
use Rattle.pps_types.specs.declared.record.Kind.TheVariants.{Change, FromClient}
use Rattle.pps_types.specs.Text.{WriteText, write_text}
use Rattle.pps_types.specs.declared.line.WriteLine.{WriteLine}
use Rattle.pps_types.specs.History.{Entry, resolve, resolved, message_line}
use Rattle.pps_types.specs.Content.{Content, own_handle}
use Rattle.pps_types.specs.Checks.{Check, first_refusal, parsed, addressee}
use Rattle.pps_types.specs.Plan.{AppendsRecord, sent}
use Rattle.name_table.specs.Standing.{Named, Placed, placed_at}
use Rattle.service_state.specs.Lines.{HasLines}
use Rattle.service_state.specs.Tables.{Tabled, content_in}
use Rattle.service_state.specs.declared.beginning.Beginning.{Beginning}
use Rattle.service_state.specs.Beginning.{moves_of}
use Rattle.service_state.specs.Refused.{all_checks_in, effect_in}
use Rattle.handle_requests.specs.declared.draft.Draft.{Draft}
use Rattle.handle_requests.specs.declared.draft.Prepared.{Prepared}
use Rattle.handle_requests.specs.declared.draft.Prepared.TheVariants.{Record, Untold}
use Rattle.handle_requests.specs.declared.writer.Writer.{Writer}
use Rattle.handle_requests.specs.Writes.{author_of, checks_by, kind_by, server_text_checks, client_text_checks, late_refusal, IsWriter, IsDrafted, IsDraft, HasLinesAt, told_by, tells, is_past}

-- all checks of a write
abbrev pub write_checks_in : Tabled → ℕ → ℕ → List ℕ → List Check
write_checks_in t conn handle bytes = all_checks_in t conn (Write handle bytes)

-- a write answers how many bytes there are, and begins with this, where no check refuses it
abbrev pub IsWriteEffect : Tabled → ℕ → ℕ → List ℕ → Option Beginning → Type 0
IsWriteEffect t conn handle bytes beginning =
    effect_in t conn (Write handle bytes) ≡ (Wrote (length bytes), flat_map moves_of (option_to_list beginning))

-- ---- who writes

-- it is the connection's own handle of that number, which may write these bytes
abbrev pub IsWriterOf : Tabled → ℕ → ℕ → List ℕ → Writer → Type 0
IsWriterOf t conn handle bytes w = IsSomeAnd (own_handle (content_in t) conn handle) (IsWriter (content_in t) t.handles bytes w)

-- the checks of a text that a server of that name writes
abbrev pub server_checks_by : Tabled → List ℕ → ℕ → WriteText → List Check
server_checks_by t name object text = server_text_checks (content_in t) name object text

-- the checks of a text that a client of that number and name writes
abbrev pub client_checks_by : Tabled → ℕ → List ℕ → ℕ → WriteText → List Check
client_checks_by t handle name object text = client_text_checks (content_in t) handle name object text

-- the checks of a text of this writer
abbrev pub writer_checks : Tabled → Writer → WriteText → List Check
writer_checks t w text = checks_by (content_in t) (author_of t.handles w) w.kind text

-- the checks of bytes of this writer, the first that they can be read
abbrev pub bytes_checks : Tabled → Writer → List ℕ → List Check
bytes_checks t w bytes = parsed (write_text bytes) (checks_by (content_in t) (author_of t.handles w) w.kind)

-- ---- what a text comes to

-- the change of an object by these lines
abbrev pub change_by : Placed → WriteText → Kind
change_by x text = Change (resolve x.held.attributes text.lines)

-- the message of a server of that name
abbrev pub server_message : List ℕ → WriteText → Kind
server_message name text = sent (addressee name text.header) (map message_line text.lines)

-- the message of a client
abbrev pub client_message : ℕ → WriteText → Kind
client_message handle text = FromClient handle (map message_line text.lines)

-- what the record says of a text of this writer
abbrev pub writer_kind : Tabled → Writer → WriteText → Kind
writer_kind t w text = kind_by (content_in t) (author_of t.handles w) w.kind text

-- of the checks of the text, the object's limits alone are left
abbrev pub LeavesLimits : Tabled → Writer → WriteText → Kind → Type 0
LeavesLimits t w text kind = first_refusal (writer_checks t w text) ≡ late_refusal (content_in t) w.object.now.object.number kind

-- it is a draft of these bytes, by this writer
abbrev pub IsDraftBy : Tabled → Writer → List ℕ → Draft → Type 0
IsDraftBy t w bytes d = IsDrafted (content_in t) (author_of t.handles w) w.kind bytes d

-- it is the draft of this line alone, which changes the object
pub record IsLineDraft (x : Placed) (line : WriteLine) (d : Draft) : Type 0 where
  pub object : d.object ≡ x.object.number
  pub lines : d.has_lines ≡ true
  pub kind : d.kind ≡ Change (resolved x.held.attributes line ∷ [])

-- ---- a draft with its record

abbrev pub object_in : Prepared → ℕ
object_in (Record e) = e.record_of.object
object_in (Untold d) = d.object

abbrev pub kind_in : Prepared → Kind
kind_in (Record e) = e.record_of.kind
kind_in (Untold d) = d.kind

abbrev pub entry_in : Prepared → Option Entry
entry_in (Record e) = Some e
entry_in (Untold d) = None

-- it is this draft, with the record that it tells
pub record IsPreparedOf (c : Content) (handle : ℕ) (d : Draft) (p : Prepared) : Type 0 where
  pub object : object_in p ≡ d.object
  pub kind : kind_in p ≡ d.kind
  pub tells : tells (entry_in p) ≡ told_by c handle d

-- it is a draft of these bytes, with its record
pub record IsPrepared (t : Tabled) (conn handle : ℕ) (bytes : List ℕ) (p : Prepared) : Type 0 where
  pub draft : Draft
  pub drafted : IsDraft (content_in t) conn handle bytes draft
  pub prepared : IsPreparedOf (content_in t) handle draft p

-- ---- what is ready for a draft

-- the limits of the object allow a record of that kind
abbrev pub AllowsKind : Tabled → ℕ → Kind → Type 0
AllowsKind t object kind = late_refusal (content_in t) object kind ≡ None

-- they refuse it so, or memory lacks
abbrev pub RefusesKind : Tabled → ℕ → Kind → Refusal → Type 0
RefusesKind t object kind r = (late_refusal (content_in t) object kind ≡ Some r) ⊎ (r ≡ OutOfMemory)

-- its lines are ready in the object
abbrev pub HasKindLines : ℕ → Kind → Named → Type 0
HasKindLines object kind names = IfSome (placed_at object names) (HasLinesAt kind)

-- the lines of a record are ready in its object, if there is a record
abbrev pub HasRecordLines : Option Entry → Named → Type 0
HasRecordLines entry names = IfSome entry (λ e. HasLines e names)

-- ---- the last number

-- whether any one more record would pass it
abbrev pub IsLast : Tabled → Bool → Type 0
IsLast t last = (e : Entry) → is_past (content_in t) (AppendsRecord e ∷ []) ≡ last

-- the record would pass it, or memory lacks
abbrev pub RefusesRecord : Tabled → Option Entry → Refusal → Type 0
RefusesRecord t entry r = ((r ≡ TableFull) × (is_past (content_in t) (tells entry) ≡ true)) ⊎ (r ≡ OutOfMemory)
