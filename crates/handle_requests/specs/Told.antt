-- What the close of a handle tells.
use Rattle.std.specs.Prelude.{ℕ, Bool, false, ◌&&◌, nat_lt, if◌then◌else◌, Option, Some, None, is_some, option_map, option_and_then}
use Rattle.std.specs.Option.{option_map_or}
use Rattle.pps_types.specs.declared.handle_kind.HandleKind.{HandleKind}
use Rattle.pps_types.specs.declared.handle_kind.HandleKind.TheVariants.{Object as ObjectHandle, Server as ServerHandle, Client as ClientHandle}
use Rattle.pps_types.specs.declared.record.Kind.{Kind}
use Rattle.pps_types.specs.declared.record.Kind.TheVariants.{Dropped, Deleted, Closed}
use Rattle.pps_types.specs.History.{Entry}
use Rattle.pps_types.specs.Reading.{OpenHandle}
use Rattle.pps_types.specs.Content.{Content, LiveObject, object_numbered, own_handle}
use Rattle.pps_types.specs.Plan.{entry_of}
use Rattle.sub_reader.specs.declared.opening.Opening.{Opening}
use Rattle.service_state.specs.Tables.{Tabled, content_in}
use Rattle.handle_requests.specs.declared.own.Own.{Own}
use Rattle.handle_requests.specs.Own.{opened_as}

-- the kind of the record that a close makes of an alive object. drops: it is a critical publisher's
abbrev pub kind_told : Bool → ℕ → HandleKind → Option Kind
kind_told drops number ServerHandle = Some Deleted
kind_told drops number ClientHandle = Some (Closed number)
kind_told drops number (ObjectHandle delta) = if drops then Some Dropped else None
kind_told drops number _ = None

-- the record of that kind, where there is one, of an object that is alive
abbrev pub record_told : Option Kind → Option LiveObject → Option Entry
record_told kind object = option_and_then (λ (k : Kind). option_map (λ (o : LiveObject). entry_of o.object k None) object) kind

-- the record that the close of a handle tells
abbrev pub told_of : {S : Type 0} → Content → OpenHandle S → Option Entry
told_of c handle =
    record_told (kind_told (handle.options.critical && handle.writes) handle.number handle.kind) (object_numbered c handle.target)

-- ---- behind others of the same connection

-- this server, where there is one, is a handle of the connection of a lower number
abbrev pub closes_before : Content → ℕ → ℕ → Option ℕ → Bool
closes_before c conn number server = option_map_or (λ s. nat_lt s number && is_some (own_handle c conn s)) server false

-- the server of its object closes before it, where the connection's handles close in rising number
abbrev pub is_orphan : {S : Type 0} → Content → ℕ → OpenHandle S → Bool
is_orphan c conn handle =
    option_map_or (λ (o : LiveObject). closes_before c conn handle.number o.object.server) (object_numbered c handle.target) false

-- the record that its close tells then
abbrev pub told_behind : {S : Type 0} → Content → ℕ → OpenHandle S → Option Entry
told_behind c conn handle = if is_orphan c conn handle then None else told_of c handle

-- ---- by what the open of a handle fixed

-- the kind of the record of its close
abbrev pub kind_told_by : Opening → Option Kind
kind_told_by o = kind_told (o.options.critical && o.writes) o.number o.kind

-- the record of its close
abbrev pub own_told : Tabled → Own → Option Entry
own_told t o = told_of (content_in t) (opened_as t o)

-- and where the connection's handles of lower numbers close before it
abbrev pub own_told_last : Tabled → ℕ → Own → Option Entry
own_told_last t conn o = told_behind (content_in t) conn (opened_as t o)
