-- Private traffic: runs that one connection can't tell apart, since they differ only in what others' clients and their servers do between themselves. Own.
use Rattle.std.specs.Prelude.{◌≡◌, ℕ, ◌-◌, ◌^◌, List, [], ◌∷◌, Bool, true, false, not, ◌&&◌, ◌||◌, ◌==◌, nat_lt, if◌then◌else◌, is_none, Err}
use Rattle.std.specs.Option.{option_map_or}
use Rattle.std.specs.List.{list_any}
use Rattle.pps_types.specs.declared.refusal.Refusal.TheVariants.{Backlogged}
use Rattle.pps_types.specs.declared.event.Event.{Event}
use Rattle.pps_types.specs.declared.event.Request.{Request}
use Rattle.pps_types.specs.declared.event.Request.TheVariants.{Read, Write, Notify, Receive}
use Rattle.pps_types.specs.Outcome.{Reply, is_marked}
use Rattle.pps_types.specs.Text.{header_of, lines_of}
use Rattle.pps_types.specs.declared.handle_kind.HandleKind.{HandleKind}
use Rattle.pps_types.specs.Reading.{OpenHandle}
use Rattle.pps_types.specs.Rests.{Progress}
use Rattle.pps_types.specs.Content.{Content, handle_numbered}
use Rattle.pps_types.specs.Checks.{Addressee, OneClient, addressee, meant, is_client, is_server, first_refusal, checks}
use Rattle.pps_types.specs.Plan.{apply_all_seen, effect}
use Rattle.pps_types.specs.Machine.{Machine, content_of}
use Rattle.pps_types.specs.Runs.{Answered, after_answered}

-- ---- foreign events

abbrev pub on_kind : Content → ℕ → (HandleKind → Bool) → Bool
on_kind c number test = option_map_or (λ handle. test handle.kind) (handle_numbered c number) false

-- the addressee is an open client of another connection
abbrev pub is_elsewhere : Content → ℕ → ℕ → Addressee → Bool
is_elsewhere c conn object (OneClient id) = list_any (λ handle. not (handle.connection == conn)) (meant c object (OneClient id))
is_elsewhere c conn object _ = false

-- a server's message to one client of another connection, by its first line alone, also where a later line is bad
abbrev pub names_other : Content → ℕ → List ℕ → OpenHandle Progress → Bool
names_other c conn bytes handle =
    is_server handle.kind && is_elsewhere c conn handle.target (addressee handle.name (header_of (lines_of bytes)))

-- what others do that isn't told to the connection
abbrev pub is_others_own : ℕ → Content → Request → Bool
is_others_own conn c Receive = true
is_others_own conn c (Read handle size) = on_kind c handle is_client
is_others_own conn c (Notify handle action code value) = on_kind c handle is_client
is_others_own conn c (Write handle bytes) = on_kind c handle is_client || option_map_or (names_other c conn bytes) (handle_numbered c handle) false
is_others_own conn c request = false

abbrev pub is_foreign : ℕ → Content → Event → Bool
is_foreign conn c e = not (e.conn == conn) && is_others_own conn c e.request

abbrev pub unless : {X : Type 0} → Bool → X → List X → List X
unless test x xs = if test then xs else x ∷ xs

-- the events of a run that are not foreign to the connection
abbrev pub shared_events : ℕ → Machine → List Answered → List Event
shared_events conn m [] = []
shared_events conn m (x ∷ xs) = unless (is_foreign conn (content_of m) x.event) x.event (shared_events conn (after_answered m x) xs)

-- ---- quiet runs

abbrev pub holds_server : ℕ → Content → Bool
holds_server conn c = list_any (λ handle. (handle.connection == conn) && is_server handle.kind) c.handles

abbrev pub is_backlogged : Reply → Bool
is_backlogged (Err (Backlogged handle)) = true
is_backlogged _ = false

abbrev pub is_server_write : Content → Request → Bool
is_server_write c (Write handle bytes) = on_kind c handle is_server
is_server_write c request = false

-- only that record numbers are used up refuses it
abbrev pub wants_records : Content → Event → Bool
wants_records c e = is_none (first_refusal (checks c e.conn e.request)) && nat_lt (2 ^ 64 - 1) (apply_all_seen (effect c e.conn e.request).1 c).records

-- a server's write, or one of the connection itself, that a full queue refuses
abbrev pub is_held_up : ℕ → Content → Answered → Bool
is_held_up conn c x = is_backlogged x.reply && ((x.event.conn == conn) || is_server_write c x.event.request)

-- the event is not marked, not held up by a full queue, and not refused for want of record numbers
abbrev pub is_quiet_step : ℕ → Content → Answered → Bool
is_quiet_step conn c x = not (is_marked x.reply) && not (is_held_up conn c x) && not (wants_records c x.event)

-- the connection never holds a server's handle, and each step is quiet
abbrev pub is_quiet : ℕ → Machine → List Answered → Bool
is_quiet conn m [] = not (holds_server conn (content_of m))
is_quiet conn m (x ∷ xs) = not (holds_server conn (content_of m)) && is_quiet_step conn (content_of m) x && is_quiet conn (after_answered m x) xs

-- Both runs begin in m, and without the events that are foreign to the connection they are one.
pub record Agree (conn : ℕ) (m : Machine) (first second : List Answered) : Type 0 where
  pub same_events : shared_events conn m first ≡ shared_events conn m second
  pub first_quiet : is_quiet conn m first ≡ true
  pub second_quiet : is_quiet conn m second ≡ true
