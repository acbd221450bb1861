-- The laws of connections, each a function's contract.
use Rattle.std.specs.Prelude.{◌≡◌, ◌≤◌, ◌<◌, ℕ, List, [], ◌∷◌, ◌++◌, true, false, ◌==◌, if◌then◌else◌, Some, None, is_some, Result, Err, map, option_map}
use Rattle.std.specs.List.{list_all}
use Rattle.pps_types.specs.declared.refusal.Refusal.{Refusal}
use Rattle.pps_types.specs.declared.refusal.Refusal.TheVariants.{BadHandle}
use Rattle.pps_types.specs.declared.outcome.Item.{Item}
use Rattle.pps_types.specs.declared.outcome.Item.TheVariants.{Pulse, ReadDone}
use Rattle.pps_types.specs.Reading.{OpenHandle}
use Rattle.pps_types.specs.Rests.{Progress}
use Rattle.pps_types.specs.Outbox.{PulseOf, empty_outbox, queued as with_item, disarmed as without_pulse, with_pulse, with_parked, fired_in, finished_in, behind_first, put_rising}
use Rattle.pps_types.specs.Content.{Content, handle_numbered, own_handle, connection_numbered, is_attached, handles_of, outbox_of}
use Rattle.pps_types.specs.Plan.{Move, Attaches, Leaves, Opens, Closes, Parks, Arms, Queues, Takes, without_first, apply_seen, apply_all_seen, fired as firing}
use Rattle.service_laws.specs.Told.{HandlesRise, AreNumbered, handle_after}
use Rattle.notify_box.specs.ChangeLaws.{queues_of}
use Rattle.notify_box.specs.Standing.{is_numbered, standing_at, is_attached as is_kept, outbox_of as outbox_at, handles_of as handles_at, with_outbox, with_handles, parked_ended}
use Rattle.notify_box.specs.Connections.{standing_of, connections_of, ConnectionsRise, AreOwned, is_of_none, attaches_none}

-- What is found of a connection is what the content says of it, and the queues are its own. Where none is attached, no handle is
-- open. And a handle that is found by its number is its connection's own.
pub record ConnectionsAreFound : Type 0 where
  pub standing : (c : Content) (conn : ℕ) → standing_at conn (connections_of c) ≡ option_map (standing_of c) (connection_numbered c conn)
  pub attached : (c : Content) (conn : ℕ) → is_kept conn (connections_of c) ≡ is_attached c conn
  pub outbox : (c : Content) → AreOwned c → (conn : ℕ) → outbox_at conn (connections_of c) ≡ outbox_of c conn
  pub handles : (c : Content) → AreOwned c → (conn : ℕ)
      → handles_at conn (connections_of c) ≡ map (λ handle. handle.number) (handles_of c conn)
  pub queues : (c : Content) → ConnectionsRise c → queues_of (connections_of c) ≡ c.connections
  pub unattached : (c : Content) → AreOwned c → (conn : ℕ) → is_attached c conn ≡ false → handles_of c conn ≡ []
  pub own : (c : Content) (n : ℕ) (handle : OpenHandle Progress) → handle_numbered c n ≡ Some handle
      → own_handle c handle.connection n ≡ Some handle

-- What moves make of the connections. kept: those that are of none leave them. attached, left: one comes or goes.
-- Each other is a change of one connection, that of the handle that it is of: its handles where it opens or closes one,
-- and its outbox where a pulse is armed, disarmed or fired, or a read parked or replied to.
-- closed: the handle's pulse is disarmed, its parked read ends, and it is taken out of the handles.
-- fired, fires: the first where a pulse is armed, the second whether one is or not.
pub record ConnectionsAreTold : Type 0 where
  pub kept : (c : Content) (ms : List Move) → list_all is_of_none ms ≡ true → connections_of (apply_all_seen ms c) ≡ connections_of c
  pub attached : (c : Content) (conn : ℕ) → is_attached c conn ≡ false → handles_of c conn ≡ []
      → connections_of (apply_seen (Attaches conn) c) ≡ put_rising (λ x. x.number) (record { number = conn; outbox = empty_outbox; handles = [] }) (connections_of c)
  pub left : (c : Content) → ConnectionsRise c → (conn : ℕ)
      → connections_of (apply_seen (Leaves conn) c) ≡ without_first (is_numbered conn) (connections_of c)
  pub queued : (c : Content) → ConnectionsRise c → (conn : ℕ) (item : Item)
      → connections_of (apply_seen (Queues conn item) c) ≡ with_outbox conn (λ box. with_item box item) (connections_of c)
  pub taken : (c : Content) → ConnectionsRise c → (conn : ℕ)
      → connections_of (apply_seen (Takes conn) c) ≡ with_outbox conn (λ box. record box { items = behind_first box.items }) (connections_of c)
  pub opened : (c : Content) → ConnectionsRise c → (handle : OpenHandle (Unit {0})) → handle.parked ≡ None → handle.armed ≡ None
      → connections_of (apply_seen (Opens handle) c) ≡ with_handles handle.connection (λ hs. hs ++ handle.number ∷ []) (connections_of c)
  pub closed : (c : Content) → HandlesRise c → ConnectionsRise c → (conn n : ℕ) (handle : OpenHandle Progress)
      → own_handle c conn n ≡ Some handle
      → connections_of (apply_all_seen (Closes n ∷ (if is_some handle.parked then Queues conn (ReadDone n (Err BadHandle)) ∷ [] else [])) c)
      ≡ with_handles conn (λ hs. without_first (λ k. k == n) hs)
      (with_outbox conn (λ box. parked_ended box n) (with_outbox conn (λ box. without_pulse box n) (connections_of c)))
  pub armed : (c : Content) → HandlesRise c → ConnectionsRise c → (conn n : ℕ) (handle : OpenHandle Progress)
      → own_handle c conn n ≡ Some handle → (pulse : PulseOf)
      → connections_of (apply_seen (Arms n (Some pulse)) c) ≡ with_outbox conn (λ box. with_pulse box n pulse) (connections_of c)
  pub disarmed : (c : Content) → HandlesRise c → ConnectionsRise c → (conn n : ℕ) (handle : OpenHandle Progress)
      → own_handle c conn n ≡ Some handle
      → connections_of (apply_seen (Arms n None) c) ≡ with_outbox conn (λ box. without_pulse box n) (connections_of c)
  pub fired : (c : Content) → HandlesRise c → ConnectionsRise c → (conn n : ℕ) (handle : OpenHandle Progress)
      → own_handle c conn n ≡ Some handle
      → (pulse : PulseOf) → handle.armed ≡ Some pulse
      → connections_of (apply_all_seen (Arms n None ∷ Queues conn (Pulse pulse.0 pulse.1) ∷ []) c) ≡ with_outbox conn (λ box. fired_in box n) (connections_of c)
  pub fires : (c : Content) → HandlesRise c → ConnectionsRise c → (handle : OpenHandle Progress)
      → handle_numbered c handle.number ≡ Some handle
      → connections_of (apply_all_seen (firing handle) c) ≡ with_outbox handle.connection (λ box. fired_in box handle.number) (connections_of c)
  pub parked : (c : Content) → HandlesRise c → ConnectionsRise c → (conn n : ℕ) (handle : OpenHandle Progress)
      → own_handle c conn n ≡ Some handle → handle.parked ≡ None → (size : ℕ)
      → connections_of (apply_seen (Parks n (Some size)) c) ≡ with_outbox conn (λ box. with_parked box n) (connections_of c)
  pub finished : (c : Content) → HandlesRise c → ConnectionsRise c → (conn n : ℕ) (handle : OpenHandle Progress)
      → own_handle c conn n ≡ Some handle
      → (result : Result (List ℕ) Refusal)
      → connections_of (apply_all_seen (Parks n None ∷ Queues conn (ReadDone n result) ∷ []) c) ≡ with_outbox conn (λ box. finished_in box n result) (connections_of c)

-- What the laws of moves want stays behind moves, so that one law follows on the other. Handles rise on where those that are opened
-- have the next numbers; connections rise on where none comes, and where one comes of a number from 1 to 1,024 that none has;
-- and a connection's own handle is found as the moves leave it.
pub record PremisesStay : Type 0 where
  pub handles : (c : Content) (ms : List Move) → HandlesRise c → AreNumbered c.next_handle ms → HandlesRise (apply_all_seen ms c)
  pub connections : (c : Content) (ms : List Move) → ConnectionsRise c → list_all attaches_none ms ≡ true → ConnectionsRise (apply_all_seen ms c)
  pub attached : (c : Content) (conn : ℕ) → ConnectionsRise c → 1 ≤ conn → conn < 1025 → is_attached c conn ≡ false → ConnectionsRise (apply_seen (Attaches conn) c)
  pub own : (c : Content) (ms : List Move) → HandlesRise c → AreNumbered c.next_handle ms → (conn n : ℕ) (handle : OpenHandle Progress)
      → own_handle c conn n ≡ Some handle
      → own_handle (apply_all_seen ms c) conn n ≡ handle_after ms handle
