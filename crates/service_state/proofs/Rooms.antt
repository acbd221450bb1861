-- What is to come for a connection, and the memory for more.
use Rattle.std.specs.Prelude.{◌≡◌, ℕ, Option, Some, None, option_map, IsSomeAnd}
use Rattle.std.specs.Option.{option_map_or}
use Rattle.std.proofs.Common.{refl, ◌∙◌, ap}
use Rattle.pps_types.specs.Outbox.{empty_outbox, arm_refusal, park_refusal}
use Rattle.pps_types.specs.Content.{outbox_of}
use Rattle.notify_box.specs.Standing.{RoomedConnections, RoomedConnection, Standing, standing_in, standing_of, is_numbered, connection_at, roomed_at, outbox_of as outbox_at, LacksPulseRoom, LacksReadRoom}
use Rattle.notify_box.specs.Connections.{AreOwned}
use Rattle.notify_box.specs.ConnectionLaws.{ConnectionsAreFound}
use Rattle.notify_box.proofs.ConnectionLists.{find-map}
use Rattle.service_state.specs.Tables.{Tabled, content_in, AreTied}

pub outbox_told : ConnectionsAreFound → (t : Tabled) → AreTied t → AreOwned (content_in t) → (conn : ℕ) → outbox_at conn (standing_in t.connections) ≡ outbox_of (content_in t) conn
outbox_told found t tied owned conn = ap (outbox_at conn) tied.connected ∙ found.outbox (content_in t) owned conn

-- the outbox whose room is known
roomed_outbox : (x : RoomedConnections) (conn : ℕ) (c : RoomedConnection) → connection_at conn x ≡ Some c → outbox_at conn (standing_in x) ≡ c.roomed.outbox
roomed_outbox x conn c e = ap (λ o. option_map_or (λ (s : Standing). s.outbox) o empty_outbox) (find-map standing_of (is_numbered conn) x.connections ∙ ap (option_map standing_of) e)

pub free_to_arm : (x : RoomedConnections) (conn handle : ℕ) → IsSomeAnd (roomed_at conn x) (LacksPulseRoom handle) → arm_refusal (outbox_at conn (standing_in x)) handle ≡ None
free_to_arm x conn handle lacks = by (connection_at conn x) refl lacks
  where
    by : (o : Option RoomedConnection) → connection_at conn x ≡ o → IsSomeAnd (option_map (λ (c : RoomedConnection). c.roomed) o) (LacksPulseRoom handle) → arm_refusal (outbox_at conn (standing_in x)) handle ≡ None
    by None e lacks = absurd lacks
    by (Some c) e lacks = ap (λ box. arm_refusal box handle) (roomed_outbox x conn c e) ∙ lacks.0

pub free_to_park : (x : RoomedConnections) (conn handle : ℕ) → IsSomeAnd (roomed_at conn x) (LacksReadRoom handle) → park_refusal (outbox_at conn (standing_in x)) handle ≡ None
free_to_park x conn handle lacks = by (connection_at conn x) refl lacks
  where
    by : (o : Option RoomedConnection) → connection_at conn x ≡ o → IsSomeAnd (option_map (λ (c : RoomedConnection). c.roomed) o) (LacksReadRoom handle) → park_refusal (outbox_at conn (standing_in x)) handle ≡ None
    by None e lacks = absurd lacks
    by (Some c) e lacks = ap (λ box. park_refusal box handle) (roomed_outbox x conn c e) ∙ lacks.0
