-- What is to come for a connection, as the connections have it.
use Rattle.std.specs.Prelude.{◌≡◌, ◌==◌, ℕ, [], Option, Some, None, option_map}
use Rattle.std.specs.Option.{option_map_or}
use Rattle.std.proofs.Common.{refl, sym, ◌∙◌, ap}
use Rattle.std.proofs.lemmas.Bool.{eqb-true}
use Rattle.pps_types.specs.declared.event.Request.TheVariants.{Receive}
use Rattle.pps_types.specs.Outbox.{empty_outbox, first_of}
use Rattle.pps_types.specs.Content.{Content, Connection, connection_numbered, queue_of}
use Rattle.pps_types.specs.Plan.{effect, received}
use Rattle.notify_box.specs.Standing.{Standing, standing_in, outbox_of}
use Rattle.notify_box.specs.Connections.{standing_of}
use Rattle.notify_box.specs.ConnectionLaws.{ConnectionsAreFound}
use Rattle.notify_box.proofs.ConnectionLists.{passes}
use Rattle.service_state.specs.Tables.{Tabled, content_in, AreTied}

pub queue_found : ConnectionsAreFound → (t : Tabled) → AreTied t → (conn : ℕ) → (outbox_of conn (standing_in t.connections)).items ≡ queue_of (content_in t) conn
queue_found found t tied conn =
    ap (λ xs. (outbox_of conn xs).items) tied.connected ∙ ap (λ o. (option_map_or (λ (s : Standing). s.outbox) o empty_outbox).items) (found.standing (content_in t) conn) ∙ by (connection_numbered (content_in t) conn) refl
  where
    by : (o : Option Connection) → connection_numbered (content_in t) conn ≡ o → (option_map_or (λ (s : Standing). s.outbox) (option_map (standing_of (content_in t)) o) empty_outbox).items ≡ queue_of (content_in t) conn
    by None e = sym (ap (λ o. option_map_or (λ (x : Connection). x.queue) o []) e)
    by (Some x) e = ap (queue_of (content_in t)) (eqb-true x.number conn (passes (λ x. x.number == conn) (content_in t).connections x e))

pub received_is : (c : Content) (conn : ℕ) → effect c conn Receive ≡ received conn (first_of (queue_of c conn))
unfolding effect
received_is c conn = refl
