-- What is received, by whether it is an item.
use Rattle.std.proofs.Common.{◌≡◌, ℕ, true, false, List, [], None, refl, sym, ap, ◌∙◌}
use Rattle.pps_types.specs.declared.event.Request.TheVariants.{Receive}
use Rattle.pps_types.specs.declared.outcome.Item.{Item}
use Rattle.pps_types.specs.declared.outcome.Outcome.{Outcome}
use Rattle.pps_types.specs.declared.outcome.Outcome.TheVariants.{Done, Opened, Data, Wrote, Parked, Input, Item as ItemOutcome, Empty}
use Rattle.pps_types.specs.Checks.{first_refusal, request_checks}
use Rattle.pps_types.specs.Content.{Content}
use Rattle.pps_types.specs.Plan.{Move, effect}
use Rattle.service_laws.specs.SettlingLaws.{EventsAreSettled}
use Rattle.service_laws.specs.SettlingTargets.{last_number_passed}
use Rattle.service_state.specs.Tables.{Tabled, content_in}
use Rattle.pps_engine.specs.declared.doing.Doing.{Doing}
use Rattle.pps_engine.specs.declared.doing.Doing.TheVariants.{Nothing, Takes}
use Rattle.pps_engine.specs.Doing.{moves_in, CanDo}
use Rattle.pps_engine.specs.Events.{Serves}
use Rattle.pps_engine.specs.EventTold.{entries_of, closes_of, takes_memory, IsSettled}
use Rattle.pps_engine.specs.Parts.{taken, receiving}
use Rattle.pps_engine.proofs.Within.{passes_all, received_here, taking, taking_makes_nothing}

-- what holds of each item that is taken, and of nothing
taken_or : (conn : ℕ) (P : Outcome → List Move → Doing → Type 0) → ((item : Item) → P (ItemOutcome item) (taking conn (ItemOutcome item)) (Takes conn)) → ((reply : Outcome) → P reply [] Nothing)
    → (reply : Outcome) → P reply (taking conn reply) (taken conn reply)
taken_or conn P item nothing Done = nothing Done
taken_or conn P item nothing (Opened handle) = nothing (Opened handle)
taken_or conn P item nothing (Data bytes) = nothing (Data bytes)
taken_or conn P item nothing (Wrote length) = nothing (Wrote length)
taken_or conn P item nothing Parked = nothing Parked
taken_or conn P item nothing (Input news) = nothing (Input news)
taken_or conn P item nothing (ItemOutcome i) = item i
taken_or conn P item nothing Empty = nothing Empty

pub taken_moves : (conn : ℕ) (t : Tabled) (reply : Outcome) → taking conn reply ≡ moves_in (taken conn reply) t
taken_moves conn t reply = taken_or conn (λ reply moves doing. moves ≡ moves_in doing t) (λ item. refl) (λ reply. refl) reply

pub taken_settled : (c : Content) (conn : ℕ) (reply : Outcome) → IsSettled c [] [] [] → IsSettled c (entries_of (taken conn reply)) (closes_of (taken conn reply)) []
taken_settled c conn reply settled = taken_or conn (λ reply moves doing. IsSettled c (entries_of doing) (closes_of doing) []) (λ item. settled) (λ reply. settled) reply

pub taken_item : (conn : ℕ) (reply : Outcome) (item : Item) → reply ≡ ItemOutcome item → taken conn reply ≡ Takes conn
taken_item conn reply item is = ap (taken conn) is

pub taken_else : (conn : ℕ) (reply : Outcome) → ((item : Item) → reply ≡ ItemOutcome item → ⊥) → taken conn reply ≡ Nothing
taken_else conn reply =
    taken_or conn (λ reply moves doing. ((item : Item) → reply ≡ ItemOutcome item → ⊥) → doing ≡ Nothing) (λ item other. absurd (other item refl)) (λ reply other. refl) reply

-- what an attached connection receives is served
pub receives : EventsAreSettled → (t : Tabled) → last_number_passed (content_in t) 0 0 0 ≡ false → (conn : ℕ) → first_refusal (request_checks (content_in t) conn Receive) ≡ None
    → (reply : Outcome) → reply ≡ (effect (content_in t) conn Receive).0 → Serves t conn Receive t (receiving conn reply)
receives laws t within conn passes reply is =
    let does : effect (content_in t) conn Receive ≡ (reply, taking conn reply) = received_here (content_in t) conn reply is in
    record {
      passes = passes_all laws (content_in t) within conn Receive reply (taking conn reply) does (taking_makes_nothing (content_in t) conn reply) passes;
      does = does ∙ ap (λ (ms : List Move). (reply, ms)) (taken_moves conn t reply);
      ready = taken_or conn (λ reply moves doing. CanDo doing t) (λ item. tt) (λ reply. tt) reply;
      wants = λ e. absurd (let bad : false ≡ true = sym (taken_or conn (λ reply moves doing. takes_memory doing ≡ false) (λ item. refl) (λ reply. refl) reply) ∙ e in cc);
    }
