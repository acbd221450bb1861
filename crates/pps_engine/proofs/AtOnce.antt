-- An event that is planned and carried out at once.
use Rattle.std.proofs.Common.{◌≡◌, Bool, true, false, List, [], ◌++◌, Ok, Err, refl, sym, ap, subst, ◌∙◌}
use Rattle.std.proofs.lemmas.List.{append-nil}
use Rattle.std.specs.Prelude.{Result, IfOk, IfErr}
use Rattle.pps_types.specs.declared.event.Event.{Event}
use Rattle.pps_types.specs.declared.event.Request.{Request}
use Rattle.pps_types.specs.declared.outcome.Outcome.{Outcome}
use Rattle.pps_types.specs.declared.refusal.Refusal.{Refusal}
use Rattle.pps_types.specs.declared.refusal.Refusal.TheVariants.{OutOfMemory}
use Rattle.pps_types.specs.Checks.{reaches_memory}
use Rattle.pps_types.specs.Content.{Content, is_attached}
use Rattle.pps_types.specs.Plan.{Move, all_checks_of, apply_all_seen}
use Rattle.pps_types.specs.Stands.{StepsSeen}
use Rattle.service_state.specs.Tables.{Tabled, content_in}
use Rattle.pps_engine.specs.declared.done.Done.{Done}
use Rattle.pps_engine.specs.AtOnce.{TakesStep}
use Rattle.pps_engine.specs.Events.{is_attach, IsDone, IsRefused, IsRefusedIn, Serves}
use Rattle.pps_engine.specs.Doing.{moves_in}
use Rattle.pps_engine.specs.EventTold.{entries_of, closes_of, IsSettled}
use Rattle.pps_engine.specs.Standing.{IsSound}
use Rattle.pps_engine.proofs.EventLists.{attached_done, attached_fails, ok_behind, err_behind}
use Rattle.pps_engine.proofs.EventPlans.{refuses, wanting, plans}
use Rattle.pps_engine.proofs.Plans.{planned-sound, planned-sends}

-- ---- the step of an event

pub refused-step : (c : Content) (e : Event) (r : Refusal) → IsSound c → IsRefused c e r → TakesStep c e (Err r) c
refused-step c e r sound refused = record { seen = refuses c e r refused; sound = sound; kept = refl; sends = tt }

pub wanting-step : (c : Content) (e : Event) → IsSound c → reaches_memory (all_checks_of c e) ≡ true → TakesStep c e (Err OutOfMemory) c
wanting-step c e sound reaches = record { seen = wanting c e reaches; sound = sound; kept = refl; sends = tt }

pub done-step : (c d : Content) (e : Event) (reply : Outcome) → IsSound c → StepsSeen c e (Ok reply) d → TakesStep c e (Ok reply) d
done-step c d e reply sound steps = record {
  seen = steps;
  sound = planned-sound c d e reply sound steps;
  kept = tt;
  sends = planned-sends c d e reply sound.bound steps;
}

-- ---- what an attached connection asked is what was asked of the event

module _ (t u : Tabled) (e : Event) (request : Request) (asked : Result Done Refusal) (is : e.request ≡ request) (other : is_attach request ≡ false)
    (attached : is_attached (content_in t) e.conn ≡ true) (same : content_in u ≡ content_in t) where
  pub served-done : IfOk asked (Serves t e.conn request u) → IfOk asked (λ d. IsDone (content_in u) e u d)
  served-done served =
      subst (λ (c : Content). IfOk asked (λ d. IsDone c e u d)) (sym same)
      (ok_behind (attached_done (content_in t) e (ap is_attach is ∙ other) attached u) asked (subst (λ (r : Request). IfOk asked (Serves t e.conn r u)) (sym is) served))

  pub served-refused : IfErr asked (IsRefusedIn t e.conn request) → IfErr asked (λ r. IsRefused (content_in u) e r)
  served-refused refused =
      subst (λ (c : Content). IfErr asked (λ r. IsRefused c e r)) (sym same)
      (err_behind (attached_fails (content_in t) e (ap is_attach is ∙ other) attached) asked (subst (λ (r : Request). IfErr asked (IsRefusedIn t e.conn r)) (sym is) refused))

-- ---- a step from which nothing follows, by what an attached connection asked

module _ (t u : Tabled) (e : Event) (request : Request) (is : e.request ≡ request) (other : is_attach request ≡ false)
    (attached : is_attached (content_in t) e.conn ≡ true) (same : content_in u ≡ content_in t) (sound : IsSound (content_in t)) where
  pub untold-refused : (r : Refusal) → IsRefusedIn t e.conn request r → TakesStep (content_in t) e (Err r) (content_in u)
  untold-refused r refused =
      let here = subst (λ (q : Request). IsRefusedIn t e.conn q r) (sym is) refused in
      subst (λ (c : Content). TakesStep (content_in t) e (Err r) c) (sym same)
      (refused-step (content_in t) e r sound (attached_fails (content_in t) e (ap is_attach is ∙ other) attached r here))

  pub untold-done : (d : Done) (after : Content) → Serves t e.conn request u d → IsSettled (content_in u) (entries_of d.doing) (closes_of d.doing) []
      → after ≡ apply_all_seen (moves_in d.doing u) (content_in u) → TakesStep (content_in t) e (Ok d.reply) after
  untold-done d after served settled moved =
      let moves = moves_in d.doing u in
      let here = subst (λ (q : Request). Serves t e.conn q u d) (sym is) served in
      let done = attached_done (content_in t) e (ap is_attach is ∙ other) attached u d here in
      let carried : after ≡ apply_all_seen (moves ++ []) (content_in t) =
      moved ∙ ap (apply_all_seen moves) same ∙ ap (λ (ms : List Move). apply_all_seen ms (content_in t)) (sym (append-nil moves)) in
      done-step (content_in t) after e d.reply sound
      (subst (StepsSeen (content_in t) e (Ok d.reply)) (sym carried) (plans (content_in t) e u same d done [] settled))

-- ---- of what was asked

pub asked-done : (c : Content) (t : Tabled) (e : Event) (asked : Result Done Refusal) (d : Done) → asked ≡ Ok d → IfOk asked (λ d. IsDone c e t d) → IsDone c e t d
asked-done c t e asked d is done = subst (λ (a : Result Done Refusal). IfOk a (λ d. IsDone c e t d)) is done

pub asked-refused : (c : Content) (e : Event) (asked : Result Done Refusal) (r : Refusal) → asked ≡ Err r → IfErr asked (λ r. IsRefused c e r) → IsRefused c e r
asked-refused c e asked r is refused = subst (λ (a : Result Done Refusal). IfErr a (λ r. IsRefused c e r)) is refused
