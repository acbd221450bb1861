-- What all checks of an open come to, and what it does, by the way that it goes.
use Rattle.std.specs.Prelude.{◌≡◌, ◌++◌, ℕ, Bool, true, List, [], ◌∷◌, Some, None, Ok}
use Rattle.std.proofs.Common.{sym, ◌∙◌, ap, cond}
use Rattle.pps_types.specs.declared.refusal.Refusal.{Refusal}
use Rattle.pps_types.specs.declared.refusal.Refusal.TheVariants.{TableFull}
use Rattle.pps_types.specs.declared.event.Mode.{Mode}
use Rattle.pps_types.specs.declared.event.Request.TheVariants.{Open as OpenRequest}
use Rattle.pps_types.specs.declared.outcome.Outcome.{Outcome}
use Rattle.pps_types.specs.declared.outcome.Outcome.TheVariants.{Opened as OpenedHandle}
use Rattle.pps_types.specs.OpenText.{OpenSpec, open_text}
use Rattle.pps_types.specs.Reading.{OpenHandle}
use Rattle.pps_types.specs.Content.{Content}
use Rattle.pps_types.specs.Checks.{first_refusal, letters_fit, open_checks}
use Rattle.pps_types.specs.Plan.{Move, Opens as OpensHandle, apply_all_seen, effect, opening, new_handle, found_object, passes_last_number}
use Rattle.service_laws.specs.SettlingLaws.{EventsAreSettled}
use Rattle.service_laws.specs.SettlingTargets.{last_number_passed}
use Rattle.service_state.specs.Refused.{Fails, all_request_checks}
use Rattle.service_state.specs.Tables.{Tabled, content_in}
use Rattle.path_requests.specs.declared.ways.Way.{Way}
use Rattle.path_requests.specs.Asked.{handle_by}
use Rattle.path_requests.specs.Ways.{IsWay, step_moves, step_target, step_records, step_objects}
use Rattle.path_requests.proofs.Counted.{step_counted}
use Rattle.path_requests.proofs.Refusing.{effect-open, effect-whole, open_fails, last_fails, all_pass}

module _ (t : Tabled) (mode : Mode) (spec : OpenSpec) (w : Way) (way : IsWay t mode spec w) (conn : ℕ) where
  -- the moves of the open, with the handle that it plans
  opening_is : opening (content_in t) conn mode spec (found_object (content_in t) spec)
      ≡ step_moves (content_in t) spec w.step ++ OpensHandle (new_handle (content_in t) conn mode spec (found_object (content_in t) spec)) ∷ []
  opening_is = ap (λ (ms : List Move). ms ++ OpensHandle (new_handle (content_in t) conn mode spec (found_object (content_in t) spec)) ∷ []) way.moves

  pub does : (text : List ℕ) → open_text text ≡ Ok spec → (ms : List Move)
      → ms ≡ step_moves (content_in t) spec w.step ++ OpensHandle (handle_by (content_in t) conn mode spec w.kind (step_target t spec w.step)) ∷ []
      → effect (content_in t) conn (OpenRequest mode text) ≡ (OpenedHandle (content_in t).next_handle, ms)
  does text e ms is =
      effect-whole (content_in t) conn mode text spec e
      ∙ ap (λ (ms : List Move). let p : Outcome × List Move = (OpenedHandle (content_in t).next_handle, ms) in p)
      (opening_is ∙ ap (λ (h : OpenHandle (Unit {0})). step_moves (content_in t) spec w.step ++ OpensHandle h ∷ []) (way.handle conn) ∙ sym is)

  module _ (settled : EventsAreSettled) (text : List ℕ) (e : open_text text ≡ Ok spec) where
    numbers_told : passes_last_number (apply_all_seen (effect (content_in t) conn (OpenRequest mode text)).1 (content_in t)) ≡ last_number_passed (content_in t) (step_records w.step) (step_objects w.step) 0
    numbers_told =
        ap (λ (ms : List Move). passes_last_number (apply_all_seen ms (content_in t))) (effect-open (content_in t) conn mode text spec e ∙ opening_is)
        ∙ settled.numbers (step_moves (content_in t) spec w.step ++ OpensHandle (new_handle (content_in t) conn mode spec (found_object (content_in t) spec)) ∷ []) (content_in t)
        ∙ step_counted t spec w.kind w.step (new_handle (content_in t) conn mode spec (found_object (content_in t) spec)) way.able

    pub numbers_fail : letters_fit mode ≡ true → first_refusal (open_checks (content_in t) mode spec) ≡ None → (r : Refusal)
        → Some r ≡ cond (last_number_passed (content_in t) (step_records w.step) (step_objects w.step) 0) (Some TableFull) None → Fails (all_request_checks (content_in t) conn (OpenRequest mode text)) r
    numbers_fail letters passes r why =
        last_fails (letters_fit mode) (open_text text) (open_checks (content_in t) mode) (passes_last_number (apply_all_seen (effect (content_in t) conn (OpenRequest mode text)).1 (content_in t))) spec r letters e passes
        (why ∙ ap (λ (b : Bool). cond b (Some TableFull) None) (sym numbers_told))

    pub numbers_pass : letters_fit mode ≡ true → first_refusal (open_checks (content_in t) mode spec) ≡ None
        → None ≡ cond (last_number_passed (content_in t) (step_records w.step) (step_objects w.step) 0) (Some TableFull) None → first_refusal (all_request_checks (content_in t) conn (OpenRequest mode text)) ≡ None
    numbers_pass letters passes why =
        all_pass (letters_fit mode) (open_text text) (open_checks (content_in t) mode) (passes_last_number (apply_all_seen (effect (content_in t) conn (OpenRequest mode text)).1 (content_in t))) spec letters e passes
        (why ∙ ap (λ (b : Bool). cond b (Some TableFull) None) (sym numbers_told))

pub open_refused : (c : Content) (mode : Mode) (text : List ℕ) (spec : OpenSpec) (r : Refusal) → letters_fit mode ≡ true → open_text text ≡ Ok spec → first_refusal (open_checks c mode spec) ≡ Some r
    → (conn : ℕ) → Fails (all_request_checks c conn (OpenRequest mode text)) r
open_refused c mode text spec r letters e fails conn =
    open_fails (letters_fit mode) (open_text text) (open_checks c mode) (passes_last_number (apply_all_seen (effect c conn (OpenRequest mode text)).1 c)) spec r letters e fails
