-- Checks one behind another, and those of an event that an attached connection asks.
use Rattle.std.proofs.Common.{◌≡◌, ℕ, Bool, true, false, not, List, [], ◌∷◌, ◌++◌, Some, None, refl, sym, ap, ◌∙◌, inl, inr}
use Rattle.std.specs.Prelude.{◌&&◌, Result, Ok, Err, IfOk, IfErr}
use Rattle.pps_types.specs.declared.event.Event.{Event}
use Rattle.pps_types.specs.declared.event.Request.{Request}
use Rattle.pps_types.specs.declared.event.Request.TheVariants.{Attach, Detach, Open, Read, Write, Close, Unlink, Mkdir, List as ListRequest, Notify, Receive}
use Rattle.pps_types.specs.declared.outcome.Outcome.{Outcome}
use Rattle.pps_types.specs.declared.refusal.Refusal.{Refusal}
use Rattle.pps_types.specs.declared.refusal.Refusal.TheVariants.{NotAttached, TableFull}
use Rattle.pps_types.specs.Content.{Content, is_attached}
use Rattle.pps_types.specs.Checks.{Check, Refuse, Memory, first_refusal, reaches_memory, checks, request_checks}
use Rattle.pps_types.specs.Plan.{Move, effect, apply_all_seen, all_checks_of, passes_last_number}
use Rattle.service_state.specs.Refused.{Fails, all_request_checks}
use Rattle.service_state.specs.Tables.{Tabled}
use Rattle.pps_engine.specs.declared.done.Done.{Done}
use Rattle.pps_engine.specs.Events.{is_attach, IsAsked, IsDone}

pub behind_none : (cs ds : List Check) → first_refusal cs ≡ None → first_refusal (cs ++ ds) ≡ first_refusal ds
behind_none [] ds e = refl
behind_none (Memory ∷ cs) ds e = behind_none cs ds e
behind_none (Refuse true r ∷ cs) ds e = absurd (let bad = e in cc)
behind_none (Refuse false r ∷ cs) ds e = behind_none cs ds e

pub before_none : (cs ds : List Check) → first_refusal (cs ++ ds) ≡ None → first_refusal cs ≡ None
before_none [] ds e = refl
before_none (Memory ∷ cs) ds e = before_none cs ds e
before_none (Refuse true r ∷ cs) ds e = absurd (let bad = e in cc)
before_none (Refuse false r ∷ cs) ds e = before_none cs ds e

pub before_some : (cs ds : List Check) (r : Refusal) → first_refusal cs ≡ Some r → first_refusal (cs ++ ds) ≡ Some r
before_some [] ds r e = absurd (let bad = e in cc)
before_some (Memory ∷ cs) ds r e = before_some cs ds r e
before_some (Refuse true s ∷ cs) ds r e = e
before_some (Refuse false s ∷ cs) ds r e = before_some cs ds r e

pub before_reached : (cs ds : List Check) → reaches_memory cs ≡ true → reaches_memory (cs ++ ds) ≡ true
before_reached [] ds e = absurd (let bad = e in cc)
before_reached (Memory ∷ cs) ds e = refl
before_reached (Refuse true r ∷ cs) ds e = absurd (let bad = e in cc)
before_reached (Refuse false r ∷ cs) ds e = before_reached cs ds e

not_more : (b : Bool) → (not b && false) ≡ false
not_more true = refl
not_more false = refl

-- a last check asks for no memory
pub reached_before : (cs : List Check) (b : Bool) (r : Refusal) → reaches_memory (cs ++ Refuse b r ∷ []) ≡ true → reaches_memory cs ≡ true
reached_before [] b r e = absurd (let bad : false ≡ true = sym (not_more b) ∙ e in cc)
reached_before (Memory ∷ cs) b r e = refl
reached_before (Refuse true s ∷ cs) b r e = absurd (let bad = e in cc)
reached_before (Refuse false s ∷ cs) b r e = reached_before cs b r e

-- ---- of an attached connection

checks_are : (c : Content) (conn : ℕ) (request : Request) → is_attach request ≡ false → checks c conn request ≡ Refuse (not (is_attached c conn)) NotAttached ∷ request_checks c conn request
unfolding checks
checks_are c conn Attach e = absurd (let bad = e in cc)
checks_are c conn Detach e = refl
checks_are c conn (Open mode text) e = refl
checks_are c conn (Read handle size) e = refl
checks_are c conn (Write handle bytes) e = refl
checks_are c conn (Close handle) e = refl
checks_are c conn (Unlink path) e = refl
checks_are c conn (Mkdir path) e = refl
checks_are c conn (ListRequest path) e = refl
checks_are c conn (Notify handle action code value) e = refl
checks_are c conn Receive e = refl

module _ (c : Content) (e : Event) (other : is_attach e.request ≡ false) where
  last_check : Check
  last_check = Refuse (passes_last_number (apply_all_seen (effect c e.conn e.request).1 c)) TableFull

  all_are : all_checks_of c e ≡ Refuse (not (is_attached c e.conn)) NotAttached ∷ all_request_checks c e.conn e.request
  all_are = ap (λ cs. cs ++ Refuse (passes_last_number (apply_all_seen (effect c e.conn e.request).1 c)) TableFull ∷ []) (checks_are c e.conn e.request other)

  pub not_attached : is_attached c e.conn ≡ false → first_refusal (all_checks_of c e) ≡ Some NotAttached
  not_attached absent = ap first_refusal all_are ∙ ap (λ b. first_refusal (Refuse (not b) NotAttached ∷ all_request_checks c e.conn e.request)) absent

  module _ (attached : is_attached c e.conn ≡ true) where
    pub attached_first : first_refusal (all_checks_of c e) ≡ first_refusal (all_request_checks c e.conn e.request)
    attached_first = ap first_refusal all_are ∙ ap (λ b. first_refusal (Refuse (not b) NotAttached ∷ all_request_checks c e.conn e.request)) attached

    pub attached_reaches : reaches_memory (all_checks_of c e) ≡ reaches_memory (all_request_checks c e.conn e.request)
    attached_reaches = ap reaches_memory all_are ∙ ap (λ b. reaches_memory (Refuse (not b) NotAttached ∷ all_request_checks c e.conn e.request)) attached

    pub attached_fails : (r : Refusal) → Fails (all_request_checks c e.conn e.request) r → Fails (all_checks_of c e) r
    attached_fails r (inl fails) = inl (attached_first ∙ fails)
    attached_fails r (inr wants) = inr (wants.0, attached_reaches ∙ wants.1)

    pub attached_done : (t : Tabled) (d : Done) → IsAsked c e.conn e.request t d → IsDone c e t d
    attached_done t d asked = record { passes = attached_first ∙ asked.passes; does = asked.does; ready = asked.ready; wants = λ takes. attached_reaches ∙ asked.wants takes }

-- ---- where no number is taken

-- what fails fails whatever stands behind
pub fails_before : (cs ds : List Check) (r : Refusal) → Fails cs r → Fails (cs ++ ds) r
fails_before cs ds r (inl fails) = inl (before_some cs ds r fails)
fails_before cs ds r (inr wants) = inr (wants.0, before_reached cs ds wants.1)

module _ (c : Content) (conn : ℕ) (request : Request) where
  pub fails_in_all : (r : Refusal) → Fails (request_checks c conn request) r → Fails (all_request_checks c conn request) r
  fails_in_all r fails = fails_before (request_checks c conn request) _ r fails

  pub passes_in_all : (reply : Outcome) (ms : List Move) → effect c conn request ≡ (reply, ms) → passes_last_number (apply_all_seen ms c) ≡ false → first_refusal (request_checks c conn request) ≡ None
      → first_refusal (all_request_checks c conn request) ≡ None
  passes_in_all reply ms does fits passes =
      behind_none (request_checks c conn request) _ passes
      ∙ ap (λ b. first_refusal (Refuse b TableFull ∷ [])) (ap (λ (x : Outcome × List Move). passes_last_number (apply_all_seen x.1 c)) does ∙ fits)

-- ---- results

pub ok_behind : {A E : Type 0} {P Q : A → Type 0} → ((a : A) → P a → Q a) → (r : Result A E) → IfOk r P → IfOk r Q
ok_behind f (Ok a) p = f a p
ok_behind f (Err e) p = tt

pub err_behind : {A E : Type 0} {P Q : E → Type 0} → ((e : E) → P e → Q e) → (r : Result A E) → IfErr r P → IfErr r Q
err_behind f (Ok a) p = tt
err_behind f (Err e) p = f e p
