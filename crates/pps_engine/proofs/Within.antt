-- Moves that tell no record and make nothing pass no last number; and where no record is told nothing follows.
use Rattle.std.proofs.Common.{◌≡◌, ℕ, Bool, true, false, List, [], ◌∷◌, ◌++◌, Option, Some, None, refl, sym, ap, subst, ◌∙◌, inr}
use Rattle.pps_types.specs.declared.event.Request.{Request}
use Rattle.pps_types.specs.declared.event.Request.TheVariants.{Attach, Receive}
use Rattle.pps_types.specs.declared.outcome.Item.{Item}
use Rattle.pps_types.specs.declared.outcome.Outcome.{Outcome}
use Rattle.pps_types.specs.declared.outcome.Outcome.TheVariants.{Done, Opened, Data, Wrote, Parked, Input, Item as ItemOutcome, Empty}
use Rattle.pps_types.specs.declared.refusal.Refusal.{Refusal}
use Rattle.pps_types.specs.declared.refusal.Refusal.TheVariants.{OutOfMemory, TableFull}
use Rattle.pps_types.specs.Content.{Content, queue_of}
use Rattle.pps_types.specs.Outbox.{first_of}
use Rattle.pps_types.specs.WellFormed.{IsContent}
use Rattle.pps_types.specs.Checks.{Check, Refuse, Memory, checks, attach_checks, first_refusal, reaches_memory, request_checks}
use Rattle.pps_types.specs.Plan.{Move, effect, apply_all_seen, Attaches, Takes, received, all_checks_of, passes_last_number}
use Rattle.service_laws.specs.SettlingLaws.{EventsAreSettled, MovesAreSettled}
use Rattle.service_laws.specs.SettlingTargets.{last_number_passed, last_number_passed_after}
use Rattle.whole_texts.specs.declared.answer.Effect.{Effect}
use Rattle.whole_texts.specs.declared.answer.Effect.TheVariants.{CatchesUp, Advances, Parks, Stays}
use Rattle.whole_texts.specs.Answered as reads
use Rattle.pps_engine.specs.EventTold.{IsSettled}
use Rattle.pps_engine.proofs.EventLists.{behind_none, fails_before, passes_in_all}
use Rattle.service_state.specs.Refused.{Fails, all_request_checks}

-- ---- the last numbers

module _ (laws : EventsAreSettled) (c : Content) (within : last_number_passed c 0 0 0 ≡ false) where
  pub stays_within : (ms : List Move) → last_number_passed_after c ms ≡ last_number_passed c 0 0 0 → passes_last_number (apply_all_seen ms c) ≡ false
  stays_within ms none = laws.numbers ms c ∙ none ∙ within

  reads_make_nothing : (handle : ℕ) (e : Effect) → last_number_passed_after c (reads.moves_of handle e) ≡ last_number_passed c 0 0 0
  reads_make_nothing handle CatchesUp = refl
  reads_make_nothing handle (Advances count) = refl
  reads_make_nothing handle (Parks size) = refl
  reads_make_nothing handle Stays = refl

  pub passes_all : (conn : ℕ) (request : Request) (reply : Outcome) (ms : List Move) → effect c conn request ≡ (reply, ms) → last_number_passed_after c ms ≡ last_number_passed c 0 0 0
      → first_refusal (request_checks c conn request) ≡ None → first_refusal (all_request_checks c conn request) ≡ None
  passes_all conn request reply ms does none passes = passes_in_all c conn request reply ms does (stays_within ms none) passes

  pub read_passes_all : (conn : ℕ) (request : Request) (reply : Outcome) (handle : ℕ) (e : Effect) → effect c conn request ≡ (reply, reads.moves_of handle e)
      → first_refusal (request_checks c conn request) ≡ None → first_refusal (all_request_checks c conn request) ≡ None
  read_passes_all conn request reply handle e does passes = passes_all conn request reply (reads.moves_of handle e) does (reads_make_nothing handle e) passes

-- ---- where no record is told

pub nothing_follows : EventsAreSettled → MovesAreSettled → (c : Content) → IsContent c → (closing : List ℕ) → IsSettled c [] closing []
nothing_follows events moves c is closing = record {
  follows = λ conn request told. sym (moves.silent (effect c conn request).1 c is.order.handles_rise (events.numbered c is conn request told.passes) (events.quiet c conn request) told.told);
  can = λ conn request told. tt;
}

-- ---- what is received

abbrev pub taking : ℕ → Outcome → List Move
taking conn (ItemOutcome item) = Takes conn ∷ []
taking conn outcome = []

pub received_is : (conn : ℕ) (item : Option Item) → received conn item ≡ ((received conn item).0, taking conn (received conn item).0)
received_is conn None = refl
received_is conn (Some item) = refl

pub taking_makes_nothing : (c : Content) (conn : ℕ) (outcome : Outcome) → last_number_passed_after c (taking conn outcome) ≡ last_number_passed c 0 0 0
taking_makes_nothing c conn Done = refl
taking_makes_nothing c conn (Opened handle) = refl
taking_makes_nothing c conn (Data bytes) = refl
taking_makes_nothing c conn (Wrote length) = refl
taking_makes_nothing c conn Parked = refl
taking_makes_nothing c conn (Input news) = refl
taking_makes_nothing c conn (ItemOutcome item) = refl
taking_makes_nothing c conn Empty = refl

pub received_here : (c : Content) (conn : ℕ) (reply : Outcome) → reply ≡ (effect c conn Receive).0 → effect c conn Receive ≡ (reply, taking conn reply)
unfolding effect
received_here c conn reply is = received_is conn (first_of (queue_of c conn)) ∙ ap (λ (o : Outcome). (o, taking conn o)) (sym is)

-- ---- of a connection that attaches

wanted_behind : (a b : Bool) (r s : Refusal) → first_refusal (Refuse a r ∷ Refuse b s ∷ Memory ∷ []) ≡ None → reaches_memory (Refuse a r ∷ Refuse b s ∷ Memory ∷ []) ≡ true
wanted_behind true b r s e = absurd (let bad = e in cc)
wanted_behind false true r s e = absurd (let bad = e in cc)
wanted_behind false false r s e = refl

module _ (c : Content) (conn : ℕ) where
  pub attach_does : effect c conn Attach ≡ (Done, Attaches conn ∷ [])
  unfolding effect
  attach_does = refl

  attaching : checks c conn Attach ≡ attach_checks c conn
  unfolding checks
  attaching = refl

  abbrev last_of_attach : List Check
  last_of_attach = Refuse (passes_last_number (apply_all_seen (Attaches conn ∷ []) c)) TableFull ∷ []

  pub attach_fails : (r : Refusal) → Fails (attach_checks c conn) r → Fails (all_checks_of c (record { conn = conn; request = Attach })) r
  unfolding effect
  attach_fails r fails = subst (λ cs. Fails (cs ++ last_of_attach) r) (sym attaching) (fails_before (attach_checks c conn) last_of_attach r fails)

  -- no check refuses it, so that it may want memory
  pub attach_lacks : first_refusal (attach_checks c conn) ≡ None → Fails (attach_checks c conn) OutOfMemory
  attach_lacks passes = inr (refl, wanted_behind _ _ _ _ passes)

  pub attach_passes : EventsAreSettled → last_number_passed c 0 0 0 ≡ false → first_refusal (attach_checks c conn) ≡ None → first_refusal (all_checks_of c (record { conn = conn; request = Attach })) ≡ None
  unfolding effect
  attach_passes laws within passes =
      ap (λ cs. first_refusal (cs ++ last_of_attach)) attaching
      ∙ behind_none (attach_checks c conn) last_of_attach passes
      ∙ ap (λ b. first_refusal (Refuse b TableFull ∷ [])) (stays_within laws c within (Attaches conn ∷ []) refl)
