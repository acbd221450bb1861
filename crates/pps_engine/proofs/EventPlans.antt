-- From what is done and what follows to the step of an event.
use Rattle.std.proofs.Common.{◌≡◌, true, false, List, ◌++◌, Some, Ok, Err, refl, sym, ap, subst, ◌∙◌, inl, inr}
use Rattle.std.specs.List.{flat_map}
use Rattle.pps_types.specs.declared.event.Event.{Event}
use Rattle.pps_types.specs.declared.refusal.Refusal.{Refusal}
use Rattle.pps_types.specs.declared.refusal.Refusal.TheVariants.{OutOfMemory, TableFull}
use Rattle.pps_types.specs.declared.outcome.Outcome.{Outcome}
use Rattle.pps_types.specs.Outcome.{Reply, is_marked}
use Rattle.pps_types.specs.Content.{Content}
use Rattle.pps_types.specs.Checks.{checks, first_refusal, reaches_memory}
use Rattle.pps_types.specs.Plan.{Move, effect, apply_all_seen, settling, all_checks_of, passes_last_number, plan, step_seen, decided}
use Rattle.pps_types.specs.Stands.{StepsSeen}
use Rattle.service_laws.proofs.Refusals.{all-want-nothing}
use Rattle.service_laws.specs.Told.{entries_told}
use Rattle.pps_engine.specs.SettlingTold.{IsToldBy, handles_closed}
use Rattle.whole_texts.specs.declared.following.Following.{Following}
use Rattle.whole_texts.specs.Followed as following
use Rattle.service_state.specs.Tables.{Tabled, content_in}
use Rattle.service_state.specs.Following.{CanFollowAll}
use Rattle.pps_engine.specs.declared.done.Done.{Done}
use Rattle.pps_engine.specs.Doing.{moves_in}
use Rattle.pps_engine.specs.EventTold.{entries_of, closes_of, IsSettled}
use Rattle.pps_engine.specs.Events.{IsDone, IsRefused, Refuses}
use Rattle.pps_engine.proofs.EventLists.{before_none, reached_before}
use Rattle.pps_engine.proofs.EventTells.{entries_are, closes_are}

-- ---- refused

pub wanting : (c : Content) (e : Event) → reaches_memory (all_checks_of c e) ≡ true → Refuses c e OutOfMemory
wanting c e reaches = record { taken = refl; allowed = λ marked. reached_before (checks c e.conn e.request) (passes_last_number (apply_all_seen (effect c e.conn e.request).1 c)) TableFull reaches }

first_fails : (c : Content) (e : Event) (r : Refusal) → first_refusal (all_checks_of c e) ≡ Some r → is_marked (Err r) ≡ false → Refuses c e r
unfolding plan step_seen
first_fails c e r fails unmarked = record { taken = rw (unmarked, fails) refl; allowed = λ marked. absurd (let bad : false ≡ true = sym unmarked ∙ marked in cc) }

pub refuses : (c : Content) (e : Event) (r : Refusal) → IsRefused c e r → Refuses c e r
refuses c e r (inl fails) = first_fails c e r fails (all-want-nothing c e r fails)
refuses c e r (inr wants) = subst (Refuses c e) (sym wants.0) (wanting c e wants.1)

-- ---- planned

module _ (c : Content) (e : Event) (t : Tabled) (same : content_in t ≡ c) (d : Done) (done : IsDone c e t d) (fs : List Following) (settled : IsSettled (content_in t) (entries_of d.doing) (closes_of d.doing) fs) where
  told : IsToldBy c e.conn e.request (entries_of d.doing) (closes_of d.doing)
  told = record {
    passes = before_none (checks c e.conn e.request) _ done.passes;
    told = ap (λ (x : Outcome × List Move). entries_told x.1) done.does ∙ entries_are t d.doing done.ready;
    closed = ap (λ (x : Outcome × List Move). handles_closed x.1) done.does ∙ closes_are t d.doing;
  }

  settled_here : IsSettled c (entries_of d.doing) (closes_of d.doing) fs
  settled_here = subst (λ c. IsSettled c (entries_of d.doing) (closes_of d.doing) fs) same settled

  follows_here : flat_map following.moves_of fs ≡ settling c (apply_all_seen (effect c e.conn e.request).1 c)
  follows_here = settled_here.follows e.conn e.request told

  pub can_follow : CanFollowAll (apply_all_seen (moves_in d.doing t) (content_in t)) fs
  can_follow =
      subst (λ (x : Outcome × List Move). CanFollowAll (apply_all_seen x.1 (content_in t)) fs) done.does
      (subst (λ k. CanFollowAll (apply_all_seen (effect c e.conn e.request).1 k) fs) (sym same) (settled_here.can e.conn e.request told))

  planned : plan c e ≡ (Ok d.reply, moves_in d.doing t ++ flat_map following.moves_of fs)
  unfolding plan
  planned =
      ap (decided c (effect c e.conn e.request)) done.passes
      ∙ (λ i. (Ok (effect c e.conn e.request).0, (effect c e.conn e.request).1 ++ sym follows_here i))
      ∙ ap (λ (x : Outcome × List Move). (Ok x.0, x.1 ++ flat_map following.moves_of fs)) done.does

  pub plans : StepsSeen c e (Ok d.reply) (apply_all_seen (moves_in d.doing t ++ flat_map following.moves_of fs) c)
  unfolding step_seen
  plans = record {
    taken = sym (ap (λ (x : Reply × List Move). (x.0, apply_all_seen x.1 c)) planned);
    allowed = λ marked. absurd (let bad = marked in cc);
  }
