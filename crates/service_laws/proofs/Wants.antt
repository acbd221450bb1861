-- A reply is OutOfMemory just where the event is marked.
use Rattle.std.proofs.Common.{◌≡◌, Bool, true, false, Option, Some, None, refl}
use Rattle.pps_types.specs.declared.event.Event.{Event}
use Rattle.pps_types.specs.declared.refusal.Refusal.{Refusal}
use Rattle.pps_types.specs.Outcome.{is_marked}
use Rattle.pps_types.specs.Content.{Content}
use Rattle.pps_types.specs.Checks.{first_refusal}
use Rattle.pps_types.specs.Plan.{all_checks_of, effect, decided, plan, step_seen}
use Rattle.pps_types.specs.Machine.{Machine, content_of, step, marked_step}
use Rattle.pps_types.specs.Stands.{marked_seen}
use Rattle.service_laws.proofs.Refusals.{all-want-nothing}

plan-unmarked : (c : Content) (e : Event) → is_marked (plan c e).0 ≡ false
unfolding plan
plan-unmarked c e = by (first_refusal (all_checks_of c e)) refl
  where
    by : (o : Option Refusal) → first_refusal (all_checks_of c e) ≡ o → is_marked (decided c (effect c e.conn e.request) o).0 ≡ false
    by None is = refl
    by (Some r) is = all-want-nothing c e r is

pub unmarked-seen : (c : Content) (e : Event) → is_marked (step_seen c e).0 ≡ false
unfolding step_seen
unmarked-seen c e = plan-unmarked c e

pub unmarked : (m : Machine) (e : Event) → is_marked (step m e).0 ≡ false
unfolding step
unmarked m e = plan-unmarked (content_of m) e

pub just-marked : (m : Machine) (e : Event) (mark : Bool) → is_marked (marked_step m e mark).0 ≡ mark
just-marked m e true = refl
just-marked m e false = unmarked m e

pub just-marked-seen : (c : Content) (e : Event) (mark : Bool) → is_marked (marked_seen c e mark).0 ≡ mark
just-marked-seen c e true = refl
just-marked-seen c e false = unmarked-seen c e
