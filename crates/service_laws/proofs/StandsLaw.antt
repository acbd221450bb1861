-- The law in the form of an engine's clause: what steps a content, steps each machine that it stands for.
use Rattle.std.proofs.Common.{◌≡◌, List, [], ◌∷◌, Bool, true, false, refl, sym, ap, ◌∙◌}
use Rattle.pps_types.specs.declared.event.Event.{Event}
use Rattle.pps_types.specs.Outcome.{Reply, is_marked}
use Rattle.pps_types.specs.Content.{Content}
use Rattle.pps_types.specs.Plan.{may_lack_memory}
use Rattle.pps_types.specs.Machine.{Machine, IsMachine, content_of, marked_step}
use Rattle.pps_types.specs.Runs.{Answered}
use Rattle.pps_types.specs.Stands.{Steps, Runs, StepsSeen, RunsSeen, marked_seen}
use Rattle.service_laws.proofs.Law.{step-shown, marked-made}

marked-shown : (m : Machine) → IsMachine m → (e : Event) (mark : Bool) → ((marked_step m e mark).0, content_of (marked_step m e mark).1) ≡ marked_seen (content_of m) e mark
marked-shown m made e true = refl
marked-shown m made e false = step-shown m made e

pub steps-stand : (old : Content) (e : Event) (reply : Reply) (new : Content) → StepsSeen old e reply new → Steps old e reply new
steps-stand old e reply new seen m stands =
    let both = seen.taken ∙ ap (λ c. marked_seen c e (is_marked reply)) stands.same ∙ sym (marked-shown m stands.made e (is_marked reply)) in
    record {
      replies = record { replied = ap (λ p. p.0) both; allowed = λ marked. ap (λ c. may_lack_memory c e) (sym stands.same) ∙ seen.allowed marked };
      stands = record { made = marked-made m stands.made e (is_marked reply); same = ap (λ p. p.1) both };
    }

pub runs-stand : (answered : List Answered) (old new : Content) → RunsSeen old answered new → Runs old answered new
runs-stand [] old new same m stands = record { replies = tt; stands = record { made = stands.made; same = same ∙ stands.same } }
runs-stand (x ∷ xs) old new seen m stands =
    let first = steps-stand old x.event x.reply seen.0 seen.1 m stands in
    let rest = runs-stand xs seen.0 new seen.2 (marked_step m x.event (is_marked x.reply)).1 first.stands in
    record { replies = (first.replies, rest.replies); stands = rest.stands }
