use Rattle.std.proofs.Common.{◌≡◌, ◌∙◌, Option, [], length, sym, ap, subst}
use Rattle.std.specs.Option.{option_copied, option_map_or}
use Rattle.topics.specs.declared.topic.Topic.{Topic}
use Rattle.topics.specs.HandlesOf.{kept_of}
use Rattle.open_handles.specs.Whole.{Whole, kept_at}
use Rattle.open_handles.proofs.handles.Handles.kept.Goals as goal

pub returns-in-None : goal.returns-in-None
returns-in-None c = subst (λ (w : Whole). 0 ≡ length (kept_at c.args.found w)) c.self.view_is (ap (λ (o : Option Topic). length (option_map_or kept_of o [])) (ap option_copied (sym c.in-None.is) ∙ c.get.ensures))

pub returns-in-Some : goal.returns-in-Some
returns-in-Some c = subst (λ (w : Whole). c.kept.result ≡ length (kept_at c.args.found w)) c.self.view_is (c.kept.ensures ∙ ap (λ (o : Option Topic). length (option_map_or kept_of o [])) (ap option_copied (sym c.in-Some.is) ∙ c.get.ensures))
