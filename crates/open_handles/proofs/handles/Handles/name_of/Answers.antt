use Rattle.std.proofs.Common.{◌≡◌, ◌∙◌, List, ℕ, [], Option, sym, ap, subst}
use Rattle.std.specs.Prelude.{option_map}
use Rattle.std.specs.Option.{option_copied, option_map_or}
use Rattle.topics.specs.declared.topic.Topic.{Topic}
use Rattle.open_handles.specs.Whole.{Whole, Site, site_of, name_at}
use Rattle.open_handles.proofs.handles.Handles.name_of.Goals as goal

-- the name in a place
abbrev named : Option Topic → List ℕ
named s = option_map_or (λ (s : Site). s.name) (option_map site_of s) []

pub returns-in-None : goal.returns-in-None
returns-in-None c = subst (λ (w : Whole). [] ≡ name_at c.args.found w) c.self.view_is (ap named (sym (ap option_copied c.in-None.is)) ∙ ap named c.get.ensures)

pub returns-in-Some : goal.returns-in-Some
returns-in-Some c = subst (λ (w : Whole). c.name.result.now ≡ name_at c.args.found w) c.self.view_is (c.name.ensures ∙ ap named (sym (ap option_copied c.in-Some.is)) ∙ ap named c.get.ensures)
