use Rattle.std.proofs.Common.{◌≡◌, ◌↔◌, [], true, IsTrue, refl, sym, ap, subst, ◌∙◌}
use Rattle.std.specs.Prelude.{filter}
use Rattle.std.specs.Option.{option_copied}
use Rattle.open_handles.specs.Whole.{Whole, handles_in, handles_in_place, is_on}
use Rattle.open_handles.proofs.Turns.{on_it}
use Rattle.open_handles.proofs.handles.Handles.is_unused.Goals as goal

pub returns-in-None : goal.returns-in-None
returns-in-None c =
    subst (λ (w : Whole). IsTrue true ↔ (filter (is_on c.args.found) (handles_in w) ≡ [])) c.self.view_is
    ((λ e. on_it c.self.inside.rows c.self.inside.places c.self.invariant c.args.found ∙ ap handles_in_place (sym c.get.ensures ∙ ap option_copied c.in-None.is)), (λ e. refl))

pub returns-in-Some : goal.returns-in-Some
returns-in-Some c =
    let same = on_it c.self.inside.rows c.self.inside.places c.self.invariant c.args.found ∙ ap handles_in_place (sym c.get.ensures ∙ ap option_copied c.in-Some.is) in
    subst (λ (w : Whole). IsTrue c.is_empty.result ↔ (filter (is_on c.args.found) (handles_in w) ≡ [])) c.self.view_is
    ((λ e. same ∙ c.is_empty.ensures.0 e), (λ e. c.is_empty.ensures.1 (sym same ∙ e)))
