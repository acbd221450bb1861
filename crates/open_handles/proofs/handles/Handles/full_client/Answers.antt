use Rattle.std.proofs.Common.{◌≡◌, ◌∙◌, ℕ, true, List, Option, None, sym, ap, subst}
use Rattle.std.specs.Prelude.{◌&&◌, nat_le, IfSome, find, option_map}
use Rattle.std.specs.Option.{option_copied}
use Rattle.pps_types.specs.declared.found.Found.TheVariants.{Object as FoundObject}
use Rattle.pps_types.specs.Reading.{OpenHandle}
use Rattle.pps_types.specs.Rests.{Progress}
use Rattle.pps_types.specs.Checks.{count_owed, is_server_message, is_client}
use Rattle.topics.specs.declared.topic.Topic.{Topic}
use Rattle.open_handles.specs.Whole.{Whole, site_of, site_at, handles_at, handles_in_place}
use Rattle.open_handles.proofs.handles.Handles.full_client.Goals as goal

-- what is said of a server object's place
abbrev Told : Option ℕ → List (OpenHandle Progress) → Type 0
Told r hs = r ≡ option_map (λ (h : OpenHandle Progress). h.number) (find (λ (h : OpenHandle Progress). is_client h.kind && nat_le h.limit (count_owed is_server_message h)) hs)

pub returns-in-None : goal.returns-in-None
returns-in-None c =
    subst (λ (w : Whole). IfSome (site_at (FoundObject c.args.object) w) (λ s. s.service ≡ true → Told None (handles_at (FoundObject c.args.object) w))) c.self.view_is
    (subst (λ (o : Option Topic). IfSome (option_map site_of o) (λ s. s.service ≡ true → Told None (handles_in_place o))) (sym (ap option_copied c.in-None.is) ∙ c.get.ensures) tt)

pub returns-in-Some : goal.returns-in-Some
returns-in-Some c =
    subst (λ (w : Whole). IfSome (site_at (FoundObject c.args.object) w) (λ s. s.service ≡ true → Told c.full_client.result (handles_at (FoundObject c.args.object) w))) c.self.view_is
    (subst (λ (o : Option Topic). IfSome (option_map site_of o) (λ s. s.service ≡ true → Told c.full_client.result (handles_in_place o))) (sym (ap option_copied c.in-Some.is) ∙ c.get.ensures) c.full_client.ensures)
