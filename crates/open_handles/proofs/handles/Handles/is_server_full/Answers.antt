use Rattle.std.proofs.Common.{◌≡◌, ◌∙◌, ℕ, Bool, true, false, List, Option, sym, ap, subst}
use Rattle.std.specs.Prelude.{nat_le, IfSome, option_map}
use Rattle.std.specs.Option.{option_copied, option_map_or}
use Rattle.pps_types.specs.declared.found.Found.TheVariants.{Object as FoundObject}
use Rattle.pps_types.specs.Reading.{OpenHandle}
use Rattle.pps_types.specs.Rests.{Progress}
use Rattle.pps_types.specs.Checks.{count_owed, is_message_of}
use Rattle.sub_reader.specs.Opened.{handle_at}
use Rattle.topics.specs.declared.topic.Topic.{Topic}
use Rattle.open_handles.specs.Whole.{Whole, site_of, site_at, handles_at, handles_in_place}
use Rattle.open_handles.proofs.handles.Handles.is_server_full.Goals as goal

-- what is said of a server object's place
abbrev Told : ℕ → ℕ → Bool → List (OpenHandle Progress) → Type 0
Told server client r hs = r ≡ option_map_or (λ (h : OpenHandle Progress). nat_le h.limit (count_owed (is_message_of client) h)) (handle_at server hs) false

pub returns-in-None : goal.returns-in-None
returns-in-None c =
    subst (λ (w : Whole). IfSome (site_at (FoundObject c.args.object) w) (λ s. s.service ≡ true → Told c.args.server c.args.client false (handles_at (FoundObject c.args.object) w))) c.self.view_is
    (subst (λ (o : Option Topic). IfSome (option_map site_of o) (λ s. s.service ≡ true → Told c.args.server c.args.client false (handles_in_place o))) (sym (ap option_copied c.in-None.is) ∙ c.get.ensures) tt)

pub returns-in-Some : goal.returns-in-Some
returns-in-Some c =
    subst (λ (w : Whole). IfSome (site_at (FoundObject c.args.object) w) (λ s. s.service ≡ true → Told c.args.server c.args.client c.is_server_full.result (handles_at (FoundObject c.args.object) w))) c.self.view_is
    (subst (λ (o : Option Topic). IfSome (option_map site_of o) (λ s. s.service ≡ true → Told c.args.server c.args.client c.is_server_full.result (handles_in_place o))) (sym (ap option_copied c.in-Some.is) ∙ c.get.ensures) c.is_server_full.ensures)
