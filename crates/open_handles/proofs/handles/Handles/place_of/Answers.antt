use Rattle.std.proofs.Common.{◌≡◌, None, sym, ap, subst, ◌∙◌}
use Rattle.std.specs.Prelude.{option_and_then}
use Rattle.std.specs.Option.{option_copied}
use Rattle.number_table.specs.Numbered.{value_under}
use Rattle.sub_reader.specs.Opened.{handle_at}
use Rattle.topics.specs.declared.topic.Topic.{Topic}
use Rattle.topics.specs.HandlesOf.{handles_of}
use Rattle.open_handles.specs.Whole.{Whole, handles_in}
use Rattle.open_handles.proofs.Turns.{in_place, in_no_place}
use Rattle.open_handles.proofs.handles.Handles.place_of.Goals as goal

pub returns-in_default : goal.returns-in_default
returns-in_default c =
    subst (λ (w : Whole). handle_at c.args.handle (handles_in w) ≡ None) c.self.view_is
    (in_no_place c.self.inside.rows c.self.inside.places c.self.invariant c.args.handle (ap (λ n. value_under n c.self.inside.rows.entries) (sym (c.from.ensures ∙ c.number.ensures.same)) ∙ sym c.get.ensures.value ∙ ap option_copied c.in_default.is))

pub returns : goal.returns
returns c =
    subst (λ (w : Whole). handle_at c.args.handle (handles_in w) ≡ option_and_then (λ (s : Topic). handle_at c.args.handle (handles_of s)) (option_copied c.get-2.result)) c.self.view_is
    (in_place c.self.inside.rows c.self.inside.places c.self.invariant c.args.handle c.in-Some.found.now (option_copied c.get-2.result) (ap (λ n. value_under n c.self.inside.rows.entries) (sym (c.from.ensures ∙ c.number.ensures.same)) ∙ sym c.get.ensures.value ∙ ap option_copied c.in-Some.is) c.get-2.ensures)
