use Rattle.std.proofs.Common.{◌≡◌, Some, None, sym, ap, subst, ◌∙◌}
use Rattle.std.specs.Prelude.{option_map}
use Rattle.std.specs.Option.{option_copied}
use Rattle.number_table.specs.Numbered.{value_under}
use Rattle.sub_reader.specs.Opened.{opened, as_opened, handle_at, number_of}
use Rattle.topics.specs.HandlesOf.{target_of, name_of}
use Rattle.open_handles.specs.Whole.{Whole, handles_in, name_at}
use Rattle.open_handles.proofs.Turns.{in_no_place, not_gone, opening_here}
use Rattle.open_handles.proofs.handles.Handles.opening.Goals as goal

pub returns-in_default : goal.returns-in_default
returns-in_default c =
    subst (λ (w : Whole). None ≡ option_map as_opened (handle_at c.args.handle (handles_in w))) c.self.view_is
    (sym (ap (option_map as_opened) (in_no_place c.self.inside.rows c.self.inside.places c.self.invariant c.args.handle (ap (λ n. value_under n c.self.inside.rows.entries) (sym (c.from.ensures ∙ c.number.ensures.same)) ∙ sym c.get.ensures.value ∙ ap option_copied c.in_default.is))))

pub returns-in_default-get : goal.returns-in_default-get
returns-in_default-get c = absurd (not_gone c.self.inside.rows c.self.inside.places c.self.invariant c.args.handle c.in-Some.found.now (ap (λ n. value_under n c.self.inside.rows.entries) (sym (c.from.ensures ∙ c.number.ensures.same)) ∙ sym c.get.ensures.value ∙ ap option_copied c.in-Some.is) (sym c.get-2.ensures ∙ ap option_copied c.in_default-get.is))

pub returns-in_default-opening : goal.returns-in_default-opening
returns-in_default-opening c =
    subst (λ (w : Whole). None ≡ option_map as_opened (handle_at c.args.handle (handles_in w))) c.self.view_is
    (opening_here c.self.inside.rows c.self.inside.places c.self.invariant c.args.handle c.in-Some.found.now c.in-Some-get.topic.now None (ap (λ n. value_under n c.self.inside.rows.entries) (sym (c.from.ensures ∙ c.number.ensures.same)) ∙ sym c.get.ensures.value ∙ ap option_copied c.in-Some.is) (sym c.get-2.ensures ∙ ap option_copied c.in-Some-get.is) (sym (ap (λ o. option_map (opened (number_of (target_of c.in-Some-get.topic.now)) (name_of c.in-Some-get.topic.now)) (option_copied o)) c.in_default-opening.is) ∙ c.opening.ensures))

pub returns : goal.returns
returns c =
    subst (λ (w : Whole). Some (opened (number_of c.in-Some.found.now) (name_at c.in-Some.found.now w) c.in-Some-opening.opening.now) ≡ option_map as_opened (handle_at c.args.handle (handles_in w))) c.self.view_is
    (opening_here c.self.inside.rows c.self.inside.places c.self.invariant c.args.handle c.in-Some.found.now c.in-Some-get.topic.now (Some c.in-Some-opening.opening.now) (ap (λ n. value_under n c.self.inside.rows.entries) (sym (c.from.ensures ∙ c.number.ensures.same)) ∙ sym c.get.ensures.value ∙ ap option_copied c.in-Some.is) (sym c.get-2.ensures ∙ ap option_copied c.in-Some-get.is) (sym (ap (λ o. option_map (opened (number_of (target_of c.in-Some-get.topic.now)) (name_of c.in-Some-get.topic.now)) (option_copied o)) c.in-Some-opening.is) ∙ c.opening.ensures))
