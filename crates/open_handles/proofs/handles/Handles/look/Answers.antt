use Rattle.std.proofs.Common.{◌≡◌, Some, None, sym, ap, subst, ◌∙◌}
use Rattle.std.specs.Prelude.{option_map}
use Rattle.std.specs.Option.{option_copied}
use Rattle.number_table.specs.Numbered.{value_under}
use Rattle.sub_reader.specs.Opened.{handle_at, number_of}
use Rattle.sub_reader.specs.Glances.{glanced, glance_on}
use Rattle.topics.specs.HandlesOf.{target_of, name_of, handles_of}
use Rattle.open_handles.specs.Whole.{Whole, handles_in, name_at}
use Rattle.open_handles.proofs.Turns.{in_place, in_no_place, not_gone}
use Rattle.open_handles.proofs.Looks.{name_here, glance_here}
use Rattle.open_handles.proofs.handles.Handles.look.Goals as goal

pub returns-in_default-clause-glance : goal.returns-in_default-clause-glance
returns-in_default-clause-glance c =
    subst (λ (w : Whole). None ≡ option_map glanced (handle_at c.args.handle (handles_in w))) c.self.view_is
    (sym (ap (option_map glanced) (in_no_place c.self.inside.rows c.self.inside.places c.self.invariant c.args.handle (ap (λ n. value_under n c.self.inside.rows.entries) (sym (c.from.ensures ∙ c.number.ensures.same)) ∙ sym c.get.ensures.value ∙ ap option_copied c.in_default.is))))

pub returns-in_default-get-clause-glance : goal.returns-in_default-get-clause-glance
returns-in_default-get-clause-glance c = absurd (not_gone c.self.inside.rows c.self.inside.places c.self.invariant c.args.handle c.in-Some.found.now (ap (λ n. value_under n c.self.inside.rows.entries) (sym (c.from.ensures ∙ c.number.ensures.same)) ∙ sym c.get.ensures.value ∙ ap option_copied c.in-Some.is) (sym c.get-2.ensures ∙ ap option_copied c.in_default-get.is))

pub returns-in_default-glance-clause-glance : goal.returns-in_default-glance-clause-glance
returns-in_default-glance-clause-glance c =
    subst (λ (w : Whole). None ≡ option_map glanced (handle_at c.args.handle (handles_in w))) c.self.view_is
    (glance_here c.self.inside.rows c.self.inside.places c.self.invariant c.args.handle c.in-Some.found.now c.in-Some-get.topic.now None (ap (λ n. value_under n c.self.inside.rows.entries) (sym (c.from.ensures ∙ c.number.ensures.same)) ∙ sym c.get.ensures.value ∙ ap option_copied c.in-Some.is) (sym c.get-2.ensures ∙ ap option_copied c.in-Some-get.is) (sym (ap (λ o. option_map (glance_on (number_of (target_of c.in-Some-get.topic.now)) (name_of c.in-Some-get.topic.now)) o) c.in_default-glance.is) ∙ c.glance.ensures))

pub returns-clause-glance : goal.returns-clause-glance
returns-clause-glance c =
    subst (λ (w : Whole). Some (glance_on (number_of c.in-Some.found.now) (name_at c.in-Some.found.now w) c.in-Some-glance.glance) ≡ option_map glanced (handle_at c.args.handle (handles_in w))) c.self.view_is
    (glance_here c.self.inside.rows c.self.inside.places c.self.invariant c.args.handle c.in-Some.found.now c.in-Some-get.topic.now (Some c.in-Some-glance.glance) (ap (λ n. value_under n c.self.inside.rows.entries) (sym (c.from.ensures ∙ c.number.ensures.same)) ∙ sym c.get.ensures.value ∙ ap option_copied c.in-Some.is) (sym c.get-2.ensures ∙ ap option_copied c.in-Some-get.is) (sym (ap (λ o. option_map (glance_on (number_of (target_of c.in-Some-get.topic.now)) (name_of c.in-Some-get.topic.now)) o) c.in-Some-glance.is) ∙ c.glance.ensures))

pub returns-clause-topic : goal.returns-clause-topic
returns-clause-topic c =
    subst (λ (w : Whole). handle_at c.args.handle (handles_of c.in-Some-get.topic.now) ≡ handle_at c.args.handle (handles_in w)) c.self.view_is
    (sym (in_place c.self.inside.rows c.self.inside.places c.self.invariant c.args.handle c.in-Some.found.now (Some c.in-Some-get.topic.now) (ap (λ n. value_under n c.self.inside.rows.entries) (sym (c.from.ensures ∙ c.number.ensures.same)) ∙ sym c.get.ensures.value ∙ ap option_copied c.in-Some.is) (ap option_copied (sym c.in-Some-get.is) ∙ c.get-2.ensures)))

pub returns-clause-name : goal.returns-clause-name
returns-clause-name c =
    subst (λ (w : Whole). name_of c.in-Some-get.topic.now ≡ name_at c.in-Some.found.now w) c.self.view_is
    (name_here c.self.inside.rows c.self.inside.places c.in-Some.found.now c.in-Some-get.topic.now (sym c.get-2.ensures ∙ ap option_copied c.in-Some-get.is))
