use Rattle.std.proofs.Common.{◌≡◌, Some, None, sym, ap, subst, ◌∙◌, arith}
use Rattle.std.specs.Option.{option_copied_mut}
use Rattle.pps_types.specs.Plan as planning
use Rattle.number_table.specs.Numbered.{value_under}
use Rattle.open_handles.specs.Whole.{Whole, handles_in, with_place, changed, KeepsSites, KeepsPlaces}
use Rattle.open_handles.proofs.Turns.{whole_of, not_gone, change_absent, turn_sites, turn_places, turned, turned_whole, keeps_number}
use Rattle.open_handles.proofs.handles.Handles.change.Goals as goal

pub returns-in_default-clause-handles : goal.returns-in_default-clause-handles
returns-in_default-clause-handles c =
    subst (λ (w : Whole). handles_in w ≡ planning.on_numbered c.args.handle (changed c.args.change) (handles_in w)) c.self.view_is
    (change_absent c.self.inside.rows c.self.inside.places c.self.invariant c.args.handle (changed c.args.change) (subst (λ (w : Whole). value_under c.args.handle w.rows.entries ≡ None) (sym c.self.view_is) (sym c.target_of.ensures ∙ c.in_default.is)))

pub returns-in_default-get_mut-clause-handles : goal.returns-in_default-get_mut-clause-handles
returns-in_default-get_mut-clause-handles c = absurd (not_gone c.self.inside.rows c.self.inside.places c.self.invariant c.args.handle c.in-Some.found (subst (λ (w : Whole). value_under c.args.handle w.rows.entries ≡ Some c.in-Some.found) (sym c.self.view_is) (sym c.target_of.ensures ∙ c.in-Some.is)) (sym c.get_mut.ensures.value ∙ ap option_copied_mut c.in_default-get_mut.is))

pub invariant_of-self-2 : goal.invariant_of-self-2
invariant_of-self-2 c = turned_whole c.self.inside.rows c.self.inside.places c.self.invariant c.in-Some.found c.in-Some-get_mut.topic.now c.change_in.new.topic (sym c.get_mut.ensures.value ∙ ap option_copied_mut c.in-Some-get_mut.is) c.change_in.ensures.same c.change_in.ensures.on_topic c.args.handle (subst (λ (w : Whole). value_under c.args.handle w.rows.entries ≡ Some c.in-Some.found) (sym c.self.view_is) (sym c.target_of.ensures ∙ c.in-Some.is)) (changed c.args.change) (keeps_number c.args.change) c.change_in.ensures.handles

pub returns-clause-handles : goal.returns-clause-handles
returns-clause-handles c =
    subst (λ (w : Whole). handles_in (whole_of c.self.inside.rows (with_place c.self.inside.places c.in-Some.found c.change_in.new.topic)) ≡ planning.on_numbered c.args.handle (changed c.args.change) (handles_in w)) c.self.view_is
    (turned c.self.inside.rows c.self.inside.places c.self.invariant c.in-Some.found c.in-Some-get_mut.topic.now c.change_in.new.topic (sym c.get_mut.ensures.value ∙ ap option_copied_mut c.in-Some-get_mut.is) c.change_in.ensures.same c.change_in.ensures.on_topic c.args.handle (subst (λ (w : Whole). value_under c.args.handle w.rows.entries ≡ Some c.in-Some.found) (sym c.self.view_is) (sym c.target_of.ensures ∙ c.in-Some.is)) (changed c.args.change) (keeps_number c.args.change) c.change_in.ensures.handles)

pub returns-clause-sites : goal.returns-clause-sites
returns-clause-sites c = subst (λ (w : Whole). KeepsSites w (whole_of c.self.inside.rows (with_place c.self.inside.places c.in-Some.found c.change_in.new.topic))) c.self.view_is (turn_sites c.self.inside.places c.in-Some.found c.in-Some-get_mut.topic.now c.change_in.new.topic (sym c.get_mut.ensures.value ∙ ap option_copied_mut c.in-Some-get_mut.is) c.change_in.ensures.same c.self.inside.rows c.self.inside.rows)

pub returns-clause-places : goal.returns-clause-places
returns-clause-places c = subst (λ (w : Whole). KeepsPlaces w (whole_of c.self.inside.rows (with_place c.self.inside.places c.in-Some.found c.change_in.new.topic))) c.self.view_is (turn_places c.self.inside.places c.in-Some.found c.in-Some-get_mut.topic.now c.change_in.new.topic (sym c.get_mut.ensures.value ∙ ap option_copied_mut c.in-Some-get_mut.is) c.change_in.ensures.same (omega (arith, c.change_in.ensures.places)) c.self.inside.rows c.self.inside.rows)
