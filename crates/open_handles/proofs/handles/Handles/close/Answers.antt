use Rattle.std.proofs.Common.{◌≡◌, ◌<◌, Some, None, length, sym, ap, subst, ◌∙◌}
use Rattle.std.specs.Option.{option_copied_mut}
use Rattle.pps_types.specs.Plan as planning
use Rattle.number_table.specs.Numbered.{has_number, value_under, without_first}
use Rattle.topics.specs.HandlesOf.{handles_of}
use Rattle.open_handles.specs.Whole.{Whole, handles_in, with_place, KeepsSites, KeepsPlaces, KeepsRecords}
use Rattle.open_handles.proofs.Finds.{without_some}
use Rattle.open_handles.proofs.Turns.{whole_of, not_gone, close_absent, turn_sites, turn_places, turn_records, left, left_whole}
use Rattle.open_handles.proofs.handles.Handles.close.Goals as goal

pub returns-in_default-clause-handles : goal.returns-in_default-clause-handles
returns-in_default-clause-handles c =
    subst (λ (w : Whole). handles_in w ≡ planning.without_number c.args.handle (handles_in w)) c.self.view_is
    (close_absent c.self.inside.rows c.self.inside.places c.self.invariant c.args.handle (subst (λ (w : Whole). value_under c.args.handle w.rows.entries ≡ None) (sym c.self.view_is) (sym c.target_of.ensures ∙ c.in_default.is)))

pub returns-in_default-get_mut-clause-handles : goal.returns-in_default-get_mut-clause-handles
returns-in_default-get_mut-clause-handles c = absurd (not_gone c.self.inside.rows c.self.inside.places c.self.invariant c.args.handle c.in-Some.found (subst (λ (w : Whole). value_under c.args.handle w.rows.entries ≡ Some c.in-Some.found) (sym c.self.view_is) (sym c.target_of.ensures ∙ c.in-Some.is)) (sym c.get_mut.ensures.value ∙ ap option_copied_mut c.in_default-get_mut.is))

pub invariant_of-self-2 : goal.invariant_of-self-2
invariant_of-self-2 c = left_whole c.self.inside.rows c.self.inside.places c.self.invariant c.in-Some.found c.in-Some-get_mut.topic.now c.close_in.new.topic (sym c.get_mut.ensures.value ∙ ap option_copied_mut c.in-Some-get_mut.is) c.close_in.ensures.same c.close_in.ensures.on_topic c.args.handle (subst (λ (w : Whole). value_under c.args.handle w.rows.entries ≡ Some c.in-Some.found) (sym c.self.view_is) (sym c.target_of.ensures ∙ c.in-Some.is)) c.close_in.ensures.handles c.remove-row.new.self (c.remove-row.ensures.entries ∙ ap (λ k. without_first (has_number k) c.self.inside.rows.entries) (c.from.ensures ∙ c.number.ensures.same)) c.remove-row.ensures.next

pub returns-clause-handles : goal.returns-clause-handles
returns-clause-handles c =
    subst (λ (w : Whole). handles_in (whole_of c.remove-row.new.self (with_place c.self.inside.places c.in-Some.found c.close_in.new.topic)) ≡ planning.without_number c.args.handle (handles_in w)) c.self.view_is
    (left c.self.inside.rows c.self.inside.places c.self.invariant c.in-Some.found c.in-Some-get_mut.topic.now c.close_in.new.topic (sym c.get_mut.ensures.value ∙ ap option_copied_mut c.in-Some-get_mut.is) c.close_in.ensures.same c.close_in.ensures.on_topic c.args.handle (subst (λ (w : Whole). value_under c.args.handle w.rows.entries ≡ Some c.in-Some.found) (sym c.self.view_is) (sym c.target_of.ensures ∙ c.in-Some.is)) c.close_in.ensures.handles c.remove-row.new.self (c.remove-row.ensures.entries ∙ ap (λ k. without_first (has_number k) c.self.inside.rows.entries) (c.from.ensures ∙ c.number.ensures.same)) c.remove-row.ensures.next)

pub returns-clause-sites : goal.returns-clause-sites
returns-clause-sites c = subst (λ (w : Whole). KeepsSites w (whole_of c.remove-row.new.self (with_place c.self.inside.places c.in-Some.found c.close_in.new.topic))) c.self.view_is (turn_sites c.self.inside.places c.in-Some.found c.in-Some-get_mut.topic.now c.close_in.new.topic (sym c.get_mut.ensures.value ∙ ap option_copied_mut c.in-Some-get_mut.is) c.close_in.ensures.same c.self.inside.rows c.remove-row.new.self)

pub returns-clause-places : goal.returns-clause-places
returns-clause-places c = subst (λ (w : Whole). KeepsPlaces w (whole_of c.remove-row.new.self (with_place c.self.inside.places c.in-Some.found c.close_in.new.topic))) c.self.view_is (turn_places c.self.inside.places c.in-Some.found c.in-Some-get_mut.topic.now c.close_in.new.topic (sym c.get_mut.ensures.value ∙ ap option_copied_mut c.in-Some-get_mut.is) c.close_in.ensures.same c.close_in.ensures.places c.self.inside.rows c.remove-row.new.self)

pub returns-clause-records : goal.returns-clause-records
returns-clause-records c = subst (λ (w : Whole). KeepsRecords w (whole_of c.remove-row.new.self (with_place c.self.inside.places c.in-Some.found c.close_in.new.topic))) c.self.view_is (turn_records c.self.inside.places c.in-Some.found c.in-Some-get_mut.topic.now c.close_in.new.topic (sym c.get_mut.ensures.value ∙ ap option_copied_mut c.in-Some-get_mut.is) c.close_in.ensures.same c.close_in.ensures.room (λ some. without_some c.args.handle (handles_of c.in-Some-get_mut.topic.now) (subst (λ hs. 0 < length hs) c.close_in.ensures.handles some)) c.self.inside.rows c.remove-row.new.self)
