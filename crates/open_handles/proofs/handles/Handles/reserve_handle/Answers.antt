use Rattle.std.proofs.Common.{◌≡◌, ◌<◌, length, refl, sym, ap, subst, ◌∙◌}
use Rattle.std.specs.Option.{option_copied_mut}
use Rattle.open_handles.specs.Whole.{Whole, handles_in, with_place, KeepsSites, KeepsPlaces, KeepsRecords}
use Rattle.open_handles.proofs.Finds.{on_ok}
use Rattle.open_handles.proofs.Turns.{whole_of, turn_sites, turn_places, turn_records, same_turned, same_turned_whole, room_there}
use Rattle.open_handles.proofs.handles.Handles.reserve_handle.Goals as goal

pub invariant_of-self-in_err-reserve_in : goal.invariant_of-self-in_err-reserve_in
invariant_of-self-in_err-reserve_in c = same_turned_whole c.self.inside.rows c.self.inside.places c.self.invariant c.args.found c.in-Some.topic.now c.reserve_in.new.topic (sym c.get_mut.ensures.value ∙ ap option_copied_mut c.in-Some.is) c.reserve_in.ensures.same c.reserve_in.ensures.on_topic c.self.inside.rows refl refl c.reserve_in.ensures.handles

pub returns-in_err-reserve_in-clause-handles : goal.returns-in_err-reserve_in-clause-handles
returns-in_err-reserve_in-clause-handles c =
    subst (λ (w : Whole). handles_in (whole_of c.self.inside.rows (with_place c.self.inside.places c.args.found c.reserve_in.new.topic)) ≡ handles_in w) c.self.view_is
    (same_turned c.self.inside.rows c.self.inside.places c.self.invariant c.args.found c.in-Some.topic.now c.reserve_in.new.topic (sym c.get_mut.ensures.value ∙ ap option_copied_mut c.in-Some.is) c.reserve_in.ensures.same c.reserve_in.ensures.on_topic c.self.inside.rows refl refl c.reserve_in.ensures.handles)

pub returns-in_err-reserve_in-clause-sites : goal.returns-in_err-reserve_in-clause-sites
returns-in_err-reserve_in-clause-sites c = subst (λ (w : Whole). KeepsSites w (whole_of c.self.inside.rows (with_place c.self.inside.places c.args.found c.reserve_in.new.topic))) c.self.view_is (turn_sites c.self.inside.places c.args.found c.in-Some.topic.now c.reserve_in.new.topic (sym c.get_mut.ensures.value ∙ ap option_copied_mut c.in-Some.is) c.reserve_in.ensures.same c.self.inside.rows c.self.inside.rows)

pub returns-in_err-reserve_in-clause-places : goal.returns-in_err-reserve_in-clause-places
returns-in_err-reserve_in-clause-places c = subst (λ (w : Whole). KeepsPlaces w (whole_of c.self.inside.rows (with_place c.self.inside.places c.args.found c.reserve_in.new.topic))) c.self.view_is (turn_places c.self.inside.places c.args.found c.in-Some.topic.now c.reserve_in.new.topic (sym c.get_mut.ensures.value ∙ ap option_copied_mut c.in-Some.is) c.reserve_in.ensures.same c.reserve_in.ensures.more c.self.inside.rows c.self.inside.rows)

pub returns-in_err-reserve_in-clause-records : goal.returns-in_err-reserve_in-clause-records
returns-in_err-reserve_in-clause-records c = subst (λ (w : Whole). KeepsRecords w (whole_of c.self.inside.rows (with_place c.self.inside.places c.args.found c.reserve_in.new.topic))) c.self.view_is (turn_records c.self.inside.places c.args.found c.in-Some.topic.now c.reserve_in.new.topic (sym c.get_mut.ensures.value ∙ ap option_copied_mut c.in-Some.is) c.reserve_in.ensures.same c.reserve_in.ensures.room (λ some. subst (λ hs. 0 < length hs) c.reserve_in.ensures.handles some) c.self.inside.rows c.self.inside.rows)

pub invariant_of-self-2 : goal.invariant_of-self-2
invariant_of-self-2 c = same_turned_whole c.self.inside.rows c.self.inside.places c.self.invariant c.args.found c.in-Some.topic.now c.reserve_in.new.topic (sym c.get_mut.ensures.value ∙ ap option_copied_mut c.in-Some.is) c.reserve_in.ensures.same c.reserve_in.ensures.on_topic c.reserve.new.self c.reserve.ensures.entries c.reserve.ensures.next c.reserve_in.ensures.handles

pub returns-clause-handles : goal.returns-clause-handles
returns-clause-handles c =
    subst (λ (w : Whole). handles_in (whole_of c.reserve.new.self (with_place c.self.inside.places c.args.found c.reserve_in.new.topic)) ≡ handles_in w) c.self.view_is
    (same_turned c.self.inside.rows c.self.inside.places c.self.invariant c.args.found c.in-Some.topic.now c.reserve_in.new.topic (sym c.get_mut.ensures.value ∙ ap option_copied_mut c.in-Some.is) c.reserve_in.ensures.same c.reserve_in.ensures.on_topic c.reserve.new.self c.reserve.ensures.entries c.reserve.ensures.next c.reserve_in.ensures.handles)

pub returns-clause-sites : goal.returns-clause-sites
returns-clause-sites c = subst (λ (w : Whole). KeepsSites w (whole_of c.reserve.new.self (with_place c.self.inside.places c.args.found c.reserve_in.new.topic))) c.self.view_is (turn_sites c.self.inside.places c.args.found c.in-Some.topic.now c.reserve_in.new.topic (sym c.get_mut.ensures.value ∙ ap option_copied_mut c.in-Some.is) c.reserve_in.ensures.same c.self.inside.rows c.reserve.new.self)

pub returns-clause-places : goal.returns-clause-places
returns-clause-places c = subst (λ (w : Whole). KeepsPlaces w (whole_of c.reserve.new.self (with_place c.self.inside.places c.args.found c.reserve_in.new.topic))) c.self.view_is (turn_places c.self.inside.places c.args.found c.in-Some.topic.now c.reserve_in.new.topic (sym c.get_mut.ensures.value ∙ ap option_copied_mut c.in-Some.is) c.reserve_in.ensures.same c.reserve_in.ensures.more c.self.inside.rows c.reserve.new.self)

pub returns-clause-records : goal.returns-clause-records
returns-clause-records c = subst (λ (w : Whole). KeepsRecords w (whole_of c.reserve.new.self (with_place c.self.inside.places c.args.found c.reserve_in.new.topic))) c.self.view_is (turn_records c.self.inside.places c.args.found c.in-Some.topic.now c.reserve_in.new.topic (sym c.get_mut.ensures.value ∙ ap option_copied_mut c.in-Some.is) c.reserve_in.ensures.same c.reserve_in.ensures.room (λ some. subst (λ hs. 0 < length hs) c.reserve_in.ensures.handles some) c.self.inside.rows c.reserve.new.self)

pub returns-clause-place : goal.returns-clause-place
returns-clause-place c = on_ok c.reserve.result _ (λ there. subst (λ n. 0 < n) (sym (room_there c.self.inside.places c.args.found c.in-Some.topic.now c.reserve_in.new.topic (sym c.get_mut.ensures.value ∙ ap option_copied_mut c.in-Some.is))) c.in_ok-reserve_in.ensures.places)
