use Rattle.std.proofs.Common.{◌≡◌, List, ◌∷◌, map, sym, ap, subst, ◌∙◌, arith}
use Rattle.std.specs.Option.{option_copied_mut}
use Rattle.pps_types.specs.declared.found.Found.{Found}
use Rattle.pps_types.specs.History.{Entry}
use Rattle.pps_types.specs.Plan.{offer}
use Rattle.open_handles.specs.Whole.{Whole, handles_at, topic_at, place_at, with_place, HasRoomAt, HasRoomIn, IsSharedAt, KeepsSites, KeepsPlaces}
use Rattle.open_handles.proofs.Standing.{with_other}
use Rattle.open_handles.proofs.Turns.{whole_of, turn_sites, turn_places}
use Rattle.open_handles.proofs.Offers.{enough_here, offered_here, offered_whole, room_after, room_rest, if_here}
use Rattle.open_handles.proofs.handles.Handles.offer_at.Goals as goal

pub offer_in-requires-clause-enough : goal.offer_in-requires-clause-enough
offer_in-requires-clause-enough c = enough_here c.self.inside.rows c.self.inside.places c.self.invariant c.args.found c.in-Some.topic.now c.args.shares.entry c.args.shares.count (sym c.get_mut.ensures.value ∙ ap option_copied_mut c.in-Some.is) (λ is. subst (λ (w : Whole). IsSharedAt c.args.shares.count c.args.shares.entry c.args.found w) (sym c.self.view_is) (c.requires.enough is))

pub invariant_of-self-2 : goal.invariant_of-self-2
invariant_of-self-2 c = offered_whole c.self.inside.rows c.self.inside.places c.self.invariant c.args.found c.in-Some.topic.now c.offer_in.new.topic (sym c.get_mut.ensures.value ∙ ap option_copied_mut c.in-Some.is) c.offer_in.ensures.same c.offer_in.ensures.on_topic c.args.shares.entry c.offer_in.ensures.handles

pub returns-clause-handles : goal.returns-clause-handles
returns-clause-handles c =
    subst (λ (w : Whole). handles_at c.args.found (whole_of c.self.inside.rows (with_place c.self.inside.places c.args.found c.offer_in.new.topic)) ≡ map (offer c.args.shares.entry) (handles_at c.args.found w)) c.self.view_is
    (offered_here c.self.inside.rows c.self.inside.places c.self.invariant c.args.found c.in-Some.topic.now c.offer_in.new.topic (sym c.get_mut.ensures.value ∙ ap option_copied_mut c.in-Some.is) c.offer_in.ensures.same c.offer_in.ensures.on_topic c.args.shares.entry c.offer_in.ensures.handles)

pub returns-clause-others : goal.returns-clause-others
returns-clause-others c =
    subst (λ (w : Whole). (f : Found) → (f ≡ c.args.found → ⊥) → topic_at f (whole_of c.self.inside.rows (with_place c.self.inside.places c.args.found c.offer_in.new.topic)) ≡ topic_at f w) c.self.view_is
    (λ f other. with_other c.self.inside.places f c.args.found c.offer_in.new.topic other)

pub returns-clause-sites : goal.returns-clause-sites
returns-clause-sites c = subst (λ (w : Whole). KeepsSites w (whole_of c.self.inside.rows (with_place c.self.inside.places c.args.found c.offer_in.new.topic))) c.self.view_is (turn_sites c.self.inside.places c.args.found c.in-Some.topic.now c.offer_in.new.topic (sym c.get_mut.ensures.value ∙ ap option_copied_mut c.in-Some.is) c.offer_in.ensures.same c.self.inside.rows c.self.inside.rows)

pub returns-clause-places : goal.returns-clause-places
returns-clause-places c = subst (λ (w : Whole). KeepsPlaces w (whole_of c.self.inside.rows (with_place c.self.inside.places c.args.found c.offer_in.new.topic))) c.self.view_is (turn_places c.self.inside.places c.args.found c.in-Some.topic.now c.offer_in.new.topic (sym c.get_mut.ensures.value ∙ ap option_copied_mut c.in-Some.is) c.offer_in.ensures.same (omega (arith, c.offer_in.ensures.places)) c.self.inside.rows c.self.inside.rows)

pub returns-clause-records : goal.returns-clause-records
returns-clause-records c =
    subst (λ (w : Whole). (entries : List Entry) → HasRoomIn (c.args.shares.entry ∷ entries) c.args.found w → HasRoomIn entries c.args.found (whole_of c.self.inside.rows (with_place c.self.inside.places c.args.found c.offer_in.new.topic))) c.self.view_is
    (λ entries room. room_after c.self.inside.places c.args.found c.in-Some.topic.now c.offer_in.new.topic (sym c.get_mut.ensures.value ∙ ap option_copied_mut c.in-Some.is) (HasRoomAt entries c.args.found) (room_rest c.args.found c.in-Some.topic.now c.offer_in.new.topic c.args.shares.entry entries c.requires.told c.offer_in.ensures.handles c.offer_in.ensures.room (if_here (place_at c.args.found c.self.inside.places) c.in-Some.topic.now (HasRoomAt (c.args.shares.entry ∷ entries) c.args.found) (sym c.get_mut.ensures.value ∙ ap option_copied_mut c.in-Some.is) room)))
