use Rattle.std.proofs.Common.{◌<◌, ◌↔◌, List, length, IsTrue, refl, sym, ap, subst, ◌∙◌}
use Rattle.std.specs.Prelude.{IfOk}
use Rattle.std.specs.Option.{option_copied_mut}
use Rattle.open_handles.specs.Whole.{Whole, with_place, IsReadyIfUsed, IsReserved}
use Rattle.pps_types.specs.Reading.{OpenHandle}
use Rattle.pps_types.specs.Rests.{Progress}
use Rattle.open_handles.proofs.Finds.{on_ok_then}
use Rattle.open_handles.proofs.Standing.{with_handles}
use Rattle.open_handles.proofs.Turns.{whole_of, same_turned_whole}
use Rattle.open_handles.proofs.Offers.{room_after}
use Rattle.open_handles.proofs.Reserves.{reserved_here}
use Rattle.open_handles.proofs.handles.Handles.reserve_at.Goals as goal

pub invariant_of-self-2 : goal.invariant_of-self-2
invariant_of-self-2 c = same_turned_whole c.self.inside.rows c.self.inside.places c.self.invariant c.args.found c.in-Some.topic.now c.reserve_records_in.new.topic (sym c.get_mut.ensures.value ∙ ap option_copied_mut c.in-Some.is) c.reserve_records_in.ensures.same c.reserve_records_in.ensures.on_topic c.self.inside.rows refl refl c.reserve_records_in.ensures.handles

pub returns-clause-reserved : goal.returns-clause-reserved
returns-clause-reserved c =
    subst (λ (w : Whole). IsReserved w (whole_of c.self.inside.rows (with_place c.self.inside.places c.args.found c.reserve_records_in.new.topic))) c.self.view_is
    (reserved_here c.self.inside.rows c.self.inside.places c.self.invariant c.args.found c.in-Some.topic.now c.reserve_records_in.new.topic (sym c.get_mut.ensures.value ∙ ap option_copied_mut c.in-Some.is) c.reserve_records_in.ensures.same c.reserve_records_in.ensures.on_topic c.reserve_records_in.ensures.handles c.reserve_records_in.ensures.room c.reserve_records_in.ensures.places)

pub returns-clause-ready : goal.returns-clause-ready
returns-clause-ready c = on_ok_then c.reserve_records_in.result _ _ (λ ready. room_after c.self.inside.places c.args.found c.in-Some.topic.now c.reserve_records_in.new.topic (sym c.get_mut.ensures.value ∙ ap option_copied_mut c.in-Some.is) (IsReadyIfUsed c.args.entries.now) ready) c.reserve_records_in.ensures.ready

pub returns-clause-used : goal.returns-clause-used
returns-clause-used c =
    subst (λ (hs : List (OpenHandle Progress)). IfOk c.reserve_records_in.result (λ used. IsTrue used ↔ (0 < length hs))) (sym (with_handles c.self.inside.places c.args.found c.in-Some.topic.now c.reserve_records_in.new.topic c.self.invariant.placed (sym c.get_mut.ensures.value ∙ ap option_copied_mut c.in-Some.is) c.reserve_records_in.ensures.same.target))
    c.reserve_records_in.ensures.used
