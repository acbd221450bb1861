use Rattle.std.proofs.Common.{refl, sym, ap, subst, ◌∙◌, ◌∷◌, []}
use Rattle.std.specs.Option.{option_copied_mut}
use Rattle.pps_types.specs.declared.found.Found.TheVariants.{Object as FoundObject}
use Rattle.pps_types.specs.declared.record.Record.{Record}
use Rattle.open_handles.specs.Whole.{Whole, with_place, IsReadyIfUsed, IsReadyAt, IsReserved}
use Rattle.open_handles.proofs.Finds.{on_ok_then}
use Rattle.open_handles.proofs.Turns.{whole_of, same_turned_whole}
use Rattle.open_handles.proofs.Offers.{room_after}
use Rattle.open_handles.proofs.Reserves.{reserved_here}
use Rattle.open_handles.proofs.Readies.{shared_there}
use Rattle.open_handles.proofs.handles.Handles.shares_ready.Goals as goal

pub invariant_of-self-2 : goal.invariant_of-self-2
invariant_of-self-2 c = same_turned_whole c.self.inside.rows c.self.inside.places c.self.invariant (FoundObject c.record.result.now.object) c.in-Some.topic.now c.shares_in.new.topic (sym c.get_mut.ensures.value ∙ ap option_copied_mut c.in-Some.is) c.shares_in.ensures.same c.shares_in.ensures.on_topic c.self.inside.rows refl refl c.shares_in.ensures.handles

pub returns-clause-reserved : goal.returns-clause-reserved
returns-clause-reserved c =
    subst (λ (w : Whole). IsReserved w (whole_of c.self.inside.rows (with_place c.self.inside.places (FoundObject c.record.result.now.object) c.shares_in.new.topic))) c.self.view_is
    (reserved_here c.self.inside.rows c.self.inside.places c.self.invariant (FoundObject c.record.result.now.object) c.in-Some.topic.now c.shares_in.new.topic (sym c.get_mut.ensures.value ∙ ap option_copied_mut c.in-Some.is) c.shares_in.ensures.same c.shares_in.ensures.on_topic c.shares_in.ensures.handles c.shares_in.ensures.room c.shares_in.ensures.places)

pub returns-clause-ready : goal.returns-clause-ready
returns-clause-ready c =
    on_ok_then c.shares_in.result _ _
    (λ ready. subst (λ n. IsReadyAt (c.args.entry ∷ []) (FoundObject n) (whole_of c.self.inside.rows (with_place c.self.inside.places (FoundObject c.record.result.now.object) c.shares_in.new.topic))) (ap (λ (r : Record). r.object) c.record.ensures)
    (room_after c.self.inside.places (FoundObject c.record.result.now.object) c.in-Some.topic.now c.shares_in.new.topic (sym c.get_mut.ensures.value ∙ ap option_copied_mut c.in-Some.is) (IsReadyIfUsed (c.args.entry ∷ [])) ready)) c.shares_in.ensures.ready

pub returns-clause-enough : goal.returns-clause-enough
returns-clause-enough c =
    shared_there c.self.inside.rows c.self.inside.places c.in-Some.topic.now c.shares_in.new.topic c.record.result.now.object c.args.entry (sym c.get_mut.ensures.value ∙ ap option_copied_mut c.in-Some.is) (ap (λ (r : Record). r.object) c.record.ensures) c.shares_in.result c.shares_in.ensures.entry c.shares_in.ensures.enough
