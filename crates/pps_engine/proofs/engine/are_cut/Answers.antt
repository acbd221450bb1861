use Rattle.std.proofs.Common.{map, subst}
use Rattle.pps_types.specs.WellFormed.{RiseBetween}
use Rattle.open_handles.specs.Whole.{Whole, HandlesOf}
use Rattle.pps_engine.proofs.Plans.{holds-just}
use Rattle.pps_engine.proofs.engine.are_cut.Goals as goal

pub returns : goal.returns
returns c =
    holds-just c.args.tables.now c.holds_what_is_owed.ensures
    (subst (λ (w : Whole). RiseBetween 0 (map (λ (e : HandlesOf). e.number) w.objects.entries) w.objects.next) c.handles.ensures c.places_rise.ensures.objects)
    (subst (λ (w : Whole). RiseBetween 0 (map (λ (e : HandlesOf). e.number) w.directories.entries) w.directories.next) c.handles.ensures c.places_rise.ensures.directories)
