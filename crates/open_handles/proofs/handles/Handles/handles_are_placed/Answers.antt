use Rattle.std.proofs.Common.{◌≡◌, map, sym, subst}
use Rattle.std.specs.Prelude.{filter}
use Rattle.pps_types.specs.declared.found.Found.{Found}
use Rattle.pps_types.specs.Reading.{OpenHandle}
use Rattle.pps_types.specs.Rests.{Progress}
use Rattle.pps_types.specs.WellFormed.{RiseBetween}
use Rattle.open_handles.specs.Whole.{Whole, handles_in, handles_at, handles_on, is_on}
use Rattle.open_handles.proofs.Rows.{handles_rise}
use Rattle.open_handles.proofs.Turns.{on_it}
use Rattle.open_handles.proofs.handles.Handles.handles_are_placed.Goals as goal

pub returns-clause-placed : goal.returns-clause-placed
returns-clause-placed c = subst (λ (w : Whole). (f : Found) → handles_at f w ≡ filter (is_on f) (handles_in w)) c.self.view_is (λ f. sym (on_it c.self.inside.rows c.self.inside.places c.self.invariant f))

pub returns-clause-rise : goal.returns-clause-rise
returns-clause-rise c =
    subst (λ (w : Whole). RiseBetween 0 (map (λ (h : OpenHandle Progress). h.number) (handles_in w)) w.rows.next) c.self.view_is
    (handles_rise (handles_on c.self.inside.places) 0 c.self.inside.rows.next c.self.inside.rows.entries c.self.invariant.rowed.rise)
