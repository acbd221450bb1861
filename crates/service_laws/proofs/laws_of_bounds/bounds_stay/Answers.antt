use Rattle.service_laws.proofs.BoundedEvents.{bounds-stay}
use Rattle.service_laws.proofs.laws_of_bounds.bounds_stay.Goals as goal

pub returns : goal.returns
returns c = bounds-stay
