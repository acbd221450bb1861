use Rattle.service_laws.proofs.BoundedEvents.{sizes-fit}
use Rattle.service_laws.proofs.laws_of_bounds.sizes_fit.Goals as goal

pub returns : goal.returns
returns c = sizes-fit
