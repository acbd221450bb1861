use Rattle.service_laws.proofs.Private.{private-traffic}
use Rattle.service_laws.proofs.laws.private_traffic_is_private.Goals as goal

pub returns : goal.returns
returns c = private-traffic
