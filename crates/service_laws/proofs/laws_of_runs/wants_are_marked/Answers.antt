use Rattle.service_laws.proofs.Wants.{unmarked, unmarked-seen, just-marked, just-marked-seen}
use Rattle.service_laws.proofs.laws_of_runs.wants_are_marked.Goals as goal

pub returns : goal.returns
returns c = record { unmarked = unmarked; unmarked_seen = unmarked-seen; just = just-marked; just_seen = just-marked-seen }
