use Rattle.pps_types.proofs.Chains.{longest-length}
use Rattle.service_laws.proofs.Kept.{records-shown, owed-kept}
use Rattle.service_laws.proofs.laws_of_runs.records_are_kept.Goals as goal

pub returns : goal.returns
returns c = record { records = records-shown; count = λ s directory target. longest-length directory target s.handles; owed_are_kept = owed-kept }
