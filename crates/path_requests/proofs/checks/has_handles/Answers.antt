use Rattle.std.specs.Prelude.{◌≢◌, ◌↔◌, IsTrue, [], filter}
use Rattle.std.proofs.Common.{subst}
use Rattle.pps_types.specs.declared.found.Found.TheVariants.{Object as FoundObject}
use Rattle.open_handles.specs.Whole.{Whole, handles_in, is_on}
use Rattle.path_requests.proofs.Among.{handles_told}
use Rattle.path_requests.proofs.checks.has_handles.Goals as goal

pub returns : goal.returns
returns c = handles_told c.args.object (handles_in c.args.tables.now.handles) c.has_handles.result
    (subst (λ (w : Whole). IsTrue c.has_handles.result ↔ (filter (is_on (FoundObject c.args.object)) (handles_in w) ≢ [])) c.handles.ensures c.has_handles.ensures)
