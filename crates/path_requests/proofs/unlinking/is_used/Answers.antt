use Rattle.std.specs.Prelude.{◌≢◌, ◌↔◌, [], IsTrue, filter}
use Rattle.std.proofs.Common.{subst}
use Rattle.service_laws.specs.Concerned.{is_on_directory}
use Rattle.open_handles.specs.Whole.{Whole, handles_in}
use Rattle.service_state.specs.Tables.{content_in}
use Rattle.path_requests.proofs.Gone.{used_by}
use Rattle.path_requests.proofs.unlinking.is_used.Goals as goal

pub returns : goal.returns
returns c =
    used_by (content_in c.args.tables.now) c.args.directory c.has_handles.result
    (subst (λ (w : Whole). IsTrue c.has_handles.result ↔ (filter (is_on_directory c.args.directory) (handles_in w) ≢ [])) c.handles.ensures c.has_handles.ensures)
