use Rattle.std.proofs.Common.{◌≡◌, ◌∙◌, ap}
use Rattle.std.specs.Prelude.{◌&&◌, find, option_map}
use Rattle.pps_types.specs.Reading.{OpenHandle}
use Rattle.pps_types.specs.Rests.{Progress}
use Rattle.pps_types.specs.Checks.{is_client}
use Rattle.service_state.specs.Tables.{content_in}
use Rattle.handle_requests.specs.Backlogs.{is_behind}
use Rattle.handle_requests.proofs.Backlogs.{told_there, all_behind}
use Rattle.handle_requests.proofs.backlog.behind_of_all.Goals as goal

pub returns : goal.returns
returns c =
    told_there c.args.tables.now c.are_tied.ensures c.args.object c.requires c.handles-handles.result.now c.handles-handles.ensures c.handles_are_placed.ensures.placed
    (λ hs. c.full_client.result ≡ option_map (λ (h : OpenHandle Progress). h.number) (find (λ (h : OpenHandle Progress). is_client h.kind && is_behind h) hs)) c.full_client.ensures
    ∙ ap (option_map (λ (h : OpenHandle Progress). h.number)) (all_behind (content_in c.args.tables.now) c.args.object)
