use Rattle.std.specs.Prelude.{map}
use Rattle.std.specs.List.{flat_map}
use Rattle.std.proofs.Common.{◌∙◌, ap}
use Rattle.notify_box.specs.Standing.{standing_in, handles_of}
use Rattle.service_state.specs.Tables.{content_in}
use Rattle.service_state.specs.Begun.{bare}
use Rattle.handle_requests.specs.Begun.{begun_behind}
use Rattle.handle_requests.proofs.Plans.{gathered}
use Rattle.handle_requests.proofs.gathering.close_all.Goals as goal

pub returns-clause-begun : goal.returns-clause-begun
returns-clause-begun c =
    let t = c.args.tables.now in
    gathered (begun_behind (content_in t) c.args.conn) c.handles_of-handles.result.now c.closes.handle-index c.closes-test.false (map bare c.closes.beginning.items) (flat_map (begun_behind (content_in t) c.args.conn) c.handles_of-handles.result.now) c.closes.invariant.begun
    ∙ ap (flat_map (begun_behind (content_in t) c.args.conn)) (c.handles_of-handles.ensures.handles ∙ ap (λ x. handles_of c.args.conn (standing_in x)) c.connections.ensures ∙ ap (handles_of c.args.conn) c.are_tied.ensures.connected
    ∙ c.connections_are_found.ensures.handles (content_in t) c.requires c.args.conn)
