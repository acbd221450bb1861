use Rattle.service_state.specs.Tables.{content_in}
use Rattle.path_requests.proofs.Places.{alive}
use Rattle.path_requests.proofs.Going.{alive_goes}
use Rattle.path_requests.proofs.ways.way_on.Goals as goal

pub returns : goal.returns
returns c = alive_goes c.args.tables.now c.are_tied.ensures c.requires.content c.args.mode c.args.spec.now c.args.object c.requires.all
    (alive (content_in c.args.tables.now) c.requires.content c.args.spec.now.names c.args.object c.requires.place)
    c.is_served-is_served.result c.args.number c.kind_opened-kind.result c.step_on-step.result c.is_served-is_served.ensures c.requires.number c.kind_opened-kind.ensures c.step_on-step.ensures
