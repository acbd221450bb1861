use Rattle.std.proofs.Common.{subst}
use Rattle.name_table.specs.Laws.{ObjectsAreKnown}
use Rattle.handle_requests.proofs.ready.objects_are_placed.Goals as goal

pub returns : goal.returns
returns c = subst ObjectsAreKnown c.names.ensures c.objects_are_known.ensures c.args.object
