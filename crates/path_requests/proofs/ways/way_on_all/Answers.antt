use Rattle.std.proofs.Common.{refl}
use Rattle.path_requests.proofs.Going.{all_goes}
use Rattle.path_requests.proofs.ways.way_on_all.Goals as goal

pub returns : goal.returns
returns c = all_goes c.args.tables.now c.are_tied.ensures c.args.mode c.args.spec.now c.args.directory c.requires.fits c.requires.all c.requires.place c.kind_opened-kind.result _ c.kind_opened-kind.ensures refl
