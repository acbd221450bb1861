use Rattle.pps_persist.proofs.Cuts.{finished, unfinished}
use Rattle.std.proofs.Common.{refl}
use Rattle.pps_persist.proofs.pieces.Reading.finish.Goals as goal

pub returns-in_default : goal.returns-in_default
returns-in_default c = λ taken h. unfinished taken c.args.self h c.args.self.place refl c.in_default.not-Behind

pub returns : goal.returns
returns c = λ taken h. finished taken c.args.self h c.in-Behind.engine c.in-Behind.is
