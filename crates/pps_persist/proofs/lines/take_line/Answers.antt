use Rattle.std.proofs.Common.{subst}
use Rattle.pps_persist.specs.declared.place.Place.{Place}
use Rattle.pps_persist.specs.Held.{IsAt}
use Rattle.pps_persist.proofs.Taken.{nothing-behind}
use Rattle.pps_persist.proofs.lines.take_line.Goals as goal

pub returns : goal.returns
returns c = λ lines at. nothing-behind c.args.line.now c.in-Behind.field-0 lines (subst (λ (place : Place). IsAt lines place) c.in-Behind.is at)
