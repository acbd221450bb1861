use Rattle.std.proofs.Common.{refl, sym}
use Rattle.pps_persist.specs.declared.place.Loaded.{Loaded}
use Rattle.pps_persist.proofs.Taken.{begins}
use Rattle.pps_persist.proofs.lines.take_beginning.Goals as goal

pub returns : goal.returns
returns c =
    let begun = c.in-Some.beginning in
    let new : Loaded = record { engine = c.in_ok-engine.engine; longest = begun.longest; count = 0; last = c.new.result } in
    begins c.args.line.now begun.default_limit new (sym c.in-Some.ensures.position) c.in-Some.ensures.least c.in-Some.ensures.most c.in_ok-engine.ensures refl c.new.ensures.items
