use Rattle.std.proofs.Common.{refl}
use Rattle.pps_persist.specs.declared.pieces.Reading.{Reading}
use Rattle.pps_persist.specs.declared.place.Place.TheVariants as places
use Rattle.pps_persist.proofs.Cuts.{begins-so}
use Rattle.pps_persist.proofs.pieces.Reading.new.Goals as goal

pub returns : goal.returns
returns c =
    let new : Reading = record { place = places.First; line = c.new.result; number = 1 } in
    begins-so new refl c.new.ensures.items refl
