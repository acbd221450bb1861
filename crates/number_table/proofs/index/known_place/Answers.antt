use Rattle.number_table.specs.Index.{slots_in}
use Rattle.number_table.proofs.Entries.{known_stands}
use Rattle.number_table.proofs.Held.{numbers_listed}
use Rattle.number_table.proofs.index.known_place.Goals as goal

pub returns : goal.returns
returns g c =
    let values = c.args.values.now in
    let ps = c.args.index.now in
    known_stands c.args.number c.place_near.result 0 (slots_in values ps) c.requires.rises.0
    (rw (numbers_listed values ps) c.place_near.ensures) (rw (numbers_listed values ps) c.requires.rises.1) c.requires.known
