use Rattle.pps_types.specs.Content.{Directory}
use Rattle.name_table.proofs.names.Names.directory.Goals as goal

pub returns : goal.returns
returns c = rw (← c.self.view_is, ← c.number.ensures.same) (c.get.ensures.found (λ (d : Directory). d.number) c.self.invariant.directories_told)
