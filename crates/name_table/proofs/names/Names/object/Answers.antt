use Rattle.std.proofs.Common.{ap, ◌∙◌, option_map}
use Rattle.name_table.specs.Standing.{Placed, known_of}
use Rattle.name_table.proofs.Sames.{known_found}
use Rattle.name_table.proofs.names.Names.object.Goals as goal

pub returns-clause-known : goal.returns-clause-known
returns-clause-known c =
    rw (← c.self.view_is, ← c.number.ensures.same)
    (ap (option_map known_of) (c.get.ensures.found (λ (x : Placed). x.object.number) c.self.invariant.objects_told) ∙ known_found c.number.result c.self.inside.objects.entries)

pub returns-clause-placed : goal.returns-clause-placed
returns-clause-placed c = rw (← c.self.view_is, ← c.number.ensures.same) c.get.ensures.value
