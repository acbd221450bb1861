use Rattle.std.proofs.Common.{ap, ◌∙◌, option_map}
use Rattle.number_table.proofs.Told.{find_told}
use Rattle.name_table.specs.Standing.{Placed, known_of}
use Rattle.name_table.proofs.Sames.{known_found}
use Rattle.name_table.proofs.names.Names.objects_are_known.Goals as goal

pub returns : goal.returns
returns c =
    rw (← c.self.view_is)
    (λ number. ap (option_map known_of) (find_told (λ (x : Placed). x.object.number) number c.self.inside.objects.entries c.self.invariant.objects_told) ∙ known_found number c.self.inside.objects.entries)
