use Rattle.std.proofs.Common.{map, ap, sym, ◌∙◌, subst, List}
use Rattle.std.specs.List.{AllByRecursion}
use Rattle.number_table.specs.Numbered.{Entry}
use Rattle.name_table.specs.Agrees.{HasPath}
use Rattle.name_table.specs.Standing.{Placed, known_of, content_of, standing_by}
use Rattle.name_table.proofs.Alongside.{knowns_of}
use Rattle.name_table.proofs.Sorting.{all_map_in}
use Rattle.name_table.proofs.names.Names.objects.Goals as goal

pub returns-clause-known : goal.returns-clause-known
returns-clause-known c = rw (← c.self.view_is) (ap (map known_of) c.iter.ensures ∙ knowns_of c.self.inside.objects.entries)

pub returns-clause-paths : goal.returns-clause-paths
returns-clause-paths c =
    let inside = content_of (standing_by c.self.inside.objects.entries c.self.inside.objects.next c.self.inside.directories.entries c.self.inside.directories.next) in
    rw (← c.self.view_is)
    (subst (λ (xs : List Placed). AllByRecursion (HasPath inside) xs) (sym c.iter.ensures) (all_map_in (HasPath inside) (λ (e : Entry Placed). e.value) c.self.inside.objects.entries c.self.invariant.paths))
