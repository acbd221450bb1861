use Rattle.std.proofs.Common.{ap, ◌∙◌}
use Rattle.alloc_tree.specs.Contents.{whole}
use Rattle.alloc_tree.specs.Held.{new_of}
use Rattle.alloc_tree.specs.declared.kind.NodeKind.TheVariants.{Object as AnObject}
use Rattle.pps_types.specs.declared.found.Found.TheVariants.{Object}
use Rattle.alloc_tree.proofs.Maps.{free_in_map, map_inserted}
use Rattle.alloc_tree.proofs.tree.Tree.add_commit.Goals as goal

pub place-requires-clause-free : goal.place-requires-clause-free
place-requires-clause-free g c = free_in_map AnObject c.self.inside.root c.args.path.now (ap (λ h. new_of AnObject h.map c.args.path.now) c.self.view_is ∙ c.requires.free)

pub returns-clause-map : goal.returns-clause-map
returns-clause-map g c = rw (← c.self.view_is) (map_inserted (whole c.self.inside.root) (whole c.place.new.self) c.args.path.now (Object c.args.id) c.place.ensures)
