use Rattle.std.proofs.Common.{ap, ◌∙◌}
use Rattle.std.specs.FinMap.{insert, from_entries}
use Rattle.pps_types.specs.Names.{path_cmp}
use Rattle.alloc_tree.specs.Contents.{whole}
use Rattle.alloc_tree.specs.Held.{new_of}
use Rattle.alloc_tree.specs.declared.kind.NodeKind.TheVariants.{Directory as ADirectory}
use Rattle.pps_types.specs.declared.found.Found.TheVariants.{Directory}
use Rattle.alloc_tree.proofs.Maps.{free_in_map, map_inserted}
use Rattle.alloc_tree.proofs.tree.Tree.mkdir_commit.Goals as goal

pub place-requires-clause-free : goal.place-requires-clause-free
place-requires-clause-free g c = free_in_map ADirectory c.self.inside.root c.args.path.now (ap (λ h. new_of ADirectory h.map c.args.path.now) c.self.view_is ∙ c.requires.free)

pub returns-clause-map : goal.returns-clause-map
returns-clause-map g c = rw (← c.self.view_is)
    (map_inserted (whole c.self.inside.root) (whole c.place.new.self) c.args.path.now (Directory c.in_place-made.result.value.id) c.place.ensures
    ∙ ap (λ k. insert {R = path_cmp} (from_entries (whole c.self.inside.root)) c.args.path.now (Directory k)) c.in_place-made.ensures.number)
