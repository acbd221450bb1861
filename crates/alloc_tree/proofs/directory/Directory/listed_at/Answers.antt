use Rattle.std.proofs.Common.{Some, ap, sym, ◌∙◌, [], length, arith}
use Rattle.std.specs.Prelude.{slice_get}
use Rattle.pps_types.specs.Names.{members_in}
use Rattle.alloc_tree.proofs.Ordered.{whole_is}
use Rattle.alloc_tree.proofs.Members.{members_count, member_at}
use Rattle.alloc_tree.proofs.directory.Directory.listed_at.Goals as goal

pub index-entry-requires : goal.index-entry-requires
index-entry-requires g c =
    omega (
      arith,
      c.requires,
      c.self.inside.entries.ok.0,
      members_count c.self.inside.entries.items,
      ap (λ w. length (members_in [] w)) (whole_is c.self.inside.id c.self.inside.entries _ c.self.view_is c.self.invariant),
    )

pub returns : goal.returns
returns g c =
    ap (λ w. slice_get (members_in [] w) c.args.place) (whole_is c.self.inside.id c.self.inside.entries _ c.self.view_is c.self.invariant)
    ∙ member_at c.self.inside.entries.items c.args.place c.index-entry.result.now
    (omega (
      arith,
      c.requires,
      members_count c.self.inside.entries.items,
      ap (λ w. length (members_in [] w)) (whole_is c.self.inside.id c.self.inside.entries _ c.self.view_is c.self.invariant),
    )) c.index-entry.ensures
    ∙ (λ i. Some (sym c.as_slice.ensures.value i, sym c.found_of.ensures i))
