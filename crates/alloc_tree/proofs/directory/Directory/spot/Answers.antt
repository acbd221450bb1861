use Rattle.std.proofs.Common.{[], ◌∷◌, Ok, sym, ap, ◌∙◌}
use Rattle.pps_types.specs.Names.{place}
use Rattle.alloc_tree.specs.Contents.{whole}
use Rattle.alloc_tree.specs.Path.{at}
use Rattle.alloc_tree.specs.View.{contents_of}
use Rattle.alloc_tree.proofs.Ordered.{root_found}
use Rattle.alloc_tree.proofs.Levels.{no_length}
use Rattle.alloc_tree.proofs.Ways.{to_place}
use Rattle.alloc_tree.proofs.directory.Directory.spot.Goals as goal

pub returns-in_default : goal.returns-in_default
returns-in_default g c =
    rw (← c.self.view_is, no_length c.args.path.now c.in_default.ensures.cases) (sym (ap Ok (root_found (contents_of c.self.inside.id c.self.inside.entries))))

pub returns-in-Err : goal.returns-in-Err
returns-in-Err g c = sym (ap (place (at (whole c.args.self.now))) c.in-Some.ensures.cases.0 ∙ c.in-Err.ensures.none.place c.in-Some.last.now [])

pub returns-in-Ok : goal.returns-in-Ok
returns-in-Ok g c =
    sym (ap (place (at (whole c.args.self.now))) c.in-Some.ensures.cases.0
    ∙ to_place (whole c.args.self.now) c.in-Some.above.now c.in-Some.last.now c.in-Ok.directory.now c.in-Ok.ensures.found
    ∙ ap (λ n. Ok (at (whole c.in-Ok.directory.now) (n ∷ []))) (sym c.as_slice.ensures) ∙ ap Ok (sym c.entry.ensures))
