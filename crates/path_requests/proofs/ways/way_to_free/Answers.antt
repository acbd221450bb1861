use Rattle.std.specs.Prelude.{◌≡◌, Ok}
use Rattle.std.proofs.Common.{subst, ◌∙◌}
use Rattle.pps_types.specs.declared.found.Found.TheVariants.{Directory as FoundDirectory}
use Rattle.pps_types.specs.Names.{Path, parent, find_at}
use Rattle.pps_types.specs.Content.{at}
use Rattle.service_state.specs.Tables.{content_in}
use Rattle.path_requests.proofs.Going.{free_goes}
use Rattle.path_requests.proofs.ways.way_to_free.Goals as goal

pub returns : goal.returns
returns c = free_goes c.args.tables.now c.args.mode c.args.spec.now c.directory_above.result c.requires.all c.requires.place
    (subst (λ (p : Path). find_at (at (content_in c.args.tables.now)) (parent p) ≡ Ok (FoundDirectory c.directory_above.result)) (c.names.ensures ∙ c.path.ensures) c.directory_above.ensures)
    c.kind_opened-kind.result c.kind_opened-kind.ensures
