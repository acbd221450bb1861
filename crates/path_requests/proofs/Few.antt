-- A directory with few members has few objects.
use Rattle.std.specs.Prelude.{◌≤◌, ◌++◌, map, length}
use Rattle.std.proofs.Common.{arith, length-append}
use Rattle.std.proofs.lemmas.List.{length-map}
use Rattle.pps_types.specs.declared.found.Found.{Found}
use Rattle.pps_types.specs.Names.{Name, Path, name_cmp}
use Rattle.pps_types.specs.Content.{Content, subdirectories}
use Rattle.service_laws.proofs.BoundedOpens.{sorted-length}
use Rattle.name_table.specs.Listed.{object_member, directory_member, objects_at, members_at}

pub few_objects : (c : Content) (path : Path) → length (objects_at c path) ≤ length (members_at c path)
few_objects c path =
    let objects = map object_member (objects_at c path) in
    let directories = map directory_member (subdirectories c path) in
    omega (arith, sorted-length name_cmp (λ (m : Name × Found). m.0) (objects ++ directories), length-append objects directories, length-map (objects_at c path) object_member)
