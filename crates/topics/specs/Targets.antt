-- What handles can be opened on.
use Rattle.std.specs.Prelude.{ℕ, Bool, true, false, List, []}
use Rattle.pps_types.specs.declared.found.Found.{Found}
use Rattle.pps_types.specs.declared.found.Found.TheVariants.{Object as FoundObject, Directory as FoundDirectory}
use Rattle.topics.specs.declared.unused.Target.{Target}
use Rattle.topics.specs.declared.unused.Target.TheVariants.{Object, Service, Directory}

-- the object or directory
abbrev pub found_in : Target → Found
found_in (Object n name) = FoundObject n
found_in (Service n name) = FoundObject n
found_in (Directory n) = FoundDirectory n

-- the name of an object; a directory has none here
abbrev pub name_in : Target → List ℕ
name_in (Object n name) = name
name_in (Service n name) = name
name_in (Directory n) = []

abbrev pub is_served : Target → Bool
is_served (Object n name) = false
is_served (Service n name) = true
is_served (Directory n) = false
