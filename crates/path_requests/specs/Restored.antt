-- The calls that restore an image, over the tables.
use Rattle.std.specs.Prelude.{◌≡◌, ◌⊎◌, List, [], ◌∷◌, ◌++◌, Result, Ok, Err, Some}
use Rattle.pps_types.specs.declared.line.Line.{Line}
use Rattle.pps_types.specs.declared.refusal.Refusal.{Refusal}
use Rattle.pps_types.specs.declared.refusal.Refusal.TheVariants.{OutOfMemory}
use Rattle.pps_types.specs.Names.{Path, new_refusal}
use Rattle.pps_types.specs.Content.{Content, at}
use Rattle.pps_types.specs.Checks.{Check, first_refusal, refused, object_checks}
use Rattle.pps_types.specs.Plan.{Move, Creates}
use Rattle.pps_types.specs.Image.{restored_object}
use Rattle.pps_types.specs.Restore as restoring
use Rattle.service_state.specs.declared.creating.NewObject.{NewObject}
use Rattle.service_state.specs.Objects.{new_object}
use Rattle.service_state.specs.Tables.{Tabled, content_in}

-- what there is once a directory is restored, or why it is refused
abbrev pub directory_restored : Tabled → Path → Result Content Refusal
directory_restored t path = restoring.restore_directory (content_in t) path

-- the same of an object
abbrev pub object_restored : Tabled → Path → Result Content Refusal
object_restored t path = restoring.restore_object (content_in t) path

-- the same of an attribute of the object at that path, by the line that sets it
abbrev pub line_restored : Tabled → Path → Line → Result Content Refusal
line_restored t path line = restoring.restore_line (content_in t) path line

-- it is done, and this is what there is now
abbrev pub Yields : Result Content Refusal → Tabled → Type 0
Yields restored t = restored ≡ Ok (content_in t)

-- it is refused so, or memory lacks
abbrev pub FailsAs : Result Content Refusal → Refusal → Type 0
FailsAs restored r = (restored ≡ Err r) ⊎ (r ≡ OutOfMemory)

-- ---- objects

-- the checks of one more object at a path
abbrev pub new_object_checks : Tabled → Path → List Check
new_object_checks t path = refused (new_refusal (at (content_in t)) path) ++ object_checks (content_in t) path

-- it is the object that is restored at that path
abbrev pub IsRestored : NewObject → Path → Tabled → Tabled → Type 0
IsRestored o path old new = new_object o new ≡ restored_object (content_in old) path

-- the move by which the object is restored at that path
abbrev pub creation_of : Tabled → Path → List Move
creation_of t path = Creates (restored_object (content_in t) path) ∷ []

-- ---- lines

-- each line is refused so at that path
abbrev pub RefusesEachLine : Tabled → Path → Refusal → Type 0
RefusesEachLine t path r = (line : Line) → first_refusal (restoring.line_checks (content_in t) path line) ≡ Some r
