-- What the calls that restore an image make of the machines that an engine represents.
use Rattle.std.specs.Prelude.{Result, OnOk}
use Rattle.pps_types.specs.declared.line.Line.{Line}
use Rattle.pps_types.specs.declared.refusal.Refusal.{Refusal}
use Rattle.pps_types.specs.Names.{Path}
use Rattle.pps_types.specs.Content.{Content}
use Rattle.pps_types.specs.Machine.{Machine}
use Rattle.pps_types.specs.Restore as restoring
use Rattle.image_laws.specs.Restored.{Becomes}
use Rattle.pps_engine.specs.Serving.{Serving}

-- if it is done, it leads from each machine that was represented to the machine that is made of it
abbrev pub LeadsTo : {X : Type 0} → (Machine → Machine) → Serving → Result X Refusal → Serving → Type 0
LeadsTo made old result new = OnOk result (Becomes made old.content new.content)

-- what there is in an engine once a directory is restored, or why it is refused
abbrev pub directory_restored : Serving → Path → Result Content Refusal
directory_restored engine path = restoring.restore_directory engine.content path

-- the same of an object
abbrev pub object_restored : Serving → Path → Result Content Refusal
object_restored engine path = restoring.restore_object engine.content path

-- the same of an attribute of the object at that path, by the line that sets it
abbrev pub line_restored : Serving → Path → Line → Result Content Refusal
line_restored engine path line = restoring.restore_line engine.content path line
