use Rattle.std.proofs.Common.{◌≡◌, subst}
use Rattle.pps_types.specs.declared.found.Found.{Found}
use Rattle.pps_types.specs.Owed.{longest_rest}
use Rattle.sub_reader.specs.Opened.{is_directory, number_of}
use Rattle.open_handles.specs.Whole.{Whole, handles_in, kept_at}
use Rattle.open_handles.proofs.Turns.{exact_here}
use Rattle.open_handles.proofs.handles.Handles.is_exact.Goals as goal

pub returns : goal.returns
returns c = subst (λ (w : Whole). (f : Found) → kept_at f w ≡ longest_rest (is_directory f) (number_of f) (handles_in w)) c.self.view_is (λ f. exact_here c.self.inside.rows c.self.inside.places c.self.invariant f)
