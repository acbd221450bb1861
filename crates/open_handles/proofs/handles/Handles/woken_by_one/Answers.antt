use Rattle.std.proofs.Common.{◌∷◌, [], ap, ◌∙◌}
use Rattle.pps_types.specs.declared.found.Found.TheVariants.{Object as FoundObject, Directory as FoundDirectory}
use Rattle.sub_reader.specs.Woken.{woken_by}
use Rattle.open_handles.specs.Whole.{handles_in, handles_at}
use Rattle.open_handles.specs.United.{united}
use Rattle.open_handles.proofs.Finds.{is_rising}
use Rattle.open_handles.proofs.Wakes.{woken_one, if_ok_then}
use Rattle.open_handles.proofs.handles.Handles.woken_by_one.Goals as goal

pub returns : goal.returns
returns c = if_ok_then c.unite.result _ _ (λ all is.
    is
    ∙ (λ i. united
    ((c.in_ok-on_object.ensures
    ∙ (λ i. woken_by (c.from_ref-entries.ensures.value i) (handles_at (FoundObject (c.record.ensures i).object) c.args.self.now))
    ∙ ap (woken_by (c.args.entry.now ∷ [])) (c.handles_are_placed.ensures.placed (FoundObject c.args.entry.now.record_of.object))) i)
    ((c.in_ok-on_directory.ensures
    ∙ (λ i. woken_by (c.from_ref-entries.ensures.value i) (handles_at (FoundDirectory ((c.new.ensures ∙ c.directory.ensures) i)) c.args.self.now))
    ∙ ap (woken_by (c.args.entry.now ∷ [])) (c.handles_are_placed.ensures.placed (FoundDirectory c.args.entry.now.directory))) i))
    ∙ woken_one (handles_in c.args.self.now) (is_rising 0 c.args.self.now.rows.next (handles_in c.args.self.now) c.handles_are_placed.ensures.rise) c.args.entry.now) c.unite.ensures
