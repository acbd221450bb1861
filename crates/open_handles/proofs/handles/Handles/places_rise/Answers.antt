use Rattle.std.proofs.Common.{map, subst}
use Rattle.pps_types.specs.WellFormed.{RiseBetween}
use Rattle.number_table.specs.Numbered.{Entry as Numbering}
use Rattle.topics.specs.declared.topic.Topic.{Topic}
use Rattle.open_handles.specs.Whole.{Whole}
use Rattle.open_handles.proofs.handles.Handles.places_rise.Goals as goal

pub returns-clause-objects : goal.returns-clause-objects
returns-clause-objects c = subst (λ (w : Whole). RiseBetween 0 (map (λ (e : Numbering Topic). e.number) w.objects.entries) w.objects.next) c.self.view_is c.self.invariant.placed.objects_rise

pub returns-clause-directories : goal.returns-clause-directories
returns-clause-directories c = subst (λ (w : Whole). RiseBetween 0 (map (λ (e : Numbering Topic). e.number) w.directories.entries) w.directories.next) c.self.view_is c.self.invariant.placed.directories_rise
