use Rattle.std.proofs.Common.{◌≡◌, [], None, subst}
use Rattle.pps_types.specs.declared.found.Found.{Found}
use Rattle.pps_types.specs.declared.found.Found.TheVariants.{Directory as FoundDirectory}
use Rattle.open_handles.specs.Whole.{Whole, handles_in, handles_at, topic_at, KeepsRecords}
use Rattle.open_handles.proofs.Goes.{dropped_directory}
use Rattle.open_handles.proofs.handles.Handles.drop_directory.Goals as goal

pub invariant_of-self : goal.invariant_of-self
invariant_of-self c = (dropped_directory c.self.inside.rows c.self.inside.places.objects c.self.inside.places.directories c.self.invariant c.args.directory c.number.result c.number.ensures.same c.drop_unused.new.table c.drop_unused.ensures.gone c.drop_unused.ensures.used c.drop_unused.ensures.kept.next).whole

pub returns-clause-handles : goal.returns-clause-handles
returns-clause-handles c = subst (λ (w : Whole). handles_in (record { rows = c.self.inside.rows; objects = c.self.inside.places.objects; directories = c.drop_unused.new.table }) ≡ handles_in w) c.self.view_is (dropped_directory c.self.inside.rows c.self.inside.places.objects c.self.inside.places.directories c.self.invariant c.args.directory c.number.result c.number.ensures.same c.drop_unused.new.table c.drop_unused.ensures.gone c.drop_unused.ensures.used c.drop_unused.ensures.kept.next).handles

pub returns-clause-gone : goal.returns-clause-gone
returns-clause-gone c = subst (λ (w : Whole). handles_at (FoundDirectory c.args.directory) w ≡ [] → topic_at (FoundDirectory c.args.directory) (record { rows = c.self.inside.rows; objects = c.self.inside.places.objects; directories = c.drop_unused.new.table }) ≡ None) c.self.view_is (dropped_directory c.self.inside.rows c.self.inside.places.objects c.self.inside.places.directories c.self.invariant c.args.directory c.number.result c.number.ensures.same c.drop_unused.new.table c.drop_unused.ensures.gone c.drop_unused.ensures.used c.drop_unused.ensures.kept.next).gone

pub returns-clause-used : goal.returns-clause-used
returns-clause-used c = subst (λ (w : Whole). (handles_at (FoundDirectory c.args.directory) w ≡ [] → ⊥) → (record { rows = c.self.inside.rows; objects = c.self.inside.places.objects; directories = c.drop_unused.new.table }) ≡ w) c.self.view_is (dropped_directory c.self.inside.rows c.self.inside.places.objects c.self.inside.places.directories c.self.invariant c.args.directory c.number.result c.number.ensures.same c.drop_unused.new.table c.drop_unused.ensures.gone c.drop_unused.ensures.used c.drop_unused.ensures.kept.next).used

pub returns-clause-others : goal.returns-clause-others
returns-clause-others c = subst (λ (w : Whole). (f : Found) → (f ≡ FoundDirectory c.args.directory → ⊥) → topic_at f (record { rows = c.self.inside.rows; objects = c.self.inside.places.objects; directories = c.drop_unused.new.table }) ≡ topic_at f w) c.self.view_is (dropped_directory c.self.inside.rows c.self.inside.places.objects c.self.inside.places.directories c.self.invariant c.args.directory c.number.result c.number.ensures.same c.drop_unused.new.table c.drop_unused.ensures.gone c.drop_unused.ensures.used c.drop_unused.ensures.kept.next).others

pub returns-clause-records : goal.returns-clause-records
returns-clause-records c = subst (λ (w : Whole). KeepsRecords w (record { rows = c.self.inside.rows; objects = c.self.inside.places.objects; directories = c.drop_unused.new.table })) c.self.view_is (dropped_directory c.self.inside.rows c.self.inside.places.objects c.self.inside.places.directories c.self.invariant c.args.directory c.number.result c.number.ensures.same c.drop_unused.new.table c.drop_unused.ensures.gone c.drop_unused.ensures.used c.drop_unused.ensures.kept.next).records
