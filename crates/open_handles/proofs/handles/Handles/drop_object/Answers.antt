use Rattle.std.proofs.Common.{◌≡◌, [], None, subst}
use Rattle.pps_types.specs.declared.found.Found.{Found}
use Rattle.pps_types.specs.declared.found.Found.TheVariants.{Object as FoundObject}
use Rattle.open_handles.specs.Whole.{Whole, handles_in, handles_at, topic_at, KeepsRecords}
use Rattle.open_handles.proofs.Goes.{dropped_object}
use Rattle.open_handles.proofs.handles.Handles.drop_object.Goals as goal

pub invariant_of-self : goal.invariant_of-self
invariant_of-self c = (dropped_object c.self.inside.rows c.self.inside.places.objects c.self.inside.places.directories c.self.invariant c.args.object c.number.result c.number.ensures.same c.drop_unused.new.table c.drop_unused.ensures.gone c.drop_unused.ensures.used c.drop_unused.ensures.kept.next).whole

pub returns-clause-handles : goal.returns-clause-handles
returns-clause-handles c = subst (λ (w : Whole). handles_in (record { rows = c.self.inside.rows; objects = c.drop_unused.new.table; directories = c.self.inside.places.directories }) ≡ handles_in w) c.self.view_is (dropped_object c.self.inside.rows c.self.inside.places.objects c.self.inside.places.directories c.self.invariant c.args.object c.number.result c.number.ensures.same c.drop_unused.new.table c.drop_unused.ensures.gone c.drop_unused.ensures.used c.drop_unused.ensures.kept.next).handles

pub returns-clause-gone : goal.returns-clause-gone
returns-clause-gone c = subst (λ (w : Whole). handles_at (FoundObject c.args.object) w ≡ [] → topic_at (FoundObject c.args.object) (record { rows = c.self.inside.rows; objects = c.drop_unused.new.table; directories = c.self.inside.places.directories }) ≡ None) c.self.view_is (dropped_object c.self.inside.rows c.self.inside.places.objects c.self.inside.places.directories c.self.invariant c.args.object c.number.result c.number.ensures.same c.drop_unused.new.table c.drop_unused.ensures.gone c.drop_unused.ensures.used c.drop_unused.ensures.kept.next).gone

pub returns-clause-used : goal.returns-clause-used
returns-clause-used c = subst (λ (w : Whole). (handles_at (FoundObject c.args.object) w ≡ [] → ⊥) → (record { rows = c.self.inside.rows; objects = c.drop_unused.new.table; directories = c.self.inside.places.directories }) ≡ w) c.self.view_is (dropped_object c.self.inside.rows c.self.inside.places.objects c.self.inside.places.directories c.self.invariant c.args.object c.number.result c.number.ensures.same c.drop_unused.new.table c.drop_unused.ensures.gone c.drop_unused.ensures.used c.drop_unused.ensures.kept.next).used

pub returns-clause-others : goal.returns-clause-others
returns-clause-others c = subst (λ (w : Whole). (f : Found) → (f ≡ FoundObject c.args.object → ⊥) → topic_at f (record { rows = c.self.inside.rows; objects = c.drop_unused.new.table; directories = c.self.inside.places.directories }) ≡ topic_at f w) c.self.view_is (dropped_object c.self.inside.rows c.self.inside.places.objects c.self.inside.places.directories c.self.invariant c.args.object c.number.result c.number.ensures.same c.drop_unused.new.table c.drop_unused.ensures.gone c.drop_unused.ensures.used c.drop_unused.ensures.kept.next).others

pub returns-clause-records : goal.returns-clause-records
returns-clause-records c = subst (λ (w : Whole). KeepsRecords w (record { rows = c.self.inside.rows; objects = c.drop_unused.new.table; directories = c.self.inside.places.directories })) c.self.view_is (dropped_object c.self.inside.rows c.self.inside.places.objects c.self.inside.places.directories c.self.invariant c.args.object c.number.result c.number.ensures.same c.drop_unused.new.table c.drop_unused.ensures.gone c.drop_unused.ensures.used c.drop_unused.ensures.kept.next).records
