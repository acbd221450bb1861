use Rattle.std.proofs.Common.{◌≡◌, ◌≤◌, Some, ap, sym, subst, ◌∙◌}
use Rattle.std.specs.Option.{option_map}
use Rattle.pps_types.specs.declared.found.Found.{Found}
use Rattle.pps_types.specs.declared.found.Found.TheVariants.{Object as FoundObject}
use Rattle.open_handles.specs.Whole.{Whole, handles_in, topic_at, site_of, KeepsPlaces, KeepsRecords}
use Rattle.open_handles.proofs.Wholes.{added_object}
use Rattle.open_handles.proofs.handles.Handles.add_bare_object.Goals as goal

pub invariant_of-self : goal.invariant_of-self
invariant_of-self c = (added_object c.self.inside.rows c.self.inside.places.objects c.self.inside.places.directories c.self.invariant c.args.object c.number.result c.number.ensures.same c.of_object-topic.result c.of_object-topic.ensures.handles c.of_object-topic.ensures.kept c.push_reserved.new.self (subst (λ (w : Whole). w.objects.next ≤ c.args.object) (sym c.self.view_is) c.requires.above) c.of_object-topic.ensures.target c.push_reserved.ensures.entries c.push_reserved.ensures.next).whole

pub returns-clause-handles : goal.returns-clause-handles
returns-clause-handles c =
    subst (λ (w : Whole). handles_in (record { rows = c.self.inside.rows; objects = c.push_reserved.new.self; directories = c.self.inside.places.directories }) ≡ handles_in w) c.self.view_is
    (added_object c.self.inside.rows c.self.inside.places.objects c.self.inside.places.directories c.self.invariant c.args.object c.number.result c.number.ensures.same c.of_object-topic.result c.of_object-topic.ensures.handles c.of_object-topic.ensures.kept c.push_reserved.new.self (subst (λ (w : Whole). w.objects.next ≤ c.args.object) (sym c.self.view_is) c.requires.above) c.of_object-topic.ensures.target c.push_reserved.ensures.entries c.push_reserved.ensures.next).handles

pub returns-clause-added : goal.returns-clause-added
returns-clause-added c =
    ap (option_map site_of) ((added_object c.self.inside.rows c.self.inside.places.objects c.self.inside.places.directories c.self.invariant c.args.object c.number.result c.number.ensures.same c.of_object-topic.result c.of_object-topic.ensures.handles c.of_object-topic.ensures.kept c.push_reserved.new.self (subst (λ (w : Whole). w.objects.next ≤ c.args.object) (sym c.self.view_is) c.requires.above) c.of_object-topic.ensures.target c.push_reserved.ensures.entries c.push_reserved.ensures.next).here)
    ∙ (λ i. Some (record { name = c.of_object-topic.ensures.name i; service = c.of_object-topic.ensures.service i }))

pub returns-clause-others : goal.returns-clause-others
returns-clause-others c =
    subst (λ (w : Whole). (f : Found) → (f ≡ FoundObject c.args.object → ⊥) → topic_at f (record { rows = c.self.inside.rows; objects = c.push_reserved.new.self; directories = c.self.inside.places.directories }) ≡ topic_at f w) c.self.view_is
    (added_object c.self.inside.rows c.self.inside.places.objects c.self.inside.places.directories c.self.invariant c.args.object c.number.result c.number.ensures.same c.of_object-topic.result c.of_object-topic.ensures.handles c.of_object-topic.ensures.kept c.push_reserved.new.self (subst (λ (w : Whole). w.objects.next ≤ c.args.object) (sym c.self.view_is) c.requires.above) c.of_object-topic.ensures.target c.push_reserved.ensures.entries c.push_reserved.ensures.next).others

pub returns-clause-places : goal.returns-clause-places
returns-clause-places c =
    subst (λ (w : Whole). KeepsPlaces w (record { rows = c.self.inside.rows; objects = c.push_reserved.new.self; directories = c.self.inside.places.directories })) c.self.view_is
    (added_object c.self.inside.rows c.self.inside.places.objects c.self.inside.places.directories c.self.invariant c.args.object c.number.result c.number.ensures.same c.of_object-topic.result c.of_object-topic.ensures.handles c.of_object-topic.ensures.kept c.push_reserved.new.self (subst (λ (w : Whole). w.objects.next ≤ c.args.object) (sym c.self.view_is) c.requires.above) c.of_object-topic.ensures.target c.push_reserved.ensures.entries c.push_reserved.ensures.next).places

pub returns-clause-records : goal.returns-clause-records
returns-clause-records c =
    subst (λ (w : Whole). KeepsRecords w (record { rows = c.self.inside.rows; objects = c.push_reserved.new.self; directories = c.self.inside.places.directories })) c.self.view_is
    (added_object c.self.inside.rows c.self.inside.places.objects c.self.inside.places.directories c.self.invariant c.args.object c.number.result c.number.ensures.same c.of_object-topic.result c.of_object-topic.ensures.handles c.of_object-topic.ensures.kept c.push_reserved.new.self (subst (λ (w : Whole). w.objects.next ≤ c.args.object) (sym c.self.view_is) c.requires.above) c.of_object-topic.ensures.target c.push_reserved.ensures.entries c.push_reserved.ensures.next).records
