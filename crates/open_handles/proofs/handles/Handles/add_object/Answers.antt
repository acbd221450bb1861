use Rattle.std.proofs.Common.{◌≡◌, ◌≤◌, ◌<◌, Some, ap, sym, subst, ◌∙◌}
use Rattle.std.specs.Prelude.{option_map}
use Rattle.std.specs.Option.{option_map_or}
use Rattle.pps_types.specs.declared.found.Found.{Found}
use Rattle.pps_types.specs.declared.found.Found.TheVariants.{Object as FoundObject}
use Rattle.topics.specs.HandlesOf.{places_of as places_for}
use Rattle.open_handles.specs.Whole.{Whole, Fresh, handles_in, topic_at, site_of, KeepsPlaces, KeepsRecords}
use Rattle.open_handles.proofs.Wholes.{added_fresh}
use Rattle.open_handles.proofs.handles.Handles.add_object.Goals as goal

pub invariant_of-self : goal.invariant_of-self
invariant_of-self c = (added_fresh c.self.inside.rows c.self.inside.places.objects c.self.inside.places.directories c.self.invariant c.args.fresh c.fresh.inside.object c.number.result c.fresh.inside.topic c.fresh.view_is c.fresh.invariant c.number.ensures.same c.push_reserved.new.self (subst (λ (w : Whole). w.objects.next ≤ c.args.fresh.object) (sym c.self.view_is) c.requires.above) c.push_reserved.ensures.entries c.push_reserved.ensures.next).whole

pub returns-clause-handles : goal.returns-clause-handles
returns-clause-handles c =
    subst (λ (w : Whole). handles_in (record { rows = c.self.inside.rows; objects = c.push_reserved.new.self; directories = c.self.inside.places.directories }) ≡ handles_in w) c.self.view_is
    (added_fresh c.self.inside.rows c.self.inside.places.objects c.self.inside.places.directories c.self.invariant c.args.fresh c.fresh.inside.object c.number.result c.fresh.inside.topic c.fresh.view_is c.fresh.invariant c.number.ensures.same c.push_reserved.new.self (subst (λ (w : Whole). w.objects.next ≤ c.args.fresh.object) (sym c.self.view_is) c.requires.above) c.push_reserved.ensures.entries c.push_reserved.ensures.next).handles

pub returns-clause-added : goal.returns-clause-added
returns-clause-added c =
    ap (option_map site_of) (added_fresh c.self.inside.rows c.self.inside.places.objects c.self.inside.places.directories c.self.invariant c.args.fresh c.fresh.inside.object c.number.result c.fresh.inside.topic c.fresh.view_is c.fresh.invariant c.number.ensures.same c.push_reserved.new.self (subst (λ (w : Whole). w.objects.next ≤ c.args.fresh.object) (sym c.self.view_is) c.requires.above) c.push_reserved.ensures.entries c.push_reserved.ensures.next).here
    ∙ ap (λ (x : Fresh). Some x.site) c.fresh.view_is

pub returns-clause-place : goal.returns-clause-place
returns-clause-place c = subst (λ n. 0 < n) (sym (ap (λ o. option_map_or places_for o 0) (added_fresh c.self.inside.rows c.self.inside.places.objects c.self.inside.places.directories c.self.invariant c.args.fresh c.fresh.inside.object c.number.result c.fresh.inside.topic c.fresh.view_is c.fresh.invariant c.number.ensures.same c.push_reserved.new.self (subst (λ (w : Whole). w.objects.next ≤ c.args.fresh.object) (sym c.self.view_is) c.requires.above) c.push_reserved.ensures.entries c.push_reserved.ensures.next).here)) c.fresh.invariant.room

pub returns-clause-others : goal.returns-clause-others
returns-clause-others c =
    subst (λ (w : Whole). (f : Found) → (f ≡ FoundObject c.args.fresh.object → ⊥) → topic_at f (record { rows = c.self.inside.rows; objects = c.push_reserved.new.self; directories = c.self.inside.places.directories }) ≡ topic_at f w) c.self.view_is
    (added_fresh c.self.inside.rows c.self.inside.places.objects c.self.inside.places.directories c.self.invariant c.args.fresh c.fresh.inside.object c.number.result c.fresh.inside.topic c.fresh.view_is c.fresh.invariant c.number.ensures.same c.push_reserved.new.self (subst (λ (w : Whole). w.objects.next ≤ c.args.fresh.object) (sym c.self.view_is) c.requires.above) c.push_reserved.ensures.entries c.push_reserved.ensures.next).others

pub returns-clause-places : goal.returns-clause-places
returns-clause-places c =
    subst (λ (w : Whole). KeepsPlaces w (record { rows = c.self.inside.rows; objects = c.push_reserved.new.self; directories = c.self.inside.places.directories })) c.self.view_is
    (added_fresh c.self.inside.rows c.self.inside.places.objects c.self.inside.places.directories c.self.invariant c.args.fresh c.fresh.inside.object c.number.result c.fresh.inside.topic c.fresh.view_is c.fresh.invariant c.number.ensures.same c.push_reserved.new.self (subst (λ (w : Whole). w.objects.next ≤ c.args.fresh.object) (sym c.self.view_is) c.requires.above) c.push_reserved.ensures.entries c.push_reserved.ensures.next).places

pub returns-clause-records : goal.returns-clause-records
returns-clause-records c =
    subst (λ (w : Whole). KeepsRecords w (record { rows = c.self.inside.rows; objects = c.push_reserved.new.self; directories = c.self.inside.places.directories })) c.self.view_is
    (added_fresh c.self.inside.rows c.self.inside.places.objects c.self.inside.places.directories c.self.invariant c.args.fresh c.fresh.inside.object c.number.result c.fresh.inside.topic c.fresh.view_is c.fresh.invariant c.number.ensures.same c.push_reserved.new.self (subst (λ (w : Whole). w.objects.next ≤ c.args.fresh.object) (sym c.self.view_is) c.requires.above) c.push_reserved.ensures.entries c.push_reserved.ensures.next).records
