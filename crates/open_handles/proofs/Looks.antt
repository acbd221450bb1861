-- What is seen of a handle in its place.
use Rattle.std.proofs.Common.{◌≡◌, ℕ, [], Option, Some, sym, ap, ◌∙◌}
use Rattle.std.specs.Prelude.{option_map}
use Rattle.std.specs.Option.{option_map_or}
use Rattle.pps_types.specs.declared.found.Found.{Found}
use Rattle.number_table.specs.Numbered.{Numbered, value_under}
use Rattle.sub_reader.specs.Opened.{handle_at, number_of}
use Rattle.sub_reader.specs.Glances.{glanced, glance_on}
use Rattle.sub_reader.specs.declared.glance.Glance.{Glance}
use Rattle.topics.specs.declared.topic.Topic.{Topic}
use Rattle.topics.specs.HandlesOf.{target_of, handles_of, name_of}
use Rattle.open_handles.specs.declared.places.Places.{Places}
use Rattle.open_handles.specs.Whole.{IsWhole, place_at, handles_in, name_at, Site, site_of}
use Rattle.open_handles.proofs.Turns.{whole_of, in_place}

pub name_here : (rows : Numbered Found) (p : Places) (f : Found) (s : Topic) → place_at f p ≡ Some s → name_of s ≡ name_at f (whole_of rows p)
name_here rows p f s found = sym (ap (λ o. option_map_or (λ (x : Site). x.name) (option_map site_of o) []) found)

pub glance_here : (rows : Numbered Found) (p : Places) (whole : IsWhole (whole_of rows p)) (n : ℕ) (f : Found) (s : Topic) (o : Option Glance) → value_under n rows.entries ≡ Some f → place_at f p ≡ Some s
    → option_map (glance_on (number_of (target_of s)) (name_of s)) o ≡ option_map glanced (handle_at n (handles_of s))
    → option_map (glance_on (number_of f) (name_at f (whole_of rows p))) o ≡ option_map glanced (handle_at n (handles_in (whole_of rows p)))
glance_here rows p whole n f s o under found is =
    let target : target_of s ≡ f = whole.placed.on f s found in
    sym (λ i. option_map (glance_on (number_of (target i)) (name_here rows p f s found i)) o)
    ∙ is ∙ sym (ap (option_map glanced) (in_place rows p whole n f (Some s) under (sym found)))
