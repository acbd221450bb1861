-- Tables of which the same stands.
use Rattle.std.proofs.Common.{◌≡◌, sym, ap, ◌∙◌, subst}
use Rattle.std.specs.List.{AllByRecursion}
use Rattle.service_laws.proofs.Finds.{all-imp}
use Rattle.pps_types.specs.declared.found.Found.{Found}
use Rattle.pps_types.specs.declared.found.Found.TheVariants.{Object as FoundObject, Directory as FoundDirectory}
use Rattle.pps_types.specs.Content.{Content}
use Rattle.name_table.specs.Standing.{standing_of}
use Rattle.notify_box.specs.Standing.{standing_in}
use Rattle.notify_box.specs.ChangeLaws.{queues_of}
use Rattle.notify_box.specs.Connections.{connections_of, ConnectionsRise}
use Rattle.open_handles.specs.Whole.{handles_in, site_at}
use Rattle.service_state.specs.Tables.{Tabled, content_in, AreTied, AreAlike, IsOpenable, IsOpenableDirectory}

module _ (t u : Tabled) (limit : u.default_limit ≡ t.default_limit) (records : u.records ≡ t.records) (names : standing_of u.names ≡ standing_of t.names)
    (handles : handles_in u.handles ≡ handles_in t.handles) (next : u.handles.rows.next ≡ t.handles.rows.next) (connections : standing_in u.connections ≡ standing_in t.connections) where
  pub copied_content : content_in u ≡ content_in t
  copied_content = λ i. record {
    default_limit = limit i;
    records = records i;
    objects = (names i).objects;
    next_object = (names i).next_object;
    directories = (names i).directories;
    next_directory = (names i).next_directory;
    handles = handles i;
    next_handle = next i;
    connections = queues_of (connections i);
  }

  pub copied_tied : ((f : Found) → site_at f u.handles ≡ site_at f t.handles) → u.handles.objects.next ≡ t.handles.objects.next → u.handles.directories.next ≡ t.handles.directories.next → AreTied t → AreTied u
  copied_tied sites next_object next_directory tied = record {
    connected = connections ∙ tied.connected ∙ ap connections_of (sym copied_content);
    rise = subst ConnectionsRise (sym copied_content) tied.rise;
    objects = subst (λ (c : Content). AllByRecursion (IsOpenable u.handles) c.objects) (sym copied_content)
        (all-imp (IsOpenable t.handles) (IsOpenable u.handles) (λ o is. sites (FoundObject o.object.number) ∙ is) (content_in t).objects tied.objects);
    directories = subst (λ (c : Content). AllByRecursion (IsOpenableDirectory u.handles) c.directories) (sym copied_content)
        (all-imp (IsOpenableDirectory t.handles) (IsOpenableDirectory u.handles) (λ d is. sites (FoundDirectory d.number) ∙ is) (content_in t).directories tied.directories);
    next_object = next_object ∙ tied.next_object ∙ ap (λ (c : Content). c.next_object) (sym copied_content);
    next_directory = next_directory ∙ tied.next_directory ∙ ap (λ (c : Content). c.next_directory) (sym copied_content);
  }

-- tables of which the same stands have the same parts
pub same_parts : (t u : Tabled) → AreTied t → AreTied u → content_in t ≡ content_in u → AreAlike t u
same_parts t u tied other same = (
  ap (λ (c : Content). c.default_limit) same,
  ap (λ (c : Content). c.records) same,
  λ i. record { objects = (same i).objects; next_object = (same i).next_object; directories = (same i).directories; next_directory = (same i).next_directory },
  (ap (λ (c : Content). c.handles) same, ap (λ (c : Content). c.next_handle) same),
  tied.connected ∙ ap connections_of same ∙ sym other.connected,
)
