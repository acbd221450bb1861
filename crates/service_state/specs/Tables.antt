-- All that stands of a service: names with their objects and directories, open handles, and connections, beside each other.
use Rattle.std.specs.Prelude.{◌≡◌, ℕ, [], false, Some, is_some}
use Rattle.std.specs.List.{AllByRecursion}
use Rattle.pps_types.specs.declared.found.Found.TheVariants.{Object as FoundObject, Directory as FoundDirectory}
use Rattle.pps_types.specs.Content.{Content, LiveObject, Directory}
use Rattle.pps_types.specs.Machine as machines
use Rattle.name_table.specs.Standing.{Named, standing_of}
use Rattle.open_handles.specs.Whole.{Whole, site_at, handles_in}
use Rattle.notify_box.specs.Standing.{RoomedConnections, standing_in}
use Rattle.notify_box.specs.ChangeLaws.{queues_of}
use Rattle.notify_box.specs.Connections.{connections_of, ConnectionsRise}

-- The three with what is counted beside them.
pub record Tabled : Type 0 where
  pub default_limit : ℕ
  pub records : ℕ
  pub names : Named
  pub handles : Whole
  pub connections : RoomedConnections

-- what stands by them
abbrev pub content_in : Tabled → Content
content_in t = record {
  default_limit = t.default_limit;
  records = t.records;
  objects = (standing_of t.names).objects;
  next_object = (standing_of t.names).next_object;
  directories = (standing_of t.names).directories;
  next_directory = (standing_of t.names).next_directory;
  handles = handles_in t.handles;
  next_handle = t.handles.rows.next;
  connections = queues_of (standing_in t.connections);
}

-- what there is of a new service: the root alone, with the number of the first handle, and the limit of handles that name none
abbrev pub new_content : ℕ → ℕ → Content
new_content first_handle default_limit = machines.content_of (machines.start first_handle default_limit)

-- ---- how they are tied

-- an alive object can be opened, under its name, as what it is
abbrev pub IsOpenable : Whole → LiveObject → Type 0
IsOpenable w o = site_at (FoundObject o.object.number) w ≡ Some (record { name = o.object.name; service = is_some o.object.server })

-- and so can a directory
abbrev pub IsOpenableDirectory : Whole → Directory → Type 0
IsOpenableDirectory w d = site_at (FoundDirectory d.number) w ≡ Some (record { name = []; service = false })

-- connected: each connection has the outbox and the handles that the content says. rise: connections have the numbers 1 to 1,024.
-- objects, directories: each has a place for its handles. The numbers of places go on as those of what they are for.
pub record AreTied (t : Tabled) : Type 0 where
  pub connected : standing_in t.connections ≡ connections_of (content_in t)
  pub rise : ConnectionsRise (content_in t)
  pub objects : AllByRecursion (IsOpenable t.handles) (content_in t).objects
  pub directories : AllByRecursion (IsOpenableDirectory t.handles) (content_in t).directories
  pub next_object : t.handles.objects.next ≡ (content_in t).next_object
  pub next_directory : t.handles.directories.next ≡ (content_in t).next_directory

-- ---- compared

-- each part is the same
abbrev pub AreAlike : Tabled → Tabled → Type 0
AreAlike t u =
    (t.default_limit ≡ u.default_limit)
    × (t.records ≡ u.records)
    × (standing_of t.names ≡ standing_of u.names)
    × ((handles_in t.handles ≡ handles_in u.handles) × (t.handles.rows.next ≡ u.handles.rows.next))
    × (standing_in t.connections ≡ standing_in u.connections)
