-- That a change keeps names, handles and connections tied, and that what stands is what its moves make of it.
use Rattle.std.specs.Prelude.{◌≡◌, List, [], ◌∷◌}
use Rattle.std.specs.List.{AllByRecursion}
use Rattle.std.proofs.Common.{refl, sym, ◌∙◌, ap, subst, le_refl}
use Rattle.pps_types.specs.declared.found.Found.TheVariants.{Object as FoundObject, Directory as FoundDirectory}
use Rattle.pps_types.specs.Content.{Content, LiveObject, Directory}
use Rattle.pps_types.specs.Plan.{Move, apply_all_seen}
use Rattle.name_table.specs.Standing.{Named, standing_of, standing_in as names_in}
use Rattle.open_handles.specs.Whole.{Whole, KeepsSites, handles_in}
use Rattle.notify_box.specs.Standing.{Standing, RoomedConnections, standing_in}
use Rattle.notify_box.specs.ChangeLaws.{queues_of}
use Rattle.notify_box.specs.Connections.{connections_of, ConnectionsRise}
use Rattle.notify_box.specs.ConnectionLaws.{ConnectionsAreFound}
use Rattle.service_state.specs.Tables.{Tabled, content_in, AreTied, IsOpenable, IsOpenableDirectory}

-- the parts are those of a content
pub record Meets (t : Tabled) (c : Content) : Type 0 where
  pub default_limit : t.default_limit ≡ c.default_limit
  pub records : t.records ≡ c.records
  pub standing : standing_of t.names ≡ names_in c
  pub handles : handles_in t.handles ≡ c.handles
  pub next_handle : t.handles.rows.next ≡ c.next_handle
  pub connected : standing_in t.connections ≡ connections_of c
  pub rise : ConnectionsRise c

module _ (found : ConnectionsAreFound) where
  -- so this is what stands
  pub meets_content : (t : Tabled) (c : Content) → Meets t c → content_in t ≡ c
  meets_content t c m =
      let objects = ap (λ s. s.objects) m.standing in
      let next_object = ap (λ s. s.next_object) m.standing in
      let directories = ap (λ s. s.directories) m.standing in
      let next_directory = ap (λ s. s.next_directory) m.standing in
      let queues = ap queues_of m.connected ∙ found.queues c m.rise in
      λ i. record {
        default_limit = m.default_limit i;
        records = m.records i;
        objects = objects i;
        next_object = next_object i;
        directories = directories i;
        next_directory = next_directory i;
        handles = m.handles i;
        next_handle = m.next_handle i;
        connections = queues i;
      }

-- ---- places for handles

-- what can be opened can be opened still, where the places stay
pub openable_kept : (old new : Whole) → KeepsSites old new → (os : List LiveObject) → AllByRecursion (IsOpenable old) os → AllByRecursion (IsOpenable new) os
openable_kept old new k [] all = tt
openable_kept old new k (o ∷ os) all = (k.sites (FoundObject o.object.number) ∙ all.0, openable_kept old new k os all.1)

pub directories_kept : (old new : Whole) → KeepsSites old new → (ds : List Directory) → AllByRecursion (IsOpenableDirectory old) ds → AllByRecursion (IsOpenableDirectory new) ds
directories_kept old new k [] all = tt
directories_kept old new k (d ∷ ds) all = (k.sites (FoundDirectory d.number) ∙ all.0, directories_kept old new k ds all.1)

pub sites_same : (w : Whole) → KeepsSites w w
sites_same w = record { sites = λ f. refl; objects = record { next = refl; room = le_refl w.objects.room }; directories = record { next = refl; room = le_refl w.directories.room } }

-- ---- a change in place

-- what stands is what these moves make of it, and all is tied as before
pub record Step (ms : List Move) (old new : Tabled) : Type 0 where
  pub moved : content_in new ≡ apply_all_seen ms (content_in old)
  pub tied : AreTied new

-- what moves of handles and connections leave of all else
pub record Aside (ms : List Move) (c : Content) : Type 0 where
  pub default_limit : c.default_limit ≡ (apply_all_seen ms c).default_limit
  pub records : c.records ≡ (apply_all_seen ms c).records
  pub names : names_in c ≡ names_in (apply_all_seen ms c)
  pub next_handle : c.next_handle ≡ (apply_all_seen ms c).next_handle

module _ (found : ConnectionsAreFound) where
  -- where names stay, and the places for handles
  pub stepped : (ms : List Move) (old new : Tabled) → AreTied old → Meets new (apply_all_seen ms (content_in old)) → new.names ≡ old.names
      → KeepsSites old.handles new.handles → Step ms old new
  stepped ms old new tied meets names sites =
      let moved = meets_content found new (apply_all_seen ms (content_in old)) meets in
      let same = ap standing_of names in
      record {
        moved = moved;
        tied = record {
          connected = meets.connected ∙ ap connections_of (sym moved);
          rise = subst ConnectionsRise (sym moved) meets.rise;
          objects = subst (AllByRecursion (IsOpenable new.handles)) (sym (ap (λ s. s.objects) same)) (openable_kept old.handles new.handles sites (content_in old).objects tied.objects);
          directories = subst (AllByRecursion (IsOpenableDirectory new.handles)) (sym (ap (λ s. s.directories) same)) (directories_kept old.handles new.handles sites (content_in old).directories tied.directories);
          next_object = sites.objects.next ∙ tied.next_object ∙ sym (ap (λ s. s.next_object) same);
          next_directory = sites.directories.next ∙ tied.next_directory ∙ sym (ap (λ s. s.next_directory) same);
        };
      }

  -- where handles and connections change by such moves
  pub both_stepped : (ms : List Move) (t : Tabled) (w : Whole) (x : RoomedConnections) (change : List Standing → List Standing) → AreTied t
      → Aside ms (content_in t) → handles_in w ≡ (apply_all_seen ms (content_in t)).handles → KeepsSites t.handles w → w.rows.next ≡ t.handles.rows.next
      → standing_in x ≡ change (standing_in t.connections) → connections_of (apply_all_seen ms (content_in t)) ≡ change (connections_of (content_in t))
      → ConnectionsRise (apply_all_seen ms (content_in t)) → Step ms t (record t { handles = w; connections = x })
  both_stepped ms t w x change tied aside handles sites next standing told rise =
      stepped ms t (record t { handles = w; connections = x }) tied
      (record {
        default_limit = aside.default_limit;
        records = aside.records;
        standing = aside.names;
        handles = handles;
        next_handle = next ∙ aside.next_handle;
        connected = standing ∙ ap change tied.connected ∙ sym told;
        rise = rise;
      })
      refl sites

-- the same by what stood as it was passed
pub moved_from : (ms : List Move) (old new now : Tabled) → old ≡ now → Step ms old new → content_in new ≡ apply_all_seen ms (content_in now)
moved_from ms old new now is step = step.moved ∙ ap (λ t. apply_all_seen ms (content_in t)) is

-- where nothing but the memory for more changes
pub roomed : ConnectionsAreFound → (t : Tabled) (n : Named) (w : Whole) (x : RoomedConnections) → AreTied t → standing_of n ≡ standing_of t.names → handles_in w ≡ handles_in t.handles
    → w.rows.next ≡ t.handles.rows.next → KeepsSites t.handles w → standing_in x ≡ standing_in t.connections → Step [] t (record t { names = n; handles = w; connections = x })
roomed found t n w x tied names handles next sites standing =
    let new = record t { names = n; handles = w; connections = x } in
    let meets : Meets new (content_in t) = record {
      default_limit = refl;
      records = refl;
      standing = names;
      handles = handles;
      next_handle = next;
      connected = standing ∙ tied.connected;
      rise = tied.rise;
    } in
    let same = meets_content found new (content_in t) meets in
    record {
      moved = same;
      tied = record {
        connected = meets.connected ∙ ap connections_of (sym same);
        rise = subst ConnectionsRise (sym same) tied.rise;
        objects = subst (λ s. AllByRecursion (IsOpenable w) s.objects) (sym names) (openable_kept t.handles w sites (content_in t).objects tied.objects);
        directories = subst (λ s. AllByRecursion (IsOpenableDirectory w) s.directories) (sym names) (directories_kept t.handles w sites (content_in t).directories tied.directories);
        next_object = sites.objects.next ∙ tied.next_object ∙ sym (ap (λ s. s.next_object) names);
        next_directory = sites.directories.next ∙ tied.next_directory ∙ sym (ap (λ s. s.next_directory) names);
      };
    }
