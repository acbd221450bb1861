-- Handles, connections and directories that come and go.
use Rattle.std.specs.Prelude.{◌≡◌, ◌+◌, ◌<◌, ◌≤◌, ◌==◌, ◌++◌, ℕ, List, [], ◌∷◌, Bool, true, false, Option, Some, None, is_some, map, filter, option_map}
use Rattle.std.specs.List.{AllByRecursion}
use Rattle.std.specs.Option.{option_map_or}
use Rattle.std.proofs.Common.{refl, sym, ◌∙◌, ap, subst, cond, arith}
use Rattle.std.proofs.lemmas.Bool.{eqb-true, eq-eqb}
use Rattle.pps_types.specs.declared.found.Found.{Found}
use Rattle.pps_types.specs.declared.found.Found.TheVariants.{Object as FoundObject, Directory as FoundDirectory}
use Rattle.pps_types.specs.Names.{Path}
use Rattle.pps_types.specs.Outbox.{Outbox, empty_outbox, put_rising}
use Rattle.pps_types.specs.Reading.{OpenHandle, reseen, style}
use Rattle.pps_types.specs.Rests.{Progress}
use Rattle.pps_types.specs.Content.{Content, Connection, Object, LiveObject, Directory, connection_numbered, is_attached, handles_of}
use Rattle.pps_types.specs.WellFormed.{RiseBetween}
use Rattle.pps_types.specs.Plan.{Move, Creates, Opens, Attaches, Leaves, MakesDirectory, RemovesDirectory, apply_seen, first_seen, without_first, offer, creation}
use Rattle.service_laws.proofs.Rising.{rising-below, rising-ends}
use Rattle.service_laws.specs.Told.{HandlesRise}
use Rattle.name_table.specs.Standing.{Named, standing_of, standing_in as names_in, after}
use Rattle.name_table.specs.Laws.{MovesAreTold}
use Rattle.open_handles.specs.Whole.{Whole, KeepsSites, site_at, handles_in}
use Rattle.notify_box.specs.Standing.{RoomedConnections, Standing, standing_in, standing_at, with_handles, is_numbered, handles_of as handles_at}
use Rattle.notify_box.specs.Connections.{standing_of as connection_of, connections_of, ConnectionsRise}
use Rattle.notify_box.specs.ConnectionLaws.{ConnectionsAreFound, ConnectionsAreTold, PremisesStay}
use Rattle.service_state.specs.Tables.{Tabled, content_in, AreTied, IsOpenable, IsOpenableDirectory}
use Rattle.service_state.proofs.Ties.{Meets, Step, stepped, meets_content, sites_same}

-- ---- handles

-- the numbers of a connection's handles are below the next one
below_all : (conn high : ℕ) (hs : List (OpenHandle Progress)) → AllByRecursion (λ h. h.number < high) hs → AllByRecursion (λ k. k < high) (map (λ (h : OpenHandle Progress). h.number) (filter (λ h. h.connection == conn) hs))
below_all conn high [] all = tt
below_all conn high (h ∷ hs) all = by (h.connection == conn) (below_all conn high hs all.1)
  where
    by : (b : Bool) → AllByRecursion (λ k. k < high) (map (λ (h : OpenHandle Progress). h.number) (filter (λ h. h.connection == conn) hs))
        → AllByRecursion (λ k. k < high) (map (λ (h : OpenHandle Progress). h.number) (cond b (h ∷ filter (λ h. h.connection == conn) hs) (filter (λ h. h.connection == conn) hs)))
    by true rest = (all.0, rest)
    by false rest = rest

pub numbers_below : ConnectionsAreFound → (c : Content) → HandlesRise c → (conn : ℕ) → AllByRecursion (λ k. k < c.next_handle) (handles_at conn (connections_of c))
numbers_below found c rise conn = by (connection_numbered c conn) (found.standing c conn)
  where
    by : (o : Option Connection) → standing_at conn (connections_of c) ≡ option_map (connection_of c) o → AllByRecursion (λ k. k < c.next_handle) (handles_at conn (connections_of c))
    by None e = subst (λ o. AllByRecursion (λ k. k < c.next_handle) (option_map_or (λ (s : Standing). s.handles) o [])) (sym e) tt
    by (Some x) e = subst (λ o. AllByRecursion (λ k. k < c.next_handle) (option_map_or (λ (s : Standing). s.handles) o [])) (sym e)
        (below_all x.number c.next_handle c.handles (rising-below (λ (h : OpenHandle Progress). h.number) 0 c.next_handle c.handles rise))

module _ (found : ConnectionsAreFound) (told : ConnectionsAreTold) (stay : PremisesStay) where
  pub opened_step : (t : Tabled) (w : Whole) (x : RoomedConnections) (h : OpenHandle (Unit {0})) → AreTied t → h.parked ≡ None → h.armed ≡ None
      → handles_in w ≡ handles_in t.handles ++ reseen (λ h. first_seen h (style h.kind)) h ∷ [] → w.rows.next ≡ t.handles.rows.next + 1 → KeepsSites t.handles w
      → standing_in x ≡ with_handles h.connection (λ hs. hs ++ h.number ∷ []) (standing_in t.connections) → Step (Opens h ∷ []) t (record t { handles = w; connections = x })
  opened_step t w x h tied idle unarmed handles next sites standing =
      stepped found (Opens h ∷ []) t (record t { handles = w; connections = x }) tied
      (record {
        default_limit = refl;
        records = refl;
        standing = refl;
        handles = handles;
        next_handle = next;
        connected = standing ∙ ap (λ xs. with_handles h.connection (λ hs. hs ++ h.number ∷ []) xs) tied.connected ∙ sym (told.opened (content_in t) tied.rise h idle unarmed);
        rise = stay.connections (content_in t) (Opens h ∷ []) tied.rise refl;
      })
      refl sites

  -- ---- connections

  pub attached_step : (t : Tabled) (x : RoomedConnections) (conn : ℕ) (box : Outbox) → AreTied t → box ≡ empty_outbox → is_attached (content_in t) conn ≡ false → handles_of (content_in t) conn ≡ []
      → 1 ≤ conn → conn < 1025 → standing_in x ≡ put_rising (λ (x : Standing). x.number) (record { number = conn; outbox = box; handles = [] }) (standing_in t.connections)
      → Step (Attaches conn ∷ []) t (record t { connections = x })
  attached_step t x conn box tied empty absent none low high standing =
      stepped found (Attaches conn ∷ []) t (record t { connections = x }) tied
      (record {
        default_limit = refl;
        records = refl;
        standing = refl;
        handles = refl;
        next_handle = refl;
        connected = standing ∙ ap (λ b. put_rising (λ (x : Standing). x.number) (record { number = conn; outbox = b; handles = [] }) (standing_in t.connections)) empty
            ∙ ap (λ xs. put_rising (λ (x : Standing). x.number) (record { number = conn; outbox = empty_outbox; handles = [] }) xs) tied.connected
            ∙ sym (told.attached (content_in t) conn absent none);
        rise = stay.attached (content_in t) conn tied.rise low high absent;
      })
      refl (sites_same t.handles)

  pub left_step : (t : Tabled) (x : RoomedConnections) (conn : ℕ) → AreTied t → standing_in x ≡ without_first (is_numbered conn) (standing_in t.connections)
      → Step (Leaves conn ∷ []) t (record t { connections = x })
  left_step t x conn tied standing =
      stepped found (Leaves conn ∷ []) t (record t { connections = x }) tied
      (record {
        default_limit = refl;
        records = refl;
        standing = refl;
        handles = refl;
        next_handle = refl;
        connected = standing ∙ ap (λ xs. without_first (is_numbered conn) xs) tied.connected ∙ sym (told.left (content_in t) tied.rise conn);
        rise = stay.connections (content_in t) (Leaves conn ∷ []) tied.rise refl;
      })
      refl (sites_same t.handles)

-- ---- directories

-- a directory in a rising list is none of a number above all
not_above : (n : ℕ) (low : ℕ) (ds : List Directory) → RiseBetween low (map (λ (d : Directory). d.number) ds) n → AllByRecursion (λ (d : Directory). d.number ≡ n → ⊥) ds
not_above n low [] r = tt
not_above n low (d ∷ ds) r = (λ same. omega (arith, same, rising-ends (d.number + 1) n (map (λ (d : Directory). d.number) ds) r.1), not_above n (d.number + 1) ds r.1)

-- the places of directories other than one stay
others_openable : (n : ℕ) (old new : Whole) → ((d : ℕ) → (d ≡ n → ⊥) → site_at (FoundDirectory d) new ≡ site_at (FoundDirectory d) old) → (ds : List Directory)
    → AllByRecursion (λ (d : Directory). d.number ≡ n → ⊥) ds → AllByRecursion (IsOpenableDirectory old) ds → AllByRecursion (IsOpenableDirectory new) ds
others_openable n old new sites [] apart all = tt
others_openable n old new sites (d ∷ ds) apart all = (sites d.number apart.0 ∙ all.0, others_openable n old new sites ds apart.1 all.1)

pub all_push : {X : Type 0} (P : X → Type 0) (xs : List X) (y : X) → AllByRecursion P xs → P y → AllByRecursion P (xs ++ y ∷ [])
all_push P [] y all p = (p, tt)
all_push P (x ∷ xs) y all p = (all.0, all_push P xs y all.1 p)

objects_stay : (old new : Whole) → ((o : ℕ) → site_at (FoundObject o) new ≡ site_at (FoundObject o) old) → (os : List LiveObject) → AllByRecursion (IsOpenable old) os → AllByRecursion (IsOpenable new) os
objects_stay old new sites [] all = tt
objects_stay old new sites (o ∷ os) all = (sites o.object.number ∙ all.0, objects_stay old new sites os all.1)

-- what is left once one is taken out is none of its number
without_apart : (n low high : ℕ) (ds : List Directory) → RiseBetween low (map (λ (d : Directory). d.number) ds) high
    → AllByRecursion (λ (d : Directory). d.number ≡ n → ⊥) (without_first (λ d. d.number == n) ds)
without_apart n low high [] r = tt
without_apart n low high (d ∷ ds) r = by (d.number == n) refl (without_apart n (d.number + 1) high ds r.1)
  where
    above : (m : ℕ) (ds : List Directory) → n < m → RiseBetween m (map (λ (d : Directory). d.number) ds) high → AllByRecursion (λ (d : Directory). d.number ≡ n → ⊥) ds
    above m [] lt r = tt
    above m (d ∷ ds) lt r = (λ same. omega (arith, same, r.0), above (d.number + 1) ds (omega (arith, r.0)) r.1)

    by : (b : Bool) → (d.number == n) ≡ b → AllByRecursion (λ (d : Directory). d.number ≡ n → ⊥) (without_first (λ d. d.number == n) ds)
        → AllByRecursion (λ (d : Directory). d.number ≡ n → ⊥) (cond b ds (d ∷ without_first (λ d. d.number == n) ds))
    by true is rest = let same : d.number ≡ n = eqb-true d.number n is in above (d.number + 1) ds (omega (arith, same)) r.1
    by false is rest = (λ same. let bad : (d.number == n) ≡ true = eq-eqb d.number n same in let no : false ≡ true = sym is ∙ bad in cc, rest)

all_without : {X : Type 0} (P : X → Type 0) (test : X → Bool) (xs : List X) → AllByRecursion P xs → AllByRecursion P (without_first test xs)
all_without P test [] all = tt
all_without P test (x ∷ xs) all = by (test x) (all_without P test xs all.1)
  where
    by : (b : Bool) → AllByRecursion P (without_first test xs) → AllByRecursion P (cond b xs (x ∷ without_first test xs))
    by true rest = all.1
    by false rest = (all.0, rest)

module _ (found : ConnectionsAreFound) (told : ConnectionsAreTold) (named : MovesAreTold) where
  -- names and places change, and no handle
  named_step : (m : Move) (t : Tabled) (n : Named) (w : Whole) → AreTied t → (apply_seen m (content_in t)).default_limit ≡ t.default_limit → (apply_seen m (content_in t)).records ≡ t.records
      → standing_of n ≡ names_in (apply_seen m (content_in t)) → (apply_seen m (content_in t)).handles ≡ (content_in t).handles → (apply_seen m (content_in t)).next_handle ≡ (content_in t).next_handle
      → connections_of (apply_seen m (content_in t)) ≡ connections_of (content_in t) → ConnectionsRise (apply_seen m (content_in t)) → handles_in w ≡ handles_in t.handles → w.rows ≡ t.handles.rows
      → AllByRecursion (IsOpenable w) (standing_of n).objects → AllByRecursion (IsOpenableDirectory w) (standing_of n).directories
      → w.objects.next ≡ (standing_of n).next_object → w.directories.next ≡ (standing_of n).next_directory → Step (m ∷ []) t (record t { names = n; handles = w })
  named_step m t n w tied limit records standing same_handles same_next same_connections rise handles rows objects directories next_object next_directory =
      let after = apply_seen m (content_in t) in
      let new = record t { names = n; handles = w } in
      let meets : Meets new after = record {
        default_limit = sym limit;
        records = sym records;
        standing = standing;
        handles = handles ∙ sym same_handles;
        next_handle = ap (λ r. r.next) rows ∙ sym same_next;
        connected = tied.connected ∙ sym same_connections;
        rise = rise;
      } in
      record {
        moved = meets_content found new after meets;
        tied = record {
          connected = meets.connected ∙ ap connections_of (sym (meets_content found new after meets));
          rise = subst ConnectionsRise (sym (meets_content found new after meets)) rise;
          objects = objects;
          directories = directories;
          next_object = next_object;
          next_directory = next_directory;
        };
      }

  pub made_step : (t : Tabled) (n : Named) (w : Whole) (path : Path) → AreTied t → RiseBetween 0 (map (λ (d : Directory). d.number) (content_in t).directories) (content_in t).next_directory
      → standing_of n ≡ after (MakesDirectory path) (standing_of t.names) → handles_in w ≡ handles_in t.handles → w.rows ≡ t.handles.rows
      → site_at (FoundDirectory (content_in t).next_directory) w ≡ Some (record { name = []; service = false })
      → ((f : Found) → (f ≡ FoundDirectory (content_in t).next_directory → ⊥) → site_at f w ≡ site_at f t.handles)
      → w.objects.next ≡ t.handles.objects.next → w.directories.next ≡ (content_in t).next_directory + 1 → Step (MakesDirectory path ∷ []) t (record t { names = n; handles = w })
  made_step t n w path tied rise standing handles rows added others next_object next_directory =
      let c = content_in t in
      let same : standing_of n ≡ names_in (apply_seen (MakesDirectory path) c) = standing ∙ sym (named.made path c) in
      named_step (MakesDirectory path) t n w tied refl refl same refl refl (told.kept c (MakesDirectory path ∷ []) refl) tied.rise handles rows
      (subst (λ s. AllByRecursion (IsOpenable w) s.objects) (sym same) (objects_stay t.handles w (λ o. others (FoundObject o) (λ bad. let no = bad in cc)) c.objects tied.objects))
      (subst (λ s. AllByRecursion (IsOpenableDirectory w) s.directories) (sym same)
      (all_push (IsOpenableDirectory w) c.directories (record { number = c.next_directory; path = path })
      (others_openable c.next_directory t.handles w (λ d apart. others (FoundDirectory d) (λ is. let same : d ≡ c.next_directory = cc in apart same)) c.directories (not_above c.next_directory 0 c.directories rise) tied.directories) added))
      (next_object ∙ tied.next_object ∙ sym (ap (λ s. s.next_object) same))
      (next_directory ∙ sym (ap (λ s. s.next_directory) same))

  pub removed_step : (t : Tabled) (n : Named) (w : Whole) (number : ℕ) → AreTied t → RiseBetween 0 (map (λ (d : Directory). d.number) (content_in t).directories) (content_in t).next_directory
      → standing_of n ≡ after (RemovesDirectory number) (standing_of t.names) → handles_in w ≡ handles_in t.handles → w.rows ≡ t.handles.rows
      → ((f : Found) → (f ≡ FoundDirectory number → ⊥) → site_at f w ≡ site_at f t.handles)
      → w.objects.next ≡ t.handles.objects.next → w.directories.next ≡ t.handles.directories.next → Step (RemovesDirectory number ∷ []) t (record t { names = n; handles = w })
  removed_step t n w number tied rise standing handles rows others next_object next_directory =
      let c = content_in t in
      let same : standing_of n ≡ names_in (apply_seen (RemovesDirectory number) c) = standing ∙ sym (named.removed number c) in
      named_step (RemovesDirectory number) t n w tied refl refl same refl refl (told.kept c (RemovesDirectory number ∷ []) refl) tied.rise handles rows
      (subst (λ s. AllByRecursion (IsOpenable w) s.objects) (sym same) (objects_stay t.handles w (λ o. others (FoundObject o) (λ bad. let no = bad in cc)) c.objects tied.objects))
      (subst (λ s. AllByRecursion (IsOpenableDirectory w) s.directories) (sym same)
      (others_openable number t.handles w (λ d apart. others (FoundDirectory d) (λ is. let same : d ≡ number = cc in apart same)) (without_first (λ d. d.number == number) c.directories)
      (without_apart number 0 c.next_directory c.directories rise) (all_without (IsOpenableDirectory t.handles) (λ d. d.number == number) c.directories tied.directories)))
      (next_object ∙ tied.next_object ∙ sym (ap (λ s. s.next_object) same))
      (next_directory ∙ tied.next_directory ∙ sym (ap (λ s. s.next_directory) same))

-- ---- objects

pub not_above_objects : (n : ℕ) (low : ℕ) (os : List LiveObject) → RiseBetween low (map (λ (o : LiveObject). o.object.number) os) n → AllByRecursion (λ (o : LiveObject). o.object.number ≡ n → ⊥) os
not_above_objects n low [] r = tt
not_above_objects n low (o ∷ os) r = (λ same. omega (arith, same, rising-ends (o.object.number + 1) n (map (λ (o : LiveObject). o.object.number) os) r.1), not_above_objects n (o.object.number + 1) os r.1)

other_objects : (n : ℕ) (old new : Whole) → ((o : ℕ) → (o ≡ n → ⊥) → site_at (FoundObject o) new ≡ site_at (FoundObject o) old) → (os : List LiveObject)
    → AllByRecursion (λ (o : LiveObject). o.object.number ≡ n → ⊥) os → AllByRecursion (IsOpenable old) os → AllByRecursion (IsOpenable new) os
other_objects n old new sites [] apart all = tt
other_objects n old new sites (o ∷ os) apart all = (sites o.object.number apart.0 ∙ all.0, other_objects n old new sites os apart.1 all.1)

pub directories_stay : (old new : Whole) → ((d : ℕ) → site_at (FoundDirectory d) new ≡ site_at (FoundDirectory d) old) → (ds : List Directory) → AllByRecursion (IsOpenableDirectory old) ds → AllByRecursion (IsOpenableDirectory new) ds
directories_stay old new sites [] all = tt
directories_stay old new sites (d ∷ ds) all = (sites d.number ∙ all.0, directories_stay old new sites ds all.1)

module _ (found : ConnectionsAreFound) (told : ConnectionsAreTold) (named : MovesAreTold) where
  pub created_step : (t : Tabled) (n : Named) (w : Whole) (o : Object) → AreTied t → o.number ≡ (content_in t).next_object
      → RiseBetween 0 (map (λ (o : LiveObject). o.object.number) (content_in t).objects) (content_in t).next_object
      → standing_of n ≡ after (Creates o) (standing_of t.names) → handles_in w ≡ map (offer (creation o)) (handles_in t.handles) → w.rows ≡ t.handles.rows
      → site_at (FoundObject o.number) w ≡ Some (record { name = o.name; service = is_some o.server })
      → ((f : Found) → (f ≡ FoundObject o.number → ⊥) → site_at f w ≡ site_at f t.handles)
      → w.objects.next ≡ o.number + 1 → w.directories.next ≡ t.handles.directories.next → Step (Creates o ∷ []) t (record t { records = t.records + 1; names = n; handles = w })
  created_step t n w o tied number rise standing handles rows added others next_object next_directory =
      let c = content_in t in
      let then = apply_seen (Creates o) c in
      let new = record t { records = t.records + 1; names = n; handles = w } in
      let same : standing_of n ≡ names_in then = standing ∙ sym (named.created o c) in
      let meets : Meets new then = record {
        default_limit = refl;
        records = refl;
        standing = same;
        handles = handles;
        next_handle = ap (λ r. r.next) rows;
        connected = tied.connected ∙ sym (told.kept c (Creates o ∷ []) refl);
        rise = tied.rise;
      } in
      record {
        moved = meets_content found new then meets;
        tied = record {
          connected = meets.connected ∙ ap connections_of (sym (meets_content found new then meets));
          rise = subst ConnectionsRise (sym (meets_content found new then meets)) tied.rise;
          objects = subst (λ s. AllByRecursion (IsOpenable w) s.objects) (sym same)
              (all_push (IsOpenable w) c.objects (record { object = o; attributes = [] })
              (other_objects c.next_object t.handles w (λ m apart. others (FoundObject m) (λ is. let here : m ≡ o.number = cc in apart (here ∙ number))) c.objects (not_above_objects c.next_object 0 c.objects rise) tied.objects) added);
          directories = subst (λ s. AllByRecursion (IsOpenableDirectory w) s.directories) (sym same)
              (directories_stay t.handles w (λ d. others (FoundDirectory d) (λ bad. let no = bad in cc)) c.directories tied.directories);
          next_object = next_object ∙ ap (λ m. m + 1) number ∙ sym (ap (λ s. s.next_object) same);
          next_directory = next_directory ∙ tied.next_directory ∙ sym (ap (λ s. s.next_directory) same);
        };
      }
