-- Which moves keep what stands well formed.
use Rattle.std.proofs.Common.{◌≡◌, ◌≤◌, ℕ, true, false, not, ◌&&◌, eqb, List, [], ◌∷◌, ◌++◌, map, Some, None}
use Rattle.std.specs.Prelude.{is_some}
use Rattle.std.specs.List.{AllByRecursion}
use Rattle.pps_types.specs.Bytes.{is_empty}
use Rattle.pps_types.specs.Names.{Path, same_path, parent, last_name}
use Rattle.pps_types.specs.Reading.{OpenHandle, is_directory_kind, style}
use Rattle.pps_types.specs.Rests.{Progress}
use Rattle.pps_types.specs.Content.{Object, Directory, LiveObject, Connection, Content, directory_at, parent_number, object_at, object_in, is_attached}
use Rattle.pps_types.specs.Plan.{Move, Attaches, Leaves, Creates, Opens, MakesDirectory, RemovesDirectory, apply_seen, apply_all_seen}
use Rattle.pps_types.specs.WellFormed.{RiseBetween, AreInOrder, AreTree, AreHeld, AreTold, IsTarget, IsWhole, HasFirst, fits, directory_numbered}

-- nothing stands at the path, and a directory stands above it
pub record IsFree (c : Content) (path : Path) : Type 0 where
  pub directory : directory_at c path ≡ None
  pub object : object_at c path ≡ None
  pub above : is_some (directory_at c (parent path)) ≡ true

-- the object is one of a free path
pub record IsPlaced (c : Content) (o : Object) : Type 0 where
  pub path : Path
  pub at_free : IsFree c path
  pub number : parent_number c path ≡ Some o.directory
  pub name : o.name ≡ last_name path

-- the directory of that number stands, is not the root, and nothing is in it or on it
pub record IsEmptied (c : Content) (number : ℕ) : Type 0 where
  pub path : Path
  pub directory : Directory
  pub found : directory_at c path ≡ Some directory
  pub own : directory.number ≡ number
  pub not_root : is_empty path ≡ false
  pub no_objects : AllByRecursion (λ (o : LiveObject). eqb o.object.directory number ≡ false) c.objects
  pub no_directories : AllByRecursion (λ (d : Directory). (not (same_path d.path []) && same_path (parent d.path) path) ≡ false) c.directories
  pub no_handles : AllByRecursion (λ (h : OpenHandle Progress). (is_directory_kind h.kind && eqb h.target number) ≡ false) c.handles

abbrev pub Fits : Content → Move → Type 0
Fits c (Attaches conn) = (1 ≤ conn) × (conn ≤ 1024) × (is_attached c conn ≡ false)
Fits c (Leaves conn) = AllByRecursion (λ (h : OpenHandle Progress). eqb h.connection conn ≡ false) c.handles
Fits c (Creates o) = (o.number ≡ c.next_object) × IsPlaced c o
Fits c (Opens h) = (h.number ≡ c.next_handle) × (is_attached c h.connection ≡ true) × IsTarget c h.target (is_directory_kind h.kind)
Fits c (MakesDirectory path) = IsFree c path
Fits c (RemovesDirectory number) = IsEmptied c number
Fits c _ = Unit {0}

-- each in turn
abbrev pub AreFit : Content → List Move → Type 0
AreFit c [] = Unit {0}
AreFit c (x ∷ xs) = Fits c x × AreFit (apply_seen x c) xs

pub fit-append : (xs ys : List Move) (c : Content) → AreFit c xs → AreFit (apply_all_seen xs c) ys → AreFit c (xs ++ ys)
fit-append [] ys c f g = g
fit-append (x ∷ xs) ys c f g = (f.0, fit-append xs ys (apply_seen x c) f.1 g)

-- fit wherever
abbrev pub IsSafe : Move → Type 0
IsSafe x = (c : Content) → Fits c x

abbrev pub AreSafe : List Move → Type 0
AreSafe xs = AllByRecursion IsSafe xs

pub safe-fit : (xs : List Move) (c : Content) → AreSafe xs → AreFit c xs
safe-fit [] c safe = tt
safe-fit (x ∷ xs) c safe = (safe.0 c, safe-fit xs (apply_seen x c) safe.1)

-- ---- the facts side by side, so that a move that leaves what they speak of leaves them

abbrev pub Order : Content → Type 0
Order c = RiseBetween 0 (map (λ (h : OpenHandle Progress). h.number) c.handles) c.next_handle × RiseBetween 0 (map (λ (o : LiveObject). o.object.number) c.objects) c.next_object
    × RiseBetween 0 (map (λ (d : Directory). d.number) c.directories) c.next_directory × RiseBetween 1 (map (λ (x : Connection). x.number) c.connections) 1025

abbrev pub Tree : Content → Type 0
Tree c = (directory_at c [] ≡ Some (record { number = 0; path = [] })) × AllByRecursion (λ (d : Directory). is_some (directory_at c (parent d.path)) ≡ true) c.directories
    × AllByRecursion (λ (d : Directory). directory_at c d.path ≡ Some d) c.directories × AllByRecursion (λ (d : Directory). object_at c d.path ≡ None) c.directories
    × AllByRecursion (λ (o : LiveObject). object_in c o.object.name o.object.directory ≡ Some o) c.objects × AllByRecursion (λ (o : LiveObject). is_some (directory_numbered c o.object.directory) ≡ true) c.objects

abbrev pub Held : Content → Type 0
Held c = AllByRecursion (λ (h : OpenHandle Progress). is_attached c h.connection ≡ true) c.handles × AllByRecursion (λ (h : OpenHandle Progress). IsTarget c h.target (is_directory_kind h.kind)) c.handles

abbrev pub Told : Content → Type 0
Told c = AllByRecursion (λ (h : OpenHandle Progress). fits (style h.kind) h.seen ≡ true) c.handles × AllByRecursion (λ (h : OpenHandle Progress). IsWhole h h.seen) c.handles × AllByRecursion (λ (h : OpenHandle Progress). HasFirst h h.seen) c.handles

pub order-in : (c : Content) → AreInOrder c → Order c
order-in c o = (o.handles_rise, o.objects_rise, o.directories_rise, o.connections_rise)

pub order-out : (c : Content) → Order c → AreInOrder c
order-out c o = record { handles_rise = o.0; objects_rise = o.1; directories_rise = o.2; connections_rise = o.3 }

pub tree-in : (c : Content) → AreTree c → Tree c
tree-in c t = (t.root, t.parents, t.paths, t.free, t.names, t.places)

pub tree-out : (c : Content) → Tree c → AreTree c
tree-out c t = record { root = t.0; parents = t.1; paths = t.2; free = t.3; names = t.4; places = t.5 }

pub held-in : (c : Content) → AreHeld c → Held c
held-in c h = (h.owners, h.targets)

pub held-out : (c : Content) → Held c → AreHeld c
held-out c h = record { owners = h.0; targets = h.1 }

pub told-in : (c : Content) → AreTold c → Told c
told-in c t = (t.fitting, t.whole, t.first)

pub told-out : (c : Content) → Told c → AreTold c
told-out c t = record { fitting = t.0; whole = t.1; first = t.2 }
