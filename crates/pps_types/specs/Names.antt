-- Paths, and what stands at them: a finite map with the root in it. How a path is followed, and why a name can't be added or removed.
-- QNX PPS guide, on the file system below the mount point; the numbers of a directory's objects and directories are our own.
use Rattle.std.specs.Prelude.{ℕ, List, [], ◌∷◌, Bool, true, false, not, nat_le, cond, if◌then◌else◌, Option, Some, None, option_map, is_some, Result, Ok, Err, ok_or, count_by}
use Rattle.std.specs.Option.{option_or}
use Rattle.std.specs.Ordering.{nat_cmp, is_eq, is_lt}
use Rattle.std.specs.List.{filter_map}
use Rattle.std.specs.Cmp.Lexicographic.{slice_cmp}
use Rattle.std.specs.FinMap.{FinMap, entries, get}
use Rattle.std.specs.declared.cmp.Ordering.{Ordering}
use lib.Pointwise.{pointwise}
use Rattle.pps_types.specs.declared.found.Found.{Found}
use Rattle.pps_types.specs.declared.found.Found.TheVariants.{Object, Directory}
use Rattle.pps_types.specs.declared.refusal.Refusal.{Refusal}
use Rattle.pps_types.specs.declared.refusal.Refusal.TheVariants.{NotFound, Exists, NotDirectory, IsDirectory, NotEmpty, Busy, TableFull}
use Rattle.pps_types.specs.Bytes.{same, is_empty, ◌>>=◌}

abbrev pub Name : Type 0
Name = List ℕ

-- the names from the root on; the root itself is []
abbrev pub Path : Type 0
Path = List Name

abbrev pub same_path : Path → Path → Bool
same_path p q = pointwise same p q

-- the directory that holds a path's last name
abbrev pub parent : Path → Path
parent [] = []
parent (n ∷ []) = []
parent (n ∷ p ∷ ps) = n ∷ parent (p ∷ ps)

abbrev pub last_name : Path → Name
last_name [] = []
last_name (n ∷ []) = n
last_name (n ∷ p ∷ ps) = last_name (p ∷ ps)

-- ---- order

-- byte order
abbrev pub name_cmp : Name → Name → Ordering
name_cmp = slice_cmp nat_cmp

-- a path comes before what is below it, and that before the next name
abbrev pub path_cmp : Path → Path → Ordering
path_cmp = slice_cmp name_cmp

module _ {X K : Type 0} where
  abbrev pub insert_by : (K → K → Ordering) → (X → K) → X → List X → List X
  insert_by cmp key x [] = x ∷ []
  insert_by cmp key x (y ∷ ys) = if is_lt (cmp (key x) (key y)) then x ∷ y ∷ ys else y ∷ insert_by cmp key x ys

  -- in the order of the keys
  abbrev pub sorted_by : (K → K → Ordering) → (X → K) → List X → List X
  sorted_by cmp key [] = []
  sorted_by cmp key (x ∷ xs) = insert_by cmp key x (sorted_by cmp key xs)

-- ---- following a path, where `at` says what stands at each

abbrev pub is_object : Found → Bool
is_object (Object number) = true
is_object (Directory number) = false

abbrev pub is_directory : Found → Bool
is_directory found = not (is_object found)

-- only a directory lets one go on
abbrev pub beyond : {X : Type 0} → Option Found → Result X Refusal → Result X Refusal
beyond None next = Err NotFound
beyond (Some (Object number)) next = Err NotDirectory
beyond (Some (Directory number)) next = next

-- What stands at the end of a path, if anything does. Of the names before the last the first that is no directory decides.
abbrev pub place : (Path → Option Found) → Path → Result (Option Found) Refusal
place at [] = Ok (at [])
place at (n ∷ path) = beyond (at []) (place (λ p. at (n ∷ p)) path)

abbrev pub find_at : (Path → Option Found) → Path → Result Found Refusal
find_at at path = place at path >>= (λ found. ok_or found NotFound)

abbrev pub refusal_of : {X : Type 0} → Result X Refusal → Option Refusal
refusal_of (Ok x) = None
refusal_of (Err r) = Some r

abbrev pub refused_if : Bool → Refusal → Option Refusal
refused_if b r = if b then Some r else None

-- the path is taken, or leads to no place
abbrev pub new_refusal : (Path → Option Found) → Path → Option Refusal
new_refusal at path = refusal_of (place at path >>= (λ found. if is_some found then Err Exists else Ok found))

-- ---- the map

abbrev pub Map : Type 0
Map = FinMap path_cmp Found

-- the last name of q, where that is a name directly in p
abbrev pub name_in : Path → Path → Option Name
name_in [] [] = None
name_in [] (n ∷ []) = Some n
name_in [] (n ∷ m ∷ q) = None
name_in (n ∷ p) [] = None
name_in (n ∷ p) (m ∷ q) = cond (is_eq (name_cmp n m)) (name_in p q) None

-- what stands directly in p, in byte order of names where the entries are in order
abbrev pub members_in : {X : Type 0} → Path → List (Path × X) → List (Name × X)
members_in p es = filter_map (λ e. option_map (λ n. (n, e.1)) (name_in p e.0)) es

abbrev pub members_of : Map → Path → List (Name × Found)
members_of map path = members_in path (entries map)

abbrev pub objects_in : Map → Path → ℕ
objects_in map path = count_by (λ m. is_object m.1) (members_of map path)

abbrev pub directories_in : Map → Path → ℕ
directories_in map path = count_by (λ m. is_directory m.1) (members_of map path)

-- ---- why a call on the map is refused, memory aside

abbrev pub find_refusal : Map → Path → Option Refusal
find_refusal map path = refusal_of (find_at (get map) path)

-- an object is added
abbrev pub add_refusal : Map → Path → Option Refusal
add_refusal map path = option_or (new_refusal (get map) path) (refused_if (nat_le 256 (objects_in map (parent path))) TableFull)

-- a directory is added
abbrev pub mkdir_refusal : Map → Path → Option Refusal
mkdir_refusal map path = option_or (new_refusal (get map) path) (refused_if (nat_le 256 (directories_in map (parent path))) TableFull)

-- another object takes an object's place, or it is removed
abbrev pub object_refusal : Map → Path → Option Refusal
object_refusal map path = refusal_of (find_at (get map) path >>= (λ found. if is_object found then Ok found else Err IsDirectory))

-- what is directly in a directory is listed
abbrev pub list_refusal : Map → Path → Option Refusal
list_refusal map path = refusal_of (find_at (get map) path >>= (λ found. if is_object found then Err NotDirectory else Ok found))

-- a directory is removed
abbrev pub rmdir_refusal : Map → Path → Option Refusal
rmdir_refusal map path =
    option_or (refused_if (is_empty path) Busy)
    (option_or (list_refusal map path)
    (refused_if (not (is_empty (members_of map path))) NotEmpty))
