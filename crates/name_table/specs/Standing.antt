-- What stands of objects and directories, and the memory that was taken for more.
use Rattle.std.specs.Prelude.{◌≡◌, ◌<◌, ℕ, Bool, List, [], ◌∷◌, Option, None, Ok, IfSome, IsSomeAnd, is_some, map, fold, if◌then◌else◌}
use Rattle.std.specs.Coded.{Coded}
use Rattle.pps_types.specs.Names.{Path, find_at, parent}
use Rattle.pps_types.specs.declared.found.Found.TheVariants.{Directory as FoundDirectory}
use Rattle.pps_types.specs.declared.refusal.Refusal.{Refusal}
use Rattle.pps_types.specs.declared.record.Kind.{Kind}
use Rattle.pps_types.specs.declared.record.Kind.TheVariants.{Deleted}
use Rattle.pps_types.specs.declared.line.Line.{Line}
use Rattle.pps_types.specs.Content.{Object, Directory, LiveObject, Content, at, object_numbered}
use Rattle.pps_types.specs.Checks.{first_refusal, limit_checks}
use Rattle.pps_types.specs.History.{Entry, apply_line}
use Rattle.pps_types.specs.WellFormed.{directory_numbered}
use Rattle.pps_types.specs.Plan.{Move, Creates, AppendsRecord, apply_seen}
use Rattle.object_state.specs.Held.{Held, IsReadyFor}
use Rattle.alloc_tree.specs.Held.{Held as Tree, IsReady, coded_held}
use Rattle.alloc_tree.specs.declared.kind.NodeKind.TheVariants.{Object as AnObject, Directory as ADirectory}
use Rattle.number_table.specs.Numbered.{Entry as Numbering, Numbered, value_at}

-- An alive object: what is fixed, its path, its attributes and what is ready for them.
pub record Placed : Type 0 where
  pub object : Object
  pub path : Path
  pub held : Held

-- The tree of names, and under their numbers what they lead to.
pub record Named : Type 0 where
  pub tree : Tree
  pub objects : Numbered Placed
  pub directories : Numbered Directory

-- What stands alone, without memory for more.
pub record Standing : Type 0 where
  pub objects : List LiveObject
  pub next_object : ℕ
  pub directories : List Directory
  pub next_directory : ℕ

abbrev pub known_of : Placed → LiveObject
known_of x = record { object = x.object; attributes = x.held.attributes }

-- what stands, by the values under their numbers and the next numbers
abbrev pub standing_by : List (Numbering Placed) → ℕ → List (Numbering Directory) → ℕ → Standing
standing_by objects next_object directories next_directory = record {
  objects = map (λ e. known_of e.value) objects;
  next_object = next_object;
  directories = map (λ e. e.value) directories;
  next_directory = next_directory;
}

abbrev pub standing_of : Named → Standing
standing_of n = standing_by n.objects.entries n.objects.next n.directories.entries n.directories.next

-- ---- as part of a service

-- a service in which this stands
abbrev pub in_content : Standing → Content → Content
in_content s c = record c { objects = s.objects; next_object = s.next_object; directories = s.directories; next_directory = s.next_directory }

-- a service in which nothing else stands
abbrev pub content_of : Standing → Content
content_of s = record {
  default_limit = 0;
  records = 0;
  objects = s.objects;
  next_object = s.next_object;
  directories = s.directories;
  next_directory = s.next_directory;
  handles = [];
  next_handle = 0;
  connections = [];
}

abbrev pub standing_in : Content → Standing
standing_in c = record { objects = c.objects; next_object = c.next_object; directories = c.directories; next_directory = c.next_directory }

-- what stands after a move
abbrev pub after : Move → Standing → Standing
after move s = standing_in (apply_seen move (content_of s))

-- a record of an object, of which its number and its kind count alone
abbrev pub bare_entry : ℕ → Kind → Entry
bare_entry number kind = record { directory = 0; name = []; record_of = record { object = number; kind = kind; writer = None } }

-- what stands after a record of that object
abbrev pub happened : ℕ → Kind → Standing → Standing
happened number kind s = after (AppendsRecord (bare_entry number kind)) s

-- ---- of names before and after

-- a service in which nothing is but the objects and directories of these names
abbrev pub named_content : Named → Content
named_content n = content_of (standing_of n)

-- the alive object of a number, if there is one
abbrev pub live_object : ℕ → Named → Option LiveObject
live_object number n = object_numbered (named_content n) number

-- the directory of a number, if there is one
abbrev pub directory_in : ℕ → Named → Option Directory
directory_in number n = directory_numbered (named_content n) number

-- the directory of that number is the one that holds a path's last name
abbrev pub IsAbove : ℕ → Path → Named → Type 0
IsAbove directory path n = find_at (at (named_content n)) (parent path) ≡ Ok (FoundDirectory directory)

-- the move was made
abbrev pub HasMoved : Move → Named → Named → Type 0
HasMoved move old new = standing_of new ≡ after move (standing_of old)

-- a record of that kind came to an object
abbrev pub HasHappened : ℕ → Kind → Named → Named → Type 0
HasHappened number kind old new = standing_of new ≡ happened number kind (standing_of old)

-- the root alone
abbrev pub first_standing : Standing
first_standing = record { objects = []; next_object = 0; directories = record { number = 0; path = [] } ∷ []; next_directory = 1 }

-- ---- what is ready

-- the object of a number, if it is alive
abbrev pub placed_at : ℕ → Named → Option Placed
placed_at number n = value_at number n.objects

-- the memory for these lines is ready in an object
abbrev pub AreReadyAt : List Line → Placed → Type 0
AreReadyAt lines x = IsReadyFor lines x.held

-- the same, if it is alive
abbrev pub AreReadyFor : ℕ → List Line → Named → Type 0
AreReadyFor number lines n = IfSome (placed_at number n) (AreReadyAt lines)

-- it is alive, and the memory for these lines is ready in it
abbrev pub AreReadyIn : ℕ → List Line → Named → Type 0
AreReadyIn number lines n = IsSomeAnd (placed_at number n) (AreReadyAt lines)

-- why an object is not changed by these lines: after all of them it would pass a limit
abbrev pub change_refusal : List Line → Placed → Option Refusal
change_refusal lines x = first_refusal (limit_checks (fold apply_line x.held.attributes lines))

-- the object that comes to another's place, under the next number
abbrev pub newcomer_for : Placed → Bool → Option ℕ → Named → Object
newcomer_for gone nopersist server n =
    record { number = n.objects.next; directory = gone.object.directory; name = gone.object.name; nopersist = nopersist; server = server }

-- an object, if it was alive, is deleted, and a new one without attributes is at its path
abbrev pub HasReplaced : ℕ → Bool → Option ℕ → Named → Named → Type 0
HasReplaced number nopersist server old new = IfSome (placed_at number old)
    (λ gone. standing_of new ≡ after (Creates (newcomer_for gone nopersist server old)) (happened number Deleted (standing_of old)))

-- if there was such a one, no name is ready after it is gone, and else the same as before
abbrev pub LosesReadyNameIf : {X : Type 0} → Option X → Named → Named → Type 0
LosesReadyNameIf gone old new = new.tree.ready ≡ (if is_some gone then None else old.tree.ready)

-- Nothing stands otherwise, and of the rest what is ready for attributes alone is other.
pub record AreSame (old new : Named) : Type 0 where
  pub standing : standing_of new ≡ standing_of old
  pub tree : new.tree ≡ old.tree
  pub directories : new.directories ≡ old.directories
  pub room : new.objects.room ≡ old.objects.room

-- an object can be created at this path
pub record IsReadyToCreate (n : Named) (path : Path) : Type 0 where
  pub tree : IsReady n.tree AnObject path
  pub room : 0 < n.objects.room

-- a directory can be made at this path
pub record IsReadyToMake (n : Named) (path : Path) : Type 0 where
  pub tree : IsReady n.tree ADirectory path
  pub room : 0 < n.directories.room

-- the same object stands at the same path, and no copies of lines are held for it
pub record IsCopy (old copy : Placed) : Type 0 where
  pub known : known_of copy ≡ known_of old
  pub path : copy.path ≡ old.path
  pub bare : copy.held.copies ≡ None

-- the tree's code, for what is seen as names among other parts
abbrev pub coded_tree : Coded Tree
coded_tree = coded_held
