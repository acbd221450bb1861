-- How a directory's entries make its contents.
use Rattle.std.specs.Prelude.{◌≡◌, ℕ, not, Option, List, [], ◌∷◌, ◌++◌, ◌+◌, ◌-◌, max, Vec, vec_len, vec_capacity}
use Rattle.std.specs.FinMap.{from_entries}
use Rattle.pps_types.specs.declared.found.Found.{Found}
use Rattle.pps_types.specs.declared.found.Found.TheVariants.{Object as FoundObject, Directory as FoundDirectory}
use Rattle.std.specs.Option.{option_or}
use Rattle.pps_types.specs.declared.refusal.Refusal.{Refusal}
use Rattle.pps_types.specs.declared.refusal.Refusal.TheVariants.{NotEmpty}
use Rattle.pps_types.specs.Bytes.{is_empty}
use Rattle.pps_types.specs.Names.{Name, Path, refused_if, members_in}
use Rattle.alloc_tree.specs.Refused.{object_refused, list_refused}
use Rattle.alloc_tree.specs.declared.edit.Edit.{Edit}
use Rattle.alloc_tree.specs.declared.edit.Edit.TheVariants.{RemovesObject, ReplacesObject, RemovesDirectory}
use Rattle.alloc_tree.specs.Contents.{Contents, whole}
use Rattle.alloc_tree.specs.declared.directory.Entry.{Entry}
use Rattle.alloc_tree.specs.declared.directory.Node.{Node}
use Rattle.alloc_tree.specs.declared.directory.Node.TheVariants.{Object, Directory}

-- each path with the name before it
abbrev pub under : {X : Type 0} → Name → List (Path × X) → List (Path × X)
under n [] = []
under n (e ∷ es) = (n ∷ e.0, e.1) ∷ under n es

-- what each entry has, under its name
abbrev pub flatten : {A X : Type 0} → (Node A → List (Path × X)) → List (Entry A) → List (Path × X)
flatten own [] = []
flatten own (e ∷ es) = under e.name.items (own e.node) ++ flatten own es

-- a node itself, and what stands below it
abbrev pub standing : {A : Type 0} → Node A → List (Path × Found)
standing (Object id) = ([], FoundObject id) ∷ []
standing (Directory d) = whole d.value

-- a directory itself, and what its entries have
abbrev pub made_of : {A : Type 0} → ℕ → List (Entry A) → List (Path × Found)
made_of id es = ([], FoundDirectory id) ∷ flatten standing es

-- the room at a node and below it
abbrev pub room : {A : Type 0} → Node A → List (Path × ℕ)
room (Object id) = []
room (Directory d) = d.value.rooms

abbrev pub node_depth : {A : Type 0} → Node A → ℕ
node_depth (Object id) = 0
node_depth (Directory d) = d.value.depth

abbrev pub deepest : {A : Type 0} → List (Entry A) → ℕ
deepest [] = 0
deepest (e ∷ es) = max (node_depth e.node) (deepest es)

abbrev pub contents_of : {A : Type 0} → ℕ → Vec (Entry A) A → Contents
contents_of id v = record { id = id; below = from_entries (flatten standing v.items); rooms = ([], vec_capacity v - vec_len v) ∷ flatten room v.items; depth = deepest v.items + 1 }

-- what a node is
abbrev pub node_found : {A : Type 0} → Node A → Found
node_found (Object id) = FoundObject id
node_found (Directory d) = FoundDirectory d.value.id

abbrev pub node_of : {A : Type 0} → ℕ → Node A
node_of id = Object id

-- nothing stands below the node
abbrev pub IsAlone : {A : Type 0} → Node A → Type 0
IsAlone n = standing n ≡ ([], node_found n) ∷ []

-- an empty directory is wanted here
abbrev pub empty_refused : {A : Type 0} → Node A → Option Refusal
empty_refused n = option_or (list_refused (standing n) []) (refused_if (not (is_empty (members_in [] (standing n)))) NotEmpty)

-- why the edit of what stands here is refused
abbrev pub node_refused : {A : Type 0} → Edit → Node A → Option Refusal
node_refused RemovesObject n = object_refused (standing n) []
node_refused (ReplacesObject id) n = object_refused (standing n) []
node_refused RemovesDirectory n = empty_refused n
