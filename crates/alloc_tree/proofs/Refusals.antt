-- One level of a tree: why a change of what stands at a path is refused.
use Rattle.std.proofs.Common.{◌≡◌, ℕ, suc, nat_eq, Bool, true, false, not, List, [], ◌∷◌, Box, length, Some, None, Option, Result, Ok, Err, map, ok_or, if◌then◌else◌, refl, ap, ◌∙◌, arith}
use Rattle.std.specs.Bool.{OnTrue}
use Rattle.std.specs.Option.{option_or}
use Rattle.std.proofs.lemmas.Bool.{eqb-true}
use Rattle.pps_types.specs.Bytes.{is_empty, ◌>>=◌}
use Rattle.pps_types.specs.declared.found.Found.{Found}
use Rattle.pps_types.specs.declared.found.Found.TheVariants.{Object, Directory}
use Rattle.pps_types.specs.declared.refusal.Refusal.{Refusal}
use Rattle.pps_types.specs.declared.refusal.Refusal.TheVariants.{NotFound, NotDirectory, IsDirectory, NotEmpty}
use Rattle.pps_types.specs.Names.{Name, Path, refusal_of, refused_if, is_object, members_in}
use Rattle.alloc_tree.specs.Contents.{Contents, whole}
use Rattle.alloc_tree.specs.Refused.{object_refused, list_refused, edit_refused, root_refusal}
use Rattle.alloc_tree.specs.View.{standing, made_of, node_found, empty_refused, node_refused}
use Rattle.alloc_tree.specs.Entries.{IsGapFor}
use Rattle.alloc_tree.specs.declared.edit.Edit.{Edit}
use Rattle.alloc_tree.specs.declared.edit.Edit.TheVariants.{RemovesObject, ReplacesObject, RemovesDirectory}
use Rattle.alloc_tree.specs.declared.directory.Entry.{Entry}
use Rattle.alloc_tree.specs.declared.directory.Node.TheVariants.{Directory as DirectoryNode}
use Rattle.alloc_tree.proofs.Places.{IsAt}
use Rattle.alloc_tree.proofs.Levels.{find_entry, find_absent}
use Rattle.alloc_tree.proofs.Members.{members_at, members_here}
use Rattle.alloc_tree.proofs.Ordered.{root_found}

-- by what stands there, where an object or a directory is wanted
abbrev pub no_object : Result Found Refusal → Option Refusal
no_object r = refusal_of (r >>= (λ found. if is_object found then Ok found else Err IsDirectory))

abbrev pub no_directory : Result Found Refusal → Option Refusal
no_directory r = refusal_of (r >>= (λ found. if is_object found then Err NotDirectory else Ok found))

abbrev pub not_empty : List (Name × Found) → Option Refusal
not_empty members = refused_if (not (is_empty members)) NotEmpty

module _ {A : Type 0} (id : ℕ) (es : List (Entry A)) (i : ℕ) (n : Name) where
  object_entry : (e : Entry A) (p : Path) → IsAt es i e n → object_refused (made_of id es) (n ∷ p) ≡ object_refused (standing e.node) p
  object_entry e p here = ap no_object (find_entry id es i n p e here)

  pub list_entry : (e : Entry A) (p : Path) → IsAt es i e n → list_refused (made_of id es) (n ∷ p) ≡ list_refused (standing e.node) p
  list_entry e p here = ap no_directory (find_entry id es i n p e here)

  pub list_gap : (p : Path) → IsGapFor es n i → list_refused (made_of id es) (n ∷ p) ≡ Some NotFound
  list_gap p gap = ap no_directory (find_absent id es i n p gap)

  -- the path goes on beyond the name
  pub edit_below : (edit : Edit) (e : Entry A) (p : Path) → IsAt es i e n → nat_eq (length p) 0 ≡ false → edit_refused edit (made_of id es) (n ∷ p) ≡ edit_refused edit (standing e.node) p
  edit_below edit e [] here h = cc
  edit_below RemovesObject e (m ∷ p) here h = object_entry e (m ∷ p) here
  edit_below (ReplacesObject o) e (m ∷ p) here h = object_entry e (m ∷ p) here
  edit_below RemovesDirectory e (m ∷ p) here h = λ j. option_or (list_entry e (m ∷ p) here j) (not_empty (members_at id es i n (m ∷ p) e here j))

  -- the name is the last
  pub edit_last : (edit : Edit) (e : Entry A) → IsAt es i e n → edit_refused edit (made_of id es) (n ∷ []) ≡ node_refused edit e.node
  edit_last RemovesObject e here = object_entry e [] here
  edit_last (ReplacesObject o) e here = object_entry e [] here
  edit_last RemovesDirectory e here = λ j. option_or (list_entry e [] here j) (not_empty (members_at id es i n [] e here j))

  pub edit_gap : (edit : Edit) (p : Path) → IsGapFor es n i → edit_refused edit (made_of id es) (n ∷ p) ≡ Some NotFound
  edit_gap RemovesObject p gap = ap no_object (find_absent id es i n p gap)
  edit_gap (ReplacesObject o) p gap = ap no_object (find_absent id es i n p gap)
  edit_gap RemovesDirectory p gap = ap (λ o. option_or o (not_empty (members_in (n ∷ p) (made_of id es)))) (list_gap p gap)

-- beyond an object no path leads on
pub edit_object : (edit : Edit) (o : ℕ) (p : Path) → nat_eq (length p) 0 ≡ false → edit_refused edit (([], Object o) ∷ []) p ≡ Some NotDirectory
edit_object edit o [] h = cc
edit_object RemovesObject o (m ∷ p) h = refl
edit_object (ReplacesObject k) o (m ∷ p) h = refl
edit_object RemovesDirectory o (m ∷ p) h = refl

pub edit_root : (edit : Edit) (c : Contents) → edit_refused edit (whole c) [] ≡ Some (root_refusal edit)
edit_root RemovesObject c = ap (λ o. no_object (ok_or o NotFound)) (root_found c)
edit_root (ReplacesObject k) c = ap (λ o. no_object (ok_or o NotFound)) (root_found c)
edit_root RemovesDirectory c = refl

-- ---- nothing stands in a directory

pub on_true : (b : Bool) (P : Type 0) → (b ≡ true → P) → OnTrue b P
on_true true P f = f refl
on_true false P f = tt

is_not : (n : ℕ) → false ≡ nat_eq (suc n) 0
is_not n = elim (nat_eq (suc n) 0) as (λ b. nat_eq (suc n) 0 ≡ b → false ≡ b) [ true ↦ λ e. absurd (omega (arith, eqb-true (suc n) 0 e)) | false ↦ λ e. refl ] refl

pub none_here : {A : Type 0} (id : ℕ) (es : List (Entry A)) → is_empty (members_in [] (made_of id es)) ≡ nat_eq (length es) 0
none_here id es = ap is_empty (members_here es) ∙ none es
  where
    none : {A : Type 0} (es : List (Entry A)) → is_empty {X = Name × Found} (map (λ (e : Entry A). (e.name.items, node_found e.node)) es) ≡ nat_eq (length es) 0
    none [] = refl
    none (e ∷ es) = is_not (length es)

pub made_alone : {A : Type 0} (id : ℕ) (es : List (Entry A)) → nat_eq (length es) 0 ≡ true → made_of id es ≡ ([], Directory id) ∷ []
made_alone id [] h = refl
made_alone id (e ∷ es) h = absurd (omega (arith, eqb-true (length (e ∷ es)) 0 h))

pub not_empty_here : (A : Type 0) (d : Box Contents A) → is_empty (members_in [] (whole d.value)) ≡ false → empty_refused {A = A} (DirectoryNode d) ≡ Some NotEmpty
not_empty_here A d h = λ i. option_or (no_directory (ok_or (root_found d.value i) NotFound)) (refused_if (not (h i)) NotEmpty)

pub list_object : (o : ℕ) (p : Path) → list_refused (([], Object o) ∷ []) p ≡ Some NotDirectory
list_object o [] = refl
list_object o (m ∷ p) = refl

pub list_root : (c : Contents) → list_refused (whole c) [] ≡ None
list_root c = ap (λ o. no_directory (ok_or o NotFound)) (root_found c)
