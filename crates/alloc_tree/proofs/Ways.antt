-- Where a path leads, name by name.
use Rattle.std.proofs.Common.{◌≡◌, ℕ, ◌+◌, ◌<◌, List, [], ◌∷◌, Box, ◌++◌, length, get_or, take, drop, Some, None, Option, Result, Ok, Err, if◌then◌else◌, refl, ap, sym, ◌∙◌, append_assoc, append-nil}
use Rattle.std.proofs.lemmas.List.{take-append-drop, drop_more}
use Rattle.pps_types.specs.Bytes.{◌>>=◌}
use Rattle.pps_types.specs.declared.found.Found.{Found}
use Rattle.pps_types.specs.declared.refusal.Refusal.{Refusal}
use Rattle.pps_types.specs.declared.refusal.Refusal.TheVariants.{NotFound, NotDirectory}
use Rattle.pps_types.specs.Names.{Name, Path, beyond, place, members_in, is_object, refusal_of}
use Rattle.alloc_tree.specs.Contents.{Contents, whole}
use Rattle.alloc_tree.specs.Path.{at}
use Rattle.alloc_tree.specs.Refused.{list_refused}
use Rattle.alloc_tree.specs.View.{standing, made_of, node_found}
use Rattle.alloc_tree.specs.Walk.{LeadsTo, LeadsNowhere}
use Rattle.alloc_tree.specs.Entries.{IsGapFor}
use Rattle.alloc_tree.specs.declared.directory.Entry.{Entry}
use Rattle.alloc_tree.specs.declared.directory.Node.{Node}
use Rattle.alloc_tree.specs.declared.directory.Node.TheVariants.{Object, Directory}
use Rattle.alloc_tree.proofs.Places.{IsAt}
use Rattle.alloc_tree.proofs.Levels.{place_entry, place_gap, found_there}
use Rattle.alloc_tree.proofs.Members.{members_at, members_absent, members_object}
use Rattle.alloc_tree.proofs.Ordered.{root_found}
use Rattle.alloc_tree.proofs.Refusals.{list_entry, list_gap, list_object, list_root}

-- ---- one name

module _ {A : Type 0} (id : ℕ) (es : List (Entry A)) (i : ℕ) (n : Name) where
  pub way_in : (e : Entry A) (d : Box Contents A) → IsAt es i e n → e.node ≡ Directory d → LeadsTo (made_of id es) (n ∷ []) (whole d.value)
  way_in e d here is = record {
    place = λ q. place_entry id es i n q e here ∙ ap (λ m. place (at (standing m)) q) is;
    members = λ q. members_at id es i n q e here ∙ ap (λ m. members_in q (standing m)) is;
  }

  pub way_past_object : (e : Entry A) (o : ℕ) → IsAt es i e n → e.node ≡ Object o → LeadsNowhere (made_of id es) (n ∷ []) NotDirectory
  way_past_object e o here is = record {
    refused = λ q. list_entry id es i n e q here ∙ ap (λ m. list_refused (standing m) q) is ∙ list_object o q;
    place = λ m q. place_entry id es i n (m ∷ q) e here ∙ ap (λ k. place (at (standing k)) (m ∷ q)) is;
    members = λ q. members_at id es i n q e here ∙ ap (λ m. members_in q (standing m)) is ∙ members_object o q;
  }

  pub way_absent : IsGapFor es n i → LeadsNowhere (made_of id es) (n ∷ []) NotFound
  way_absent gap = record {
    refused = λ q. list_gap id es i n q gap;
    place = λ m q. place_gap id es i n (m ∷ q) gap;
    members = λ q. members_absent id es i n q gap;
  }

-- ---- one name after the other

pub stays_here : (es : List (Path × Found)) → LeadsTo es [] es
stays_here es = record { place = λ q. refl; members = λ q. refl }

module _ (here there : List (Path × Found)) (p : Path) (n : Name) (so_far : LeadsTo here p there) where
  -- the path with one more name
  pub way_on : (inner : List (Path × Found)) → LeadsTo there (n ∷ []) inner → LeadsTo here (p ++ n ∷ []) inner
  way_on inner step = record {
    place = λ q. ap (place (at here)) (append_assoc p (n ∷ []) q) ∙ so_far.place (n ∷ q) ∙ step.place q;
    members = λ q. ap (λ l. members_in l here) (append_assoc p (n ∷ []) q) ∙ so_far.members (n ∷ q) ∙ step.members q;
  }

  refused_on : (q : Path) → list_refused here (p ++ q) ≡ list_refused there q
  refused_on q = ap (λ (r : Result (Option Found) Refusal). refusal_of (found_there r >>= (λ found. if is_object found then Err NotDirectory else Ok found))) (so_far.place q)

  -- the path goes no further
  pub way_ends : (rest : Path) (why : Refusal) → LeadsNowhere there (n ∷ []) why → LeadsNowhere here (p ++ n ∷ rest) why
  way_ends rest why step = record {
    refused = λ q. ap (list_refused here) (append_assoc p (n ∷ rest) q) ∙ refused_on (n ∷ rest ++ q) ∙ step.refused (rest ++ q);
    place = λ m q. ap (place (at here)) (append_assoc p (n ∷ rest) (m ∷ q)) ∙ so_far.place (n ∷ rest ++ m ∷ q) ∙ on rest m q;
    members = λ q. ap (λ l. members_in l here) (append_assoc p (n ∷ rest) q) ∙ so_far.members (n ∷ rest ++ q) ∙ step.members (rest ++ q);
  }
    where
      on : (rest : Path) (m : Name) (q : Path) → place (at there) (n ∷ rest ++ m ∷ q) ≡ Err why
      on [] m q = step.place m q
      on (k ∷ ks) m q = step.place k (ks ++ m ∷ q)

-- ---- the whole path

pub to_members : (here there : List (Path × Found)) (p : Path) → LeadsTo here p there → members_in [] there ≡ members_in p here
to_members here there p way = sym (way.members []) ∙ ap (λ l. members_in l here) (append-nil p)

pub to_directory : (here : List (Path × Found)) (p : Path) (d : Contents) → LeadsTo here p (whole d) → list_refused here p ≡ None
to_directory here p d way =
    ap (list_refused here) (sym (append-nil p))
    ∙ ap (λ (r : Result (Option Found) Refusal). refusal_of (found_there r >>= (λ found. if is_object found then Err NotDirectory else Ok found))) (way.place [])
    ∙ list_root d

pub nowhere_refused : (here : List (Path × Found)) (p : Path) (why : Refusal) → LeadsNowhere here p why → list_refused here p ≡ Some why
nowhere_refused here p why way = ap (list_refused here) (sym (append-nil p)) ∙ way.refused []

pub nowhere_members : (here : List (Path × Found)) (p : Path) (why : Refusal) → LeadsNowhere here p why → members_in p here ≡ []
nowhere_members here p why way = ap (λ l. members_in l here) (sym (append-nil p)) ∙ way.members []

-- what stands at the path with one more name
pub to_place : (here : List (Path × Found)) (p : Path) (n : Name) (d : Contents) → LeadsTo here p (whole d) → place (at here) (p ++ n ∷ []) ≡ Ok (at (whole d) (n ∷ []))
to_place here p n d way = way.place (n ∷ []) ∙ ap (λ (o : Option Found). beyond o (Ok (at (whole d) (n ∷ [])))) (root_found d)

-- the walked names and those ahead
pub split_at : (path : Path) (i : ℕ) (n : Name) → i < length path → n ≡ get_or path i n → path ≡ take i path ++ n ∷ drop (i + 1) path
split_at path i n within read = sym (take-append-drop i path) ∙ ap (λ l. take i path ++ l) (drop_more path i n within ∙ ap (λ m. m ∷ drop (i + 1) path) (sym read))

-- what is found at a node itself
pub found_alone : {A : Type 0} (n : Node A) → at (standing n) [] ≡ Some (node_found n)
found_alone (Object id) = refl
found_alone (Directory d) = root_found d.value
