-- The entries of a directory are in preorder.
use Rattle.std.proofs.Common.{◌≡◌, ℕ, Vec, Bool, ◌&&◌, true, false, cond, List, [], ◌∷◌, ◌++◌, Some, Option, T, refl, ap, sym, subst, ◌∙◌}
use Rattle.std.specs.declared.cmp.Ordering.{Ordering}
use Rattle.std.specs.declared.cmp.Ordering.TheVariants.{Less, Equal, Greater}
use Rattle.std.specs.Ordering.{is_lt, ordering_then, eq_by_cmp}
use Rattle.std.specs.FinMap.{find, entries, from_entries, from_sorted, get-from_entries, get-from_sorted, entries-from_sorted, same_map, is_sorted, entries_sorted}
use Rattle.std.specs.FinMap.Entries.{below_all, where_key, is_sorted-where_key}
use Rattle.std.proofs.lemmas.Cmp.{tied_itself}
use Rattle.pps_types.specs.Names.{Name, Path, name_cmp, path_cmp}
use Rattle.alloc_tree.specs.Path.{Changes}
use Rattle.alloc_tree.specs.Contents.{Contents, whole, is_below}
use Rattle.pps_types.specs.declared.found.Found.{Found}
use Rattle.pps_types.specs.declared.found.Found.TheVariants.{Directory as FoundDirectory}
use Rattle.alloc_tree.specs.View.{under, flatten, standing, contents_of}
use Rattle.alloc_tree.specs.Entries.{AllAbove, NamesRise}
use Rattle.alloc_tree.specs.declared.directory.Entry.{Entry}
use Rattle.alloc_tree.specs.declared.directory.Node.{Node}
use Rattle.alloc_tree.specs.declared.directory.Node.TheVariants.{Object, Directory}
use Rattle.alloc_tree.proofs.Orders.{names_total, paths_total, paths_exact}

-- each path comes after p
abbrev pub AllAfter : {X : Type 0} → Path → List (Path × X) → Type 0
AllAfter p [] = Unit {0}
AllAfter p (e ∷ es) = (path_cmp p e.0 ≡ Less) × AllAfter p es

-- the paths strictly rise
abbrev pub IsOrdered : {X : Type 0} → List (Path × X) → Type 0
IsOrdered [] = Unit {0}
IsOrdered (e ∷ es) = AllAfter e.0 es × IsOrdered es

both : (a b : Bool) → T a → T b → T (a && b)
both true b p q = q
both false b p q = p

module _ {X : Type 0} where
  after_append : (p : Path) (xs ys : List (Path × X)) → AllAfter p xs → AllAfter p ys → AllAfter p (xs ++ ys)
  after_append p [] ys g h = h
  after_append p (x ∷ xs) ys g h = (g.0, after_append p xs ys g.1 h)

  after_under : (n : Name) (p : Path) (es : List (Path × X)) → AllAfter p es → AllAfter (n ∷ p) (under n es)
  after_under n p [] h = tt
  after_under n p (e ∷ es) h = (ap (λ o. ordering_then o (path_cmp p e.0)) (tied_itself names_total n) ∙ h.0, after_under n p es h.1)

  ordered_under : (n : Name) (es : List (Path × X)) → IsOrdered es → IsOrdered (under n es)
  ordered_under n [] h = tt
  ordered_under n (e ∷ es) h = (after_under n e.0 es h.0, ordered_under n es h.1)

  after_other : (n m : Name) (p : Path) (es : List (Path × X)) → name_cmp n m ≡ Less → AllAfter (n ∷ p) (under m es)
  after_other n m p [] h = tt
  after_other n m p (e ∷ es) h = (ap (λ o. ordering_then o (path_cmp p e.0)) h, after_other n m p es h)

  ordered_joined : (n : Name) (xs ys : List (Path × X)) → IsOrdered xs → IsOrdered ys → ((q : Path) → AllAfter (n ∷ q) ys) → IsOrdered (under n xs ++ ys)
  ordered_joined n [] ys g h later = h
  ordered_joined n (x ∷ xs) ys g h later = (after_append (n ∷ x.0) (under n xs) ys (after_under n x.0 xs g.0) (later x.0), ordered_joined n xs ys g.1 h later)

  below_all_after : (p : Path) (es : List (Path × X)) → AllAfter p es → T (below_all path_cmp p es)
  below_all_after p [] h = tt
  below_all_after p (e ∷ es) h = both (is_lt (path_cmp p e.0)) (below_all path_cmp p es) (subst (λ o. T (is_lt o)) (sym h.0) tt) (below_all_after p es h.1)

  pub sorted_ordered : (es : List (Path × X)) → IsOrdered es → T (is_sorted path_cmp es)
  sorted_ordered [] h = tt
  sorted_ordered (e ∷ es) h = both (below_all path_cmp e.0 es) (is_sorted path_cmp es) (below_all_after e.0 es h.0) (sorted_ordered es h.1)

  -- the entries of the map that entries in order make are those entries
  pub entries_made : (es : List (Path × X)) → IsOrdered es → entries (from_entries {R = path_cmp} es) ≡ es
  entries_made es h =
      let s = sorted_ordered es h in
      ap entries (same_map paths_total paths_exact (from_entries es) (from_sorted es) (λ q. get-from_entries paths_total es q ∙ sym (get-from_sorted path_cmp es q s)))
      ∙ entries-from_sorted path_cmp es s

module _ {A X : Type 0} (own : Node A → List (Path × X)) where
  -- each node's own entries are in order
  abbrev pub AllOwn : List (Entry A) → Type 0
  AllOwn [] = Unit {0}
  AllOwn (e ∷ es) = IsOrdered (own e.node) × AllOwn es

  after_flatten : (n : Name) (p : Path) (es : List (Entry A)) → AllAbove n es → AllAfter (n ∷ p) (flatten own es)
  after_flatten n p [] h = tt
  after_flatten n p (e ∷ es) h = after_append (n ∷ p) (under e.name.items (own e.node)) (flatten own es) (after_other n e.name.items p (own e.node) h.0) (after_flatten n p es h.1)

  pub ordered_flatten : (es : List (Entry A)) → NamesRise es → AllOwn es → IsOrdered (flatten own es)
  ordered_flatten [] r h = tt
  ordered_flatten (e ∷ es) r h = ordered_joined e.name.items (own e.node) (flatten own es) h.0 (ordered_flatten es r.1 h.1) (λ q. after_flatten e.name.items q es r.0)

  root_first : (es : List (Path × X)) → (n : Name) → AllAfter [] (under n es)
  root_first [] n = tt
  root_first (e ∷ es) n = (refl, root_first es n)

  pub root_before : (es : List (Entry A)) → AllAfter [] (flatten own es)
  root_before [] = tt
  root_before (e ∷ es) = after_append [] (under e.name.items (own e.node)) (flatten own es) (root_first (own e.node) e.name.items) (root_before es)

first : (a b : Bool) → T (a && b) → T a
first true b p = tt
first false b p = p

second : (a b : Bool) → T (a && b) → T b
second true b p = p
second false b p = absurd p

less : (o : Ordering) → T (is_lt o) → o ≡ Less
less Less p = refl
less Equal p = absurd p
less Greater p = absurd p

module _ {X : Type 0} where
  after_below : (p : Path) (es : List (Path × X)) → T (below_all path_cmp p es) → AllAfter p es
  after_below p [] h = tt
  after_below p (e ∷ es) h = (less (path_cmp p e.0) (first (is_lt (path_cmp p e.0)) (below_all path_cmp p es) h), after_below p es (second (is_lt (path_cmp p e.0)) (below_all path_cmp p es) h))

  ordered_sorted : (es : List (Path × X)) → T (is_sorted path_cmp es) → IsOrdered es
  ordered_sorted [] h = tt
  ordered_sorted (e ∷ es) h = (after_below e.0 es (first (below_all path_cmp e.0 es) (is_sorted path_cmp es) h), ordered_sorted es (second (below_all path_cmp e.0 es) (is_sorted path_cmp es) h))

  pub after_root : (es : List (Path × X)) → AllAfter [] (where_key path_cmp is_below es)
  after_root [] = tt
  after_root (([], x) ∷ es) = after_root es
  after_root ((n ∷ p, x) ∷ es) = (refl, after_root es)

  below_kept : (es : List (Path × X)) → AllAfter [] es → where_key path_cmp is_below es ≡ es
  below_kept [] h = refl
  below_kept (([], x) ∷ es) h = cc
  below_kept ((n ∷ p, x) ∷ es) h = ap (λ l. (n ∷ p, x) ∷ l) (below_kept es h.1)

-- a directory's own entries are in order, whatever they are
pub ordered_whole : (c : Contents) → IsOrdered (whole c)
unfolding whole
ordered_whole c = (after_root (entries c.below), ordered_sorted (where_key path_cmp is_below (entries c.below)) (is_sorted-where_key path_cmp is_below (entries c.below) (entries_sorted c.below)))

pub all_own : {A : Type 0} (es : List (Entry A)) → AllOwn standing es
all_own [] = tt
all_own (e ∷ es) = (own e.node, all_own es)
  where
    own : {A : Type 0} (n : Node A) → IsOrdered (standing n)
    own (Object id) = (tt, tt)
    own (Directory d) = ordered_whole d.value

-- what a directory has, by its entries
pub whole_view : {A : Type 0} (id : ℕ) (v : Vec (Entry A) A) → NamesRise v.items → whole (contents_of id v) ≡ ([], FoundDirectory id) ∷ flatten standing v.items
unfolding whole
whole_view id v rising =
    ap (λ l. ([], FoundDirectory id) ∷ where_key path_cmp is_below l) (entries_made (flatten standing v.items) (ordered_flatten standing v.items rising (all_own v.items)))
    ∙ ap (λ l. ([], FoundDirectory id) ∷ l) (below_kept (flatten standing v.items) (root_before standing v.items))

pub whole_is : {A : Type 0} (id : ℕ) (v : Vec (Entry A) A) (c : Contents) → contents_of id v ≡ c → NamesRise v.items → whole c ≡ ([], FoundDirectory id) ∷ flatten standing v.items
whole_is id v c is rising = ap whole (sym is) ∙ whole_view id v rising

pub changed : {A : Type 0} (id : ℕ) (v w : Vec (Entry A) A) (p : Path) (x : Option Found) → NamesRise v.items → NamesRise w.items
    → Changes (([], FoundDirectory id) ∷ flatten standing v.items) (([], FoundDirectory id) ∷ flatten standing w.items) p x → Changes (whole (contents_of id v)) (whole (contents_of id w)) p x
changed id v w p x rv rw' h q = ap (find path_cmp q) (whole_view id w rw') ∙ h q ∙ ap (λ l. cond (eq_by_cmp path_cmp q p) x (find path_cmp q l)) (sym (whole_view id v rv))

pub root_found : (c : Contents) → find path_cmp [] (whole c) ≡ Some (FoundDirectory c.id)
unfolding whole
root_found c = refl

-- other entries with the same list
pub whole_same : {A : Type 0} (id : ℕ) (v w : Vec (Entry A) A) → NamesRise v.items → w.items ≡ v.items → whole (contents_of id w) ≡ whole (contents_of id v)
whole_same id v w rising same =
    whole_view id w (subst NamesRise (sym same) rising)
    ∙ ap (λ l. ([], FoundDirectory id) ∷ flatten standing l) same
    ∙ sym (whole_view id v rising)
