-- What is found among the entries of a directory.
use Rattle.std.proofs.Common.{◌≡◌, true, false, cond, List, [], ◌∷◌, ◌++◌, Some, None, refl, ap, sym, ◌∙◌, append_assoc}
use Rattle.std.specs.declared.cmp.Ordering.TheVariants.{Less}
use Rattle.std.specs.Ordering.{is_eq, ordering_then, eq_by_cmp}
use Rattle.std.specs.FinMap.{find}
use Rattle.std.proofs.lemmas.Cmp.{tied_itself}
use Rattle.pps_types.specs.Names.{Name, Path, name_cmp, path_cmp}
use Rattle.alloc_tree.specs.View.{under, flatten}
use Rattle.alloc_tree.specs.Entries.{AllNames, AllBelow, AllAbove}
use Rattle.alloc_tree.specs.declared.directory.Entry.{Entry}
use Rattle.alloc_tree.specs.declared.directory.Node.{Node}
use Rattle.alloc_tree.proofs.Orders.{names_total, Differ, differ_below, differ_above, then_differ}

module _ {X : Type 0} where
  pub find_under_same : (n : Name) (q : Path) (es : List (Path × X)) → find path_cmp (n ∷ q) (under n es) ≡ find path_cmp q es
  find_under_same n q [] = refl
  find_under_same n q (e ∷ es) = λ i. cond (is_eq (ordering_then (tied_itself names_total n i) (path_cmp q e.0))) (Some e.1) (find_under_same n q es i)

  pub find_under_other : (n m : Name) (q : Path) (es : List (Path × X)) → Differ n m → find path_cmp (n ∷ q) (under m es) ≡ None
  find_under_other n m q [] h = refl
  find_under_other n m q (e ∷ es) h = ap (λ b. cond b (Some e.1) (find path_cmp (n ∷ q) (under m es))) (then_differ (name_cmp n m) (path_cmp q e.0) h) ∙ find_under_other n m q es h

  pub find_under_root : (m : Name) (es : List (Path × X)) → find path_cmp [] (under m es) ≡ None
  find_under_root m [] = refl
  find_under_root m (e ∷ es) = find_under_root m es

  pub find_append_left : (q : Path) (xs ys : List (Path × X)) → find path_cmp q ys ≡ None → find path_cmp q (xs ++ ys) ≡ find path_cmp q xs
  find_append_left q [] ys h = h
  find_append_left q (x ∷ xs) ys h = ap (cond (eq_by_cmp path_cmp q x.0) (Some x.1)) (find_append_left q xs ys h)

  pub find_append_right : (q : Path) (xs ys : List (Path × X)) → find path_cmp q xs ≡ None → find path_cmp q (xs ++ ys) ≡ find path_cmp q ys
  find_append_right q [] ys h = refl
  find_append_right q (x ∷ xs) ys h =
      elim (eq_by_cmp path_cmp q x.0) as (λ b. cond b (Some x.1) (find path_cmp q xs) ≡ None → cond b (Some x.1) (find path_cmp q (xs ++ ys)) ≡ find path_cmp q ys) [
        | true ↦ λ e. cc
        | false ↦ λ e. find_append_right q xs ys e
      ] h

module _ {A X : Type 0} (own : Node A → List (Path × X)) where
  pub flatten-append : (a b : List (Entry A)) → flatten own (a ++ b) ≡ flatten own a ++ flatten own b
  flatten-append [] b = refl
  flatten-append (e ∷ a) b = ap (λ l. under e.name.items (own e.node) ++ l) (flatten-append a b) ∙ sym (append_assoc (under e.name.items (own e.node)) (flatten own a) (flatten own b))

  -- no entry stands for the directory itself
  pub find_root : (es : List (Entry A)) → find path_cmp [] (flatten own es) ≡ None
  find_root [] = refl
  find_root (e ∷ es) = find_append_right [] (under e.name.items (own e.node)) (flatten own es) (find_under_root e.name.items (own e.node)) ∙ find_root es

  pub find_apart : (n : Name) (q : Path) (es : List (Entry A)) → AllNames (Differ n) es → find path_cmp (n ∷ q) (flatten own es) ≡ None
  find_apart n q [] h = refl
  find_apart n q (e ∷ es) h = find_append_right (n ∷ q) (under e.name.items (own e.node)) (flatten own es) (find_under_other n e.name.items q (own e.node) h.0) ∙ find_apart n q es h.1

all_names : {A : Type 0} (P Q : Name → Type 0) (es : List (Entry A)) → ((m : Name) → P m → Q m) → AllNames P es → AllNames Q es
all_names P Q [] f h = tt
all_names P Q (e ∷ es) f h = (f e.name.items h.0, all_names P Q es f h.1)

pub apart_below : {A : Type 0} (n : Name) (es : List (Entry A)) → AllBelow n es → AllNames (Differ n) es
apart_below n es h = all_names (λ m. name_cmp m n ≡ Less) (Differ n) es (λ m. differ_below n m) h

pub apart_above : {A : Type 0} (n : Name) (es : List (Entry A)) → AllAbove n es → AllNames (Differ n) es
apart_above n es h = all_names (λ m. name_cmp n m ≡ Less) (Differ n) es (λ m. differ_above n m) h

module _ {A X : Type 0} (own : Node A → List (Path × X)) (a b : List (Entry A)) where
  -- a name between those of a and those of b stands for the entry there
  pub find_between : (e : Entry A) (q : Path) → AllBelow e.name.items a → AllAbove e.name.items b → find path_cmp (e.name.items ∷ q) (flatten own (a ++ e ∷ b)) ≡ find path_cmp q (own e.node)
  find_between e q below above =
      let n = e.name.items in
      ap (find path_cmp (n ∷ q)) (flatten-append own a (e ∷ b))
      ∙ find_append_right (n ∷ q) (flatten own a) (flatten own (e ∷ b)) (find_apart own n q a (apart_below n a below))
      ∙ find_append_left (n ∷ q) (under n (own e.node)) (flatten own b) (find_apart own n q b (apart_above n b above))
      ∙ find_under_same n q (own e.node)

  pub find_gap : (n : Name) (q : Path) → AllBelow n a → AllAbove n b → find path_cmp (n ∷ q) (flatten own (a ++ b)) ≡ None
  find_gap n q below above =
      ap (find path_cmp (n ∷ q)) (flatten-append own a b)
      ∙ find_append_right (n ∷ q) (flatten own a) (flatten own b) (find_apart own n q a (apart_below n a below))
      ∙ find_apart own n q b (apart_above n b above)

find_append_same : {X : Type 0} (q : Path) (xs ys zs : List (Path × X)) → find path_cmp q ys ≡ find path_cmp q zs → find path_cmp q (xs ++ ys) ≡ find path_cmp q (xs ++ zs)
find_append_same q [] ys zs h = h
find_append_same q (x ∷ xs) ys zs h = ap (cond (eq_by_cmp path_cmp q x.0) (Some x.1)) (find_append_same q xs ys zs h)

-- an entry is not found under another name
pub find_elsewhere : {A X : Type 0} (own : Node A → List (Path × X)) (a b : List (Entry A)) (e : Entry A) (m : Name) (q : Path) → Differ m e.name.items → find path_cmp (m ∷ q) (flatten own (a ++ e ∷ b)) ≡ find path_cmp (m ∷ q) (flatten own (a ++ b))
find_elsewhere own a b e m q differ =
    ap (find path_cmp (m ∷ q)) (flatten-append own a (e ∷ b))
    ∙ find_append_same (m ∷ q) (flatten own a) (flatten own (e ∷ b)) (flatten own b) (find_append_right (m ∷ q) (under e.name.items (own e.node)) (flatten own b) (find_under_other m e.name.items q (own e.node) differ))
    ∙ ap (find path_cmp (m ∷ q)) (sym (flatten-append own a b))
