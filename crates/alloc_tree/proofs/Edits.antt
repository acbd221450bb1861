-- What an edit of a directory's entries changes.
use Rattle.std.proofs.Common.{◌≡◌, ℕ, suc, Bool, true, false, cond, List, [], ◌∷◌, ◌++◌, get_or, set, ◌+◌, ◌-◌, take, drop, Some, None, Option, Vec, refl, ap, sym, subst, ◌∙◌}
use Rattle.std.proofs.lemmas.List.{take-append-drop, set_split, set-get_or}
use Rattle.std.specs.List.{insert, remove}
use Rattle.std.specs.Vec.{with_item}
use Rattle.std.specs.declared.cmp.Ordering.{Ordering}
use Rattle.std.specs.declared.cmp.Ordering.TheVariants.{Less, Equal, Greater}
use Rattle.std.specs.Ordering.{is_eq, ordering_then, eq_by_cmp}
use Rattle.std.specs.FinMap.{find, from_entries}
use Rattle.std.proofs.lemmas.Cmp.{tied_itself}
use Rattle.pps_types.specs.Names.{Name, Path, name_cmp, path_cmp}
use Rattle.alloc_tree.specs.Path.{Changes}
use Rattle.alloc_tree.specs.Contents.{Contents}
use Rattle.alloc_tree.specs.View.{flatten, standing, room, deepest, contents_of}
use Rattle.alloc_tree.specs.Entries.{AllBelow, AllAbove, NamesRise, IsGapFor}
use Rattle.alloc_tree.specs.declared.directory.Entry.{Entry}
use Rattle.alloc_tree.specs.declared.directory.Node.{Node}
use Rattle.alloc_tree.proofs.Orders.{names_total, names_exact, Differ, then_differ}
use Rattle.alloc_tree.proofs.Flatten.{find_between, find_gap, find_elsewhere}
use Rattle.alloc_tree.proofs.Places.{IsAt, names_left, names_right, names_joined, rising_left, rising_right}

tie : (o : Ordering) → is_eq o ≡ true → o ≡ Equal
tie Less h = cc
tie Equal h = refl
tie Greater h = cc

module _ {X : Type 0} (old new : List (Path × X)) (n : Name) (p : Path) (v : Option X) (x : X) where
  -- a change under one name, and none under another
  pub changes_under : ((q : Path) → find path_cmp (n ∷ q) new ≡ cond (eq_by_cmp path_cmp q p) v (find path_cmp (n ∷ q) old))
      → ((m : Name) (q : Path) → Differ m n → find path_cmp (m ∷ q) new ≡ find path_cmp (m ∷ q) old)
      → Changes (([], x) ∷ old) (([], x) ∷ new) (n ∷ p) v
  changes_under here other [] = refl
  changes_under here other (m ∷ q) =
      elim (is_eq (name_cmp m n)) as (λ b. is_eq (name_cmp m n) ≡ b → find path_cmp (m ∷ q) new ≡ cond (is_eq (ordering_then (name_cmp m n) (path_cmp q p))) v (find path_cmp (m ∷ q) old)) [
        | true ↦ λ e. subst (λ k. find path_cmp (k ∷ q) new ≡ cond (is_eq (ordering_then (name_cmp k n) (path_cmp q p))) v (find path_cmp (k ∷ q) old)) (sym (names_exact m n (tie (name_cmp m n) e)))
            (here q ∙ ap (λ o. cond (is_eq (ordering_then o (path_cmp q p))) v (find path_cmp (n ∷ q) old)) (sym (tied_itself names_total n)))
        | false ↦ λ e. other m q e ∙ sym (ap (λ b. cond b v (find path_cmp (m ∷ q) old)) (then_differ (name_cmp m n) (path_cmp q p) e))
      ] refl

module _ {A X : Type 0} (own : Node A → List (Path × X)) (a b : List (Entry A)) (n : Name) (below : AllBelow n a) (above : AllAbove n b) where
  mid_same : (e : Entry A) → e.name.items ≡ n → (q : Path) → find path_cmp (n ∷ q) (flatten own (a ++ e ∷ b)) ≡ find path_cmp q (own e.node)
  mid_same e is q = ap (λ m. find path_cmp (m ∷ q) (flatten own (a ++ e ∷ b))) (sym is)
      ∙ find_between own a b e q (subst (λ m. AllBelow m a) (sym is) below) (subst (λ m. AllAbove m b) (sym is) above)

  mid_other : (e : Entry A) → e.name.items ≡ n → (m : Name) (q : Path) → Differ m n → find path_cmp (m ∷ q) (flatten own (a ++ e ∷ b)) ≡ find path_cmp (m ∷ q) (flatten own (a ++ b))
  mid_other e is m q differ = find_elsewhere own a b e m q (subst (Differ m) (sym is) differ)

  pub mid_set : (x : X) (e f : Entry A) (p : Path) (v : Option X) → e.name.items ≡ n → f.name.items ≡ n → Changes (own e.node) (own f.node) p v
      → Changes (([], x) ∷ flatten own (a ++ e ∷ b)) (([], x) ∷ flatten own (a ++ f ∷ b)) (n ∷ p) v
  mid_set x e f p v en fn h = changes_under (flatten own (a ++ e ∷ b)) (flatten own (a ++ f ∷ b)) n p v x
      (λ q. mid_same f fn q ∙ h q ∙ ap (cond (eq_by_cmp path_cmp q p) v) (sym (mid_same e en q)))
      (λ m q d. mid_other f fn m q d ∙ sym (mid_other e en m q d))

  pub mid_remove : (x : X) (e : Entry A) (p : Path) (v : Option X) → e.name.items ≡ n → Changes (own e.node) [] p v
      → Changes (([], x) ∷ flatten own (a ++ e ∷ b)) (([], x) ∷ flatten own (a ++ b)) (n ∷ p) v
  mid_remove x e p v en h = changes_under (flatten own (a ++ e ∷ b)) (flatten own (a ++ b)) n p v x
      (λ q. find_gap own a b n q below above ∙ h q ∙ ap (cond (eq_by_cmp path_cmp q p) v) (sym (mid_same e en q)))
      (λ m q d. sym (mid_other e en m q d))

  pub mid_insert : (x : X) (f : Entry A) (p : Path) (v : Option X) → f.name.items ≡ n → Changes [] (own f.node) p v
      → Changes (([], x) ∷ flatten own (a ++ b)) (([], x) ∷ flatten own (a ++ f ∷ b)) (n ∷ p) v
  mid_insert x f p v fn h = changes_under (flatten own (a ++ b)) (flatten own (a ++ f ∷ b)) n p v x
      (λ q. mid_same f fn q ∙ h q ∙ ap (cond (eq_by_cmp path_cmp q p) v) (sym (find_gap own a b n q below above)))
      (λ m q d. mid_other f fn m q d)

-- the order of the names through an edit
module _ {A : Type 0} where
  rising_join : (a b : List (Entry A)) (n : Name) → NamesRise a → NamesRise b → AllBelow n a → AllAbove n b → (e : Entry A) → e.name.items ≡ n → NamesRise (a ++ e ∷ b)
  rising_join [] b n ra rb below above e is = (subst (λ m. AllAbove m b) (sym is) above, rb)
  rising_join (x ∷ a) b n ra rb below above e is =
      (names_joined _ a (e ∷ b) ra.0 (subst (λ m. name_cmp x.name.items m ≡ Less) (sym is) below.0, all_above n x b below.0 above), rising_join a b n ra.1 rb below.1 above e is)
    where
      all_above : (n : Name) (x : Entry A) (es : List (Entry A)) → name_cmp x.name.items n ≡ Less → AllAbove n es → AllAbove x.name.items es
      all_above n x [] less h = tt
      all_above n x (y ∷ es) less h = (names_total.trans x.name.items n y.name.items less h.0, all_above n x es less h.1)

  rising_without : (a b : List (Entry A)) (e : Entry A) → NamesRise (a ++ e ∷ b) → NamesRise (a ++ b)
  rising_without [] b e h = h.1
  rising_without (x ∷ a) b e h = (names_joined _ a b (names_left _ a (e ∷ b) h.0) (names_right _ a (e ∷ b) h.0).1, rising_without a b e h.1)

  pub rising_set : (es : List (Entry A)) (i : ℕ) (e f : Entry A) (n : Name) → NamesRise es → IsAt es i e n → f.name.items ≡ n → NamesRise (set es i f)
  rising_set es i e f n rising at is =
      let rises : NamesRise (take i es ++ e ∷ drop (suc i) es) = subst NamesRise at.split rising in
      subst NamesRise (sym (set_split es i f at.in_range)) (rising_join (take i es) (drop (suc i) es) n (rising_left (take i es) (e ∷ drop (suc i) es) rises) (rising_right (take i es) (e ∷ drop (suc i) es) rises).1 at.below at.above f is)

  pub rising_remove : (es : List (Entry A)) (i : ℕ) (e : Entry A) (n : Name) → NamesRise es → IsAt es i e n → NamesRise (remove es i)
  rising_remove es i e n rising at = rising_without (take i es) (drop (suc i) es) e (subst NamesRise at.split rising)

  pub rising_insert : (es : List (Entry A)) (i : ℕ) (f : Entry A) (n : Name) → NamesRise es → IsGapFor es n i → f.name.items ≡ n → NamesRise (insert es i f)
  rising_insert es i f n rising gap is =
      let rises : NamesRise (take i es ++ drop i es) = subst NamesRise (sym (take-append-drop i es)) rising in
      rising_join (take i es) (drop i es) n (rising_left (take i es) (drop i es) rises) (rising_right (take i es) (drop i es) rises) gap.below gap.above f is

module _ {A X : Type 0} (own : Node A → List (Path × X)) (x : X) (es : List (Entry A)) (i : ℕ) (n : Name) where
  pub changes_set : (e f : Entry A) (p : Path) (v : Option X) → IsAt es i e n → f.name.items ≡ n → Changes (own e.node) (own f.node) p v
      → Changes (([], x) ∷ flatten own es) (([], x) ∷ flatten own (set es i f)) (n ∷ p) v
  changes_set e f p v at is h =
      subst (λ l. Changes (([], x) ∷ flatten own l) (([], x) ∷ flatten own (set es i f)) (n ∷ p) v) (sym at.split)
      (subst (λ l. Changes (([], x) ∷ flatten own (take i es ++ e ∷ drop (suc i) es)) (([], x) ∷ flatten own l) (n ∷ p) v) (sym (set_split es i f at.in_range))
      (mid_set own (take i es) (drop (suc i) es) n at.below at.above x e f p v at.name is h))

  pub changes_remove : (e : Entry A) (p : Path) (v : Option X) → IsAt es i e n → Changes (own e.node) [] p v
      → Changes (([], x) ∷ flatten own es) (([], x) ∷ flatten own (remove es i)) (n ∷ p) v
  changes_remove e p v at h =
      subst (λ l. Changes (([], x) ∷ flatten own l) (([], x) ∷ flatten own (remove es i)) (n ∷ p) v) (sym at.split)
      (mid_remove own (take i es) (drop (suc i) es) n at.below at.above x e p v at.name h)

  pub changes_insert : (f : Entry A) (p : Path) (v : Option X) → IsGapFor es n i → f.name.items ≡ n → Changes [] (own f.node) p v
      → Changes (([], x) ∷ flatten own es) (([], x) ∷ flatten own (insert es i f)) (n ∷ p) v
  changes_insert f p v gap is h =
      subst (λ l. Changes (([], x) ∷ flatten own l) (([], x) ∷ flatten own (insert es i f)) (n ∷ p) v) (take-append-drop i es)
      (mid_insert own (take i es) (drop i es) n gap.below gap.above x f p v is h)

-- an entry that is written back as it was
pub set_read : {A : Type 0} (es : List (Entry A)) (i : ℕ) (e : Entry A) → e ≡ get_or es i e → set es i e ≡ es
set_read es i e read = ap (set es i) read ∙ set-get_or es i e

pub same_contents : {A : Type 0} (id : ℕ) (v : Vec (Entry A) A) (i : ℕ) (e : Entry A) (node : Node A) → e ≡ get_or v.items i e → e.node ≡ node → contents_of id (with_item v i record { name = e.name; node = node }) ≡ contents_of id v
same_contents {A = A} id v i e node read is =
    ap (λ (l : List (Entry A)). let c : Contents = record { id = id; below = from_entries (flatten standing l); rooms = ([], v.cap - v.len) ∷ flatten room l; depth = deepest l + 1 } in c)
    (ap (λ (m : Node A). set v.items i record { name = e.name; node = m }) (sym is) ∙ set_read v.items i e read)

-- what stands alone, and is gone
pub changes_gone : {X : Type 0} (f : X) → Changes (([], f) ∷ []) [] [] None
changes_gone f q = elim (eq_by_cmp path_cmp q []) as (λ b. None ≡ cond b None (cond b (Some f) None)) [ true ↦ refl | false ↦ refl ]

pub changes_new : {X : Type 0} (f : X) → Changes [] (([], f) ∷ []) [] (Some f)
changes_new f q = refl

pub rising_if : {A : Type 0} (b : Bool) (old new : List (Entry A)) → NamesRise old → NamesRise new → NamesRise (cond b new old)
rising_if true old new h k = k
rising_if false old new h k = h

-- another object stands where one stood
pub changes_other : {X : Type 0} (f h : X) → Changes (([], f) ∷ []) (([], h) ∷ []) [] (Some h)
changes_other f h q = elim (eq_by_cmp path_cmp q []) as (λ b. cond b (Some h) None ≡ cond b (Some h) (cond b (Some f) None)) [ true ↦ refl | false ↦ refl ]
