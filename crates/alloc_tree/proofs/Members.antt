-- What stands directly in a directory.
use Rattle.std.proofs.Common.{◌≡◌, ◌<◌, ℕ, suc, length, get_or, Some, take, drop, cond, List, [], ◌∷◌, ◌++◌, map, None, Option, refl, ap, sym, subst, ◌∙◌, append-nil, option_map}
use Rattle.std.specs.Prelude.{slice_get}
use Rattle.std.proofs.lemmas.List.{length-map}
use Rattle.std.proofs.lemmas.Option.{slice_get-map, slice_get_read}
use Rattle.pps_types.specs.declared.found.Found.{Found}
use Rattle.std.specs.declared.cmp.Ordering.TheVariants.{Less}
use Rattle.std.specs.FinMap.{entries}
use Rattle.std.specs.FinMap.Entries.{where_key}
use Rattle.std.proofs.lemmas.Cmp.{tied_itself}
use Rattle.std.proofs.lemmas.List.{take-append-drop}
use Rattle.std.proofs.lemmas.List.Elements.{filter_map-append}
use Rattle.pps_types.specs.declared.found.Found.TheVariants.{Object as FoundObject, Directory as FoundDirectory}
use Rattle.pps_types.specs.Names.{Name, Path, path_cmp, name_in, members_in}
use Rattle.alloc_tree.specs.Contents.{whole, is_below}
use Rattle.alloc_tree.specs.View.{under, flatten, standing, node_found}
use Rattle.alloc_tree.specs.Entries.{AllNames, AllBelow, AllAbove, IsGapFor}
use Rattle.alloc_tree.specs.declared.directory.Entry.{Entry}
use Rattle.alloc_tree.specs.declared.directory.Node.{Node}
use Rattle.alloc_tree.specs.declared.directory.Node.TheVariants.{Object, Directory}
use Rattle.alloc_tree.proofs.Orders.{names_total, Differ}
use Rattle.alloc_tree.proofs.Flatten.{flatten-append, apart_below, apart_above}
use Rattle.alloc_tree.proofs.Places.{IsAt}
use Rattle.alloc_tree.proofs.Ordered.{AllAfter, after_root}

-- what one entry gives to the list of members
abbrev pub member : {X : Type 0} → Path → Path × X → Option (Name × X)
member p e = option_map (λ n. (n, e.1)) (name_in p e.0)

module _ {X : Type 0} where
  members_none : (p : Path) (x : Path × X) (xs : List (Path × X)) → name_in p x.0 ≡ None → members_in p (x ∷ xs) ≡ members_in p xs
  members_none p x xs h = rw h

  pub members_under_other : (n m : Name) (p : Path) (es : List (Path × X)) → Differ n m → members_in (n ∷ p) (under m es) ≡ []
  members_under_other n m p [] h = refl
  members_under_other n m p (e ∷ es) h = members_none (n ∷ p) (m ∷ e.0, e.1) (under m es) (ap (λ b. cond b (name_in p e.0) None) h) ∙ members_under_other n m p es h

  pub members_under_same : (n : Name) (p : Path) (es : List (Path × X)) → members_in (n ∷ p) (under n es) ≡ members_in p es
  members_under_same n p [] = refl
  members_under_same n p (e ∷ es) = rw (tied_itself names_total n, members_under_same n p es)

  -- what stands deeper is no member
  members_deep : (n : Name) (es : List (Path × X)) → AllAfter [] es → members_in [] (under n es) ≡ []
  members_deep n [] h = refl
  members_deep n (e ∷ es) h = members_none [] (n ∷ e.0, e.1) (under n es) (deep n e.0 h.0) ∙ members_deep n es h.1
    where
      deep : (n : Name) (q : Path) → path_cmp [] q ≡ Less → name_in [] (n ∷ q) ≡ None
      deep n [] h = cc
      deep n (m ∷ q) h = refl

module _ {A X : Type 0} (own : Node A → List (Path × X)) where
  pub members_apart : (n : Name) (p : Path) (es : List (Entry A)) → AllNames (Differ n) es → members_in (n ∷ p) (flatten own es) ≡ []
  members_apart n p [] h = refl
  members_apart n p (e ∷ es) h = filter_map-append (member (n ∷ p)) (under e.name.items (own e.node)) (flatten own es)
      ∙ (λ i. members_under_other n e.name.items p (own e.node) h.0 i ++ members_apart n p es h.1 i)

  pub members_between : (a b : List (Entry A)) (e : Entry A) (p : Path) → AllBelow e.name.items a → AllAbove e.name.items b → members_in (e.name.items ∷ p) (flatten own (a ++ e ∷ b)) ≡ members_in p (own e.node)
  members_between a b e p below above =
      let n = e.name.items in
      ap (members_in (n ∷ p)) (flatten-append own a (e ∷ b))
      ∙ filter_map-append (member (n ∷ p)) (flatten own a) (flatten own (e ∷ b))
      ∙ (λ i. members_apart n p a (apart_below n a below) i ++ filter_map-append (member (n ∷ p)) (under n (own e.node)) (flatten own b) i)
      ∙ (λ i. members_under_same n p (own e.node) i ++ members_apart n p b (apart_above n b above) i)
      ∙ append-nil (members_in p (own e.node))

alone : {A : Type 0} (n : Name) (node : Node A) → members_in [] (under n (standing node)) ≡ (n, node_found node) ∷ []
unfolding whole
alone n (Object id) = refl
alone {A = A} n (Directory d) = ap (λ l. (n, node_found {A = A} (Directory d)) ∷ l) (members_deep n (where_key path_cmp is_below (entries d.value.below)) (after_root (entries d.value.below)))

-- the members of a directory are its entries
pub members_here : {A : Type 0} (es : List (Entry A)) → members_in [] (flatten standing es) ≡ map (λ e. (e.name.items, node_found e.node)) es
members_here [] = refl
members_here (e ∷ es) =
    filter_map-append (member []) (under e.name.items (standing e.node)) (flatten standing es)
    ∙ (λ i. alone e.name.items e.node i ++ members_here es i)

-- so there are as many
pub members_count : {A : Type 0} (es : List (Entry A)) → length (members_in [] (flatten standing es)) ≡ length es
members_count es = ap length (members_here es) ∙ length-map es (λ e. (e.name.items, node_found e.node))

-- and each stands at its entry's place
pub member_found : {A : Type 0} (es : List (Entry A)) (i : ℕ) (e : Entry A) → i < length es → e ≡ get_or es i e → slice_get (map (λ (m : Name × Found). m.1) (members_in [] (flatten standing es))) i ≡ Some (node_found e.node)
member_found es i e below is =
    ap (λ ms. slice_get (map (λ (m : Name × Found). m.1) ms) i) (members_here es)
    ∙ slice_get-map (λ (m : Name × Found). m.1) (map (λ e. (e.name.items, node_found e.node)) es) i
    ∙ ap (option_map (λ (m : Name × Found). m.1)) (slice_get-map (λ e. (e.name.items, node_found e.node)) es i)
    ∙ ap (λ o. option_map (λ (m : Name × Found). m.1) (option_map (λ e. (e.name.items, node_found e.node)) o)) (slice_get_read es (length es) i e refl below is)

pub member_at : {A : Type 0} (es : List (Entry A)) (i : ℕ) (e : Entry A) → i < length es → e ≡ get_or es i e → slice_get (members_in [] (flatten standing es)) i ≡ Some (e.name.items, node_found e.node)
member_at es i e below is =
    ap (λ ms. slice_get ms i) (members_here es)
    ∙ slice_get-map (λ e. (e.name.items, node_found e.node)) es i
    ∙ ap (option_map (λ e. (e.name.items, node_found e.node))) (slice_get_read es (length es) i e refl below is)

-- beyond an object there is nothing
pub members_object : (id : ℕ) (p : Path) → members_in p (([], FoundObject id) ∷ []) ≡ []
members_object id [] = refl
members_object id (n ∷ p) = refl

module _ {A : Type 0} (id : ℕ) (es : List (Entry A)) (i : ℕ) (n : Name) (p : Path) where
  pub members_at : (e : Entry A) → IsAt es i e n → members_in (n ∷ p) (([], FoundDirectory id) ∷ flatten standing es) ≡ members_in p (standing e.node)
  members_at e at =
      ap (λ l. members_in (n ∷ p) (flatten standing l)) at.split
      ∙ ap (λ m. members_in (m ∷ p) (flatten standing (take i es ++ e ∷ drop (suc i) es))) (sym at.name)
      ∙ members_between standing (take i es) (drop (suc i) es) e p (subst (λ m. AllBelow m (take i es)) (sym at.name) at.below) (subst (λ m. AllAbove m (drop (suc i) es)) (sym at.name) at.above)

  pub members_absent : IsGapFor es n i → members_in (n ∷ p) (([], FoundDirectory id) ∷ flatten standing es) ≡ []
  members_absent gap =
      ap (λ l. members_in (n ∷ p) (flatten standing l)) (sym (take-append-drop i es))
      ∙ ap (members_in (n ∷ p)) (flatten-append standing (take i es) (drop i es))
      ∙ filter_map-append (member (n ∷ p)) (flatten standing (take i es)) (flatten standing (drop i es))
      ∙ (λ j. members_apart standing n p (take i es) (apart_below n (take i es) gap.below) j ++ members_apart standing n p (drop i es) (apart_above n (drop i es) gap.above) j)
