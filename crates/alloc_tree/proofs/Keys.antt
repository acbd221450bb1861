-- A directory by its names and what each has.
use Rattle.std.proofs.Common.{◌≡◌, ◌↔◌, IsTrue, Bool, true, false, ℕ, zero, suc, ◌<◌, length, get_or, cond, Option, Some, None, List, [], ◌∷◌, Box, ◌++◌, map, refl, ap, sym, subst, ◌∙◌, arith, append-nil}
use Rattle.std.specs.List.{filter_map}
use Rattle.std.specs.Ordering.{is_eq}
use Rattle.std.proofs.lemmas.Cmp.{tied_itself}
use Rattle.std.proofs.lemmas.List.Elements.{filter_map-append}
use Rattle.alloc_tree.proofs.Orders.{names_total, Differ, differ_above}
use Rattle.alloc_tree.specs.declared.directory.Node.{Node}
use Rattle.alloc_tree.specs.declared.directory.Node.TheVariants.{Object, Directory}
use Rattle.std.specs.declared.cmp.Ordering.TheVariants.{Less}
use Rattle.pps_types.specs.declared.found.Found.{Found}
use Rattle.pps_types.specs.declared.found.Found.TheVariants.{Object as FoundObject, Directory as FoundDirectory}
use Rattle.pps_types.specs.Names.{Name, Path, name_cmp}
use Rattle.alloc_tree.specs.Contents.{Contents, whole}
use Rattle.alloc_tree.specs.View.{under, flatten, standing, made_of}
use Rattle.alloc_tree.specs.Entries.{AllAbove, NamesRise}
use Rattle.alloc_tree.specs.declared.directory.Entry.{Entry}

-- a name, and what stands there and below
abbrev pub key : {A : Type 0} → Entry A → Name × List (Path × Found)
key e = (e.name.items, standing e.node)

abbrev pub flat : List (Name × List (Path × Found)) → List (Path × Found)
flat [] = []
flat (k ∷ ks) = under k.0 k.1 ++ flat ks

pub flat_keys : {A : Type 0} (es : List (Entry A)) → flat (map key es) ≡ flatten standing es
flat_keys [] = refl
flat_keys (e ∷ es) = ap (λ l. under e.name.items (standing e.node) ++ l) (flat_keys es)

abbrev pub AllKeysAbove : Name → List (Name × List (Path × Found)) → Type 0
AllKeysAbove n [] = Unit {0}
AllKeysAbove n (k ∷ ks) = (name_cmp n k.0 ≡ Less) × AllKeysAbove n ks

abbrev pub KeysRise : List (Name × List (Path × Found)) → Type 0
KeysRise [] = Unit {0}
KeysRise (k ∷ ks) = AllKeysAbove k.0 ks × KeysRise ks

-- ---- what the list of all that stands tells of the names

-- the list begins with what stands here
abbrev pub Starts : List (Path × Found) → Type 0
Starts [] = ⊥
Starts (([], f) ∷ es) = Unit {0}
Starts ((n ∷ p, f) ∷ es) = ⊥

abbrev pub AllStart : List (Name × List (Path × Found)) → Type 0
AllStart [] = Unit {0}
AllStart (k ∷ ks) = Starts k.1 × AllStart ks

-- the path beyond the name n, where it begins with that
abbrev pub beyond_name : Name → Path × Found → Option (Path × Found)
beyond_name n ([], f) = None
beyond_name n (m ∷ p, f) = cond (is_eq (name_cmp n m)) (Some (p, f)) None

abbrev pub own_of : Name → List (Path × Found) → List (Path × Found)
own_of n es = filter_map (beyond_name n) es

own_under : (n : Name) (es : List (Path × Found)) → own_of n (under n es) ≡ es
own_under n [] = refl
own_under n (e ∷ es) = rw (tied_itself names_total n, own_under n es)

own_other : (n m : Name) (es : List (Path × Found)) → Differ n m → own_of n (under m es) ≡ []
own_other n m [] h = refl
own_other n m (e ∷ es) h = rw (h, own_other n m es h)

own_above : (n : Name) (ks : List (Name × List (Path × Found))) → AllKeysAbove n ks → own_of n (flat ks) ≡ []
own_above n [] h = refl
own_above n (k ∷ ks) h = filter_map-append (beyond_name n) (under k.0 k.1) (flat ks) ∙ (λ i. own_other n k.0 k.1 (differ_above n k.0 h.0) i ++ own_above n ks h.1 i)

own_first : (n : Name) (own : List (Path × Found)) (ks : List (Name × List (Path × Found))) → AllKeysAbove n ks → own_of n (under n own ++ flat ks) ≡ own
own_first n own ks h = filter_map-append (beyond_name n) (under n own) (flat ks) ∙ (λ i. own_under n own i ++ own_above n ks h i) ∙ append-nil own

same_rest : {X : Type 0} (a b c : List X) → a ++ b ≡ a ++ c → b ≡ c
same_rest [] b c e = e
same_rest (x ∷ a) b c e = same_rest a b c (tail_of e)
  where
    tail_of : {X : Type 0} {x : X} {a b : List X} → x ∷ a ≡ x ∷ b → a ≡ b
    tail_of e = cc

first_same : {X : Type 0} (x y : X) (a b : List X) → x ∷ a ≡ y ∷ b → x ≡ y
first_same x y a b e = cc

first_name : (n m : Name) (f h : Found) (a b : List (Path × Found)) → (n ∷ [], f) ∷ a ≡ (m ∷ [], h) ∷ b → n ≡ m
first_name n m f h a b e = one_name (ap (λ (x : Path × Found). x.0) (first_same (n ∷ [], f) (m ∷ [], h) a b e))
  where
    one_name : {n m : Name} → n ∷ [] ≡ m ∷ [] → n ≡ m
    one_name e = cc

no_first : (n : Name) (f : Found) (a : List (Path × Found)) → (n ∷ [], f) ∷ a ≡ [] → ⊥
no_first n f a e = cc

pub flat_same : (ks ls : List (Name × List (Path × Found))) → KeysRise ks → KeysRise ls → AllStart ks → AllStart ls → flat ks ≡ flat ls → ks ≡ ls
flat_same [] [] rk rl sk sl e = refl
flat_same [] ((m, []) ∷ ls) rk rl sk sl e = absurd sl.0
flat_same [] ((m, ((k ∷ p, h) ∷ o)) ∷ ls) rk rl sk sl e = absurd sl.0
flat_same [] ((m, (([], h) ∷ o)) ∷ ls) rk rl sk sl e = absurd (no_first m h (under m o ++ flat ls) (sym e))
flat_same ((n, []) ∷ ks) ls rk rl sk sl e = absurd sk.0
flat_same ((n, ((k ∷ p, f) ∷ o)) ∷ ks) ls rk rl sk sl e = absurd sk.0
flat_same ((n, (([], f) ∷ o)) ∷ ks) [] rk rl sk sl e = absurd (no_first n f (under n o ++ flat ks) e)
flat_same ((n, (([], f) ∷ o)) ∷ ks) ((m, []) ∷ ls) rk rl sk sl e = absurd sl.0
flat_same ((n, (([], f) ∷ o)) ∷ ks) ((m, ((k ∷ p, h) ∷ q)) ∷ ls) rk rl sk sl e = absurd sl.0
flat_same ((n, (([], f) ∷ o)) ∷ ks) ((m, (([], h) ∷ q)) ∷ ls) rk rl sk sl e =
    let names_same : n ≡ m = first_name n m f h (under n o ++ flat ks) (under m q ++ flat ls) e in
    let mine : List (Path × Found) = ([], f) ∷ o in
    let others : List (Path × Found) = ([], h) ∷ q in
    let own_same : mine ≡ others =
    sym (own_first n mine ks rk.0) ∙ ap (own_of n) e ∙ ap (λ k. own_of k (under m others ++ flat ls)) names_same ∙ own_first m others ls rl.0 in
    let rest : flat ks ≡ flat ls = same_rest (under n mine) (flat ks) (flat ls) (e ∙ sym (λ i. under (names_same i) (own_same i) ++ flat ls)) in
    λ i. (names_same i, own_same i) ∷ flat_same ks ls rk.1 rl.1 sk.1 sl.1 rest i

module _ {A : Type 0} where
  above_keys : (n : Name) (es : List (Entry A)) → AllAbove n es → AllKeysAbove n (map key es)
  above_keys n [] h = tt
  above_keys n (e ∷ es) h = (h.0, above_keys n es h.1)

  above_entries : (n : Name) (es : List (Entry A)) → AllKeysAbove n (map key es) → AllAbove n es
  above_entries n [] h = tt
  above_entries n (e ∷ es) h = (h.0, above_entries n es h.1)

  pub keys_rise : (es : List (Entry A)) → NamesRise es → KeysRise (map key es)
  keys_rise [] h = tt
  keys_rise (e ∷ es) h = (above_keys e.name.items es h.0, keys_rise es h.1)

  pub entries_rise : (es : List (Entry A)) → KeysRise (map key es) → NamesRise es
  entries_rise [] h = tt
  entries_rise (e ∷ es) h = (above_entries e.name.items es h.0, entries_rise es h.1)

  pub rising_by_keys : (es fs : List (Entry A)) → map key es ≡ map key fs → NamesRise fs → NamesRise es
  rising_by_keys es fs same rising = entries_rise es (subst KeysRise (sym same) (keys_rise fs rising))

  pub made_by_keys : (id : ℕ) (es fs : List (Entry A)) → map key es ≡ map key fs → made_of id es ≡ made_of id fs
  made_by_keys id es fs same = ap (λ l. ([], FoundDirectory id) ∷ l) (sym (flat_keys es) ∙ ap flat same ∙ flat_keys fs)

starts : {A : Type 0} (n : Node A) → Starts (standing n)
unfolding whole
starts (Object id) = tt
starts (Directory d) = tt

all_start : {A : Type 0} (es : List (Entry A)) → AllStart (map key es)
all_start [] = tt
all_start (e ∷ es) = (starts e.node, all_start es)

-- directories in which the same stands have the same number, and the same names with the same below them
pub keys_same : {A : Type 0} (id k : ℕ) (es fs : List (Entry A)) → NamesRise es → NamesRise fs → made_of id es ≡ made_of k fs → map key es ≡ map key fs
keys_same id k es fs re rf e = flat_same (map key es) (map key fs) (keys_rise es re) (keys_rise fs rf) (all_start es) (all_start fs) (flat_keys es ∙ below id k (flatten standing es) (flatten standing fs) e ∙ sym (flat_keys fs))
  where
    below : (id k : ℕ) (a b : List (Path × Found)) → ([], FoundDirectory id) ∷ a ≡ ([], FoundDirectory k) ∷ b → a ≡ b
    below id k a b e = cc

pub number_same : (id k : ℕ) (a b : List (Path × Found)) → ([], FoundDirectory id) ∷ a ≡ ([], FoundDirectory k) ∷ b → id ≡ k
number_same id k a b e = one_number (ap (λ (x : Path × Found). x.1) (first_same ([], FoundDirectory id) ([], FoundDirectory k) a b e))
  where
    one_number : {id k : ℕ} → FoundDirectory id ≡ FoundDirectory k → id ≡ k
    one_number e = cc

pub key_at : {A : Type 0} (es fs : List (Entry A)) (i : ℕ) (e f : Entry A) → map key es ≡ map key fs → i < length es → e ≡ get_or es i e → f ≡ get_or fs i f → key e ≡ key f
key_at [] fs i e f same h re rf = absurd (omega (arith, h))
key_at (x ∷ es) [] i e f same h re rf = cc
key_at (x ∷ es) (y ∷ fs) zero e f same h re rf = ap key re ∙ first_same (key x) (key y) (map key es) (map key fs) same ∙ sym (ap key rf)
key_at (x ∷ es) (y ∷ fs) (suc i) e f same h re rf = key_at es fs i e f (rest_same (key x) (key y) (map key es) (map key fs) same) (omega (arith, h)) re rf
  where
    rest_same : (a b : Name × List (Path × Found)) (ks ls : List (Name × List (Path × Found))) → a ∷ ks ≡ b ∷ ls → ks ≡ ls
    rest_same a b ks ls e = cc

pub no_object_is : (A : Type 0) (d : Box Contents A) (id : ℕ) → standing {A = A} (Directory d) ≡ ([], FoundObject id) ∷ [] → ⊥
unfolding whole
no_object_is A d id e = apart (ap (λ (x : Path × Found). x.1) (first_same ([], FoundDirectory d.value.id) ([], FoundObject id) _ [] e))
  where
    apart : {n m : ℕ} → FoundDirectory n ≡ FoundObject m → ⊥
    apart e = cc

pub says_no : (P : Type 0) → (P → ⊥) → IsTrue false ↔ P
says_no P n = (λ h. absurd (no_true h), λ p. absurd (n p))
  where
    no_true : false ≡ true → ⊥
    no_true e = cc

pub refuted : {P : Type 0} (b : Bool) → b ≡ false → (IsTrue b ↔ P) → P → ⊥
refuted b is h p = apart (sym is ∙ h.1 p)
  where
    apart : false ≡ true → ⊥
    apart e = cc
