-- One level of a tree: what a new path meets beyond its first name.
use Rattle.std.proofs.Common.{◌≡◌, ℕ, suc, ◌<◌, nat_eq, nat_le, Bool, true, false, ◌⊎◌, inl, inr, List, [], ◌∷◌, ◌++◌, length, set, take, drop, Some, None, Option, Result, Ok, Err, ◌≢◌, map, count_by, is_some, cond, ◌+◌, if◌then◌else◌, refl, ap, sym, subst, ◌∙◌, arith}
use Rattle.std.specs.Option.{option_or}
use Rattle.std.proofs.lemmas.List.{take-set, drop-set-lt, set_split, length-set}
use Rattle.std.proofs.lemmas.List.Sums.{sum_by-cons}
use Rattle.pps_types.specs.Bytes.{◌>>=◌}
use Rattle.pps_types.specs.declared.found.Found.{Found}
use Rattle.pps_types.specs.declared.found.Found.TheVariants.{Object}
use Rattle.pps_types.specs.declared.refusal.Refusal.{Refusal}
use Rattle.pps_types.specs.declared.refusal.Refusal.TheVariants.{OutOfMemory, NotFound, NotDirectory, Exists, TableFull}
use Rattle.pps_types.specs.Names.{Name, Path, place, new_refusal, refusal_of, refused_if, last_name, parent}
use Rattle.alloc_tree.specs.Path.{at, room_for}
use Rattle.alloc_tree.specs.Refused.{is_of, count_in, new_refused}
use Rattle.alloc_tree.specs.Contents.{whole, Contents}
use Rattle.alloc_tree.specs.View.{under, flatten, standing, room, made_of, node_found}
use Rattle.alloc_tree.specs.Entries.{AllBelow, AllAbove, IsGapFor, IsPlaceOf, NamesRise}
use Rattle.alloc_tree.specs.declared.kind.NodeKind.{NodeKind}
use Rattle.alloc_tree.specs.declared.directory.Entry.{Entry}
use Rattle.alloc_tree.specs.declared.directory.Node.{Node}
use Rattle.alloc_tree.specs.declared.directory.Node.TheVariants.{Object as ObjectNode, Directory as DirectoryNode}
use Rattle.alloc_tree.proofs.Flatten.{flatten-append}
use Rattle.alloc_tree.proofs.Places.{IsAt, some_place}
use Rattle.alloc_tree.proofs.Levels.{at_entry, place_entry, place_gap, no_names}
use Rattle.alloc_tree.proofs.Members.{members_at, members_absent, members_object, members_here}
use Rattle.alloc_tree.proofs.Ordered.{root_found}

some_none : {r : Refusal} → Some r ≡ None → ⊥
some_none e = cc

bool_cases : (b : Bool) → (b ≡ true) ⊎ (b ≡ false)
bool_cases true = inl refl
bool_cases false = inr refl

-- the refusal of a new name, by what stands there
abbrev pub taken : Result (Option Found) Refusal → Option Refusal
taken r = refusal_of (r >>= (λ found. if is_some found then Err Exists else Ok found))

abbrev pub too_many : ℕ → Option Refusal
too_many n = refused_if (nat_le 256 n) TableFull

taken_standing : {A : Type 0} (node : Node A) → taken (place (at (standing node)) []) ≡ Some Exists
unfolding whole
taken_standing (ObjectNode id) = refl
taken_standing (DirectoryNode d) = refl

count_by-map : {X Y : Type 0} (p : Y → Bool) (f : X → Y) (xs : List X) → count_by p (map f xs) ≡ count_by (λ x. p (f x)) xs
count_by-map p f [] = refl
count_by-map p f (x ∷ xs) = sum_by-cons (λ y. cond (p y) 1 0) (f x) (map f xs) ∙ ap (λ k. cond (p (f x)) 1 0 + k) (count_by-map p f xs) ∙ sym (sum_by-cons (λ y. cond (p (f y)) 1 0) x xs)

-- the members of a directory of one kind are its entries of that kind
pub counted : {A : Type 0} (kind : NodeKind) (id : ℕ) (es : List (Entry A)) → count_in kind (made_of id es) [] ≡ count_by (λ e. is_of kind (node_found e.node)) es
counted {A = A} kind id es =
    ap (count_by (λ (m : Name × Found). is_of kind m.1)) (members_here es)
    ∙ count_by-map (λ (m : Name × Found). is_of kind m.1) (λ (e : Entry A). (e.name.items, node_found e.node)) es

pub full_here : (b : Bool) → b ≡ true → refused_if b TableFull ≡ Some TableFull
full_here b h = ap (λ c. refused_if c TableFull) h

pub room_here : (b : Bool) → b ≡ false → refused_if b TableFull ≡ None
room_here b h = ap (λ c. refused_if c TableFull) h

module _ {A : Type 0} (id : ℕ) (es : List (Entry A)) (i : ℕ) (n : Name) where
  new_entry : (e : Entry A) (p : Path) → IsAt es i e n → new_refusal (at (made_of id es)) (n ∷ p) ≡ new_refusal (at (standing e.node)) p
  new_entry e p here = ap taken (place_entry id es i n p e here)

  taken_here : (e : Entry A) → IsAt es i e n → new_refusal (at (made_of id es)) (n ∷ []) ≡ Some Exists
  taken_here e here = new_entry e [] here ∙ taken_standing e.node

  free_gap : IsGapFor es n i → new_refusal (at (made_of id es)) (n ∷ []) ≡ None
  free_gap gap = ap taken (place_gap id es i n [] gap)

  absent_gap : (p : Path) → IsGapFor es n i → nat_eq (length p) 0 ≡ false → new_refusal (at (made_of id es)) (n ∷ p) ≡ Some NotFound
  absent_gap [] gap h = cc
  absent_gap (m ∷ p) gap h = ap taken (place_gap id es i n (m ∷ p) gap)

  pub room_at : (k : ℕ) (e : Entry A) (p : Path) → IsAt es i e n → nat_eq (length p) 0 ≡ false
      → room_for (at (([], k) ∷ flatten room es)) (n ∷ p) ≡ room_for (at (room e.node)) p
  room_at k e [] here h = cc
  room_at k e (m ∷ p) here h = ap (λ g. room_for g (m ∷ p)) (λ j q. at_entry room es i e n q here j)

  -- how many there are of a kind
  pub count_entry : (kind : NodeKind) (e : Entry A) (p : Path) → IsAt es i e n → count_in kind (made_of id es) (n ∷ p) ≡ count_in kind (standing e.node) p
  count_entry kind e p here = ap (count_by (λ (m : Name × Found). is_of kind m.1)) (members_at id es i n p e here)

  pub count_gap : (kind : NodeKind) (p : Path) → IsGapFor es n i → count_in kind (made_of id es) (n ∷ p) ≡ 0
  count_gap kind p gap = ap (count_by (λ (m : Name × Found). is_of kind m.1)) (members_absent id es i n p gap)

  -- what refuses a name of a kind
  pub refused_entry : (kind : NodeKind) (e : Entry A) (p : Path) → IsAt es i e n → nat_eq (length p) 0 ≡ false → new_refused kind (made_of id es) (n ∷ p) ≡ new_refused kind (standing e.node) p
  refused_entry kind e [] here h = cc
  refused_entry kind e (m ∷ p) here h = λ j. option_or (new_entry e (m ∷ p) here j) (too_many (count_by (λ x. is_of kind x.1) (members_at id es i n (parent (m ∷ p)) e here j)))

  pub refused_taken : (kind : NodeKind) → NamesRise es → IsPlaceOf es n i → new_refused kind (made_of id es) (n ∷ []) ≡ Some Exists
  refused_taken kind rising here = let p = some_place es i n rising here in ap (λ o. option_or o (too_many (count_in kind (made_of id es) []))) (taken_here p.0 p.1)

  pub refused_absent : (kind : NodeKind) (p : Path) → IsGapFor es n i → nat_eq (length p) 0 ≡ false → new_refused kind (made_of id es) (n ∷ p) ≡ Some NotFound
  refused_absent kind p gap h = ap (λ o. option_or o (too_many (count_in kind (made_of id es) (parent (n ∷ p))))) (absent_gap p gap h)

  pub refused_gap : (kind : NodeKind) → IsGapFor es n i → new_refused kind (made_of id es) (n ∷ []) ≡ too_many (count_by (λ e. is_of kind (node_found e.node)) es)
  refused_gap kind gap = ap (λ o. option_or o (too_many (count_in kind (made_of id es) []))) (free_gap gap) ∙ ap too_many (counted kind id es)

pub count_object : (kind : NodeKind) (o : ℕ) (p : Path) → count_in kind (([], Object o) ∷ []) p ≡ 0
count_object kind o p = ap (count_by (λ (m : Name × Found). is_of kind m.1)) (members_object o p)

pub refused_object : (kind : NodeKind) (o : ℕ) (p : Path) → nat_eq (length p) 0 ≡ false → new_refused kind (([], Object o) ∷ []) p ≡ Some NotDirectory
refused_object kind o [] h = cc
refused_object kind o (m ∷ p) h = refl

pub refused_root : (kind : NodeKind) (c : Contents) → new_refused kind (whole c) [] ≡ Some Exists
refused_root kind c = ap (λ o. option_or (taken (Ok o)) (too_many (count_in kind (whole c) []))) (root_found c)

pub last_of : (n : Name) (p : Path) → nat_eq (length p) 0 ≡ false → last_name (n ∷ p) ≡ last_name p
last_of n [] h = cc
last_of n (m ∷ p) h = refl

-- the entry stands there after it is written
pub at_set : {A : Type 0} (es : List (Entry A)) (i : ℕ) (e f : Entry A) (n : Name) → IsAt es i e n → f.name.items ≡ n → IsAt (set es i f) i f n
at_set es i e f n here is =
    let before : take i (set es i f) ≡ take i es = take-set es i f in
    let after : drop (suc i) (set es i f) ≡ drop (suc i) es = drop-set-lt (suc i) es i f (omega arith) in
    record {
      in_range = subst (λ k. i < k) (sym (length-set es i f)) here.in_range;
      split = set_split es i f here.in_range ∙ (λ j. sym before j ++ f ∷ sym after j);
      name = is;
      below = subst (AllBelow n) (sym before) here.below;
      above = subst (AllAbove n) (sym after) here.above;
    }

pub flatten_set_same : {A X : Type 0} (own : Node A → List (Path × X)) (es : List (Entry A)) (i : ℕ) (e : Entry A) (n : Name) (node : Node A) → IsAt es i e n → own node ≡ own e.node
    → flatten own (set es i record { name = e.name; node = node }) ≡ flatten own es
flatten_set_same {A = A} own es i e n node here same =
    ap (flatten own) (set_split es i record { name = e.name; node = node } here.in_range)
    ∙ flatten-append own (take i es) (record { name = e.name; node = node } ∷ drop (suc i) es)
    ∙ ap (λ u. flatten own (take i es) ++ (under e.name.items u ++ flatten own (drop (suc i) es))) same
    ∙ sym (flatten-append own (take i es) (e ∷ drop (suc i) es))
    ∙ ap (flatten own) (sym here.split)

module _ {A : Type 0} (id : ℕ) (es : List (Entry A)) (i : ℕ) (n : Name) (p : Path) (free : new_refusal (at (made_of id es)) (n ∷ p) ≡ None) where
  -- a free path ends where its name is absent
  pub ends_at_gap : IsGapFor es n i → nat_eq (length p) 0 ≡ true
  ends_at_gap gap = elim (bool_cases (nat_eq (length p) 0)) [
    | inl y ↦ y
    | inr z ↦ absurd (some_none (sym (absent_gap id es i n p gap z) ∙ free))
  ]

  -- and goes on where its name stands
  pub goes_on : (e : Entry A) → IsAt es i e n → nat_eq (length p) 0 ≡ false
  goes_on e here = elim (bool_cases (nat_eq (length p) 0)) [
    | inl y ↦ absurd (some_none (sym (subst (λ q. new_refusal (at (made_of id es)) (n ∷ q) ≡ Some Exists) (sym (no_names p y)) (taken_here id es i n e here)) ∙ free))
    | inr z ↦ z
  ]

  -- beyond which there is a directory
  pub free_below : (e : Entry A) → IsAt es i e n → new_refusal (at (standing e.node)) p ≡ None
  free_below e here = sym (new_entry id es i n e p here) ∙ free

  pub no_object_there : (e : Entry A) (o : ℕ) → IsAt es i e n → e.node ≡ ObjectNode o → ⊥
  no_object_there e o here is = beyond o p (goes_on e here) (sym (ap (λ (m : Node A). new_refusal (at (standing m)) p) is) ∙ free_below e here)
    where
      beyond : (o : ℕ) (p : Path) → nat_eq (length p) 0 ≡ false → new_refusal (at (([], Object o) ∷ [])) p ≡ None → ⊥
      beyond o [] h = cc
      beyond o (m ∷ p) h = λ k. some_none k

last_of_split : (p : Path) (n : Name) → last_name (p ++ n ∷ []) ≡ n
last_of_split [] n = refl
last_of_split (m ∷ []) n = refl
last_of_split (m ∷ k ∷ p) n = last_of_split (k ∷ p) n

pub none_no_memory : {r : Refusal} → None ≡ Some r → ⊥
none_no_memory e = cc

-- a refusal that is handed on
pub handed_on : {X : Type 0} (r : Result X Refusal) (e : Refusal) (o : Option Refusal) → r ≡ Err e → (Some e ≢ Some OutOfMemory → Some e ≡ o) → refusal_of r ≢ Some OutOfMemory → refusal_of r ≡ o
handed_on r e o is h = subst (λ s. refusal_of s ≢ Some OutOfMemory → refusal_of s ≡ o) (sym is) h
