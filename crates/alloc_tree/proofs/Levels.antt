-- One level of a tree: what a path leads to beyond its first name.
use Rattle.std.proofs.Common.{◌≡◌, ℕ, nat_eq, true, false, length, suc, List, [], ◌∷◌, ◌++◌, take, drop, None, Option, Result, Err, Ok, ok_or, refl, ap, sym, subst, ◌∙◌, arith}
use Rattle.std.proofs.lemmas.List.{take-append-drop}
use Rattle.std.proofs.lemmas.Bool.{eqb-true}
use Rattle.std.specs.FinMap.{find}
use Rattle.pps_types.specs.Bytes.{◌>>=◌}
use Rattle.pps_types.specs.declared.found.Found.{Found}
use Rattle.pps_types.specs.declared.found.Found.TheVariants.{Object}
use Rattle.pps_types.specs.declared.refusal.Refusal.{Refusal}
use Rattle.pps_types.specs.declared.refusal.Refusal.TheVariants.{NotFound, NotDirectory}
use Rattle.pps_types.specs.Names.{Name, Path, path_cmp, place, find_at}
use Rattle.alloc_tree.specs.Path.{at}
use Rattle.alloc_tree.specs.View.{flatten, standing, made_of}
use Rattle.alloc_tree.specs.Entries.{AllBelow, AllAbove, IsGapFor}
use Rattle.alloc_tree.specs.declared.directory.Entry.{Entry}
use Rattle.alloc_tree.specs.declared.directory.Node.{Node}
use Rattle.alloc_tree.proofs.Flatten.{find_between, find_gap}
use Rattle.alloc_tree.proofs.Places.{IsAt}

module _ {A X : Type 0} (own : Node A → List (Path × X)) where
  pub at_entry : (es : List (Entry A)) (i : ℕ) (e : Entry A) (n : Name) (q : Path) → IsAt es i e n → find path_cmp (n ∷ q) (flatten own es) ≡ find path_cmp q (own e.node)
  at_entry es i e n q here =
      ap (λ l. find path_cmp (n ∷ q) (flatten own l)) here.split
      ∙ ap (λ m. find path_cmp (m ∷ q) (flatten own (take i es ++ e ∷ drop (suc i) es))) (sym here.name)
      ∙ find_between own (take i es) (drop (suc i) es) e q (subst (λ m. AllBelow m (take i es)) (sym here.name) here.below) (subst (λ m. AllAbove m (drop (suc i) es)) (sym here.name) here.above)

  pub at_gap : (es : List (Entry A)) (i : ℕ) (n : Name) (q : Path) → IsGapFor es n i → find path_cmp (n ∷ q) (flatten own es) ≡ None
  at_gap es i n q gap =
      ap (λ l. find path_cmp (n ∷ q) (flatten own l)) (sym (take-append-drop i es))
      ∙ find_gap own (take i es) (drop i es) n q gap.below gap.above

abbrev pub found_there : Result (Option Found) Refusal → Result Found Refusal
found_there r = r >>= (λ found. ok_or found NotFound)

module _ {A : Type 0} (id : ℕ) (es : List (Entry A)) (i : ℕ) (n : Name) (p : Path) where
  pub place_entry : (e : Entry A) → IsAt es i e n → place (at (made_of id es)) (n ∷ p) ≡ place (at (standing e.node)) p
  place_entry e here = ap (λ g. place g p) (λ j q. at_entry standing es i e n q here j)

  pub place_gap : IsGapFor es n i → place (at (made_of id es)) (n ∷ p) ≡ place (λ q. None) p
  place_gap gap = ap (λ g. place g p) (λ j q. at_gap standing es i n q gap j)

  pub find_entry : (e : Entry A) → IsAt es i e n → find_at (at (made_of id es)) (n ∷ p) ≡ find_at (at (standing e.node)) p
  find_entry e here = ap found_there (place_entry e here)

  pub find_absent : IsGapFor es n i → find_at (at (made_of id es)) (n ∷ p) ≡ Err NotFound
  find_absent gap = ap found_there (place_gap gap) ∙ nothing p
    where
      nothing : (p : Path) → found_there (place (λ q. None) p) ≡ Err NotFound
      nothing [] = refl
      nothing (m ∷ p) = refl

pub no_names : {X : Type 0} (p : List X) → nat_eq (length p) 0 ≡ true → p ≡ []
no_names [] h = refl
no_names (n ∷ p) h = absurd (omega (arith, eqb-true (length (n ∷ p)) 0 h))

pub no_length : {X : Type 0} (p : List X) → length p ≡ 0 → p ≡ []
no_length [] h = refl
no_length (n ∷ p) h = absurd (omega (arith, h))

-- beyond an object no path leads on
pub find_beyond_object : (o : ℕ) (p : Path) → nat_eq (length p) 0 ≡ false → find_at (at (([], Object o) ∷ [])) p ≡ Err NotDirectory
find_beyond_object o [] h = cc
find_beyond_object o (n ∷ p) h = refl

pub find_object : (o : ℕ) (p : Path) → nat_eq (length p) 0 ≡ true → find_at (at (([], Object o) ∷ [])) p ≡ Ok (Object o)
find_object o p h = ap (find_at (at (([], Object o) ∷ []))) (no_names p h)

-- a word of entries and a path, at those that they are
pub word_at : {X Y : Type 0} (word : List (Path × X) → Path → Y) {v w : List (Path × X)} {p r : Path} {y : Y} → v ≡ w → p ≡ r → y ≡ word w r → y ≡ word v p
word_at word e f h = h ∙ sym (λ i. word (e i) (f i))
