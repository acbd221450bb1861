-- What a walk has come by so far.
use Rattle.std.proofs.Common.{◌≡◌, ℕ, ◌+◌, ◌<◌, List, [], ◌∷◌, ◌++◌, length, get_or, take, refl, ap, sym, ◌∙◌, append_assoc, append-nil}
use Rattle.std.proofs.lemmas.List.{map-append}
use Rattle.pps_types.specs.Names.{Name, Path}
use Rattle.alloc_tree.specs.Walk.{beyond_path}
use Rattle.alloc_tree.specs.View.{under, flatten}
use Rattle.alloc_tree.specs.declared.directory.Entry.{Entry}
use Rattle.alloc_tree.specs.declared.directory.Node.{Node}
use Rattle.alloc_tree.proofs.Flatten.{flatten-append}
use Rattle.alloc_tree.proofs.Steps.{take_one_more}

beyond_under : {X : Type 0} (p : Path) (n : Name) (es : List (Path × X)) → beyond_path (p ++ n ∷ []) es ≡ beyond_path p (under n es)
beyond_under p n [] = refl
beyond_under p n (e ∷ es) = λ i. (append_assoc p (n ∷ []) e.0 i, e.1) ∷ beyond_under p n es i

pub beyond_all : {X : Type 0} (es : List (Path × X)) → beyond_path [] es ≡ es
beyond_all [] = refl
beyond_all (e ∷ es) = ap (λ l. e ∷ l) (beyond_all es)

module _ {A X : Type 0} (own : Node A → List (Path × X)) (es : List (Entry A)) (i : ℕ) (e : Entry A) (in_range : i < length es) (read : e ≡ get_or es i e) where
  pub flatten_one_more : flatten own (take (i + 1) es) ≡ flatten own (take i es) ++ under e.name.items (own e.node)
  flatten_one_more = ap (flatten own) (take_one_more es i e in_range read) ∙ flatten-append own (take i es) (e ∷ []) ∙ ap (λ l. flatten own (take i es) ++ l) (append-nil (under e.name.items (own e.node)))

  pub walked_more : (p : Path) (first so_far now : List (Path × X)) → now ≡ so_far ++ beyond_path (p ++ e.name.items ∷ []) (own e.node) → so_far ≡ first ++ beyond_path p (flatten own (take i es))
      → now ≡ first ++ beyond_path p (flatten own (take (i + 1) es))
  walked_more p first so_far now step before =
      step ∙ (λ j. before j ++ beyond_under p e.name.items (own e.node) j)
      ∙ append_assoc first (beyond_path p (flatten own (take i es))) (beyond_path p (under e.name.items (own e.node)))
      ∙ ap (λ l. first ++ l) (sym (map-append (λ x. (p ++ x.0, x.1)) (flatten own (take i es)) (under e.name.items (own e.node))) ∙ ap (beyond_path p) (sym flatten_one_more))
