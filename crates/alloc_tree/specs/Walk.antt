-- Lists of names and of paths.
use Rattle.std.specs.Prelude.{◌≡◌, ℕ, List, [], ◌∷◌, ◌++◌, map, Vec, Some, Err}
use Rattle.pps_types.specs.declared.found.Found.{Found}
use Rattle.pps_types.specs.declared.refusal.Refusal.{Refusal}
use Rattle.pps_types.specs.Names.{Name, Path, place, members_in}
use Rattle.alloc_tree.specs.Path.{at}
use Rattle.alloc_tree.specs.Refused.{list_refused}

-- the names that vectors hold
abbrev pub names : {A : Type 0} → List (Vec ℕ A) → Path
names vs = map (λ v. v.items) vs

-- each path, beyond another
abbrev pub beyond_path : {X : Type 0} → Path → List (Path × X) → List (Path × X)
beyond_path p es = map (λ e. (p ++ e.0, e.1)) es

-- the path leads to a directory: what stands below that stands here beyond the path
pub record LeadsTo (here : List (Path × Found)) (path : Path) (there : List (Path × Found)) : Type 0 where
  pub place : (q : Path) → place (at here) (path ++ q) ≡ place (at there) q
  pub members : (q : Path) → members_in (path ++ q) here ≡ members_in q there

-- the path leads to no directory, for this reason
pub record LeadsNowhere (here : List (Path × Found)) (path : Path) (why : Refusal) : Type 0 where
  pub refused : (q : Path) → list_refused here (path ++ q) ≡ Some why
  pub place : (n : Name) (q : Path) → place (at here) (path ++ n ∷ q) ≡ Err why
  pub members : (q : Path) → members_in (path ++ q) here ≡ []
