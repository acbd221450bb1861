-- What stands at the end of a path, and above it.
use Rattle.std.specs.Prelude.{◌≡◌, ℕ, List, [], ◌∷◌, Option, Some, None, Result, Ok, Err, find, option_map, ok_or, unwrap_or}
use Rattle.std.specs.Option.{option_or}
use Rattle.std.proofs.Common.{refl, sym, ◌∙◌, ap, eqb, eqb-true}
use Rattle.std.specs.Cmp.Lexicographic.{same_text}
use Rattle.pps_types.specs.declared.found.Found.{Found}
use Rattle.pps_types.specs.declared.found.Found.TheVariants.{Object as FoundObject, Directory as FoundDirectory}
use Rattle.pps_types.specs.declared.refusal.Refusal.{Refusal}
use Rattle.pps_types.specs.declared.refusal.Refusal.TheVariants.{NotFound}
use Rattle.pps_types.specs.Bytes.{same, ◌>>=◌}
use Rattle.pps_types.specs.Names.{Path, parent, last_name, place, find_at, beyond}
use Rattle.pps_types.specs.Content.{Content, Directory, LiveObject, at, directory_at, object_at, object_numbered, parent_number}
use Rattle.pps_types.specs.WellFormed.{IsContent}
use Rattle.service_laws.proofs.Fits.{order-in}
use Rattle.service_laws.proofs.Finds.{and-both, find-true}
use Rattle.service_laws.proofs.Passes.{place-at, object-found}
use Rattle.service_laws.proofs.Serving.{at-own}
use Rattle.service_laws.proofs.Trees.{of_name}

-- ---- what stands at a path

found_either : Option Directory → Option LiveObject → Option Found
found_either d o = option_or (option_map (λ (d : Directory). FoundDirectory d.number) d) (option_map (λ (o : LiveObject). FoundObject o.object.number) o)

pub directory_there : (c : Content) (path : Path) (n : ℕ) → at c path ≡ Some (FoundDirectory n) → option_map (λ (d : Directory). d.number) (directory_at c path) ≡ Some n
directory_there c path n e = by (directory_at c path) (object_at c path) e
  where
    by : (d : Option Directory) (o : Option LiveObject) → option_or (option_map (λ (d : Directory). FoundDirectory d.number) d) (option_map (λ (o : LiveObject). FoundObject o.object.number) o) ≡ Some (FoundDirectory n) → option_map (λ (d : Directory). d.number) d ≡ Some n
    by (Some d) o e = let is : d.number ≡ n = cc in ap Some is
    by None (Some o) e = absurd (let no = e in cc)
    by None None e = absurd (let no = e in cc)

object_there : (c : Content) (path : Path) (n : ℕ) → at c path ≡ Some (FoundObject n) → (o : LiveObject) × (object_at c path ≡ Some o) × (o.object.number ≡ n)
object_there c path n e = by (directory_at c path) (object_at c path) refl e
  where
    by : (d : Option Directory) (o : Option LiveObject) → object_at c path ≡ o → option_or (option_map (λ (d : Directory). FoundDirectory d.number) d) (option_map (λ (o : LiveObject). FoundObject o.object.number) o) ≡ Some (FoundObject n) → (o : LiveObject) × (object_at c path ≡ Some o) × (o.object.number ≡ n)
    by (Some d) o f e = absurd (let no = e in cc)
    by None None f e = absurd (let no = e in cc)
    by None (Some o) f e = (o, f, (let is : o.object.number ≡ n = cc in is))

pub nothing_there : (c : Content) (path : Path) → at c path ≡ None → object_at c path ≡ None
nothing_there c path e = by (directory_at c path) (object_at c path) e
  where
    by : (d : Option Directory) (o : Option LiveObject) → option_or (option_map (λ (d : Directory). FoundDirectory d.number) d) (option_map (λ (o : LiveObject). FoundObject o.object.number) o) ≡ None → o ≡ None
    by (Some d) o e = absurd (let no = e in cc)
    by None None e = refl
    by None (Some o) e = absurd (let no = e in cc)

-- an object that stands at a path: in the directory above, under the path's last name, and found by its number
pub record IsAlive (c : Content) (path : Path) (n : ℕ) : Type 0 where
  pub o : LiveObject
  pub here : object_at c path ≡ Some o
  pub numbered : object_numbered c n ≡ Some o
  pub directory : unwrap_or (parent_number c path) 0 ≡ o.object.directory
  pub name : last_name path ≡ o.object.name
  pub number : o.object.number ≡ n
  pub k : ℕ
  pub among : find (of_name (last_name path) k) c.objects ≡ Some o

pub alive : (c : Content) → IsContent c → (path : Path) (n : ℕ) → place (at c) path ≡ Ok (Some (FoundObject n)) → IsAlive c path n
alive c is path n e =
    let there = object_there c path n (place-at (at c) path (Some (FoundObject n)) e) in
    let found = object-found c path there.0 there.1 in
    let both = and-both (eqb there.0.object.directory found.0) (same there.0.object.name (last_name path)) (find-true (of_name (last_name path) found.0) c.objects there.0 found.2) in
    record {
      o = there.0;
      here = there.1;
      numbered = ap (object_numbered c) (sym there.2) ∙ at-own c (order-in c is.order) path there.0 there.1;
      directory = ap (λ (o : Option ℕ). unwrap_or o 0) found.1 ∙ sym (eqb-true there.0.object.directory found.0 both.0);
      name = sym (same_text there.0.object.name (last_name path) (sym both.1));
      number = there.2;
      k = found.0;
      among = found.2;
    }

-- ---- what stands above a free place

parent_found : (at : Path → Option Found) (n : List ℕ) (ns : Path) (found : Option Found) → place at (n ∷ ns) ≡ Ok found → (d : ℕ) × (find_at at (parent (n ∷ ns)) ≡ Ok (FoundDirectory d))
parent_found at n [] found e = by (at []) e
  where
    by : (o : Option Found) → beyond o (Ok (at (n ∷ []))) ≡ Ok found → (d : ℕ) × (ok_or o NotFound ≡ Ok (FoundDirectory d))
    by None e = absurd (let no = e in cc)
    by (Some (FoundObject m)) e = absurd (let no = e in cc)
    by (Some (FoundDirectory m)) e = (m, refl)
parent_found at n (m ∷ ms) found e = by (at []) e (parent_found (λ p. at (n ∷ p)) m ms found)
  where
    by : (o : Option Found) → beyond o (place (λ p. at (n ∷ p)) (m ∷ ms)) ≡ Ok found → (place (λ p. at (n ∷ p)) (m ∷ ms) ≡ Ok found → (d : ℕ) × (find_at (λ p. at (n ∷ p)) (parent (m ∷ ms)) ≡ Ok (FoundDirectory d)))
        → (d : ℕ) × ((beyond o (place (λ p. at (n ∷ p)) (parent (m ∷ ms))) >>= (λ found. ok_or found NotFound)) ≡ Ok (FoundDirectory d))
    by None e rest = absurd (let no = e in cc)
    by (Some (FoundObject k)) e rest = absurd (let no = e in cc)
    by (Some (FoundDirectory k)) e rest = rest e

root_there : (c : Content) → IsContent c → (at c [] ≡ None → ⊥)
root_there c is none = let no : Some (FoundDirectory 0) ≡ None = sym (ap (λ (d : Option Directory). option_or (option_map (λ (d : Directory). FoundDirectory d.number) d) (option_map (λ (o : LiveObject). FoundObject o.object.number) (object_at c []))) is.tree.root) ∙ none in cc

pub above_free : (c : Content) → IsContent c → (path : Path) → place (at c) path ≡ Ok None → (d : ℕ) × (find_at (at c) (parent path) ≡ Ok (FoundDirectory d))
above_free c is [] e = absurd (root_there c is (place-at (at c) [] None e))
above_free c is (n ∷ ns) e = parent_found (at c) n ns None e

-- the directory that is found above a path is the one that the path's directory number tells
pub above_number : (c : Content) (path : Path) (n : ℕ) → find_at (at c) (parent path) ≡ Ok (FoundDirectory n) → unwrap_or (parent_number c path) 0 ≡ n
above_number c path n e = ap (λ (o : Option ℕ). unwrap_or o 0) (directory_there c (parent path) n (found_is (place (at c) (parent path)) refl e))
  where
    found_is : (r : Result (Option Found) Refusal) → place (at c) (parent path) ≡ r → (r >>= (λ found. ok_or found NotFound)) ≡ Ok (FoundDirectory n) → at c (parent path) ≡ Some (FoundDirectory n)
    found_is (Err r) f e = absurd (let no = e in cc)
    found_is (Ok None) f e = absurd (let no = e in cc)
    found_is (Ok (Some x)) f e = place-at (at c) (parent path) (Some x) f ∙ (let is : x ≡ FoundDirectory n = cc in ap Some is)
