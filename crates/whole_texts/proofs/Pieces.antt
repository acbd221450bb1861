-- Everything, as what stands before the members and their parts.
use Rattle.std.proofs.Common.{◌≡◌, ℕ, Bool, true, false, Option, List, [], ◌∷◌, ◌++◌, map, refl, sym}
use Rattle.std.specs.List.{concat}
use Rattle.pps_types.specs.declared.handle_kind.HandleKind.{HandleKind}
use Rattle.pps_types.specs.declared.handle_kind.HandleKind.TheVariants.{Object as ObjectHandle, Directory as DirectoryHandle, Names as NamesHandle, Server as ServerHandle, Client as ClientHandle}
use Rattle.pps_types.specs.Filter.{Part}
use Rattle.pps_types.specs.Reading.{Member, everything_of}
use Rattle.whole_texts.specs.Whole.{Source, everything, print_opening, print_all}

none : (members : List Member) → concat (map {B = List ℕ} (λ m. []) members) ≡ []
none [] = refl
none (m ∷ ms) = none ms

of_kind : (kind : HandleKind) (parts : Option (List Part)) (over alive : Bool) (members : List Member) → everything_of kind parts over alive members ≡ print_opening kind over ++ print_all kind parts over alive members
of_kind (ObjectHandle delta) parts over true members = refl
of_kind (ObjectHandle delta) parts over false members = refl
of_kind (DirectoryHandle delta) parts over alive members = refl
of_kind NamesHandle parts over alive members = refl
of_kind ServerHandle parts over alive members = sym (none members)
of_kind ClientHandle parts over alive members = sym (none members)

pub everything_is : (w : Source) → everything w ≡ print_opening w.kind w.over ++ print_all w.kind w.parts w.over w.alive w.members
everything_is w = of_kind w.kind w.parts w.over w.alive w.members
