-- The orders of names and paths.
use Rattle.std.proofs.Common.{◌≡◌, false, refl, ap, ◌∙◌}
use Rattle.std.specs.declared.cmp.Ordering.{Ordering}
use Rattle.std.specs.declared.cmp.Ordering.TheVariants.{Less, Equal, Greater}
use Rattle.std.specs.Ordering.{is_eq, ordering_then, ordering_reverse}
use Rattle.std.specs.Cmp.{IsTotalOrder}
use Rattle.std.specs.FinMap.{IsAntisymmetric, nat_cmp-IsAntisymmetric, slice_cmp-IsAntisymmetric}
use Rattle.std.proofs.lemmas.Cmp.{nat_list_cmp_total, lists_total}
use Rattle.pps_types.specs.Names.{Name, name_cmp, path_cmp}

pub names_total : IsTotalOrder name_cmp
names_total = nat_list_cmp_total

pub paths_total : IsTotalOrder path_cmp
paths_total = lists_total nat_list_cmp_total

pub names_exact : IsAntisymmetric name_cmp
names_exact = slice_cmp-IsAntisymmetric nat_cmp-IsAntisymmetric

pub paths_exact : IsAntisymmetric path_cmp
paths_exact = slice_cmp-IsAntisymmetric names_exact

-- the names differ
abbrev pub Differ : Name → Name → Type 0
Differ n m = is_eq (name_cmp n m) ≡ false

pub differ_below : (n m : Name) → name_cmp m n ≡ Less → Differ n m
differ_below n m less = ap is_eq (names_total.antisymm n m ∙ ap ordering_reverse less)

pub differ_above : (n m : Name) → name_cmp n m ≡ Less → Differ n m
differ_above n m less = ap is_eq less

-- a path that begins with another name is another path
pub then_differ : (o r : Ordering) → is_eq o ≡ false → is_eq (ordering_then o r) ≡ false
then_differ Less r h = refl
then_differ Equal r h = cc
then_differ Greater r h = refl
