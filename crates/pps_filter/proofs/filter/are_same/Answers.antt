use Rattle.std.proofs.Common.{◌≡◌, rules, Decides}
use Rattle.std.proofs.lemmas.Slice.Eq.{slice_eq-Decides}
use Rattle.pps_filter.specs.declared.filter.Part.{Part}
use Rattle.pps_filter.specs.contracts.filter.PartPartialEq.TheImpl.{eq-value}
use Rattle.pps_filter.proofs.filter.are_same.Goals as goal

part_decides : (a b : Part) → Decides (eq-value.it a b) (a ≡ b)
part_decides a b = search rules

pub returns : goal.returns
returns c = slice_eq-Decides part_decides _ _ _ c.eq.ensures
