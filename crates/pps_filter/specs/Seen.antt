-- A filter as the definitions have it.
use Rattle.std.specs.Prelude.{ℕ, List, [], Bool, false, map}
use Rattle.std.specs.List.{list_any}
use Rattle.pps_types.specs.declared.line.Line.{Line}
use Rattle.pps_types.specs.declared.line.Line.TheVariants.{Set}
use Rattle.pps_types.specs.Filter as meant
use Rattle.pps_filter.specs.declared.filter.Condition.{Condition}
use Rattle.pps_filter.specs.declared.filter.Condition.TheVariants.{Always, IsValue, IsOtherValue, IsBelow, IsAbove}
use Rattle.pps_filter.specs.declared.filter.Part.{Part}

abbrev pub condition_seen : Condition → meant.Condition
condition_seen Always = meant.Always
condition_seen (IsValue wanted) = meant.IsValue wanted
condition_seen (IsOtherValue unwanted) = meant.IsOtherValue unwanted
condition_seen (IsBelow bound) = meant.IsBelow bound
condition_seen (IsAbove bound) = meant.IsAbove bound

abbrev pub part_seen : Part → meant.Part
part_seen part = record { name = part.name; condition = condition_seen part.condition }

abbrev pub parts_seen : List Part → List meant.Part
parts_seen parts = map part_seen parts

-- a line that gives an attribute this value; of the rest of it a filter asks nothing
abbrev pub line_setting : List ℕ → List ℕ → Line
line_setting name value = Set name [] value false

-- one of the parts matches the line
abbrev pub some_part_matches : Line → List Part → Bool
some_part_matches line parts = list_any (λ part. meant.part_matches line (part_seen part)) parts
