-- Which lines make attributes nonpersistent, and attributes of which none is.
use Rattle.std.specs.Prelude.{Bool, false, not, List}
use Rattle.std.specs.List.{list_all, list_any}
use Rattle.pps_types.specs.declared.line.Line.{Line}
use Rattle.pps_types.specs.declared.line.Line.TheVariants.{Set, Del}
use Rattle.pps_types.specs.History.{Attribute}

-- it makes its attribute nonpersistent
abbrev pub sets_mark : Line → Bool
sets_mark (Set name enc value n) = n
sets_mark (Del name) = false

-- one of them does
abbrev pub set_marks : List Line → Bool
set_marks lines = list_any sets_mark lines

-- no attribute is nonpersistent
abbrev pub are_unmarked : List Attribute → Bool
are_unmarked attributes = list_all (λ (a : Attribute). not a.n) attributes
