-- What refuses a record of an object.
use Rattle.std.specs.Prelude.{List, Option, None, fold}
use Rattle.pps_types.specs.declared.refusal.Refusal.{Refusal}
use Rattle.pps_types.specs.declared.record.Kind.{Kind}
use Rattle.pps_types.specs.declared.record.Kind.TheVariants.{Change}
use Rattle.pps_types.specs.History.{Attribute, apply_line}
use Rattle.pps_types.specs.Checks.{first_refusal, limit_checks}

-- the limits of an object, where lines change it
abbrev pub refused_after : List Attribute → Kind → Option Refusal
refused_after attributes (Change lines) = first_refusal (limit_checks (fold apply_line attributes lines))
refused_after attributes kind = None
