-- Why the text of an option is refused.
use Rattle.std.specs.Prelude.{◌≡◌, ◌⊎◌, Option, None}
use Rattle.pps_types.specs.declared.refusal.Refusal.{Refusal}
use Rattle.pps_types.specs.declared.refusal.Refusal.TheVariants.{OutOfMemory, BadOption}

-- memory is wanting, or the text means nothing
abbrev pub IsOptionRefusal : {X : Type 0} → Option X → Refusal → Type 0
IsOptionRefusal meant refusal = (refusal ≡ OutOfMemory) ⊎ ((refusal ≡ BadOption) × (meant ≡ None))
