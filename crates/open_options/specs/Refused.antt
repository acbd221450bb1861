-- Why a text is refused.
use Rattle.std.specs.Prelude.{◌≡◌, ◌⊎◌, ℕ, List, Option, None, Err}
use Rattle.pps_types.specs.declared.refusal.Refusal.{Refusal}
use Rattle.pps_types.specs.declared.refusal.Refusal.TheVariants.{OutOfMemory, BadPath}
use Rattle.pps_types.specs.OpenText.{open_text}

-- memory is wanting, or the path means nothing
abbrev pub IsPathRefusal : {X : Type 0} → Option X → Refusal → Type 0
IsPathRefusal meant refusal = (refusal ≡ OutOfMemory) ⊎ ((refusal ≡ BadPath) × (meant ≡ None))

-- memory is wanting, or the text of an open is refused for this
abbrev pub IsOpenRefusal : List ℕ → Refusal → Type 0
IsOpenRefusal text refusal = (refusal ≡ OutOfMemory) ⊎ (open_text text ≡ Err refusal)
