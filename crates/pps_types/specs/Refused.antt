-- How a call is refused that takes memory. Own.
use Rattle.std.specs.Prelude.{◌≡◌, ◌≢◌, Option, Some, Result}
use Rattle.pps_types.specs.declared.refusal.Refusal.{Refusal}
use Rattle.pps_types.specs.declared.refusal.Refusal.TheVariants.{OutOfMemory}
use Rattle.pps_types.specs.Names.{refusal_of}

-- it is refused since memory lacks
abbrev pub LacksMemory : {X : Type 0} → Result X Refusal → Type 0
LacksMemory result = refusal_of result ≡ Some OutOfMemory

-- Where memory does not lack, it is refused for this, or not at all.
abbrev pub IsRefusedAs : {X : Type 0} → Result X Refusal → Option Refusal → Type 0
IsRefusedAs result refusal = refusal_of result ≢ Some OutOfMemory → refusal_of result ≡ refusal
