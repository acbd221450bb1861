-- The bytes that a value of bytes stands for, in place or not, and shared or not. Own.
use Rattle.std.specs.Prelude.{ℕ, List, [], Bool, length, nat_le}
use Rattle.std.specs.Arc.{arc_value}
use Rattle.pps_types.specs.declared.bytes.Content.{Content}
use Rattle.pps_types.specs.declared.bytes.Content.TheVariants.{Short, Long}
use Rattle.pps_types.specs.declared.shared.Held.{Held}
use Rattle.pps_types.specs.declared.shared.Held.TheVariants.{Nothing, Shared}

abbrev pub held_bytes : Content → List ℕ
held_bytes (Short bytes) = bytes
held_bytes (Long content) = content.items

-- few enough to be held in place
abbrev pub is_short : List ℕ → Bool
is_short bytes = nat_le (length bytes) 23

abbrev pub shared_bytes : Held → List ℕ
shared_bytes Nothing = []
shared_bytes (Shared content) = (arc_value content).items
