-- An object, as it is seen.
use Rattle.std.specs.Prelude.{option_map}
use Rattle.object_state.specs.declared.object.Object.TheInside.{Inside}
use Rattle.object_state.specs.Entries.{attributes_of}
use Rattle.object_state.specs.Limits.{IsHeld}
use Rattle.object_state.specs.Held.{Held}

abbrev pub held : Inside → Held
held o = record {
  attributes = attributes_of o.map.entries;
  room = o.map.room;
  copies = option_map (λ lines. lines.value.items) o.copies;
}

abbrev pub IsHeldInside : Inside → Type 0
IsHeldInside o = IsHeld (attributes_of o.map.entries) o.text_len o.has_marks
