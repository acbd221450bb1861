-- Slots before and after something happened to the handle at one place.
use Rattle.std.specs.Prelude.{◌≡◌, ℕ, zero, suc, List, ◌∷◌}
use Rattle.sub_reader.specs.declared.row.Slot.TheVariants.{Row, Gap}
use Rattle.topics.specs.QueueRows.{QueueRow, QueueSlot}

-- a slot before and after: it has a handle of which this is so, or has none
abbrev pub InSlot : (QueueRow → QueueRow → Type 0) → QueueSlot → QueueSlot → Type 0
InSlot Goes (Row x) (Row y) = Goes x y
InSlot Goes (Gap m) (Gap n) = Unit {0}
InSlot Goes s t = ⊥

-- it is so at a place, and all other slots stay
abbrev pub GoesAt : (QueueRow → QueueRow → Type 0) → ℕ → List QueueSlot → List QueueSlot → Type 0
GoesAt Goes zero (s ∷ ss) (t ∷ ts) = InSlot Goes s t × (ts ≡ ss)
GoesAt Goes (suc place) (s ∷ ss) (t ∷ ts) = (t ≡ s) × GoesAt Goes place ss ts
GoesAt Goes place ss ts = ⊥
