-- The attributes that an image saves, as they are lent.
use Rattle.std.specs.Prelude.{◌≡◌, ℕ, List, [], ◌∷◌, Option, Some, None, MatchOption, map, drop}
use Rattle.pps_types.specs.History.{persistent}
use Rattle.pps_types.specs.Image.{SavedLine, saved_line}
use Rattle.object_state.specs.Held.{Held}
use Rattle.object_state.specs.Lent.{lent}
use Rattle.pps_engine.specs.declared.saved_attributes.Next.{Next}
use Rattle.pps_engine.specs.declared.saved_attributes.SavedAttribute.{SavedAttribute}
use Rattle.std.specs.Borrow.{Bor}

-- an attribute that is lent, as the line that is saved
abbrev pub as_saved : SavedAttribute → SavedLine
as_saved a = record { name = a.name.now; enc = a.enc.now; value = a.value.now }

-- the persistent attributes of an object from a place on, and none of no object
abbrev pub saved_from : Option (Bor Held) → ℕ → List SavedLine
saved_from None place = []
saved_from (Some o) place = map saved_line (persistent (drop place o.now.attributes))

-- it is the first persistent attribute of an object from a place on, and has the place from which the others come; or there is none
abbrev pub IsFirstPersistent : Held → ℕ → Option Next → Type 0
IsFirstPersistent object place result = MatchOption result (persistent (drop place object.attributes) ≡ [])
    (λ next. persistent (drop place object.attributes) ≡ lent next.attribute ∷ persistent (drop next.behind object.attributes))
