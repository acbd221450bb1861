-- The handles that records concern: among them are all that are woken. Own.
use Rattle.std.specs.Prelude.{◌≡◌, ℕ, List, [], ◌∷◌, Bool, not, ◌&&◌, ◌==◌, fold}
use Rattle.std.specs.List.{list_any}
use Rattle.pps_types.specs.History.{Entry}
use Rattle.pps_types.specs.Outbox.{put_rising}
use Rattle.pps_types.specs.Reading.{OpenHandle, concerns, is_directory_kind}
use Rattle.pps_types.specs.Rests.{Progress}
use Rattle.pps_types.specs.Content.{Content}

-- it is on the object of one of the records, or on its directory
abbrev pub is_concerned : List Entry → OpenHandle Progress → Bool
is_concerned es handle = list_any (concerns handle) es

-- it is on that object
abbrev pub is_on_object : ℕ → OpenHandle Progress → Bool
is_on_object n handle = not (is_directory_kind handle.kind) && (n == handle.target)

-- it is on that directory
abbrev pub is_on_directory : ℕ → OpenHandle Progress → Bool
is_on_directory n handle = is_directory_kind handle.kind && (n == handle.target)

-- two lists of handles in rising number as one
abbrev pub merged : List (OpenHandle Progress) → List (OpenHandle Progress) → List (OpenHandle Progress)
merged gs hs = fold (λ all handle. put_rising (λ handle. handle.number) handle all) hs gs

-- One record, or none; or two, where an object takes the place of another in its directory.
abbrev pub AreFew : Content → List Entry → Type 0
AreFew c [] = Unit {0}
AreFew c (e ∷ []) = Unit {0}
AreFew c (e ∷ f ∷ []) = (f.directory ≡ e.directory) × (f.record_of.object ≡ c.next_object)
AreFew c (e ∷ f ∷ g ∷ es) = ⊥
