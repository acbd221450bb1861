-- What is seen of the handle of a number in a list of handles, and the list after something happened to that handle.
use Rattle.std.specs.Prelude.{◌<◌, ◌++◌, ℕ, Bool, false, List, [], ◌∷◌, map, Option, option_and_then}
use Rattle.std.specs.Option.{option_map_or}
use Rattle.std.specs.List.{AllByRecursion}
use Rattle.pps_types.specs.History.{Entry}
use Rattle.pps_types.specs.Reading.{OpenHandle, reseen, style}
use Rattle.pps_types.specs.Rests.{Progress, is_over}
use Rattle.pps_types.specs.Owed.{owed_in_seen}
use Rattle.pps_types.specs.Content.{news}
use Rattle.pps_types.specs.Plan.{on_numbered, caught_up, left, first_seen, offer}
use Rattle.sub_reader.specs.declared.opening.Opening.{Opening}
use Rattle.sub_reader.specs.declared.opening.Pulse.{Pulse}
use Rattle.sub_reader.specs.Opened.{opened, armed_pulse, handle_at}

-- ---- what is seen of it

-- the size of the read that waits on it
abbrev pub parked_at : ℕ → List (OpenHandle Progress) → Option ℕ
parked_at number handles = option_and_then (λ (handle : OpenHandle Progress). handle.parked) (handle_at number handles)

-- the pulse that is armed on it, as its code and its value
abbrev pub armed_at : ℕ → List (OpenHandle Progress) → Option (ℕ × ℕ)
armed_at number handles = option_and_then (λ (handle : OpenHandle Progress). handle.armed) (handle_at number handles)

-- a read would give it something new
abbrev pub has_news_at : ℕ → List (OpenHandle Progress) → Bool
has_news_at number handles = option_map_or news (handle_at number handles) false

-- it is owed more records than its limit
abbrev pub is_over_at : ℕ → List (OpenHandle Progress) → Bool
is_over_at number handles = option_map_or (λ (handle : OpenHandle Progress). is_over handle.seen) (handle_at number handles) false

-- how many records it is owed, where that is told
abbrev pub owed_at : ℕ → List (OpenHandle Progress) → Option ℕ
owed_at number handles = option_and_then (λ (handle : OpenHandle Progress). owed_in_seen handle handle.seen) (handle_at number handles)

-- each of them has a number below this
abbrev pub AreBelow : ℕ → List (OpenHandle Progress) → Type 0
AreBelow number handles = AllByRecursion (λ (handle : OpenHandle Progress). handle.number < number) handles

-- ---- the list after

-- a handle opened on the target of that number and name, after the others
abbrev pub with_opened : ℕ → List ℕ → Opening → List (OpenHandle Progress) → List (OpenHandle Progress)
with_opened target name opening handles =
    handles ++ reseen (λ handle. first_seen handle (style handle.kind)) (opened target name opening) ∷ []

-- each was offered a record
abbrev pub with_offered : Entry → List (OpenHandle Progress) → List (OpenHandle Progress)
with_offered e handles = map (offer e) handles

-- the handle has read everything
abbrev pub with_caught_up : ℕ → List (OpenHandle Progress) → List (OpenHandle Progress)
with_caught_up number handles = on_numbered number (reseen caught_up) handles

-- the handle was given so many of the records that it is owed
abbrev pub with_passed : ℕ → ℕ → List (OpenHandle Progress) → List (OpenHandle Progress)
with_passed number count handles = on_numbered number (reseen (λ handle. left handle count handle.seen)) handles

-- a read of that size waits on the handle, or none any more
abbrev pub with_parked : ℕ → Option ℕ → List (OpenHandle Progress) → List (OpenHandle Progress)
with_parked number size handles = on_numbered number (λ handle. record handle { parked = size }) handles

-- a pulse is armed on the handle, or none any more
abbrev pub with_armed : ℕ → Option Pulse → List (OpenHandle Progress) → List (OpenHandle Progress)
with_armed number pulse handles = on_numbered number (λ handle. record handle { armed = armed_pulse pulse }) handles
