-- What moves tell, what they make of one handle by itself, and which handles they wake. Own.
use Rattle.std.specs.Prelude.{◌≡◌, ℕ, ◌+◌, List, [], ◌∷◌, Bool, true, false, not, ◌&&◌, ◌==◌, if◌then◌else◌, Option, Some, None, option_and_then, fold, map}
use Rattle.std.specs.List.{filter_map, cons_option, list_any}
use Rattle.pps_types.specs.History.{Entry}
use Rattle.pps_types.specs.Reading.{OpenHandle, reseen, style}
use Rattle.pps_types.specs.Rests.{Progress}
use Rattle.pps_types.specs.Content.{Content, is_waiting, learns}
use Rattle.pps_types.specs.WellFormed.{RiseBetween}
use Rattle.pps_types.specs.Plan.{Move, Creates, AppendsRecord, Opens, Closes, CatchesUp, Advances, Parks, Arms, creation, offered, offer, caught_up, left, first_seen}

-- ---- records

-- the record that a move tells
abbrev pub entry_told : Move → Option Entry
entry_told (Creates o) = Some (creation o)
entry_told (AppendsRecord e) = Some e
entry_told _ = None

-- the records that moves tell, in order
abbrev pub entries_told : List Move → List Entry
entries_told ms = filter_map entry_told ms

-- ---- handles

-- what a move makes of a handle: none where it closes it
abbrev pub handle_by : Move → OpenHandle Progress → Option (OpenHandle Progress)
handle_by (Creates o) handle = Some (offer (creation o) handle)
handle_by (AppendsRecord e) handle = Some (offer e handle)
handle_by (Closes number) handle = if handle.number == number then None else Some handle
handle_by (CatchesUp number) handle = Some (if handle.number == number then reseen caught_up handle else handle)
handle_by (Advances number count) handle =
    Some (if handle.number == number then reseen (λ handle. left handle count handle.seen) handle else handle)
handle_by (Parks number size) handle = Some (if handle.number == number then record handle { parked = size } else handle)
handle_by (Arms number pulse) handle = Some (if handle.number == number then record handle { armed = pulse } else handle)
handle_by _ handle = Some handle

-- what moves make of it, one after the other
abbrev pub handle_after : List Move → OpenHandle Progress → Option (OpenHandle Progress)
handle_after [] handle = Some handle
handle_after (x ∷ xs) handle = option_and_then (handle_after xs) (handle_by x handle)

-- the handle that a move opens
abbrev pub opened_by : Move → Option (OpenHandle Progress)
opened_by (Opens handle) = Some (reseen (λ handle. first_seen handle (style handle.kind)) handle)
opened_by _ = None

-- the handles that moves open, each as the moves behind leave it
abbrev pub handles_opened : List Move → List (OpenHandle Progress)
handles_opened [] = []
handles_opened (x ∷ xs) = cons_option (option_and_then (handle_after xs) (opened_by x)) (handles_opened xs)

-- ---- numbers of handles

-- the handles stand in rising number, as they do where what stands is well formed
abbrev pub HandlesRise : Content → Type 0
HandlesRise c = RiseBetween 0 (map (λ handle. handle.number) c.handles) c.next_handle

-- the handle, if there is one, has the next number
abbrev pub IsNumbered : ℕ → Option (OpenHandle Progress) → Type 0
IsNumbered next None = Unit {0}
IsNumbered next (Some handle) = handle.number ≡ next

-- the next number behind it
abbrev pub number_after : ℕ → Option (OpenHandle Progress) → ℕ
number_after next None = next
number_after next (Some handle) = next + 1

-- each handle that moves open has the next number
abbrev pub AreNumbered : ℕ → List Move → Type 0
AreNumbered next [] = Unit {0}
AreNumbered next (x ∷ xs) = IsNumbered next (opened_by x) × AreNumbered (number_after next (opened_by x)) xs

-- ---- who is woken

-- a move that is of the handle of that number, and so changes or closes it
abbrev pub names_handle : ℕ → Move → Bool
names_handle n (Closes number) = n == number
names_handle n (CatchesUp number) = n == number
names_handle n (Advances number count) = n == number
names_handle n (Parks number size) = n == number
names_handle n (Arms number pulse) = n == number
names_handle n _ = false

-- a move that closes the handle of that number
abbrev pub closes_handle : ℕ → Move → Bool
closes_handle n (Closes number) = n == number
closes_handle n _ = false

-- It waits, had no news, sees one of the moves' records, and stays open.
abbrev pub is_woken : List Move → OpenHandle Progress → Bool
is_woken ms handle = is_waiting handle && learns (entries_told ms) handle && not (list_any (closes_handle handle.number) ms)

-- a move that changes a handle at most by its record, or by closing it
abbrev pub only_tells : Move → Bool
only_tells (CatchesUp number) = false
only_tells (Advances number count) = false
only_tells (Parks number size) = false
only_tells (Arms number pulse) = false
only_tells _ = true

-- ---- records that are offered

-- what a handle has seen once records were offered to it, one after the other
abbrev pub seen_after : OpenHandle Progress → List Entry → Progress → Progress
seen_after handle es seen = fold (λ s e. offered handle e s) seen es

-- the handle once they were
abbrev pub offer_all : List Entry → OpenHandle Progress → OpenHandle Progress
offer_all es handle = reseen (λ handle. seen_after handle es handle.seen) handle
