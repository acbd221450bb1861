-- Whom records wake.
use Rattle.std.specs.Prelude.{ℕ, List, Bool, true, false, not, ◌&&◌, ◌||◌, is_some, filter, map, []}
use Rattle.std.specs.List.{list_any}
use Rattle.pps_types.specs.History.{Entry}
use Rattle.pps_types.specs.Reading.{OpenHandle, visible}
use Rattle.pps_types.specs.Rests.{Progress}
use Rattle.pps_types.specs.Content.{is_waiting, learns}
use Rattle.sub_reader.specs.Opened.{opened}
use Rattle.sub_reader.specs.declared.place.Place.{Place}
use Rattle.sub_reader.specs.declared.place.Place.TheVariants.{News, Fresh, Over, Idle, At}
use Rattle.sub_reader.specs.declared.row.Slot.{Slot}
use Rattle.sub_reader.specs.Readers.{Reader}
use Rattle.sub_reader.specs.Rows.{rows_in}

-- the numbers of those that wait, had no news and see one of the records
abbrev pub woken_by : List Entry → List (OpenHandle Progress) → List ℕ
woken_by es handles = map (λ handle. handle.number) (filter (λ handle. is_waiting handle && learns es handle) handles)

-- the same of a handle at its place: whether a read would give something new
abbrev pub news_at : Bool → Place → Bool
news_at reads (News b) = b
news_at reads Fresh = reads
news_at reads Over = true
news_at reads Idle = false
news_at reads (At first owed) = true

abbrev pub waits_at : Reader → Bool
waits_at r = is_some r.parked || is_some r.armed

abbrev pub sees_one : ℕ → List Entry → Reader → Bool
sees_one target es r = list_any (visible (opened target [] r.opening)) es

abbrev pub wakes_at : ℕ → List Entry → Reader → Bool
wakes_at target es r = waits_at r && (not (news_at r.opening.reads r.progress) && sees_one target es r)

-- the numbers of those that the records wake, on the target of that number
abbrev pub woken_among : ℕ → List Entry → List (Slot Place) → List ℕ
woken_among target es slots = map (λ r. r.opening.number) (filter (wakes_at target es) (rows_in slots))
