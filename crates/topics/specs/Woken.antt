-- Whom records wake, by what stands of each handle.
use Rattle.std.specs.Prelude.{ℕ, List, Bool, not, ◌&&◌, ◌||◌, is_some, filter, map}
use Rattle.std.specs.List.{list_any}
use Rattle.pps_types.specs.Bytes.{is_empty}
use Rattle.pps_types.specs.History.{Entry}
use Rattle.sub_reader.specs.Rows.{number_in}
use Rattle.topics.specs.QueueRows.{QueueRow, sees}

abbrev pub waits_at : QueueRow → Bool
waits_at x = is_some x.parked || is_some x.armed

-- it waits, is owed nothing, and sees one of the records
abbrev pub wakes_at : ℕ → List Entry → QueueRow → Bool
wakes_at object es x = waits_at x && (not (not (is_empty x.progress.owed)) && list_any (λ e. sees object e x) es)

-- the numbers of those that the records wake, on the object of that number
abbrev pub woken_among : ℕ → List Entry → List QueueRow → List ℕ
woken_among object es rows = map number_in (filter (wakes_at object es) rows)
