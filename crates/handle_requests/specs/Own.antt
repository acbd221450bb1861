-- A handle of a connection, as the tables find it.
use Rattle.std.specs.Prelude.{◌≡◌, ℕ, Bool, Option, Some, IfSome, option_map}
use Rattle.pps_types.specs.Reading.{OpenHandle}
use Rattle.pps_types.specs.Rests.{Progress}
use Rattle.pps_types.specs.Content.{own_handle, news}
use Rattle.sub_reader.specs.Opened.{opened, as_opened, number_of}
use Rattle.open_handles.specs.Whole.{name_at}
use Rattle.service_state.specs.Tables.{Tabled, content_in}
use Rattle.handle_requests.specs.declared.own.Own.{Own}
use Rattle.handle_requests.specs.declared.own.SeenHandle.{SeenHandle}

-- what its open fixed, on what it is on
abbrev pub opened_as : Tabled → Own → OpenHandle (Unit {0})
opened_as t o = opened (number_of o.found) (name_at o.found t.handles) o.opening.now

-- it is the connection's own handle of that number
abbrev pub IsOwn : Tabled → ℕ → ℕ → Own → Type 0
IsOwn t conn handle o = Some (opened_as t o) ≡ option_map as_opened (own_handle (content_in t) conn handle)

-- what the open fixed of a handle that is asked
abbrev pub asked_opened : Tabled → Option SeenHandle → Option (OpenHandle (Unit {0}))
asked_opened t asked = option_map (λ (a : SeenHandle). opened_as t a.own) asked

-- ---- the connection's own handle of a number, where it has one

-- what its open fixed
abbrev pub own_opened : Tabled → ℕ → ℕ → Option (OpenHandle (Unit {0}))
own_opened t conn handle = option_map as_opened (own_handle (content_in t) conn handle)

-- whether it reads
abbrev pub own_reads : Tabled → ℕ → ℕ → Option Bool
own_reads t conn number = option_map (λ (handle : OpenHandle Progress). handle.reads) (own_handle (content_in t) conn number)

-- whether it has news
abbrev pub own_news : Tabled → ℕ → ℕ → Option Bool
own_news t conn handle = option_map news (own_handle (content_in t) conn handle)

-- this is so of it
abbrev pub IfOwn : Tabled → ℕ → ℕ → (OpenHandle Progress → Type 0) → Type 0
IfOwn t conn handle P = IfSome (own_handle (content_in t) conn handle) P
