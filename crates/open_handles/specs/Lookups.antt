-- What a look at an open handle shows.
use Rattle.std.specs.Prelude.{◌≡◌, ℕ, Option, option_map}
use Rattle.sub_reader.specs.Opened.{opened, as_opened, handle_at, number_of}
use Rattle.sub_reader.specs.Glances.{glanced, glance_on}
use Rattle.open_handles.specs.declared.handles.Opened.{Opened as OpenedAs}
use Rattle.open_handles.specs.declared.handles.Looked.{Looked}
use Rattle.open_handles.specs.Whole.{Whole, handles_in, name_at}

-- what is shown, with the name of what the handle is on, is what its open fixed, or nothing where it is not open
abbrev pub ShowsOpening : ℕ → Whole → Option OpenedAs → Type 0
ShowsOpening number w shown =
    option_map (λ (o : OpenedAs). opened (number_of o.found) (name_at o.found w) o.opening.now) shown
    ≡ option_map as_opened (handle_at number (handles_in w))

-- what is shown, with the name of what the handle is on, is what is seen of it at one look, or nothing where it is not open
abbrev pub ShowsGlance : ℕ → Whole → Option Looked → Type 0
ShowsGlance number w shown =
    option_map (λ (o : Looked). glance_on (number_of o.found) (name_at o.found w) o.glance) shown
    ≡ option_map glanced (handle_at number (handles_in w))
