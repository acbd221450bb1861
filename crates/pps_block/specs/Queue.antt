-- What records look like in a queue of a server object, which has none but those that its handle is given.
use Rattle.std.specs.Prelude.{Option, None, codes}
use Rattle.std.specs.Option.{option_or}
use Rattle.pps_types.specs.declared.record.Kind.{Kind}
use Rattle.pps_types.specs.declared.record.Kind.TheVariants.{Deleted, ToClient, ToAll}
use Rattle.pps_types.specs.Reading.{Shown, header_only, with_lines, shown_to_server}

-- to the client that it is for, or to each
abbrev pub shown_to_its_clients : Kind → Option Shown
shown_to_its_clients Deleted = header_only (codes "-")
shown_to_its_clients (ToClient id lines) = with_lines lines
shown_to_its_clients (ToAll lines) = with_lines lines
shown_to_its_clients kind = None

-- to the server, or to the client that it is for
abbrev pub queue_shown : Kind → Option Shown
queue_shown kind = option_or (shown_to_its_clients kind) (shown_to_server kind)
