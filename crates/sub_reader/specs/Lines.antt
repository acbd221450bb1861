-- Handles that are given lines of objects as they are.
use Rattle.std.specs.Prelude.{◌≡◌, ℕ, List, Option, Some, is_none, Bool, true, false, not, ◌&&◌, ◌||◌}
use Rattle.pps_types.specs.declared.handle_kind.HandleKind.{HandleKind}
use Rattle.pps_types.specs.declared.handle_kind.HandleKind.TheVariants.{Object as ObjectHandle, Directory as DirectoryHandle}
use Rattle.pps_types.specs.History.{Entry}
use Rattle.pps_types.specs.Reading.{OpenHandle, concerns, is_writer, is_object_kind}
use Rattle.server_queue.specs.Printed.{printed_text}
use Rattle.sub_reader.specs.declared.opening.Opening.{Opening}

-- it takes the lines of objects, those that match its filter
abbrev pub takes_lines : HandleKind → Bool
takes_lines (ObjectHandle delta) = true
takes_lines (DirectoryHandle delta) = true
takes_lines kind = false

-- it is open for reading, and its own changes are hidden from all but an object's handle that reflects
abbrev pub reads_changes_of : Opening → Option ℕ → Bool
reads_changes_of o writer = o.reads && (not (is_writer o.number writer) || (o.options.reflect && is_object_kind o.kind))

-- it is told of a record, where that has a block for it
abbrev pub is_told : {S : Type 0} → OpenHandle S → Entry → Bool
is_told handle e =
    concerns handle e && (handle.reads && (not (is_writer handle.number e.record_of.writer) || (handle.options.reflect && is_object_kind handle.kind)))

-- the record has lines, and the handle takes all of them
pub record TakesLines (o : Opening) (e : Entry) (text : List ℕ) : Type 0 where
  pub kind : takes_lines o.kind ≡ true
  pub all : is_none o.options.filter ≡ true
  pub printed : printed_text e.name e.record_of.kind ≡ Some text
