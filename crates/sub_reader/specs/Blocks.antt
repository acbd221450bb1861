-- The blocks of what a handle is owed.
use Rattle.std.specs.Prelude.{◌≡◌, ℕ, List, [], Option, Some, filter, map}
use Rattle.std.specs.Option.{option_map_or}
use Rattle.change_chain.specs.Span.{Span}
use Rattle.pps_types.specs.History.{Entry}
use Rattle.pps_types.specs.Reading.{OpenHandle, Shown as ShownBlock, print_shown, block, visible}
use Rattle.pps_types.specs.Rests.{Progress, owed_in}
use Rattle.sub_reader.specs.declared.opening.Opening.{Opening}
use Rattle.sub_reader.specs.Readers.{Reader}
use Rattle.sub_reader.specs.Opened.{opened, handle_at}
use Rattle.sub_reader.specs.Places.{seen_at}
use Rattle.sub_reader.specs.Chained.{records_from}

abbrev pub blocks_given : {S : Type 0} → OpenHandle S → List Entry → List (List ℕ)
blocks_given handle entries = map (block handle) (filter (visible handle) entries)

-- of all that a handle has seen, those of what it is owed
abbrev pub owed_blocks : Option (OpenHandle Progress) → List (List ℕ)
owed_blocks found = option_map_or (λ handle. map (block handle) (owed_in handle handle.seen)) found []

-- the same, of a handle at its place
abbrev pub blocks_at : ℕ → ℕ → List Entry → Reader → List (List ℕ)
blocks_at target start entries r = map (block (opened target [] r.opening)) (owed_in (opened target [] r.opening) (seen_at start entries r.progress))

-- the same, of the records that a chain holds
abbrev pub blocks_in : ℕ → Span Entry → Reader → List (List ℕ)
blocks_in target records r = blocks_at target records.start records.items r

-- those that a handle on the target of that number is given from a position on
abbrev pub blocks_from : ℕ → Opening → ℕ → Span Entry → List (List ℕ)
blocks_from target o position records = blocks_given (opened target [] o) (records_from position records)

-- those that the handle of a number is owed
abbrev pub owed_blocks_at : ℕ → List (OpenHandle Progress) → List (List ℕ)
owed_blocks_at number handles = owed_blocks (handle_at number handles)

-- ---- the block of one record

-- printed, it is the block of the record for a handle that was opened so
abbrev pub IsBlockFor : ℕ → Opening → Entry → ShownBlock → Type 0
IsBlockFor target o e b = print_shown e.name (Some b) ≡ block (opened target [] o) e
