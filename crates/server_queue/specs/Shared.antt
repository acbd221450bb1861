-- Records that queues share.
use Rattle.std.specs.Prelude.{ℕ, List, filter, length}
use Rattle.pps_types.specs.declared.record.Record.{Record}
use Rattle.pps_types.specs.History.{Entry}
use Rattle.pps_types.specs.Reading.{OpenHandle, visible}
use Rattle.pps_types.specs.Rests.{Progress}

-- the record, with the directory and the name of its object
abbrev pub shared_entry : ℕ → List ℕ → Record → Entry
shared_entry directory name made = record { directory = directory; name = name; record_of = made }

-- a record with shares of it
pub record Shared : Type 0 where
  pub entry : Entry
  -- how many shares were made
  pub count : ℕ

-- how many of these handles are given a record
abbrev pub seer_count : Entry → List (OpenHandle Progress) → ℕ
seer_count e handles = length (filter (λ (handle : OpenHandle Progress). visible handle e) handles)

-- a share for each of them
abbrev pub shares_for : Entry → List (OpenHandle Progress) → Shared
shares_for e handles = record { entry = e; count = seer_count e handles }
