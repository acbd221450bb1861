-- What a read makes of one record.
use Rattle.std.specs.Prelude.{◌≡◌, ℕ, Bool, true, false, []}
use Rattle.pps_types.specs.declared.refusal.Refusal.{Refusal}
use Rattle.pps_types.specs.History.{Entry}
use Rattle.pps_types.specs.Reading.{block}
use Rattle.server_queue.specs.declared.fitting.Fitting.{Fitting}
use Rattle.server_queue.specs.Given.{Gives, EndsBefore, RefusesBlock}
use Rattle.sub_reader.specs.declared.opening.Opening.{Opening}
use Rattle.sub_reader.specs.declared.shown.Turn.{Turn}
use Rattle.sub_reader.specs.declared.shown.Turn.TheVariants.{Hidden, Given, Full}
use Rattle.sub_reader.specs.Opened.{opened, visible_to}

abbrev pub turn_of : Bool → Turn
turn_of true = Given
turn_of false = Full

-- the record is not for the handle, and nothing is put; or its block is put, or ends the run
abbrev pub PutsRecord : ℕ → Opening → Entry → Fitting → Fitting → Turn → Type 0
PutsRecord target o e old new Hidden = (visible_to target o e ≡ false) × (new ≡ old)
PutsRecord target o e old new Given = (visible_to target o e ≡ true) × Gives (block (opened target [] o) e) old new
PutsRecord target o e old new Full = (visible_to target o e ≡ true) × EndsBefore (block (opened target [] o) e) old new

-- the record is for the handle, and its block is refused for this
abbrev pub RefusesRecord : ℕ → Opening → Entry → Fitting → Refusal → Type 0
RefusesRecord target o e old refusal = (visible_to target o e ≡ true) × RefusesBlock (block (opened target [] o) e) old refusal
