-- How much is owed to a handle and kept of a target, in the course of two scripts.
use Rattle.std.specs.Prelude.{◌≡◌, ℕ, [], ◌∷◌, ◌++◌, List, Some, None, codes, take}
use Rattle.pps_types.specs.declared.event.Event.{Event}
use Rattle.pps_types.specs.declared.event.Request.TheVariants.{Read}
use Rattle.pps_types.specs.Names.{Path}
use Rattle.pps_types.specs.Machine.{Machine, start}
use Rattle.pps_types.specs.Runs.{after}
use Rattle.pps_types.specs.Owed.{kept, owed_by}
use Rattle.worked_rows.specs.Scripts.FilteredDeltas.{events as filtered_deltas}
use Rattle.worked_rows.specs.Scripts.ExactCut.{events as exact_cut}
use Rattle.worked_rows.specs.Scripts.Words.{◌asks◌}

-- the machine after the first n of these events
abbrev pub after_first : ℕ → List Event → Machine
after_first n events = after (start 1 256) (take n events)

abbrev pub gps : Path
gps = codes "gps" ∷ []

abbrev pub root : Path
root = []

-- Three changes are written, of which the filter matches the second, and then they are read.
abbrev pub FilteredDeltasKept : Type 0
FilteredDeltasKept =
    (owed_by (after_first 8 filtered_deltas) 2 ≡ Some 1)
    × (kept (after_first 8 filtered_deltas) gps ≡ Some 2)
    × (kept (after_first 9 filtered_deltas) gps ≡ Some 0)

-- After the three writes; after handle 2 has read all three and handle 3 the first; after handle 3 is closed;
-- and after the directory's handle 5 is closed.
abbrev pub ExactCutKept : Type 0
ExactCutKept =
    (kept (after_first 17 exact_cut) gps ≡ Some 3)
    × (kept (after_first 17 exact_cut) root ≡ Some 3)
    × (owed_by (after_first 17 exact_cut) 4 ≡ None)
    × (kept (after_first 18 exact_cut) gps ≡ Some 3)
    × (kept (after_first 19 exact_cut) gps ≡ Some 2)
    × (kept (after_first 20 exact_cut) gps ≡ Some 0)
    × (kept (after_first 20 exact_cut) root ≡ Some 3)
    × (kept (after_first 22 exact_cut) root ≡ Some 0)
    × (kept (after_first 22 exact_cut) (codes "none" ∷ []) ≡ None)

-- After the three writes handle 3 reads the first, and then handle 2 reads the first two.
abbrev pub SlowestKept : Type 0
SlowestKept =
    (kept (after (start 1 256) (take 17 exact_cut ++ 3 asks Read 3 10 ∷ [])) gps ≡ Some 3)
    × (kept (after (start 1 256) (take 17 exact_cut ++ 3 asks Read 3 10 ∷ 2 asks Read 2 20 ∷ [])) gps ≡ Some 2)
