use Rattle.std.proofs.Common.{◌-◌, ◌≤◌, ◌<◌, ℕ, length, get_or}
use Rattle.number_table.specs.Index.{numbers_in}
use Rattle.number_table.proofs.index.place_of.Given as goal

-- what is before the start is lower, and what is from the end on is not
abbrev pub invariant-search : goal.invariant-search
invariant-search l =
    (l.start ≤ l.end)
    × (l.end ≤ length (numbers_in l.index))
    × ((k : ℕ) → k < l.start → get_or (numbers_in l.index) k 0 < l.number)
    × ((k : ℕ) → l.end ≤ k → k < length (numbers_in l.index) → l.number ≤ get_or (numbers_in l.index) k 0)

abbrev pub decreases-search : goal.decreases-search
decreases-search l = l.end - l.start
