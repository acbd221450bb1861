use Rattle.std.proofs.Common.{◌≡◌, ◌++◌, drop}
use Rattle.std.specs.Prelude.{filter, map}
use Rattle.sub_reader.specs.Rows.{rows_in}
use Rattle.sub_reader.specs.Woken.{wakes_at}
use Rattle.sub_reader.proofs.woken.find_woken.Given as goal

abbrev pub invariant-slots : goal.invariant-slots
invariant-slots l =
    l.woken.items ++ map (λ r. r.opening.number) (filter (wakes_at l.target l.entries) (rows_in (drop l.slot-index l.slots)))
    ≡ map (λ r. r.opening.number) (filter (wakes_at l.target l.entries) (rows_in l.slots))
