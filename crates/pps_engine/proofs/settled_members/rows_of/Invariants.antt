use Rattle.std.proofs.Common.{◌≡◌, ◌++◌, drop, map}
use Rattle.std.specs.List.{filter_map}
use Rattle.pps_engine.specs.Behind.{row_of}
use Rattle.pps_engine.proofs.settled_members.rows_of.Given as goal

-- what is there, and what is still to come
abbrev pub invariant-places : goal.invariant-places
invariant-places l = l.rows.items ++ map row_of (filter_map (λ o. o) (drop l.place l.objects)) ≡ map row_of (filter_map (λ o. o) l.objects)
