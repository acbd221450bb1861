use Rattle.std.proofs.Common.{◌≡◌, ◌++◌, drop, map}
use Rattle.std.specs.List.{filter_map}
use Rattle.pps_types.specs.Content.{member}
use Rattle.handle_requests.proofs.directories.members_of.Given as goal

-- what is there, and what is still to come
abbrev pub invariant-places : goal.invariant-places
invariant-places l = l.members.items ++ map member (filter_map (λ o. o) (drop l.place l.objects)) ≡ map member (filter_map (λ o. o) l.objects)
