use Rattle.std.proofs.Common.{◌≡◌, ◌++◌, drop, map}
use Rattle.std.specs.List.{concat}
use Rattle.path_requests.specs.Listed.{line_listed}
use Rattle.path_requests.proofs.listing.names_listed.Given as goal

-- what is listed, and what is still to come
abbrev pub invariant-members : goal.invariant-members
invariant-members l = l.text.items ++ concat (map line_listed (drop l.place l.members)) ≡ concat (map line_listed l.members)
