use Rattle.std.proofs.Common.{◌≡◌, ◌+◌, drop, length}
use Rattle.std.specs.Option.{option_copied}
use Rattle.handle_requests.specs.Directories.{parts_of}
use Rattle.handle_requests.proofs.directories.parts_len.Given as goal

-- what is counted, and what is still to be
abbrev pub invariant-places : goal.invariant-places
invariant-places l = l.total + length (parts_of l.kind (option_copied l.filter) (drop l.place l.objects)) ≡ length (parts_of l.kind (option_copied l.filter) l.objects)
