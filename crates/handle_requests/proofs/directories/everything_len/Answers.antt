use Rattle.std.proofs.Common.{arith, rules}
use Rattle.std.specs.Option.{option_copied}
use Rattle.handle_requests.proofs.Parts.{all_length}
use Rattle.handle_requests.proofs.directories.everything_len.Goals as goal

pub returns-in_err-parts-clause-none : goal.returns-in_err-parts-clause-none
returns-in_err-parts-clause-none c =
    rw (c.from_residual-in_err-parts.ensures, all_length c.args.kind c.requires (option_copied c.args.filter) c.args.over c.args.objects.now) (omega (arith, c.in_err-parts.ensures.none))

pub returns-clause-some : goal.returns-clause-some
returns-clause-some c =
    rw (all_length c.args.kind c.requires (option_copied c.args.filter) c.args.over c.args.objects.now, ← c.in_ok-opening.ensures.some, ← c.in_ok-parts.ensures.some) (search rules)

pub returns-clause-none : goal.returns-clause-none
returns-clause-none c =
    rw (all_length c.args.kind c.requires (option_copied c.args.filter) c.args.over c.args.objects.now, ← c.in_ok-opening.ensures.some, ← c.in_ok-parts.ensures.some) (search rules)
