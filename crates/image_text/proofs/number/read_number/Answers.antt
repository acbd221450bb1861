use Rattle.std.proofs.Common.{rules, ◌≡◌, false, ◌∙◌, ap}
use Rattle.std.specs.Prelude.{codes}
use Rattle.pps_types.specs.Bytes.{same}
use Rattle.pps_types.specs.Image.{plain_number}
use Rattle.image_text.proofs.Numbers.{zero-is-plain, read-is-plain, unread-is-great}
use Rattle.image_text.proofs.number.read_number.Goals as goal

pub returns-then-eq-clause-some : goal.returns-then-eq-clause-some
returns-then-eq-clause-some c =
    let is : c.args.digits.now ≡ codes "0" = search rules in
    ap plain_number is ∙ zero-is-plain

pub returns-clause-some : goal.returns-clause-some
returns-clause-some c = search (rules, read-is-plain)

pub returns-clause-none : goal.returns-clause-none
returns-clause-none c =
    let differs : same c.args.digits.now (codes "0") ≡ false = search rules in
    search (rules, unread-is-great, differs)
