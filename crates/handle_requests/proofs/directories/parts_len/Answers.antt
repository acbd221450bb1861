use Rattle.std.proofs.Common.{Some, ap, ◌∙◌, arith}
use Rattle.std.specs.Prelude.{option_map}
use Rattle.std.specs.Option.{option_copied}
use Rattle.name_table.specs.Standing.{known_of}
use Rattle.handle_requests.proofs.Parts.{part_some, part_none}
use Rattle.handle_requests.proofs.directories.parts_len.Goals.{in-Some+in_ok-len+in_ok-total, in_default}
use Rattle.handle_requests.proofs.directories.parts_len.Goals as goal

pub returns-in_err-len-clause-none : goal.returns-in_err-len-clause-none
returns-in_err-len-clause-none c =
    let parts = option_copied c.args.filter in
    let at = part_some c.args.kind parts c.args.objects.now c.places.place (known_of c.in-Some.object.now) (c.get.ensures ∙ ap (λ o. Some (option_map known_of (option_copied o))) c.in-Some.is) in
    rw c.from_residual.ensures (omega (arith, at, c.places.invariant, c.in_err-len.ensures.none))

pub returns-in_err-total-clause-none : goal.returns-in_err-total-clause-none
returns-in_err-total-clause-none c =
    let parts = option_copied c.args.filter in
    let at = part_some c.args.kind parts c.args.objects.now c.places.place (known_of c.in-Some.object.now) (c.get.ensures ∙ ap (λ o. Some (option_map known_of (option_copied o))) c.in-Some.is) in
    rw c.from_residual-in_err-total.ensures (omega (arith, at, c.places.invariant, c.in_ok-len.ensures.some, c.in_err-total.ensures))

pub places-preserved : goal.places-preserved
places-preserved c =
    let parts = option_copied c.args.filter in
    elim c.match-get.branch [
      | in-Some+in_ok-len+in_ok-total w ↦
          let at = part_some c.args.kind parts c.args.objects.now c.places.place (known_of w.in-Some.object.now) (c.get.ensures ∙ ap (λ o. Some (option_map known_of (option_copied o))) w.in-Some.is) in
          omega (arith, at, c.places.invariant, w.in_ok-len.ensures.some, w.in_ok-total.ensures, w.total-is)
      | in_default w ↦
          let at = part_none c.args.kind parts c.args.objects.now c.places.place (c.get.ensures ∙ ap (λ o. Some (option_map known_of (option_copied o))) w.in_default.is) in
          omega (arith, at, c.places.invariant, w.total-is)
    ]
