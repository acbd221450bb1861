use Rattle.std.proofs.Common.{◌≡◌, ◌+◌, sym, ap, arith, length}
use Rattle.object_state.specs.Entries.{line_length}
use Rattle.object_state.proofs.Printing.{printed-content}
use Rattle.object_state.proofs.Matched.{reached, print-from, length-here, within-here}
use Rattle.object_state.proofs.print.matching_len.Goals as goal

pub places-init : goal.places-init
places-init c = record {
  reached = reached _ _ _ 0 c.first_place-place.ensures.first;
  summed = omega (arith, ap length (print-from c.args.filter.now c.args.map.now.entries c.first_place-place.result 0 c.first_place-place.ensures.first));
}

pub line_len-total-requires : goal.line_len-total-requires
line_len-total-requires c =
    let name = c.in-Some.name.now in
    let content = c.in-Some.content.now in
    let here = length-here c.args.filter.now c.args.map.now.entries c.places.place name content c.places.invariant.reached (sym c.in-Some.ensures.entry) in
    rw c.len.ensures (omega (arith, here, printed-content name content, c.places.invariant.summed, c.requires))

pub overflow_add-total : goal.overflow_add-total
overflow_add-total c =
    let name = c.in-Some.name.now in
    let content = c.in-Some.content.now in
    let here = length-here c.args.filter.now c.args.map.now.entries c.places.place name content c.places.invariant.reached (sym c.in-Some.ensures.entry) in
    let len : c.line_len-total.result ≡ line_length (length name) content = rw c.len.ensures at c.line_len-total.ensures in
    omega (arith, here, len, printed-content name content, c.places.invariant.summed, c.requires)

pub overflow_add-place : goal.overflow_add-place
overflow_add-place c = omega (arith, within-here c.args.map.now.entries c.places.place c.in-Some.name.now c.in-Some.content.now (sym c.in-Some.ensures.entry), c.first_place-place.ensures.count)

pub places-preserved : goal.places-preserved
places-preserved c =
    let name = c.in-Some.name.now in
    let content = c.in-Some.content.now in
    let here = length-here c.args.filter.now c.args.map.now.entries c.places.place name content c.places.invariant.reached (sym c.in-Some.ensures.entry) in
    let len : c.line_len-total.result ≡ line_length (length name) content = rw c.len.ensures at c.line_len-total.ensures in
    let next = print-from c.args.filter.now c.args.map.now.entries c.first_place-place-in-Some.result (c.places.place + 1) c.first_place-place-in-Some.ensures.first in
    record {
      reached = reached _ _ _ (c.places.place + 1) c.first_place-place-in-Some.ensures.first;
      summed = omega (arith, here, len, printed-content name content, c.places.invariant.summed, ap length next);
    }
