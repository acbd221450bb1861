use Rattle.std.proofs.Common.{◌+◌, ◌++◌, sym, ap, ◌∙◌, arith, drop, length, append_assoc, Some}
use Rattle.std.proofs.lemmas.Grind.{common_steps}
use Rattle.pps_types.specs.History.{line_of}
use Rattle.pps_types.specs.Text.{print_line}
use Rattle.object_state.specs.Entries.{attributes_of, attribute_of}
use Rattle.object_state.specs.Held.{print_matching}
use Rattle.object_state.proofs.Matched.{reached, print-from, print-here, length-here, within-here}
use Rattle.object_state.proofs.print.push_matching.Goals as goal

pub places-init : goal.places-init
places-init c =
    let from = print-from c.args.filter.now c.args.map.now.entries c.first_place-place.result 0 c.first_place-place.ensures.first in
    record {
      reached = reached _ _ _ 0 c.first_place-place.ensures.first;
      printed = ap (λ rest. c.args.out.now.items ++ rest) (sym from);
      room = omega (arith, ap length from, c.requires);
      grown = omega arith;
    }

pub push_entry-requires : goal.push_entry-requires
push_entry-requires c =
    let here = length-here c.args.filter.now c.args.map.now.entries c.places.place c.in-Some.name.now c.in-Some.content.now c.places.invariant.reached (sym c.in-Some.ensures.entry) in
    omega (arith, here, c.places.invariant.room)

pub overflow_add-place : goal.overflow_add-place
overflow_add-place c = omega (arith, within-here c.args.map.now.entries c.places.place c.in-Some.name.now c.in-Some.content.now (sym c.in-Some.ensures.entry), c.first_place-place.ensures.count)

pub places-preserved : goal.places-preserved
places-preserved c =
    let es = c.args.map.now.entries in
    let line = print_line (line_of (attribute_of (c.in-Some.name.now, c.in-Some.content.now))) in
    let rest = print_matching (Some c.args.filter.now) (drop c.first_place-place-in-Some.result (attributes_of es)) in
    let here = print-here c.args.filter.now es c.places.place c.in-Some.name.now c.in-Some.content.now c.places.invariant.reached (sym c.in-Some.ensures.entry) in
    let here-length = length-here c.args.filter.now es c.places.place c.in-Some.name.now c.in-Some.content.now c.places.invariant.reached (sym c.in-Some.ensures.entry) in
    let next = print-from c.args.filter.now es c.first_place-place-in-Some.result (c.places.place + 1) c.first_place-place-in-Some.ensures.first in
    record {
      reached = reached _ _ _ (c.places.place + 1) c.first_place-place-in-Some.ensures.first;
      printed = ap (λ items. items ++ rest) c.push_entry.ensures.items ∙ append_assoc c.places.out.items line rest ∙ ap (λ more. c.places.out.items ++ (line ++ more)) (sym next) ∙ ap (λ more. c.places.out.items ++ more) (sym here) ∙ c.places.invariant.printed;
      room = grind (arith, common_steps, ap length c.push_entry.ensures.items, ap length next, here-length);
      grown = omega arith;
    }
