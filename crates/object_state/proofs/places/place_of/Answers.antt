use Rattle.std.proofs.Common.{◌≡◌, ◌∙◌, ℕ, List, sym, ap, true, false, Some, None}
use Rattle.std.specs.Prelude.{position, slice_get}
use Rattle.std.specs.Map.{keys_of, lookup}
use Rattle.pps_types.specs.Bytes.{same}
use Rattle.pps_types.specs.Filter.{value_meets}
use Rattle.pps_filter.specs.Seen.{part_seen}
use Rattle.pps_types.specs.AttributeContent.{Content}
use Rattle.object_state.proofs.Matched.{none-found, place-none, place-met, place-unmet}
use Rattle.object_state.proofs.places.place_of.Goals as goal

pub returns-in_err-place : goal.returns-in_err-place
returns-in_err-place c =
    let none : lookup (same c.name.result.now) c.args.map.now.entries ≡ None = none-found _ c.in_err-place.ensures.found in
    rw c.from_residual.ensures (place-none (part_seen c.args.part.now) c.args.map.now.entries (rw c.name.ensures at none))

pub returns-then-is_met_by : goal.returns-then-is_met_by
returns-then-is_met_by c =
    let e : List ℕ × Content = (c.in_ok-content.field-0-0.now, c.in_ok-content.content.now) in
    let found : position (same c.name.result.now) (keys_of c.args.map.now.entries) ≡ Some c.in_ok-place.place = sym c.in_ok-place.ensures.index in
    let at : slice_get c.args.map.now.entries c.in_ok-place.place ≡ Some e = sym c.in_ok-content.ensures.entry in
    let met : value_meets (part_seen c.args.part.now).condition e.1.value ≡ true = ap (value_meets (part_seen c.args.part.now).condition) (sym (c.value.ensures ∙ ap (λ (k : Content). k.value) c.lend.ensures)) ∙ sym c.if-is_met_by.ensures in
    place-met (part_seen c.args.part.now) c.args.map.now.entries c.in_ok-place.place e c.get_index_of.ensures.names (rw c.name.ensures at found) at met

pub returns : goal.returns
returns c =
    let e : List ℕ × Content = (c.in_ok-content.field-0-0.now, c.in_ok-content.content.now) in
    let found : position (same c.name.result.now) (keys_of c.args.map.now.entries) ≡ Some c.in_ok-place.place = sym c.in_ok-place.ensures.index in
    let at : slice_get c.args.map.now.entries c.in_ok-place.place ≡ Some e = sym c.in_ok-content.ensures.entry in
    let unmet : value_meets (part_seen c.args.part.now).condition e.1.value ≡ false = ap (value_meets (part_seen c.args.part.now).condition) (sym (c.value.ensures ∙ ap (λ (k : Content). k.value) c.lend.ensures)) ∙ sym c.if-is_met_by.ensures in
    place-unmet (part_seen c.args.part.now) c.args.map.now.entries c.in_ok-place.place e c.get_index_of.ensures.names (rw c.name.ensures at found) at unmet
