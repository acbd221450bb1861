use Rattle.std.proofs.Common.{◌≡◌, ◌<◌, ◌≤◌, ℕ, ◌++◌, List, length, set, map, take, drop, subst, sym, ap, ◌∙◌, arith, length-append, append-nil}
use Rattle.std.proofs.lemmas.List.{length-map, length-take, length-drop, take_all, drop_all}
use Rattle.std.proofs.lemmas.List.Edits.{map_over_more}
use Rattle.sub_reader.specs.declared.place.Place.{Place}
use Rattle.sub_reader.specs.declared.row.Slot.{Slot}
use Rattle.sub_reader.specs.Places.{reader_after}
use Rattle.sub_reader.specs.Rows.{on_row, rows_in, rows_of}
use Rattle.sub_reader.specs.Counts.{AreWithin}
use Rattle.sub_reader.proofs.Gaps.{rows_map, item_at}
use Rattle.sub_reader.proofs.counts.offer_each.Goals as goal

offered-length : (f : Slot Place → Slot Place) (old now : List (Slot Place)) (i : ℕ) → i < length old → now ≡ map f (take i old) ++ drop i old → length now ≡ length old
offered-length f old now i lt same = omega (arith, ap length same, length-append (map f (take i old)) (drop i old), length-map (take i old) f, length-take i old, length-drop i old)

pub offers-preserved : goal.offers-preserved
offers-preserved c =
    let old = c.args.rows.now.slots in
    let f = on_row (reader_after c.args.target c.args.entry.now c.args.position) in
    let place = c.offers.place in
    let lt : place < length old = omega (arith, ap length c.slots-end.ensures) in
    let here : place < length c.offers.rows.slots = omega (arith, lt, offered-length f old c.offers.rows.slots place lt c.offers.invariant.same) in
    let s = item_at c.offers.rows.slots place here in
    record {
      same = c.offer_at.ensures.slots s.0 ∙ ap (λ x. set c.offers.rows.slots place (f x)) (sym (s.1 s.0)) ∙ map_over_more f old c.offers.rows.slots place s.0 lt c.offers.invariant.same (s.1 s.0);
      lengths = c.offer_at.ensures.length ∙ c.offers.invariant.lengths;
      within = subst (λ n. AreWithin c.args.start n (rows_of c.offer_at.new.rows)) c.offers.invariant.lengths c.offer_at.ensures.within;
      agree = c.offer_at.ensures.agree;
      capacity = c.offer_at.ensures.capacity ∙ c.offers.invariant.capacity;
      places = c.offer_at.ensures.places ∙ c.offers.invariant.places;
    }

pub returns-clause-rows : goal.returns-clause-rows
returns-clause-rows c =
    let old = c.args.rows.now.slots in
    let change = reader_after c.args.target c.args.entry.now c.args.position in
    let place = c.offers.place in
    let le : length old ≤ place = omega (arith, ap length c.slots-end.ensures) in
    ap rows_in (c.offers.invariant.same ∙ (λ i. map (on_row change) (take_all place old le i) ++ drop_all place old le i) ∙ append-nil (map (on_row change) old))
    ∙ rows_map change old
