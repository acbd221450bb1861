use Rattle.std.proofs.Common.{◌≡◌, ◌<◌, ◌∙◌, false, [], ◌∷◌, length, refl, sym, ap, subst, arith, IfSome}
use Rattle.std.specs.Prelude.{filter}
use Rattle.std.specs.Option.{option_map_or}
use Rattle.std.proofs.Math.Numerals.{add-one}
use Rattle.pps_types.specs.History.{Entry}
use Rattle.sub_reader.specs.Rows.{row_at}
use Rattle.topics.specs.QueueRows.{QueueRow, IsQueued, sees, seer_count}
use Rattle.topics.specs.Offers.{RoomIn, IsOffered, seers_at}
use Rattle.topics.specs.Spans.{rows_from}
use Rattle.topics.specs.Walks.{GoesAt}
use Rattle.topics.proofs.Offering.{unseen-offered, count-at, count-behind}
use Rattle.topics.proofs.Spans.{unseen-span}
use Rattle.topics.proofs.Walks.{Went, row-all, went-at, went-length, went-before, went-on, went-all}
use Rattle.topics.proofs.offers.offer_each.Goals as goal

pub places-init : goal.places-init
places-init c =
    let olds = c.args.rows.now.slots in
    let e = c.args.shares.now.entry in
    let object = c.args.object in
    let span = unseen-span object e c.args.span.from c.args.span.to olds c.requires.queue c.requires.span in
    record {
      went = went-before (IsOffered object e) (λ x. sees object e x ≡ false) (unseen-offered object e) c.args.span.from olds span.before;
      entry = refl;
      enough = omega (arith, count-behind object e c.args.span.from olds, c.requires.enough);
      places = refl;
    }

pub offer_at-requires-clause-place : goal.offer_at-requires-clause-place
offer_at-requires-clause-place c =
    let olds = c.args.rows.now.slots in
    omega (arith, c.requires.span.bound, went-length (IsOffered c.args.object c.args.shares.now.entry) c.places.place olds c.places.rows.slots c.places.invariant.went)

pub offer_at-requires-clause-queue : goal.offer_at-requires-clause-queue
offer_at-requires-clause-queue c =
    let olds = c.args.rows.now.slots in
    let i = c.places.place in
    subst (λ o. IfSome o IsQueued) (sym (went-at (IsOffered c.args.object c.args.shares.now.entry) i olds c.places.rows.slots c.places.invariant.went)) (row-all IsQueued i olds c.requires.queue)

pub offer_at-requires-clause-room : goal.offer_at-requires-clause-room
offer_at-requires-clause-room c =
    let olds = c.args.rows.now.slots in
    let e = c.args.shares.now.entry in
    let i = c.places.place in
    subst (λ (y : Entry). IfSome (row_at i c.places.rows.slots) (RoomIn c.args.object (y ∷ []))) (sym c.places.invariant.entry)
    (subst (λ o. IfSome o (RoomIn c.args.object (e ∷ []))) (sym (went-at (IsOffered c.args.object e) i olds c.places.rows.slots c.places.invariant.went)) (row-all (RoomIn c.args.object (e ∷ [])) i olds c.requires.room))

pub offer_at-requires-clause-enough : goal.offer_at-requires-clause-enough
offer_at-requires-clause-enough c =
    let olds = c.args.rows.now.slots in
    let e = c.args.shares.now.entry in
    let object = c.args.object in
    let i = c.places.place in
    let lt : i < length olds = omega (arith, c.requires.span.bound) in
    let same : seers_at i object c.places.shares.entry c.places.rows.slots ≡ seers_at i object e olds =
    λ j. option_map_or (λ (x : QueueRow). seer_count object (c.places.invariant.entry j) (x ∷ [])) (went-at (IsOffered object e) i olds c.places.rows.slots c.places.invariant.went j) 0 in
    omega (arith, same, c.places.invariant.enough, count-at object e i olds lt)

pub places-preserved : goal.places-preserved
places-preserved c =
    let olds = c.args.rows.now.slots in
    let e = c.args.shares.now.entry in
    let object = c.args.object in
    let cur = c.places.rows.slots in
    let new = c.offer_at.new.rows.slots in
    let i = c.places.place in
    let lt : i < length olds = omega (arith, c.requires.span.bound) in
    let same : seers_at i object c.places.shares.entry cur ≡ seers_at i object e olds =
    λ j. option_map_or (λ (x : QueueRow). seer_count object (c.places.invariant.entry j) (x ∷ [])) (went-at (IsOffered object e) i olds cur c.places.invariant.went j) 0 in
    record {
      went = subst (λ n. Went (IsOffered object e) n olds new) (sym (add-one i)) (went-on (IsOffered object e) i olds cur new c.places.invariant.went (subst (λ (y : Entry). GoesAt (IsOffered object y) i cur new) c.places.invariant.entry c.offer_at.ensures.slots));
      entry = c.offer_at.ensures.entry ∙ c.places.invariant.entry;
      enough = omega (arith, same, c.places.invariant.enough, count-at object e i olds lt, c.offer_at.ensures.count, ap (λ n. length (filter (sees object e) (rows_from n olds))) (add-one i));
      places = c.offer_at.ensures.places ∙ c.places.invariant.places;
    }

pub returns-clause-rows : goal.returns-clause-rows
returns-clause-rows c =
    let olds = c.args.rows.now.slots in
    let e = c.args.shares.now.entry in
    let object = c.args.object in
    let cur = c.places.rows.slots in
    let span = unseen-span object e c.args.span.from c.args.span.to olds c.requires.queue c.requires.span in
    let order = c.requires.span.order in
    let end : c.places.place ≡ c.args.span.to = omega (arith, order) in
    went-all (IsOffered object e) (λ x. sees object e x ≡ false) (unseen-offered object e) c.args.span.to olds cur (subst (λ n. Went (IsOffered object e) n olds cur) end c.places.invariant.went) span.behind
