use Rattle.std.proofs.Common.{◌≡◌, ◌∙◌, suc, true, false, refl, sym, subst, arith, IfSome}
use Rattle.std.proofs.Math.Numerals.{add-one}
use Rattle.sub_reader.specs.Rows.{rows_in}
use Rattle.topics.specs.QueueRows.{IsQueued}
use Rattle.topics.specs.Offers.{RoomIn}
use Rattle.topics.specs.Rooms.{IsKept}
use Rattle.topics.specs.Spans.{rows_from, IsUnseen}
use Rattle.topics.proofs.Roomed.{IsRoomed, kept-refl, unseen-roomed}
use Rattle.topics.proofs.Walks.{Went, row-all, all-such, went-at, went-length, went-before, went-on, went-all, went-weak, zip-weak, zip-second, goes-and}
use Rattle.topics.proofs.rooms.reserve_each.Goals as goal

pub places-init : goal.places-init
places-init c =
    let es = c.args.entries.now in
    record {
      went = went-before (IsRoomed c.args.object es) (IsUnseen c.args.object es) (unseen-roomed c.args.object es) c.args.span.from c.args.rows.now.slots c.requires.span.before;
      places = refl;
    }

pub reserve_at-requires-clause-place : goal.reserve_at-requires-clause-place
reserve_at-requires-clause-place c =
    omega (arith, c.requires.span.bound, went-length (IsRoomed c.args.object c.args.entries.now) c.places.place c.args.rows.now.slots c.places.rows.slots c.places.invariant.went)

pub reserve_at-requires-clause-queue : goal.reserve_at-requires-clause-queue
reserve_at-requires-clause-queue c =
    let olds = c.args.rows.now.slots in
    let i = c.places.place in
    subst (λ o. IfSome o IsQueued) (sym (went-at (IsRoomed c.args.object c.args.entries.now) i olds c.places.rows.slots c.places.invariant.went)) (row-all IsQueued i olds c.requires.queue)

pub returns-in_err-reserve_at-clause-kept : goal.returns-in_err-reserve_at-clause-kept
returns-in_err-reserve_at-clause-kept c =
    let olds = c.args.rows.now.slots in
    let cur = c.places.rows.slots in
    let new = c.reserve_at.new.rows.slots in
    let i = c.places.place in
    let before = went-weak (IsRoomed c.args.object c.args.entries.now) IsKept (λ x y so. so.0) i olds cur c.places.invariant.went in
    let all = went-on IsKept i olds cur new before c.reserve_at.ensures.kept in
    went-all IsKept (λ x. Unit {0}) (λ x out. kept-refl x) (suc i) olds new all (all-such (λ x. Unit {0}) (λ x. tt) (rows_from (suc i) olds))

pub returns-in_err-reserve_at-clause-succeeds : goal.returns-in_err-reserve_at-clause-succeeds
returns-in_err-reserve_at-clause-succeeds c room =
    let olds = c.args.rows.now.slots in
    let i = c.places.place in
    let P = RoomIn c.args.object c.args.entries.now in
    let bad : false ≡ true = c.in_err-reserve_at.ensures.succeeds (subst (λ o. IfSome o P) (sym (went-at (IsRoomed c.args.object c.args.entries.now) i olds c.places.rows.slots c.places.invariant.went)) (row-all P i olds room)) in
    absurd cc

pub places-preserved : goal.places-preserved
places-preserved c =
    let olds = c.args.rows.now.slots in
    let cur = c.places.rows.slots in
    let new = c.reserve_at.new.rows.slots in
    let i = c.places.place in
    let P = RoomIn c.args.object c.args.entries.now in
    let Goes = IsRoomed c.args.object c.args.entries.now in
    record {
      went = subst (λ n. Went Goes n olds new) (sym (add-one i)) (went-on Goes i olds cur new c.places.invariant.went (goes-and IsKept P i cur new c.reserve_at.ensures.kept c.in_ok-reserve_at.ensures.room));
      places = c.reserve_at.ensures.places ∙ c.places.invariant.places;
    }

pub returns-clause-kept : goal.returns-clause-kept
returns-clause-kept c =
    let olds = c.args.rows.now.slots in
    let cur = c.places.rows.slots in
    let object = c.args.object in
    let es = c.args.entries.now in
    let order = c.requires.span.order in
    let end : c.places.place ≡ c.args.span.to = omega (arith, order) in
    let all = went-all (IsRoomed object es) (IsUnseen object es) (unseen-roomed object es) c.args.span.to olds cur (subst (λ n. Went (IsRoomed object es) n olds cur) end c.places.invariant.went) c.requires.span.behind in
    zip-weak (IsRoomed object es) IsKept (λ x y so. so.0) (rows_in olds) (rows_in cur) all

pub returns-clause-room : goal.returns-clause-room
returns-clause-room c =
    let olds = c.args.rows.now.slots in
    let cur = c.places.rows.slots in
    let object = c.args.object in
    let es = c.args.entries.now in
    let order = c.requires.span.order in
    let end : c.places.place ≡ c.args.span.to = omega (arith, order) in
    let all = went-all (IsRoomed object es) (IsUnseen object es) (unseen-roomed object es) c.args.span.to olds cur (subst (λ n. Went (IsRoomed object es) n olds cur) end c.places.invariant.went) c.requires.span.behind in
    zip-second (IsRoomed object es) (RoomIn object es) (λ x y so. so.1) (rows_in olds) (rows_in cur) all
