use Rattle.std.proofs.Common.{◌∙◌, ◌+◌, ◌≤◌, ◌<◌, ℕ, [], length, sym, ap, arith}
use Rattle.pps_types.specs.History.{Entry}
use Rattle.pps_types.specs.Reading.{visible}
use Rattle.sub_reader.specs.Opened.{opened}
use Rattle.sub_reader.specs.Readers.{Reader}
use Rattle.sub_reader.specs.Places.{reader_after}
use Rattle.sub_reader.specs.Rows.{rows_of, with_progress}
use Rattle.sub_reader.specs.Counts.{IsWithin, recounted}
use Rattle.sub_reader.proofs.Tallies.{standing-le, within-after}
use Rattle.sub_reader.proofs.Gaps.{set_gap, set_same, set_alike, item_at}
use Rattle.sub_reader.proofs.Walks.{row-within, row-there, changed-within, changed-agree}
use Rattle.sub_reader.proofs.counts.offer_at.Goals as goal

pub returns-in_default-clause-slots : goal.returns-in_default-clause-slots
returns-in_default-clause-slots c = λ d. set_gap c.args.rows.now.slots c.args.place (reader_after c.args.target c.args.entry.now c.args.position) d (sym c.in_default.ensures.row)

pub offer_one-moved-requires-clause-within : goal.offer_one-moved-requires-clause-within
offer_one-moved-requires-clause-within c =
    row-within c.args.start c.args.rows.now.slots c.args.counts.now.items c.args.place c.in-Some.reader.now c.in-Some.ensures.row c.requires.agree c.requires.within

pub offer_one-moved-requires-clause-there : goal.offer_one-moved-requires-clause-there
offer_one-moved-requires-clause-there c =
    row-there c.args.start c.args.rows.now.slots c.args.counts.now.items c.args.place c.in-Some.reader.now c.in-Some.ensures.row c.requires.agree c.requires.within

pub offer_one-moved-requires-clause-room : goal.offer_one-moved-requires-clause-room
offer_one-moved-requires-clause-room c = λ i lt. omega (arith, c.requires.agree i lt, standing-le (rows_of c.args.rows.now) (c.args.start + i), c.in-Some.ensures.few)

pub returns-in-Some-moved-clause-slots : goal.returns-in-Some-moved-clause-slots
returns-in-Some-moved-clause-slots c = λ d.
    c.set_progress.ensures.slots d
    ∙ set_alike c.args.rows.now.slots c.args.place (with_progress c.in-Some-moved.progress) (reader_after c.args.target c.args.entry.now c.args.position) c.in-Some.reader.now d c.in-Some.ensures.row c.in-Some-moved.ensures.reader

to-within : (start end target position : ℕ) (e : Entry) (r : Reader) → start ≤ position → position < end → IsWithin start end r.progress → IsWithin start end (reader_after target e position r).progress
to-within start end target position e r from to is = within-after start end r.opening.limit position (visible (opened target [] r.opening) e) r.progress from to is

pub returns-in-Some-moved-clause-within : goal.returns-in-Some-moved-clause-within
returns-in-Some-moved-clause-within c =
    let ss = c.args.rows.now.slots in
    let counts = c.args.counts.now.items in
    let r = c.in-Some.reader.now in
    let f = reader_after c.args.target c.args.entry.now c.args.position in
    let there = row-within c.args.start ss counts c.args.place r c.in-Some.ensures.row c.requires.agree c.requires.within in
    changed-within c.args.start ss counts c.args.place r c.in-Some.ensures.row c.requires.agree c.requires.within f (item_at ss c.args.place c.requires.place).0 c.set_progress.new.self.slots
    (returns-in-Some-moved-clause-slots c (item_at ss c.args.place c.requires.place).0)
    (to-within c.args.start (c.args.start + length counts) c.args.target c.args.position c.args.entry.now r c.requires.from_start c.requires.before_end there)

pub returns-in-Some-moved-clause-agree : goal.returns-in-Some-moved-clause-agree
returns-in-Some-moved-clause-agree c =
    let ss = c.args.rows.now.slots in
    let counts = c.args.counts.now.items in
    let r = c.in-Some.reader.now in
    let f = reader_after c.args.target c.args.entry.now c.args.position in
    let there = row-within c.args.start ss counts c.args.place r c.in-Some.ensures.row c.requires.agree c.requires.within in
    changed-agree c.args.start ss counts c.args.place r c.in-Some.ensures.row c.requires.agree c.requires.within f (item_at ss c.args.place c.requires.place).0 c.set_progress.new.self.slots
    (returns-in-Some-moved-clause-slots c (item_at ss c.args.place c.requires.place).0)
    (to-within c.args.start (c.args.start + length counts) c.args.target c.args.position c.args.entry.now r c.requires.from_start c.requires.before_end there)
    c.offer_one-moved.new.counts.items
    (c.offer_one-moved.ensures.counts ∙ ap (λ (x : Reader). recounted c.args.start r.progress x.progress counts) c.offer_one-moved.ensures.reader)

pub returns-in_default-moved-clause-slots : goal.returns-in_default-moved-clause-slots
returns-in_default-moved-clause-slots c = λ d.
    set_same c.args.rows.now.slots c.args.place (reader_after c.args.target c.args.entry.now c.args.position) c.in-Some.reader.now d c.in-Some.ensures.row (sym c.in_default-moved.ensures.reader)

pub returns-in_default-moved-clause-agree : goal.returns-in_default-moved-clause-agree
returns-in_default-moved-clause-agree c =
    let ss = c.args.rows.now.slots in
    let counts = c.args.counts.now.items in
    let r = c.in-Some.reader.now in
    let f = reader_after c.args.target c.args.entry.now c.args.position in
    let there = row-within c.args.start ss counts c.args.place r c.in-Some.ensures.row c.requires.agree c.requires.within in
    changed-agree c.args.start ss counts c.args.place r c.in-Some.ensures.row c.requires.agree c.requires.within f (item_at ss c.args.place c.requires.place).0 ss
    (returns-in_default-moved-clause-slots c (item_at ss c.args.place c.requires.place).0)
    (to-within c.args.start (c.args.start + length counts) c.args.target c.args.position c.args.entry.now r c.requires.from_start c.requires.before_end there)
    c.offer_one-moved.new.counts.items
    (c.offer_one-moved.ensures.counts ∙ ap (λ (x : Reader). recounted c.args.start r.progress x.progress counts) c.offer_one-moved.ensures.reader)
