use Rattle.std.proofs.Common.{◌+◌, ◌<◌, length, get_or, set, subst, sym, ap, arith}
use Rattle.std.proofs.lemmas.List.Sums.{get_or-le-sum_by}
use Rattle.sub_reader.specs.Readers.{Reader}
use Rattle.sub_reader.specs.Places.{placed}
use Rattle.sub_reader.specs.Rows.{rows_of, rank}
use Rattle.sub_reader.specs.Counts.{stands, recounted, IsCounted, IsWithin}
use Rattle.sub_reader.proofs.Tallies.{standing-le, counted-set, all-at}
use Rattle.sub_reader.proofs.Gaps.{rank_within}
use Rattle.sub_reader.proofs.counts.put.Goals as goal

pub recount-requires-clause-from_within : goal.recount-requires-clause-from_within
recount-requires-clause-from_within c =
    let rows = rows_of c.args.rows.now in
    let k = rank c.args.place c.args.rows.now.slots in
    let x = c.row.result.now in
    let lt : k < length rows = rank_within c.args.rows.now.slots c.args.place c.requires.row in
    subst (λ (r : Reader). IsWithin c.args.start (c.args.start + length c.args.counts.now.items) r.progress) (sym (c.row.ensures.row x))
    (all-at (λ (r : Reader). IsWithin c.args.start (c.args.start + length c.args.counts.now.items) r.progress) rows k x c.requires.within lt)

pub recount-requires-clause-there : goal.recount-requires-clause-there
recount-requires-clause-there c = λ i within.
    let rows = rows_of c.args.rows.now in
    let k = rank c.args.place c.args.rows.now.slots in
    let x = c.row.result.now in
    let lt : k < length rows = rank_within c.args.rows.now.slots c.args.place c.requires.row in
    let le = get_or-le-sum_by (λ (r : Reader). stands (c.args.start + i) r.progress) rows k x lt in
    let same = ap (λ (r : Reader). stands (c.args.start + i) r.progress) (c.row.ensures.row x) in
    omega (arith, c.requires.agree i within, le, same)

pub recount-requires-clause-room : goal.recount-requires-clause-room
recount-requires-clause-room c = λ i lt. omega (arith, c.requires.agree i lt, standing-le (rows_of c.args.rows.now) (c.args.start + i), c.row.ensures.few)

pub returns-clause-agree : goal.returns-clause-agree
returns-clause-agree c =
    let rows = rows_of c.args.rows.now in
    let k = rank c.args.place c.args.rows.now.slots in
    let x = c.row.result.now in
    let old : Reader = get_or rows k x in
    let lt : k < length rows = rank_within c.args.rows.now.slots c.args.place c.requires.row in
    subst (λ rs. IsCounted c.args.start rs c.recount.new.counts.items) (sym (c.set_progress.ensures.rows x))
    (subst (IsCounted c.args.start (set rows k (placed c.args.progress old))) (sym c.recount.ensures.counts)
    (subst (λ (r : Reader). IsCounted c.args.start (set rows k (placed c.args.progress old)) (recounted c.args.start r.progress c.args.progress c.args.counts.now.items)) (sym (c.row.ensures.row x))
    (counted-set c.args.start rows c.args.counts.now.items k x (placed c.args.progress old) c.requires.agree lt
    (all-at (λ (r : Reader). IsWithin c.args.start (c.args.start + length c.args.counts.now.items) r.progress) rows k x c.requires.within lt) c.requires.to_within)))
