use Rattle.std.proofs.Common.{[], ◌≡◌, ◌<◌, length, get_or, sym, ap, subst, ◌∙◌}
use Rattle.pps_types.specs.Reading.{reseen}
use Rattle.pps_types.specs.Plan.{on_numbered, left}
use Rattle.sub_reader.specs.Readers.{Reader}
use Rattle.sub_reader.specs.Opened.{opened, is_directory, number_of}
use Rattle.sub_reader.specs.Places.{seen_at, IsPlace, IsReader}
use Rattle.sub_reader.specs.Counts.{AreWithin, IsCounted}
use Rattle.sub_reader.proofs.Tallies.{all-at}
use Rattle.sub_reader.proofs.Moves.{same-nowhere, put-within}
use Rattle.sub_reader.proofs.Puts.{put-is, put-seen, passed-handle, named-place, named-left}
use Rattle.sub_reader.specs.Rows.{rows_of, rank}
use Rattle.sub_reader.proofs.Gaps.{rank_within}
use Rattle.sub_reader.proofs.subscribers.Subscribers.pass.Goals as goal

pub returns-in_default-clause-handles : goal.returns-in_default-clause-handles
returns-in_default-clause-handles c =
    let t = c.self.inside in
    ap (λ v. v.handles) (sym c.self.view_is)
    ∙ same-nowhere (is_directory t.of) (number_of t.of) t.name t.records.start t.records.items t.counts.items (rows_of t.rows) c.self.invariant.loose c.args.number c.in_default.ensures.absent.0 (reseen (λ h. left h c.args.count h.seen)) c.in_default.ensures.absent.1
    ∙ ap (λ v. on_numbered c.args.number (reseen (λ h. left h c.args.count h.seen)) v.handles) c.self.view_is

pub put-requires-clause-within : goal.put-requires-clause-within
put-requires-clause-within c =
    let t = c.self.inside in
    subst (λ s. AreWithin s (length t.counts.items) (rows_of t.rows)) (sym c.start-start.ensures) (put-within (is_directory t.of) (number_of t.of) t.name t.records.start t.records.items t.counts.items (rows_of t.rows) c.self.invariant.loose)

pub invariant_of-self : goal.invariant_of-self
invariant_of-self c =
    let t = c.self.inside in
    let k = rank c.in-Some.place t.rows.slots in
    let x = c.row-row.result.now in
    let lt : k < length (rows_of t.rows) = rank_within t.rows.slots c.in-Some.place c.in-Some.ensures.row in
    let h = opened (number_of t.of) t.name (get_or (rows_of t.rows) k x).opening in
    let p = c.passed-progress.result in
    let right : IsPlace h t.records.start t.records.items p = subst (λ (r : Reader). IsPlace (opened (number_of t.of) t.name r.opening) t.records.start t.records.items p) (c.row-row.ensures.row x)
    (named-place (number_of t.of) [] t.name x.opening t.records.start t.records.items p (subst (λ n. IsPlace (opened n [] x.opening) t.records.start t.records.items p) c.number_of.ensures c.passed-progress.ensures.is)) in
    put-is (is_directory t.of) (number_of t.of) t.name t.records.start t.records.items t.counts.items (rows_of t.rows) c.self.invariant k x lt p right (rows_of c.put.new.rows) c.put.new.counts.items (c.put.ensures.rows x) (subst (λ s. IsCounted s (rows_of c.put.new.rows) c.put.new.counts.items) c.start-start.ensures c.put.ensures.agree) c.put.ensures.length c.cut.new.records.start c.cut.new.records.items c.cut.ensures.start c.cut.ensures.records c.cut.new.counts.items c.cut.ensures.counts

pub returns-clause-handles : goal.returns-clause-handles
returns-clause-handles c =
    let t = c.self.inside in
    let k = rank c.in-Some.place t.rows.slots in
    let x = c.row-row.result.now in
    let lt : k < length (rows_of t.rows) = rank_within t.rows.slots c.in-Some.place c.in-Some.ensures.row in
    let h = opened (number_of t.of) t.name (get_or (rows_of t.rows) k x).opening in
    let p = c.passed-progress.result in
    let right : IsPlace h t.records.start t.records.items p = subst (λ (r : Reader). IsPlace (opened (number_of t.of) t.name r.opening) t.records.start t.records.items p) (c.row-row.ensures.row x)
    (named-place (number_of t.of) [] t.name x.opening t.records.start t.records.items p (subst (λ n. IsPlace (opened n [] x.opening) t.records.start t.records.items p) c.number_of.ensures c.passed-progress.ensures.is)) in
    put-seen (is_directory t.of) (number_of t.of) t.name t.records.start t.records.items t.counts.items (rows_of t.rows) c.self.invariant k x lt p right (rows_of c.put.new.rows) c.put.new.counts.items (c.put.ensures.rows x) (subst (λ s. IsCounted s (rows_of c.put.new.rows) c.put.new.counts.items) c.start-start.ensures c.put.ensures.agree) c.put.ensures.length c.cut.new.records.start c.cut.new.records.items c.cut.ensures.start c.cut.ensures.records c.args.number (reseen (λ h. left h c.args.count h.seen)) c.in-Some.ensures.found
    (passed-handle (is_directory t.of) (number_of t.of) t.name t.records.start t.records.items t.counts.items (rows_of t.rows) c.self.invariant k x lt c.args.count p
    (subst (λ n. seen_at t.records.start t.records.items p ≡ left (opened n [] x.opening) c.args.count (seen_at t.records.start t.records.items x.progress)) c.number_of.ensures c.passed-progress.ensures.seen
    ∙ named-left (number_of t.of) [] t.name x.opening c.args.count (seen_at t.records.start t.records.items x.progress)
    ∙ ap (λ (r : Reader). left (opened (number_of t.of) t.name r.opening) c.args.count (seen_at t.records.start t.records.items r.progress)) (c.row-row.ensures.row x)))
    ∙ ap (λ v. on_numbered c.args.number (reseen (λ h. left h c.args.count h.seen)) v.handles) c.self.view_is

pub passed-progress-requires : goal.passed-progress-requires
passed-progress-requires c =
    let t = c.self.inside in
    let k = rank c.in-Some.place t.rows.slots in
    let x = c.row-row.result.now in
    let lt : k < length (rows_of t.rows) = rank_within t.rows.slots c.in-Some.place c.in-Some.ensures.row in
    subst (λ n. IsPlace (opened n [] x.opening) t.records.start t.records.items x.progress) (sym c.number_of.ensures)
    (named-place (number_of t.of) t.name [] x.opening t.records.start t.records.items x.progress
    (subst (λ (r : Reader). IsPlace (opened (number_of t.of) t.name r.opening) t.records.start t.records.items r.progress) (sym (c.row-row.ensures.row x))
    (all-at (IsReader (is_directory t.of) (number_of t.of) t.name t.records.start t.records.items) (rows_of t.rows) k x c.self.invariant.loose.each lt).place))
