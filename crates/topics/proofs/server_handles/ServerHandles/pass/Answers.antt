use Rattle.std.proofs.Common.{◌≡◌, ◌∙◌, drop, refl, sym, ap, subst}
use Rattle.pps_types.specs.Reading.{reseen, visible}
use Rattle.pps_types.specs.Plan.{on_numbered, left}
use Rattle.server_queue.specs.Queued.{Queued}
use Rattle.sub_reader.specs.Rows.{with_progress, rows_of, rows_in, row_at, changed_at}
use Rattle.sub_reader.proofs.Gaps.{some_of, rows_changed}
use Rattle.topics.specs.QueueRows.{handle_of, IsRowOn, IsFor}
use Rattle.topics.proofs.Moves.{same-nowhere, progress-is, right-at, changed-is, changed-seen}
use Rattle.topics.proofs.Seen.{all-drop, left-is}
use Rattle.topics.proofs.server_handles.ServerHandles.pass.Goals as goal

pub returns-in_default-clause-handles : goal.returns-in_default-clause-handles
returns-in_default-clause-handles c =
    let s = c.self.inside in
    ap (λ v. v.handles) (sym c.self.view_is)
    ∙ same-nowhere s.object s.name (rows_of s.rows) c.args.number c.in_default.ensures.absent.0 (reseen (λ h. left h c.args.count h.seen)) c.in_default.ensures.absent.1
    ∙ ap (λ v. on_numbered c.args.number (reseen (λ h. left h c.args.count h.seen)) v.handles) c.self.view_is

pub invariant_of-self : goal.invariant_of-self
invariant_of-self c =
    let s = c.self.inside in
    let ss = s.rows.slots in
    let i = c.in-Some.place in
    let one = some_of (row_at i ss) c.in-Some.ensures.row in
    let x = one.0 in
    let y = with_progress c.pass.new.self x in
    let new = rows_changed ss i (with_progress c.pass.new.self) x one.1 in
    let rows = rows_in (changed_at i (with_progress c.pass.new.self) ss) in
    let same : x.progress ≡ c.progress_mut.result.now = progress-is (row_at i ss) x c.progress_mut.result.now one.1 c.progress_mut.ensures.value in
    let old : IsRowOn s.object x = right-at s.object s.name ss i x y one.1 rows new c.self.invariant.each in
    let owed : c.pass.new.self.owed ≡ drop c.args.count x.progress.owed = c.pass.ensures.owed ∙ ap (λ (q : Queued). drop c.args.count q.owed) (sym same) in
    changed-is s.object s.name ss i x y one.1 rows new s.led c.self.invariant refl
    (record {
      kind = old.kind;
      limit = c.pass.ensures.limit ∙ ap (λ (q : Queued). q.limit) (sym same) ∙ old.limit;
      owed = subst (IsFor s.object x.opening) (sym owed) (all-drop (visible (handle_of s.object s.name x)) c.args.count x.progress.owed old.owed);
    })

pub returns-clause-handles : goal.returns-clause-handles
returns-clause-handles c =
    let s = c.self.inside in
    let ss = s.rows.slots in
    let i = c.in-Some.place in
    let one = some_of (row_at i ss) c.in-Some.ensures.row in
    let x = one.0 in
    let y = with_progress c.pass.new.self x in
    let new = rows_changed ss i (with_progress c.pass.new.self) x one.1 in
    let rows = rows_in (changed_at i (with_progress c.pass.new.self) ss) in
    let same : x.progress ≡ c.progress_mut.result.now = progress-is (row_at i ss) x c.progress_mut.result.now one.1 c.progress_mut.ensures.value in
    let old : IsRowOn s.object x = right-at s.object s.name ss i x y one.1 rows new c.self.invariant.each in
    let owed : c.pass.new.self.owed ≡ drop c.args.count x.progress.owed = c.pass.ensures.owed ∙ ap (λ (q : Queued). drop c.args.count q.owed) (sym same) in
    changed-seen s.object s.name ss i x y one.1 rows new c.args.number (reseen (λ h. left h c.args.count h.seen)) c.in-Some.ensures.found
    (left-is s.object s.name x old c.args.count c.pass.new.self.owed owed)
    ∙ ap (λ v. on_numbered c.args.number (reseen (λ h. left h c.args.count h.seen)) v.handles) c.self.view_is
