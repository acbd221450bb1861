use Rattle.std.proofs.Common.{◌≡◌, ◌≢◌, ◌++◌, ◌∙◌, [], length, sym, ap, subst, Some, None, arith}
use Rattle.std.specs.Prelude.{IfOk}
use Rattle.std.proofs.lemmas.List.{length-map}
use Rattle.pps_types.specs.Names.{refusal_of}
use Rattle.pps_types.specs.declared.refusal.Refusal.TheVariants.{OutOfMemory}
use Rattle.pps_types.specs.Reading.{fitting}
use Rattle.server_queue.specs.Blocks.{queue_block, queue_blocks}
use Rattle.sub_reader.specs.Opened.{handle_at}
use Rattle.server_queue.specs.Given.{refused_for, first_len}
use Rattle.sub_reader.specs.Blocks.{owed_blocks}
use Rattle.sub_reader.specs.Rows.{rows_of}
use Rattle.topics.proofs.Seen.{found-handle, found-right}
use Rattle.topics.proofs.Given.{queue-given}
use Rattle.topics.proofs.server_handles.ServerHandles.read_owed.Goals as goal

pub returns-in_default-clause-ok : goal.returns-in_default-clause-ok
returns-in_default-clause-ok c =
    let t = c.self.inside in
    let gone : None ≡ handle_at c.args.number c.args.self.now.handles = found-handle t.object t.name (rows_of t.rows) c.args.number None c.in_default.ensures ∙ ap (λ v. handle_at c.args.number v.handles) c.self.view_is in
    (λ i. (c.nothing.ensures.count i, c.nothing.ensures.text i)) ∙ ap (λ h. fitting c.args.max (owed_blocks h)) gone

pub returns-in_default-clause-refusal : goal.returns-in_default-clause-refusal
returns-in_default-clause-refusal c other =
    let t = c.self.inside in
    let gone : None ≡ handle_at c.args.number c.args.self.now.handles = found-handle t.object t.name (rows_of t.rows) c.args.number None c.in_default.ensures ∙ ap (λ v. handle_at c.args.number v.handles) c.self.view_is in
    ap (λ h. refused_for c.args.max (owed_blocks h)) gone

pub returns-clause-ok : goal.returns-clause-ok
returns-clause-ok c =
    let t = c.self.inside in
    let x = c.in-Some.row.now in
    let right = found-right t.object t.name (rows_of t.rows) c.args.number x c.self.invariant.each c.in-Some.ensures in
    let same : queue_blocks (x.progress.owed ++ []) ≡ owed_blocks (handle_at c.args.number c.args.self.now.handles) =
    queue-given t.object t.name x right
    ∙ ap owed_blocks (found-handle t.object t.name (rows_of t.rows) c.args.number (Some x) c.in-Some.ensures ∙ ap (λ v. handle_at c.args.number v.handles) c.self.view_is) in
    subst (λ bs. IfOk c.read_plan.result (λ p. (p.count, p.text.items) ≡ fitting c.args.max bs)) same c.read_plan.ensures.ok

pub returns-clause-refusal : goal.returns-clause-refusal
returns-clause-refusal c =
    let t = c.self.inside in
    let x = c.in-Some.row.now in
    let right = found-right t.object t.name (rows_of t.rows) c.args.number x c.self.invariant.each c.in-Some.ensures in
    let same : queue_blocks (x.progress.owed ++ []) ≡ owed_blocks (handle_at c.args.number c.args.self.now.handles) =
    queue-given t.object t.name x right
    ∙ ap owed_blocks (found-handle t.object t.name (rows_of t.rows) c.args.number (Some x) c.in-Some.ensures ∙ ap (λ v. handle_at c.args.number v.handles) c.self.view_is) in
    subst (λ bs. refusal_of c.read_plan.result ≢ Some OutOfMemory → refusal_of c.read_plan.result ≡ refused_for c.args.max bs) same c.read_plan.ensures.refusal

pub returns-clause-memory : goal.returns-clause-memory
returns-clause-memory c memory small =
    let t = c.self.inside in
    let x = c.in-Some.row.now in
    let right = found-right t.object t.name (rows_of t.rows) c.args.number x c.self.invariant.each c.in-Some.ensures in
    let same : queue_blocks (x.progress.owed ++ []) ≡ owed_blocks (handle_at c.args.number c.args.self.now.handles) =
    queue-given t.object t.name x right
    ∙ ap owed_blocks (found-handle t.object t.name (rows_of t.rows) c.args.number (Some x) c.in-Some.ensures ∙ ap (λ v. handle_at c.args.number v.handles) c.self.view_is) in
    ap (refused_for c.args.max) (sym same) ∙ c.read_plan.ensures.memory memory (omega (arith, small, ap first_len same))

pub returns-clause-some : goal.returns-clause-some
returns-clause-some c memory =
    let t = c.self.inside in
    let x = c.in-Some.row.now in
    let right = found-right t.object t.name (rows_of t.rows) c.args.number x c.self.invariant.each c.in-Some.ensures in
    let same : queue_blocks (x.progress.owed ++ []) ≡ owed_blocks (handle_at c.args.number c.args.self.now.handles) =
    queue-given t.object t.name x right
    ∙ ap owed_blocks (found-handle t.object t.name (rows_of t.rows) c.args.number (Some x) c.in-Some.ensures ∙ ap (λ v. handle_at c.args.number v.handles) c.self.view_is) in
    omega (arith, c.read_plan.ensures.some memory, length-map (x.progress.owed ++ []) queue_block, ap length same)
