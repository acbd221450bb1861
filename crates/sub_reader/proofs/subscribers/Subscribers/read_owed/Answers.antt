use Rattle.std.proofs.Common.{◌≡◌, ◌≢◌, ◌<◌, ◌^◌, [], length, sym, ap, subst, ◌∙◌, Some, None}
use Rattle.std.specs.Prelude.{IfOk}
use Rattle.pps_types.specs.Names.{refusal_of}
use Rattle.pps_types.specs.declared.refusal.Refusal.TheVariants.{OutOfMemory}
use Rattle.pps_types.specs.Reading.{fitting}
use Rattle.sub_reader.specs.Opened.{opened, handle_at, is_directory, number_of}
use Rattle.sub_reader.specs.Places.{seen_at, IsPlace}
use Rattle.server_queue.specs.Given.{refused_for, first_len}
use Rattle.sub_reader.specs.Blocks.{blocks_at, owed_blocks}
use Rattle.sub_reader.proofs.Finds.{found-handle, found-right, same-blocks}
use Rattle.sub_reader.proofs.Puts.{named-place}
use Rattle.sub_reader.specs.Rows.{rows_of}
use Rattle.sub_reader.proofs.subscribers.Subscribers.read_owed.Goals as goal

pub returns-in_default-clause-ok : goal.returns-in_default-clause-ok
returns-in_default-clause-ok c =
    let t = c.self.inside in
    let gone : None ≡ handle_at c.args.number c.args.self.now.handles = found-handle (number_of t.of) t.name t.records.start t.records.items (rows_of t.rows) c.args.number None c.in_default.ensures ∙ ap (λ v. handle_at c.args.number v.handles) c.self.view_is in
    (λ i. (c.nothing.ensures.count i, c.nothing.ensures.text i)) ∙ ap (λ h. fitting c.args.max (owed_blocks h)) gone

pub returns-in_default-clause-refusal : goal.returns-in_default-clause-refusal
returns-in_default-clause-refusal c other =
    let t = c.self.inside in
    let gone : None ≡ handle_at c.args.number c.args.self.now.handles = found-handle (number_of t.of) t.name t.records.start t.records.items (rows_of t.rows) c.args.number None c.in_default.ensures ∙ ap (λ v. handle_at c.args.number v.handles) c.self.view_is in
    ap (λ h. refused_for c.args.max (owed_blocks h)) gone

pub give_from-requires : goal.give_from-requires
give_from-requires c =
    let t = c.self.inside in
    let r = c.in-Some.reader.now in
    subst (λ n. IsPlace (opened n [] r.opening) t.records.start t.records.items r.progress) (sym c.number_of.ensures)
    (named-place (number_of t.of) t.name [] r.opening t.records.start t.records.items r.progress
    (found-right (number_of t.of) t.name t.records.start t.records.items (rows_of t.rows) c.args.number (is_directory t.of) r c.self.invariant.loose.each c.in-Some.ensures))

pub returns-clause-ok : goal.returns-clause-ok
returns-clause-ok c =
    let t = c.self.inside in
    let r = c.in-Some.reader.now in
    let same : blocks_at c.number_of.result t.records.start t.records.items r ≡ owed_blocks (handle_at c.args.number c.args.self.now.handles) =
    ap (λ n. blocks_at n t.records.start t.records.items r) c.number_of.ensures
    ∙ same-blocks (number_of t.of) t.name t.records.start t.records.items r (seen_at t.records.start t.records.items r.progress)
    ∙ ap owed_blocks (found-handle (number_of t.of) t.name t.records.start t.records.items (rows_of t.rows) c.args.number (Some r) c.in-Some.ensures ∙ ap (λ v. handle_at c.args.number v.handles) c.self.view_is) in
    subst (λ bs. IfOk c.give_from.result (λ g. (g.count, g.text.items) ≡ fitting c.args.max bs)) same c.give_from.ensures.ok

pub returns-clause-refusal : goal.returns-clause-refusal
returns-clause-refusal c =
    let t = c.self.inside in
    let r = c.in-Some.reader.now in
    let same : blocks_at c.number_of.result t.records.start t.records.items r ≡ owed_blocks (handle_at c.args.number c.args.self.now.handles) =
    ap (λ n. blocks_at n t.records.start t.records.items r) c.number_of.ensures
    ∙ same-blocks (number_of t.of) t.name t.records.start t.records.items r (seen_at t.records.start t.records.items r.progress)
    ∙ ap owed_blocks (found-handle (number_of t.of) t.name t.records.start t.records.items (rows_of t.rows) c.args.number (Some r) c.in-Some.ensures ∙ ap (λ v. handle_at c.args.number v.handles) c.self.view_is) in
    subst (λ bs. refusal_of c.give_from.result ≢ Some OutOfMemory → refusal_of c.give_from.result ≡ refused_for c.args.max bs) same c.give_from.ensures.refusal

pub returns-clause-memory : goal.returns-clause-memory
returns-clause-memory c =
    let t = c.self.inside in
    let r = c.in-Some.reader.now in
    let same : blocks_at c.number_of.result t.records.start t.records.items r ≡ owed_blocks (handle_at c.args.number c.args.self.now.handles) =
    ap (λ n. blocks_at n t.records.start t.records.items r) c.number_of.ensures
    ∙ same-blocks (number_of t.of) t.name t.records.start t.records.items r (seen_at t.records.start t.records.items r.progress)
    ∙ ap owed_blocks (found-handle (number_of t.of) t.name t.records.start t.records.items (rows_of t.rows) c.args.number (Some r) c.in-Some.ensures ∙ ap (λ v. handle_at c.args.number v.handles) c.self.view_is) in
    subst (λ bs. refusal_of c.give_from.result ≡ Some OutOfMemory → first_len bs < 2 ^ 32 → refused_for c.args.max bs ≡ None) same c.give_from.ensures.memory

pub returns-clause-some : goal.returns-clause-some
returns-clause-some c =
    let t = c.self.inside in
    let r = c.in-Some.reader.now in
    let same : blocks_at c.number_of.result t.records.start t.records.items r ≡ owed_blocks (handle_at c.args.number c.args.self.now.handles) =
    ap (λ n. blocks_at n t.records.start t.records.items r) c.number_of.ensures
    ∙ same-blocks (number_of t.of) t.name t.records.start t.records.items r (seen_at t.records.start t.records.items r.progress)
    ∙ ap owed_blocks (found-handle (number_of t.of) t.name t.records.start t.records.items (rows_of t.rows) c.args.number (Some r) c.in-Some.ensures ∙ ap (λ v. handle_at c.args.number v.handles) c.self.view_is) in
    subst (λ bs. refusal_of c.give_from.result ≡ Some OutOfMemory → 0 < length bs) same c.give_from.ensures.some
