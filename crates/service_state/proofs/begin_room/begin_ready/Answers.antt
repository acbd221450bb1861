use Rattle.std.specs.Prelude.{◌≡◌, length, vec_len}
use Rattle.std.proofs.Common.{sym, ◌∙◌, ap, subst, arith}
use Rattle.service_laws.specs.SettlingTargets.{last_number_passed}
use Rattle.open_handles.specs.Whole.{HasRoom}
use Rattle.service_state.specs.Beginning.{entries_in}
use Rattle.service_state.specs.Tables.{content_in}
use Rattle.service_state.proofs.Readied.{ArePlaced, ready_begun, records_within}
use Rattle.service_state.proofs.begin_room.begin_ready.Goals as goal

pub returns-clause-ready : goal.returns-clause-ready
returns-clause-ready c =
    let old = c.args.tables.now in
    let new = c.records_ready.new.self in
    let xs = c.args.beginning.now in
    let counted : vec_len c.in_ok-entries.entries ≡ length c.in_ok-entries.entries.items = omega (arith, c.in_ok-entries.entries.ok.0) in
    ready_begun old new c.records_ready.ensures.content c.in_ok-records_ready.ensures.kept
    (subst ArePlaced c.handles.ensures c.handles_are_placed.ensures.placed) (subst ArePlaced c.handles-2.ensures c.handles_are_placed-2.ensures.placed)
    xs c.requires.able c.requires.plain c.requires.shared
    (subst (λ es. HasRoom es new.handles) (c.deref.ensures.value ∙ c.in_ok-entries.ensures) c.in_ok-records_ready.ensures.room)
    (records_within (content_in old) (length (entries_in xs)) (ap (λ n. last_number_passed (content_in old) n 0 0) (sym (c.len.ensures ∙ counted ∙ ap length c.in_ok-entries.ensures)) ∙ sym c.passes_last_number.ensures ∙ c.if-passes_last_number.false))
