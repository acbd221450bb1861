use Rattle.std.proofs.Common.{◌∙◌, sym, ap, cond, Some}
use Rattle.pps_types.specs.Bytes.{same}
use Rattle.object_state.specs.Effect.{noted_in}
use Rattle.object_state.proofs.ByOrder.{noted_by_order, tied_as_same}
use Rattle.object_state.proofs.noted.Noted.insert.Goals as goal

pub returns-clause-before : goal.returns-clause-before
returns-clause-before g c =
    c.in_ok-insert.ensures.old ∙ noted_by_order c.self.inside.by_name.entries c.args.name ∙ ap (λ notes. noted_in notes c.args.name) c.self.view_is

pub returns-clause-noted : goal.returns-clause-noted
returns-clause-noted g c = λ other.
    sym (noted_by_order c.insert.new.self.entries other) ∙ c.in_ok-insert.ensures.updates.0 other
    ∙ (λ i. cond (tied_as_same c.args.name other i) (Some c.args.value) (noted_by_order c.self.inside.by_name.entries other i))
    ∙ ap (λ notes. cond (same c.args.name other) (Some c.args.value) (noted_in notes other)) c.self.view_is
