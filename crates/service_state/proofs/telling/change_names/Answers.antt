use Rattle.std.proofs.Common.{sym, ◌∙◌, ap}
use Rattle.name_table.specs.Standing.{standing_of, happened}
use Rattle.service_state.proofs.Tells.{unchanged_by}
use Rattle.service_state.proofs.telling.change_names.Goals as goal

pub returns-in_default : goal.returns-in_default
returns-in_default c =
    let is = c.record-2.ensures in
    sym (ap (λ r. happened c.args.entry.now.record_of.object r.kind (standing_of c.args.names.now)) (sym is)
    ∙ unchanged_by c.args.entry.now.record_of.object c.record-2.result.now.kind (standing_of c.args.names.now)
    c.in_default.not-Created c.in_default.not-Change c.in_default.not-Truncated c.in_default.not-Dropped c.in_default.not-Deleted)
