use Rattle.std.proofs.Common.{◌∙◌, map, refl, sym, ap, subst}
use Rattle.pps_types.specs.Plan.{on_numbered}
use Rattle.sub_reader.specs.Opened.{armed_pulse}
use Rattle.sub_reader.specs.Rows.{armed_with, rows_of}
use Rattle.sub_reader.proofs.Finds.{changed-seen}
use Rattle.topics.specs.QueueRows.{handle_of, IsService}
use Rattle.topics.specs.Standing.{spare_of}
use Rattle.topics.proofs.Moves.{wait-is, spares-wait}
use Rattle.topics.proofs.server_handles.ServerHandles.arm.Goals as goal

pub invariant_of-self : goal.invariant_of-self
invariant_of-self c =
    let s = c.self.inside in
    subst (IsService s.object s.led) (sym c.arm.ensures.rows)
    (wait-is s.object s.led (rows_of s.rows) c.self.invariant c.args.number (armed_with c.args.pulse) (λ x. refl) (λ x is. record { kind = is.kind; limit = is.limit; owed = is.owed }))

pub returns-clause-handles : goal.returns-clause-handles
returns-clause-handles c =
    let s = c.self.inside in
    ap (map (handle_of s.object s.name)) c.arm.ensures.rows
    ∙ changed-seen (handle_of s.object s.name) (λ r. refl) c.args.number (armed_with c.args.pulse) (λ h. record h { armed = armed_pulse c.args.pulse }) (λ r. refl) (rows_of s.rows)
    ∙ ap (λ v. on_numbered c.args.number (λ h. record h { armed = armed_pulse c.args.pulse }) v.handles) c.self.view_is

pub returns-clause-spares : goal.returns-clause-spares
returns-clause-spares c =
    ap (map spare_of) c.arm.ensures.rows
    ∙ spares-wait (rows_of c.self.inside.rows) c.args.number (armed_with c.args.pulse) (λ x. refl)
    ∙ ap (λ v. v.spares) c.self.view_is
