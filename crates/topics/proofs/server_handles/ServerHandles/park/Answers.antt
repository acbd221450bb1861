use Rattle.std.proofs.Common.{◌∙◌, map, refl, sym, ap, subst}
use Rattle.pps_types.specs.Plan.{on_numbered}
use Rattle.sub_reader.specs.Rows.{parked_with, rows_of}
use Rattle.sub_reader.proofs.Finds.{changed-seen}
use Rattle.topics.specs.QueueRows.{handle_of, IsService}
use Rattle.topics.specs.Standing.{spare_of}
use Rattle.topics.proofs.Moves.{wait-is, spares-wait}
use Rattle.topics.proofs.server_handles.ServerHandles.park.Goals as goal

pub invariant_of-self : goal.invariant_of-self
invariant_of-self c =
    let s = c.self.inside in
    subst (IsService s.object s.led) (sym c.park.ensures.rows)
    (wait-is s.object s.led (rows_of s.rows) c.self.invariant c.args.number (parked_with c.args.size) (λ x. refl) (λ x is. record { kind = is.kind; limit = is.limit; owed = is.owed }))

pub returns-clause-handles : goal.returns-clause-handles
returns-clause-handles c =
    let s = c.self.inside in
    ap (map (handle_of s.object s.name)) c.park.ensures.rows
    ∙ changed-seen (handle_of s.object s.name) (λ r. refl) c.args.number (parked_with c.args.size) (λ h. record h { parked = c.args.size }) (λ r. refl) (rows_of s.rows)
    ∙ ap (λ v. on_numbered c.args.number (λ h. record h { parked = c.args.size }) v.handles) c.self.view_is

pub returns-clause-spares : goal.returns-clause-spares
returns-clause-spares c =
    ap (map spare_of) c.park.ensures.rows
    ∙ spares-wait (rows_of c.self.inside.rows) c.args.number (parked_with c.args.size) (λ x. refl)
    ∙ ap (λ v. v.spares) c.self.view_is
