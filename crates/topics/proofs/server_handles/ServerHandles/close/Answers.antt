use Rattle.std.proofs.Common.{map, refl, sym, ap, subst, ◌∙◌}
use Rattle.pps_types.specs.Plan.{without_number}
use Rattle.sub_reader.specs.Rows.{rows_of}
use Rattle.sub_reader.proofs.Finds.{gone-seen}
use Rattle.topics.specs.QueueRows.{handle_of, IsService}
use Rattle.topics.specs.Standing.{spare_of, HaveRoom, IsReady}
use Rattle.topics.proofs.Moves.{gone-is, room-gone}
use Rattle.topics.proofs.server_handles.ServerHandles.close.Goals as goal

pub invariant_of-self : goal.invariant_of-self
invariant_of-self c =
    let s = c.self.inside in
    subst (IsService s.object s.led) (sym c.take.ensures.rows) (gone-is s.object s.led (rows_of s.rows) c.self.invariant c.args.number)

pub returns-clause-handles : goal.returns-clause-handles
returns-clause-handles c =
    let s = c.self.inside in
    ap (map (handle_of s.object s.name)) c.take.ensures.rows
    ∙ gone-seen (handle_of s.object s.name) (λ r. refl) c.args.number (rows_of s.rows)
    ∙ ap (λ v. without_number c.args.number v.handles) c.self.view_is

pub returns-clause-ready : goal.returns-clause-ready
returns-clause-ready c entries ready =
    let s = c.self.inside in
    subst (λ xs. HaveRoom entries (map (handle_of s.object s.name) xs) (map spare_of xs)) (sym c.take.ensures.rows)
    (room-gone s.object s.name entries (rows_of s.rows) c.args.number (subst (IsReady entries) (sym c.self.view_is) ready))
