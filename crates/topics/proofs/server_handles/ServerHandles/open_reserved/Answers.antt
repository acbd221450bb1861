use Rattle.std.proofs.Common.{◌<◌, [], ◌∷◌, ◌++◌, sym, subst}
use Rattle.std.specs.Prelude.{None}
use Rattle.std.specs.List.{AllByRecursion}
use Rattle.pps_types.specs.Reading.{OpenHandle}
use Rattle.pps_types.specs.Rests.{Progress}
use Rattle.sub_reader.specs.Rows.{rows_of}
use Rattle.topics.specs.QueueRows.{QueueRow, IsService, IsFor}
use Rattle.topics.proofs.Moves.{push-is, above-rows}
use Rattle.topics.proofs.server_handles.ServerHandles.open_reserved.Goals as goal

pub push_reserved-requires-clause-above : goal.push_reserved-requires-clause-above
push_reserved-requires-clause-above c =
    let s = c.self.inside in
    let o = c.args.opening in
    above-rows s.object s.name (rows_of s.rows) o.number (subst (λ v. AllByRecursion (λ (h : OpenHandle Progress). h.number < o.number) v.handles) (sym c.self.view_is) c.requires.above)

pub invariant_of-self : goal.invariant_of-self
invariant_of-self c =
    let s = c.self.inside in
    let o = c.args.opening in
    let q = c.new-progress.result in
    let x : QueueRow = record { opening = o; progress = q; parked = None; armed = None } in
    subst (IsService s.object c.stays_led-self-inside.result) (sym c.push_reserved.ensures.rows) (subst (λ b. IsService s.object b (rows_of s.rows ++ x ∷ [])) (sym c.stays_led-self-inside.ensures)
    (push-is s.object s.led (rows_of s.rows) c.self.invariant x
    (above-rows s.object s.name (rows_of s.rows) o.number (subst (λ v. AllByRecursion (λ (h : OpenHandle Progress). h.number < o.number) v.handles) (sym c.self.view_is) c.requires.above))
    (record { kind = c.requires.queue; limit = c.new-progress.ensures.limit; owed = subst (IsFor s.object o) (sym c.new-progress.ensures.owed) tt })))
