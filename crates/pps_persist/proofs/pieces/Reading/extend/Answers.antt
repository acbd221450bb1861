use Rattle.std.proofs.Common.{sym, ◌∙◌}
use Rattle.pps_persist.proofs.Cuts.{not-none, no-room}
use Rattle.pps_persist.proofs.pieces.Reading.extend.Goals as goal

pub returns-then-not-has_room-clause-goes : goal.returns-then-not-has_room-clause-goes
returns-then-not-has_room-clause-goes c =
    λ taken h. no-room taken c.args.self h c.args.bytes.now c.requires (not-none _ (sym c.is_empty.ensures ∙ c.if-is_empty.false)) (sym c.has_room.ensures ∙ c.if-not-has_room.true)
