use Rattle.std.proofs.lemmas.List.{take_rest}
use Rattle.frame_codec.proofs.Gathering.{gathers}
use Rattle.frame_codec.proofs.decoder.gather.Goals as goal

pub returns-clause-ok : goal.returns-clause-ok
returns-clause-ok c =
    let a = c.in_ok-first.ensures.ok in
    let b = c.in_ok-second.ensures.ok in
    let rest = take_rest c.args.piece.now c.in_ok-first.first in
    gathers c.args.held.now.items c.args.piece.now c.extend.new.held.items c.extend-2.new.held.items c.in_ok-first.first c.in_ok-second.second c.requires
    a.0 a.1 (rw rest at b.0) (rw rest at b.1)
