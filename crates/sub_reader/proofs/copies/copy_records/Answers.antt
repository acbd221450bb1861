use Rattle.std.proofs.Common.{◌+◌, ◌-◌, ◌∷◌, [], ◌++◌, arith, refl, sym, ◌∙◌}
use Rattle.sub_reader.proofs.Copying.{taken}
use Rattle.sub_reader.proofs.copies.copy_records.Goals as goal

pub loop-position-preserved : goal.loop-position-preserved
loop-position-preserved c =
    let p = c.loop-position.position in
    let records = c.args.records.now in
    let x = c.at.result.now in
    record {
      start = c.push_reserved.ensures.start ∙ c.loop-position.invariant.start;
      items = c.push_reserved.ensures.items ∙ (λ j. c.loop-position.invariant.items j ++ c.in_ok-share.ensures j ∷ []) ∙ sym (taken records.items (p - records.start) (p - records.start) (p + 1 - records.start) x c.at.ensures refl (omega (arith, c.loop-position.auto.position, c.start-start.ensures)));
      room = omega (arith, c.push_reserved.ensures.room, c.loop-position.invariant.room);
    }
