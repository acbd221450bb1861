use Rattle.std.proofs.Common.{arith, ◌∙◌, length-drop}
use Rattle.std.proofs.lemmas.List.{take_rest}
use Rattle.script_text.proofs.Escaping.{chunks-more}
use Rattle.script_text.proofs.chunks.write_chunks.Goals as goal

pub chunks-preserved : goal.chunks-preserved
chunks-preserved c =
    let bytes = c.args.bytes.now in
    let taken = c.chunks.taken in
    let more = rw (take_rest bytes taken) at c.write_chunk-more.ensures.taken in
    let text = rw (take_rest bytes taken) at c.write_chunk-more.ensures.text in
    record {
      some = omega (arith, c.chunks.invariant.some);
      taken = omega (arith, more, length-drop taken bytes, c.chunks.invariant.taken);
      within = omega (arith, c.write_chunk-more.ensures.within, c.if-end.true);
      text = text ∙ rw c.chunks.invariant.text (chunks-more bytes taken c.write_chunk-more.result.0);
    }
