use Rattle.std.proofs.Common.{◌∙◌}
use Rattle.std.proofs.lemmas.List.{take_rest}
use Rattle.script_text.proofs.Escaping.{chunks-all}
use Rattle.script_text.proofs.chunks.write_piece.Goals as goal

pub returns-then-end-clause-text : goal.returns-then-end-clause-text
returns-then-end-clause-text c =
    let bytes = c.args.bytes.now in
    let taken = c.write_chunks-taken.result.0 in
    rw (take_rest bytes taken) at c.put_few-then-end.ensures.text ∙ rw c.write_chunks-taken.ensures.text (chunks-all bytes taken)
