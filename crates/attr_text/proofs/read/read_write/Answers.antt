use Rattle.std.proofs.Common.{arith}
use Rattle.attr_text.proofs.Reading.{text-too-large}
use Rattle.attr_text.proofs.read.read_write.Goals as goal

pub returns-clause-too_large : goal.returns-clause-too_large
returns-clause-too_large c = (λ is. absurd (text-too-large c.args.bytes.now (rw is at c.read_text.ensures.err)), λ over. absurd (omega arith))
