use Rattle.std.proofs.Common.{arith, rules}
use Rattle.pps_types.proofs.Decimals.{number_up_to-only}
use Rattle.image_text.proofs.reading.read_beginning.Goals as goal

pub returns-clause-least : goal.returns-clause-least
returns-clause-least c = (number_up_to-only 5 65535 c.in_ok-default_limit.default_limit c.in_ok-limit.limit.now (omega arith) (search rules)).1
