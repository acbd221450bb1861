use Rattle.std.proofs.Common.{arith}
use Rattle.sub_reader.proofs.Gaps.{rows_few}
use Rattle.sub_reader.proofs.rows.HandleRows.len.Goals as goal

pub returns-clause-few : goal.returns-clause-few
returns-clause-few g c = omega (arith, c.self.invariant.few, c.self.invariant.counted, rows_few c.self.inside.slots.items)
