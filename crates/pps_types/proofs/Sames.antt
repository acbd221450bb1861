-- Where two values are the same.
use Rattle.std.proofs.Common.{◌≡◌, rules, Decides}
use Rattle.std.proofs.lemmas.Slice.Eq.{slice_eq-Decides}
use Rattle.pps_types.specs.declared.line.Line.{Line}
use Rattle.pps_types.specs.declared.line.Lines.{Lines}
use Rattle.pps_types.specs.declared.record.Kind.{Kind}
use Rattle.pps_types.specs.declared.record.Record.{Record}
use Rattle.pps_types.specs.contracts.line.LinePartialEq.TheImpl as line
use Rattle.pps_types.specs.contracts.line.LinesPartialEq.TheImpl as lines
use Rattle.pps_types.specs.contracts.record.KindPartialEq.TheImpl as kind
use Rattle.pps_types.specs.contracts.record.RecordPartialEq.TheImpl as record_

line_decides : (a b : Line) → Decides (line.eq-value.it a b) (a ≡ b)
line_decides a b = search rules

lines_decides : (a b : Lines) → Decides (lines.eq-value.it a b) (a ≡ b)
lines_decides a b = slice_eq-Decides line_decides _ _ _ (search rules)

kind_decides : (a b : Kind) → Decides (kind.eq-value.it a b) (a ≡ b)
kind_decides a b = search (rules, lines_decides)

-- Two records are found to be the same where they are.
pub record_decides : (a b : Record) → Decides (record_.eq-value.it a b) (a ≡ b)
record_decides a b = search (rules, kind_decides)
