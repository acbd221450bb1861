use Rattle.std.proofs.Common.{◌≡◌, ◌∙◌, List, ℕ, Option, Result, Ok, Err, length}
use Rattle.std.specs.Prelude.{IfOk, IfSome}
use Rattle.pps_types.specs.declared.line.WriteLine.{WriteLine}
use Rattle.pps_types.specs.Text.{write_line}
use Rattle.attr_text.specs.ReadWrite.{first_line_of, single_line, IsSingle}
use Rattle.attr_text.proofs.Reading.{some-bytes, no-bytes, single-first, single-none, single-text}
use Rattle.attr_text.proofs.read.read_single.Goals as goal

module _ (bytes line rest : List ℕ) (parts : ◌≡◌ {A = List ℕ × List ℕ} (line, rest) (first_line_of bytes)) (none : length rest ≡ 0) where
  line-read : {E : Type 0} (r : Result (Option WriteLine) E) → IfOk r (λ read. read ≡ write_line line) → IfOk r (λ read. read ≡ single_line bytes)
  line-read (Ok read) is = is ∙ single-first bytes line rest parts none
  line-read (Err e) is = tt

  text-read : {E : Type 0} (r : Result (Option WriteLine) E) → IfOk r (λ read. read ≡ write_line line) → IfOk r (λ read. IfSome read (IsSingle bytes))
  text-read (Ok read) is = single-text bytes read (is ∙ single-first bytes line rest parts none)
  text-read (Err e) is = tt

pub returns-then-not-is_empty-clause-line : goal.returns-then-not-is_empty-clause-line
returns-then-not-is_empty-clause-line c = single-none c.args.bytes.now c.first_line.result.0.now c.first_line.result.1.now c.first_line.ensures (some-bytes _ c.if-not-is_empty.ensures)

pub returns-clause-line : goal.returns-clause-line
returns-clause-line c = line-read c.args.bytes.now c.first_line.result.0.now c.first_line.result.1.now c.first_line.ensures (no-bytes _ c.if-not-is_empty.ensures) c.read_write_line.result c.read_write_line.ensures

pub returns-clause-text : goal.returns-clause-text
returns-clause-text c = text-read c.args.bytes.now c.first_line.result.0.now c.first_line.result.1.now c.first_line.ensures (no-bytes _ c.if-not-is_empty.ensures) c.read_write_line.result c.read_write_line.ensures
