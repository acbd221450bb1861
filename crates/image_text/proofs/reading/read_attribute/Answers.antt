use Rattle.std.proofs.Common.{sym, subst, ◌∙◌}
use Rattle.image_laws.specs.Images.{IsImageLine}
use Rattle.image_text.proofs.SetLines.{read-image-line}
use Rattle.image_text.proofs.reading.read_attribute.Goals as goal

pub returns-in-Some-clause-line : goal.returns-in-Some-clause-line
returns-in-Some-clause-line c = λ plain.
    subst IsImageLine (sym c.into_line.ensures) (read-image-line c.args.line.now c.in-Some.read (sym c.in-Some.is ∙ c.in_ok-read_set.ensures) plain)
