use Rattle.image_laws.proofs.Paths.{path_text-only}
use Rattle.image_text.proofs.reading.path_of.Goals as goal

pub returns-in-Ok-clause-read : goal.returns-in-Ok-clause-read
returns-in-Ok-clause-read c = λ some. (path_text-only c.args.text.now c.in-Ok.path c.in-Ok.ensures.ok some).1
