use Rattle.std.proofs.Common.{sym, subst}
use Rattle.image_text.specs.Lines.{IsImagePath}
use Rattle.image_text.proofs.Paths.{path-read}
use Rattle.service_rows.proofs.images.names.Goals as goal

pub returns : goal.returns
returns c = subst IsImagePath (sym c.into_names.ensures) (path-read c.args.path.now c.in_ok-read_path.field-0 c.in_ok-read_path.ensures.ok)
