-- What the text of a path says is a path that an image may have, or the root's.
use Rattle.std.proofs.Common.{◌≡◌, ℕ, List, Some}
use Rattle.pps_types.specs.Names.{Path}
use Rattle.pps_types.specs.OpenText.{path_text}
use Rattle.image_laws.proofs.Texts.{path-saved}
use Rattle.image_text.specs.Lines.{IsImagePath}

pub path-read : (text : List ℕ) (path : Path) → path_text text ≡ Some path → IsImagePath path
path-read = path-saved
