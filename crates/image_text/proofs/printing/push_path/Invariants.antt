use Rattle.std.proofs.Common.{◌≡◌, ◌++◌, drop}
use Rattle.pps_types.specs.Image as image
use Rattle.image_text.proofs.printing.push_path.Given as goal

abbrev pub invariant-names : goal.invariant-names
invariant-names l = l.out.items ++ image.print_path (drop l.name-index l.path) ≡ l.initial.out.items ++ image.print_path l.path
