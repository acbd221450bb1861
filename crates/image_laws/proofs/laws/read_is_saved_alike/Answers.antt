use Rattle.image_laws.proofs.Proved.{read-alike}
use Rattle.image_laws.proofs.laws.read_is_saved_alike.Goals as goal

pub returns : goal.returns
returns c = read-alike
