use Rattle.script_text.proofs.RoundTrip.{unescaped-escaped}
use Rattle.script_text.proofs.laws.escapes_are_read.Goals as goal

pub returns : goal.returns
returns c = unescaped-escaped
