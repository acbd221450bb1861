use Rattle.std.proofs.lemmas.List.{take_rest}
use Rattle.std.proofs.Math.Seq.{drop-length}
use Rattle.script_text.proofs.NumberWords.{handle-alone}
use Rattle.script_text.proofs.commands.handle_and_rest.Goals as goal

pub returns : goal.returns
returns c =
    rw (take_rest, drop-length c.args.text.now) (handle-alone c.args.text.now c.in_ok-handle.handle c.in_default.ensures c.in_ok-handle.ensures)
