use Rattle.std.proofs.lemmas.Result.{err_from_is_err_and}
use Rattle.pps_types.specs.Device.{device_inner}
use Rattle.pps_types.specs.Exchange.{output_of, held_in}
use Rattle.pps_types.proofs.Writing.{part-more, answers-behind}
use Rattle.pps_types.proofs.exchange.Exchange.answer.Goals as goal

pub returns-in_err-write_held-clause-bytes : goal.returns-in_err-write_held-clause-bytes
returns-in_err-write_held-clause-bytes g c =
    let p = err_from_is_err_and c.from_residual-in_err-write_held.result c.from_residual-in_err-write_held.ensures.1 in
    rw (p.1, p.2) (part-more _ _ (held_in c.args.self.now) c.args.bytes.now c.in_err-write_held.ensures.bytes)

pub returns-clause-bytes : goal.returns-clause-bytes
returns-clause-bytes g c =
    let contents = g.W.Write.contents in
    answers-behind (contents (device_inner (output_of c.args.self.now))) (contents (device_inner (output_of c.write_held.new.self))) (contents (device_inner (output_of c.answer_first.new.self)))
    (held_in c.args.self.now) (held_in c.answer_first.new.self) c.args.bytes.now c.answer_first.result c.in_ok-write_held.ensures.bytes.0 c.answer_first.ensures.bytes
