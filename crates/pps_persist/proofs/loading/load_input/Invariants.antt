use Rattle.std.proofs.Common.{◌≡◌, ◌*◌}
use Rattle.std.specs.Prelude.{vec_len}
use Rattle.pps_persist.specs.Loads.{Gone}
use Rattle.pps_persist.proofs.loading.load_input.Given as goal

abbrev pub invariant-pieces : goal.invariant-pieces
invariant-pieces g l = record {
  gone : Gone (g.I.Input.remaining l.fn.input) (g.I.Input.remaining l.input) l.reading l.counter (65536 * l.counter);
  works : g.I.Input.works l.fn.input l.input l.counter;
  room : vec_len l.buffer ≡ 65536;
}
