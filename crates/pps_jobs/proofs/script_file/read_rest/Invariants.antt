use Rattle.std.proofs.Common.{◌≡◌, ◌≤◌, length}
use Rattle.std.specs.Prelude.{vec_len}
use Rattle.std.specs.Io.KnownBytes.{Consumes}
use Rattle.pps_jobs.proofs.script_file.read_rest.Given as goal

abbrev pub invariant-pieces : goal.invariant-pieces
invariant-pieces g l = record {
  read : Consumes (g.R.Read.remaining l.fn.script) (g.R.Read.remaining l.script) l.text.items;
  many : l.counter ≤ length l.text.items;
  fails : g.R.OpenedFile.may_fail l.script → g.R.OpenedFile.may_fail l.fn.script;
  room : vec_len l.buffer ≡ 65536;
}
