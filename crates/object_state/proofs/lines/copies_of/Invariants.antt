use Rattle.std.proofs.Common.{◌≡◌, ◌++◌, drop, length}
use Rattle.std.specs.Prelude.{vec_len, vec_capacity}
use Rattle.object_state.proofs.lines.copies_of.Given as goal

abbrev pub invariant-lines : goal.invariant-lines
invariant-lines l = record {
  copied : l.copies.items ++ drop l.line-index l.lines ≡ l.lines;
  counted : vec_len l.copies ≡ l.line-index;
  room : vec_capacity l.copies ≡ length l.lines;
}
