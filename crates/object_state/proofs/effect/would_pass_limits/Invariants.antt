use Rattle.std.proofs.Common.{◌+◌, ◌<◌, ◌^◌, length, take, drop}
use Rattle.std.specs.Prelude.{fold}
use Rattle.pps_types.specs.History.{apply_line}
use Rattle.pps_types.specs.Text.{print_lines}
use Rattle.object_state.specs.Effect.{noted_in, Foretells}
use Rattle.object_state.specs.Entries.{attributes_of}
use Rattle.object_state.proofs.effect.would_pass_limits.Given as goal

abbrev pub invariant-lines : goal.invariant-lines
invariant-lines l = record {
  foretold : Foretells (noted_in l.effect.noted) l.effect.count l.effect.text_len (attributes_of l.map.entries) (fold apply_line (attributes_of l.map.entries) (take l.line-index l.lines));
  fits : l.effect.text_len + length (print_lines (drop l.line-index l.lines)) < 2 ^ 64;
  counts : l.effect.count + length (drop l.line-index l.lines) < 2 ^ 64;
}
