use Rattle.std.proofs.Common.{◌+◌, ◌∙◌, sym, ap, arith, length}
use Rattle.std.specs.Prelude.{fold}
use Rattle.pps_types.specs.History.{apply_line}
use Rattle.object_state.proofs.LineChanges.{lines-bytes_le, lines-count_le, not_past}
use Rattle.object_state.proofs.Entries.{length-attributes}
use Rattle.object_state.proofs.object.Object.is_too_large.Goals as goal

pub returns-then-not-passes_limits : goal.returns-then-not-passes_limits
returns-then-not-passes_limits c =
    not_past (fold apply_line c.args.self.now.attributes c.args.lines.now) (c.len.result + length c.args.lines.now) c.args.whole_len
    (sym c.passes_limits.ensures ∙ c.if-not-passes_limits.true)
    (omega (arith, c.len.ensures.len, lines-count_le c.args.self.now.attributes c.args.lines.now, ap (λ h. length h.attributes) c.self.view_is, length-attributes c.self.inside.map.entries))
    (omega (arith, lines-bytes_le c.args.self.now.attributes c.args.lines.now))
