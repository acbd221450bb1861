use Rattle.std.proofs.Common.{◌≡◌, ◌∙◌, List, ◌∷◌, sym, ap, arith, length, length-append}
use Rattle.std.specs.Prelude.{fold}
use Rattle.std.specs.Vec.Iter.{into_iter_items}
use Rattle.pps_types.specs.declared.line.Line.{Line}
use Rattle.pps_types.specs.History.{Attribute, apply_line, text_length}
use Rattle.pps_types.specs.Text.{print_line, print_lines}
use Rattle.object_state.specs.Entries.{attributes_of}
use Rattle.object_state.proofs.LineChanges.{line-bytes_le}
use Rattle.object_state.proofs.changes.apply_lines.Goals as goal

pub lines-preserved : goal.lines-preserved
lines-preserved c =
    let items : into_iter_items c.lines.line-iterator ≡ c.in-Some.line ∷ into_iter_items c.next.new.self = c.in-Some.ensures.steps.0 in
    let count = ap (λ (ls : List Line). length ls) items in
    let bytes = ap (λ (ls : List Line). length (print_lines ls)) items in
    let changed = ap text_length c.apply_line-text_len.ensures.attributes in
    record {
      applied = ap (λ (as_now : List Attribute). fold apply_line as_now (into_iter_items c.next.new.self)) c.apply_line-text_len.ensures.attributes
          ∙ ap (fold apply_line (attributes_of c.lines.map.entries)) (sym items) ∙ c.lines.invariant.applied;
      kept = c.apply_line-text_len.ensures.kept;
      room = omega (arith, count);
      fits = omega (arith, bytes, changed, line-bytes_le (attributes_of c.lines.map.entries) c.in-Some.line, length-append (print_line c.in-Some.line) (print_lines (into_iter_items c.next.new.self)));
    }
