use Rattle.std.proofs.Common.{◌≡◌, ◌∙◌, ℕ, suc, ◌+◌, ◌<◌, List, ◌∷◌, true, sym, ap, subst, arith, length, length-append, drop, get_or, add-one}
use Rattle.std.specs.Prelude.{fold}
use Rattle.std.proofs.lemmas.Bool.{and_parts}
use Rattle.std.proofs.Math.Seq.{drop-cons}
use Rattle.pps_types.specs.declared.line.Line.{Line}
use Rattle.pps_types.specs.History.{Attribute, apply_line, text_length}
use Rattle.pps_types.specs.Text.{print_line, print_lines}
use Rattle.object_state.specs.Entries.{attributes_of}
use Rattle.object_state.specs.Short.{is_short_line, are_short}
use Rattle.object_state.proofs.LineChanges.{line-bytes_le}
use Rattle.object_state.proofs.changes.apply_short.Goals as goal

-- the line at this place, and those that come after it
rest : (lines : List Line) (i : ℕ) (line : Line) → i < length lines → line ≡ get_or lines i line → drop i lines ≡ line ∷ drop (i + 1) lines
rest lines i line within is =
    rw add-one (drop-cons lines i line within ∙ ap (λ (l : Line). l ∷ drop (suc i) lines) (sym is))

pub apply_copy-text_len-requires-clause-short : goal.apply_copy-text_len-requires-clause-short
apply_copy-text_len-requires-clause-short c =
    let line : Line = c.line-item.result in
    let all = subst (λ ls. are_short ls ≡ true) (rest c.args.lines.now c.lines.line-index line c.lines-test.true c.line-item.is) c.lines.invariant.short in
    (and_parts (is_short_line line) (are_short (drop (c.lines.line-index + 1) c.args.lines.now)) all).0

pub lines-preserved : goal.lines-preserved
lines-preserved c =
    let line : Line = c.line-item.result in
    let left : List Line = drop (c.lines.line-index + 1) c.args.lines.now in
    let items : drop c.lines.line-index c.args.lines.now ≡ line ∷ left = rest c.args.lines.now c.lines.line-index line c.lines-test.true c.line-item.is in
    let all : are_short (line ∷ left) ≡ true = subst (λ ls. are_short ls ≡ true) items c.lines.invariant.short in
    let changed = c.apply_copy-text_len.ensures.attributes in
    record {
      short = (and_parts (is_short_line line) (are_short left) all).1;
      applied = ap (λ (as_now : List Attribute). fold apply_line as_now left) changed
          ∙ ap (fold apply_line (attributes_of c.lines.map.entries)) (sym items) ∙ c.lines.invariant.applied;
      kept = c.apply_copy-text_len.ensures.kept;
      room = omega (arith, ap (λ (ls : List Line). length ls) items);
      fits = omega (arith, ap (λ (ls : List Line). length (print_lines ls)) items, ap text_length changed, line-bytes_le (attributes_of c.lines.map.entries) line, length-append (print_line line) (print_lines left));
    }

pub apply_copy-text_len-requires-clause-fits : goal.apply_copy-text_len-requires-clause-fits
apply_copy-text_len-requires-clause-fits c =
    let line : Line = c.line-item.result in
    let left : List Line = drop (c.lines.line-index + 1) c.args.lines.now in
    let items : drop c.lines.line-index c.args.lines.now ≡ line ∷ left = rest c.args.lines.now c.lines.line-index line c.lines-test.true c.line-item.is in
    omega (arith, ap (λ (ls : List Line). length (print_lines ls)) items, length-append (print_line line) (print_lines left))

pub apply_copy-text_len-requires-clause-room : goal.apply_copy-text_len-requires-clause-room
apply_copy-text_len-requires-clause-room c =
    let line : Line = c.line-item.result in
    let left : List Line = drop (c.lines.line-index + 1) c.args.lines.now in
    let items : drop c.lines.line-index c.args.lines.now ≡ line ∷ left = rest c.args.lines.now c.lines.line-index line c.lines-test.true c.line-item.is in
    omega (arith, ap (λ (ls : List Line). length ls) items)
