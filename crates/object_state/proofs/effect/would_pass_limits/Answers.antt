use Rattle.std.proofs.Common.{◌≡◌, suc, ◌+◌, ◌∙◌, ◌∷◌, sym, ap, subst, arith, length, length-append, take, drop, get_or, add-one, List}
use Rattle.std.specs.Prelude.{fold}
use Rattle.std.proofs.lemmas.List.{take_more}
use Rattle.std.proofs.Math.Seq.{drop-cons}
use Rattle.pps_types.specs.declared.line.Line.{Line}
use Rattle.pps_types.specs.History.{Attribute, apply_line}
use Rattle.pps_types.specs.Text.{print_line, print_lines}
use Rattle.pps_types.proofs.Lists.{fold-push}
use Rattle.object_state.specs.Effect.{Foretells, noted_in, noted_or, length_at}
use Rattle.object_state.specs.Entries.{attributes_of}
use Rattle.object_state.proofs.Entries.{attributes-distinct, length-attributes}
use Rattle.object_state.proofs.LineChanges.{line-bytes_le, line-count_le}
use Rattle.object_state.proofs.effect.would_pass_limits.Goals as goal

pub lines-init : goal.lines-init
lines-init c =
    let before = attributes_of c.args.map.now.entries in
    record {
      foretold = record {
        lens = λ q. ap (λ notes. noted_or (noted_in notes q) (length_at q before)) c.new.ensures;
        counted = c.len.ensures.len ∙ sym (length-attributes c.args.map.now.entries);
        measured = c.requires.kept;
        distinct = attributes-distinct c.args.map.now.entries c.len.ensures.names;
      };
      fits = c.requires.fits;
      counts = omega (arith, c.len.ensures.len, length-attributes c.args.map.now.entries);
    }

pub lines-preserved : goal.lines-preserved
lines-preserved c =
    let before = attributes_of c.args.map.now.entries in
    let done : List Attribute = fold apply_line before (take c.lines.line-index c.args.lines.now) in
    let line : Line = c.line-item.result in
    let more : fold apply_line before (take (c.lines.line-index + 1) c.args.lines.now) ≡ apply_line done line =
    ap (fold apply_line before) (take_more c.args.lines.now c.lines.line-index line c.lines-test.true)
    ∙ fold-push apply_line before (take c.lines.line-index c.args.lines.now) (get_or c.args.lines.now c.lines.line-index line) ∙ ap (apply_line done) (sym c.line-item.is) in
    let rest : drop c.lines.line-index c.args.lines.now ≡ line ∷ drop (c.lines.line-index + 1) c.args.lines.now =
    rw add-one (drop-cons c.args.lines.now c.lines.line-index line c.lines-test.true ∙ ap (λ (l : Line). l ∷ drop (suc c.lines.line-index) c.args.lines.now) (sym c.line-item.is)) in
    let told : Foretells (noted_in c.note_line.new.self.noted) c.note_line.new.self.count c.note_line.new.self.text_len before (apply_line done line) =
    c.in_ok-note_line.ensures done c.lines.invariant.foretold in
    record {
      foretold = subst (λ (after : List Attribute). Foretells (noted_in c.note_line.new.self.noted) c.note_line.new.self.count c.note_line.new.self.text_len before after) (sym more) told;
      fits = omega (arith, told.measured, c.lines.invariant.foretold.measured, line-bytes_le done line, ap (λ (ls : List Line). length (print_lines ls)) rest, length-append (print_line line) (print_lines (drop (c.lines.line-index + 1) c.args.lines.now)));
      counts = omega (arith, told.counted, c.lines.invariant.foretold.counted, line-count_le done line, ap (λ (ls : List Line). length ls) rest);
    }
