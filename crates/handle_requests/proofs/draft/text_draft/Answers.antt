use Rattle.std.proofs.Common.{◌∙◌, List, not, ap}
use Rattle.std.specs.Prelude.{◌==◌, length}
use Rattle.pps_types.specs.declared.line.WriteLine.{WriteLine}
use Rattle.pps_types.specs.Text.{write_text}
use Rattle.service_state.specs.Tables.{content_in}
use Rattle.handle_requests.specs.Writes.{author_of, checks_by}
use Rattle.handle_requests.proofs.Texts.{unread_fails, read_fails, empty_same}
use Rattle.handle_requests.proofs.draft.text_draft.Goals as goal

pub returns-in-Err-clause-err : goal.returns-in-Err-clause-err
returns-in-Err-clause-err c = unread_fails (write_text c.args.bytes.now) (checks_by (content_in c.args.tables.now) (author_of c.args.tables.now.handles c.args.writer.now) c.args.writer.now.kind) c.in-Err.refusal c.in-Err.ensures.err

pub returns-in-Err-kind_of-clause-err : goal.returns-in-Err-kind_of-clause-err
returns-in-Err-kind_of-clause-err c = read_fails (write_text c.args.bytes.now) (checks_by (content_in c.args.tables.now) (author_of c.args.tables.now.handles c.args.writer.now) c.args.writer.now.kind) c.in-Ok.text c.in-Ok.ensures.ok c.in-Err-kind_of.refusal c.in-Err-kind_of.ensures.err

pub returns-clause-ok : goal.returns-clause-ok
returns-clause-ok c = record {
  text = c.in-Ok.text;
  reads = c.in-Ok.ensures.ok;
  object = c.number.ensures;
  lines = ap not (c.is_empty-has_lines.ensures ∙ ap (λ (xs : List WriteLine). length xs == 0) c.lines.ensures ∙ empty_same c.in-Ok.text.lines);
  kind = c.in-Ok-kind_of.ensures.does;
  late = c.in-Ok-kind_of.ensures.passes;
}
