use Rattle.std.proofs.Common.{[], List, ℕ, Option, ap, subst}
use Rattle.std.specs.Prelude.{IfSome}
use Rattle.std.specs.Option.{option_map_or}
use Rattle.pps_types.specs.declared.line.WriteLine.{WriteLine}
use Rattle.pps_types.specs.Content.{LiveObject}
use Rattle.attr_text.specs.ReadWrite.{IsSingle}
use Rattle.service_state.specs.Tables.{content_in}
use Rattle.handle_requests.specs.Writes.{author_of}
use Rattle.handle_requests.proofs.Texts.{line_drafted}
use Rattle.handle_requests.proofs.draft.draft_of.Goals as goal

pub returns-in-Some-clause-ok : goal.returns-in-Some-clause-ok
returns-in-Some-clause-ok c =
    let reads = subst (λ (o : Option WriteLine). IfSome o (IsSingle c.as_slice.result.now)) c.in-Some.is c.in_ok-single.ensures.text in
    line_drafted (content_in c.args.tables.now) (author_of c.args.tables.now.handles c.args.writer.now) c.in-Some.line c.args.writer.now.object.now.held.attributes
    (ap (λ o. option_map_or (λ (o : LiveObject). o.attributes) o []) c.requires.author.known) _ c.args.writer.now.kind c.in-Object.is c.args.bytes.now
    (subst (λ (bytes : List ℕ). IsSingle bytes c.in-Some.line) c.as_slice.ensures reads)
    c.in_ok-draft.draft c.in_ok-draft.ensures.object c.in_ok-draft.ensures.lines c.in_ok-draft.ensures.kind
