use Rattle.std.proofs.Common.{◌∙◌, refl, ap, length}
use Rattle.pps_types.specs.declared.refusal.Refusal.TheVariants.{OutOfMemory}
use Rattle.pps_types.specs.Content.{own_handle, object_numbered}
use Rattle.service_state.specs.Tables.{content_in}
use Rattle.handle_requests.specs.Writes.{IsWriter}
use Rattle.handle_requests.proofs.Refusals.{first_fails, short_early}
use Rattle.handle_requests.proofs.Writers.{within_limit}
use Rattle.handle_requests.proofs.Drafts.{is_author, draft_fails, is_draft, memory_wanting}
use Rattle.handle_requests.proofs.Texts.{who}
use Rattle.handle_requests.proofs.draft.drafted.Goals as goal

pub draft_of-requires-clause-author : goal.draft_of-requires-clause-author
draft_of-requires-clause-author c =
    let by = who (IsWriter (content_in c.args.tables.now) c.args.tables.now.handles c.args.bytes.now c.in-Ok.writer) (own_handle (content_in c.args.tables.now) c.args.conn c.args.handle) c.in-Ok.ensures.ok in
    is_author (content_in c.args.tables.now) c.args.tables.now.handles c.requires.content c.args.conn c.args.handle c.args.bytes.now c.in-Ok.writer by.0 by.1.0 by.1.1

pub draft_of-requires-clause-short : goal.draft_of-requires-clause-short
draft_of-requires-clause-short c =
    let by = who (IsWriter (content_in c.args.tables.now) c.args.tables.now.handles c.args.bytes.now c.in-Ok.writer) (own_handle (content_in c.args.tables.now) c.args.conn c.args.handle) c.in-Ok.ensures.ok in
    within_limit (length c.args.bytes.now) (short_early (content_in c.args.tables.now) c.args.bytes.now by.0 by.1.1.early)

pub returns-in-Err-clause-err : goal.returns-in-Err-clause-err
returns-in-Err-clause-err c = first_fails (content_in c.args.tables.now) c.args.conn c.args.handle c.args.bytes.now c.in-Err.refusal c.in-Err.ensures.err

pub returns-in-Err-draft_of-clause-err : goal.returns-in-Err-draft_of-clause-err
returns-in-Err-draft_of-clause-err c =
    let by = who (IsWriter (content_in c.args.tables.now) c.args.tables.now.handles c.args.bytes.now c.in-Ok.writer) (own_handle (content_in c.args.tables.now) c.args.conn c.args.handle) c.in-Ok.ensures.ok in
    draft_fails (content_in c.args.tables.now) c.args.tables.now.handles c.requires.content c.args.conn c.args.handle c.args.bytes.now c.in-Ok.writer by.0 by.1.0 by.1.1 c.in-Err-draft_of.refusal c.in-Err-draft_of.ensures.err

pub with_record-requires : goal.with_record-requires
with_record-requires c =
    let by = who (IsWriter (content_in c.args.tables.now) c.args.tables.now.handles c.args.bytes.now c.in-Ok.writer) (own_handle (content_in c.args.tables.now) c.args.conn c.args.handle) c.in-Ok.ensures.ok in
    let author = is_author (content_in c.args.tables.now) c.args.tables.now.handles c.requires.content c.args.conn c.args.handle c.args.bytes.now c.in-Ok.writer by.0 by.1.0 by.1.1 in
    ap (object_numbered (content_in c.args.tables.now)) c.in-Ok-draft_of.ensures.ok.object ∙ author.known

pub returns-in-Err-with_record-clause-err : goal.returns-in-Err-with_record-clause-err
returns-in-Err-with_record-clause-err c =
    let by = who (IsWriter (content_in c.args.tables.now) c.args.tables.now.handles c.args.bytes.now c.in-Ok.writer) (own_handle (content_in c.args.tables.now) c.args.conn c.args.handle) c.in-Ok.ensures.ok in
    let draft = is_draft (content_in c.args.tables.now) c.args.tables.now.handles c.requires.content c.args.conn c.args.handle c.args.bytes.now c.in-Ok.writer by.0 by.1.0 by.1.1 c.in-Ok-draft_of.draft c.in-Ok-draft_of.ensures.ok in
    memory_wanting (content_in c.args.tables.now) c.args.conn c.args.handle c.args.bytes.now c.in-Ok-draft_of.draft draft OutOfMemory refl

pub returns-in-Ok-with_record-clause-ok : goal.returns-in-Ok-with_record-clause-ok
returns-in-Ok-with_record-clause-ok c =
    let by = who (IsWriter (content_in c.args.tables.now) c.args.tables.now.handles c.args.bytes.now c.in-Ok.writer) (own_handle (content_in c.args.tables.now) c.args.conn c.args.handle) c.in-Ok.ensures.ok in
    record {
      draft = c.in-Ok-draft_of.draft;
      drafted = is_draft (content_in c.args.tables.now) c.args.tables.now.handles c.requires.content c.args.conn c.args.handle c.args.bytes.now c.in-Ok.writer by.0 by.1.0 by.1.1 c.in-Ok-draft_of.draft c.in-Ok-draft_of.ensures.ok;
      prepared = c.in-Ok-with_record.ensures;
    }
