use Rattle.std.proofs.Common.{◌∙◌, ◌≤◌, length, refl, sym, ap, arith}
use Rattle.std.specs.Prelude.{option_map}
use Rattle.std.specs.Option.{option_copied}
use Rattle.pps_types.specs.Content.{object_numbered}
use Rattle.name_table.specs.Standing.{Named, known_of, standing_of, content_of}
use Rattle.service_state.specs.Tables.{content_in}
use Rattle.handle_requests.specs.Own.{opened_as, IsOwn}
use Rattle.handle_requests.proofs.Writers.{no_own, mode_refused, long_refused, gone_refused, writer_is}
use Rattle.handle_requests.proofs.writer.writer_of.Goals as goal

pub returns-in_default-clause-err : goal.returns-in_default-clause-err
returns-in_default-clause-err c = no_own c.args.tables.now c.args.conn c.args.handle c.args.bytes.now (ap (option_map (opened_as c.args.tables.now)) (sym c.in_default.is) ∙ c.own_handle.ensures)

pub returns-then-not-writes-clause-err : goal.returns-then-not-writes-clause-err
returns-then-not-writes-clause-err c =
    let is : IsOwn c.args.tables.now c.args.conn c.args.handle c.in-Some.own = ap (option_map (opened_as c.args.tables.now)) (sym c.in-Some.is) ∙ c.own_handle.ensures in
    mode_refused c.args.tables.now c.args.conn c.args.handle c.args.bytes.now c.in-Some.own is (sym c.writes.ensures ∙ c.if-not-writes.true)

pub returns-then-len-gt-WRITE_MAX-clause-err : goal.returns-then-len-gt-WRITE_MAX-clause-err
returns-then-len-gt-WRITE_MAX-clause-err c =
    let is : IsOwn c.args.tables.now c.args.conn c.args.handle c.in-Some.own = ap (option_map (opened_as c.args.tables.now)) (sym c.in-Some.is) ∙ c.own_handle.ensures in
    long_refused c.args.tables.now c.args.conn c.args.handle c.args.bytes.now c.in-Some.own is (sym c.writes.ensures ∙ c.if-not-writes.false) (omega arith)

pub returns-in_default-object-clause-err : goal.returns-in_default-object-clause-err
returns-in_default-object-clause-err c =
    let is : IsOwn c.args.tables.now c.args.conn c.args.handle c.in-Some.own = ap (option_map (opened_as c.args.tables.now)) (sym c.in-Some.is) ∙ c.own_handle.ensures in
    let le : length c.args.bytes.now ≤ 65536 = omega arith in
    gone_refused c.args.tables.now c.args.conn c.args.handle c.args.bytes.now c.in-Some.own is (sym c.writes.ensures ∙ c.if-not-writes.false) le c.requires
    (sym (ap (λ o. option_map known_of (option_copied o)) (sym c.in_default-object.is) ∙ c.object.ensures.known ∙ ap (λ (n : Named). object_numbered (content_of (standing_of n)) c.new.result) c.names.ensures ∙ ap (object_numbered (content_in c.args.tables.now)) (c.new.ensures ∙ c.target.ensures)))

pub returns-clause-ok : goal.returns-clause-ok
returns-clause-ok c =
    let is : IsOwn c.args.tables.now c.args.conn c.args.handle c.in-Some.own = ap (option_map (opened_as c.args.tables.now)) (sym c.in-Some.is) ∙ c.own_handle.ensures in
    let le : length c.args.bytes.now ≤ 65536 = omega arith in
    writer_is c.args.tables.now c.args.conn c.args.handle c.args.bytes.now c.in-Some.own is (sym c.writes.ensures ∙ c.if-not-writes.false) le c.requires _ refl c.kind.ensures
    c.found.ensures
    (sym (ap (λ o. option_map known_of (option_copied o)) (sym c.in-Some-object.is) ∙ c.object.ensures.known ∙ ap (λ (n : Named). object_numbered (content_of (standing_of n)) c.new.result) c.names.ensures ∙ ap (object_numbered (content_in c.args.tables.now)) (c.new.ensures ∙ c.target.ensures)))
