use Rattle.std.proofs.Common.{◌∙◌, ap, sym}
use Rattle.std.specs.Option.{option_copied}
use Rattle.pps_types.specs.declared.outcome.Outcome.TheVariants.{Item as ItemOutcome}
use Rattle.pps_types.specs.Plan.{received}
use Rattle.service_state.specs.Tables.{content_in}
use Rattle.handle_requests.proofs.Queues.{received_is}
use Rattle.handle_requests.proofs.attaching.receive.Goals as goal

pub returns-in-None-clause-ok : goal.returns-in-None-clause-ok
returns-in-None-clause-ok c =
    sym (ap (λ m. m.0) (received_is (content_in c.args.tables.now) c.args.conn ∙ ap (received c.args.conn) (sym c.first_item.ensures ∙ ap option_copied c.in-None.is)))

pub returns-in-Ok-clause-ok : goal.returns-in-Ok-clause-ok
returns-in-Ok-clause-ok c = ap ItemOutcome c.in-Ok.ensures.ok
    ∙ sym (ap (λ m. m.0) (received_is (content_in c.args.tables.now) c.args.conn ∙ ap (received c.args.conn) (sym c.first_item.ensures ∙ ap option_copied c.in-Some.is)))
