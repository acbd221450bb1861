use Rattle.std.proofs.Common.{◌∙◌, not, sym, ap}
use Rattle.pps_types.specs.Bytes.{is_empty}
use Rattle.pps_types.specs.declared.refusal.Refusal.TheVariants.{NoClient}
use Rattle.pps_types.specs.Checks.{first_refusal, client_checks, meant, OneClient}
use Rattle.service_state.specs.Tables.{content_in}
use Rattle.handle_requests.specs.Addressed.{addressee_of}
use Rattle.handle_requests.proofs.Backlogs.{none_if, some_if}
use Rattle.handle_requests.proofs.backlog.client_refusal.Goals as goal

pub returns-then-has_client : goal.returns-then-has_client
returns-then-has_client c =
    none_if (is_empty (meant (content_in c.args.tables.now) c.args.object (OneClient c.in-OneClient.id))) (NoClient c.in-OneClient.id)
    (sym c.if-has_client.true ∙ c.has_client.ensures ∙ ap (λ n. not (is_empty (meant (content_in c.args.tables.now) c.args.object (OneClient n)))) c.new.ensures)
    ∙ ap (λ to. first_refusal (client_checks (content_in c.args.tables.now) c.args.object (addressee_of to))) (sym c.in-OneClient.is)

pub returns-else-has_client : goal.returns-else-has_client
returns-else-has_client c =
    some_if (is_empty (meant (content_in c.args.tables.now) c.args.object (OneClient c.in-OneClient.id))) (NoClient c.in-OneClient.id)
    (sym c.if-has_client.false ∙ c.has_client.ensures ∙ ap (λ n. not (is_empty (meant (content_in c.args.tables.now) c.args.object (OneClient n)))) c.new.ensures)
    ∙ ap (λ to. first_refusal (client_checks (content_in c.args.tables.now) c.args.object (addressee_of to))) (sym c.in-OneClient.is)
