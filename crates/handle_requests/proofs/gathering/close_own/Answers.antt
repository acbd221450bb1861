use Rattle.std.specs.Prelude.{◌≡◌, ◌++◌, map, OnOk}
use Rattle.std.proofs.Common.{subst}
use Rattle.service_state.specs.Tables.{content_in}
use Rattle.handle_requests.specs.Own.{opened_as}
use Rattle.service_state.specs.Begun.{bare}
use Rattle.handle_requests.proofs.Plans.{begun_known}
use Rattle.handle_requests.proofs.gathering.close_own.Goals as goal

pub returns-clause-begun : goal.returns-clause-begun
returns-clause-begun c =
    subst (λ xs. OnOk c.close_behind.result (map bare c.close_behind.new.beginning.items ≡ map bare c.args.beginning.now.items ++ xs))
    (begun_known (content_in c.args.tables.now) c.args.conn c.args.handle (opened_as c.args.tables.now c.in-Some.own) c.in-Some.ensures c.is_parked-is_parked.result c.is_parked-is_parked.ensures
    c.in_ok-told.told c.in_ok-told.ensures)
    c.close_behind.ensures.begun
