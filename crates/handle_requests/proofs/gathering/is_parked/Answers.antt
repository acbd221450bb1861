use Rattle.std.specs.Prelude.{◌≡◌, is_some, IfSome}
use Rattle.std.proofs.Common.{subst}
use Rattle.open_handles.specs.Whole.{Whole, handles_in}
use Rattle.handle_requests.proofs.Owns.{own_among, own_parked}
use Rattle.handle_requests.proofs.gathering.is_parked.Goals as goal

pub returns : goal.returns
returns c =
    subst (λ (w : Whole). IfSome (own_among (handles_in w) c.args.conn c.args.handle) (λ h. c.is_some.result ≡ is_some h.parked)) c.handles-handles.ensures
    (own_parked (handles_in c.handles-handles.result.now) c.handles-handles.result.now.rows.next c.handles_are_placed.ensures.rise c.args.conn c.args.handle c.parked.result c.parked.ensures c.is_some.result c.is_some.ensures)
