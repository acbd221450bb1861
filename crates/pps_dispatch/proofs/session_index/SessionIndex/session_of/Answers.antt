use Rattle.std.proofs.Common.{rules, ◌≡◌}
use Rattle.std.specs.Ordering.{nat_cmp}
use Rattle.std.specs.BTreeMap.{get}
use Rattle.pps_dispatch.proofs.Indexing.{finds_session}
use Rattle.pps_dispatch.proofs.session_index.SessionIndex.session_of.Goals as goal

pub returns : goal.returns
returns c =
    let found : c.copied.result ≡ get nat_cmp c.args.self.now.numbers c.args.conn = search rules in
    let h = finds_session c.args.self.now.numbers c.args.sessions.now c.args.conn c.copied.result c.requires found in
    record { bound = h.bound; own = h.own; none = h.none }
