use Rattle.std.proofs.Common.{◌≡◌, ◌++◌, drop, map}
use Rattle.std.specs.List.{AllByRecursion, flat_map}
use Rattle.service_state.specs.Beginning.{IsSharedBy}
use Rattle.service_state.specs.Tables.{content_in}
use Rattle.service_state.specs.Begun.{bare}
use Rattle.handle_requests.specs.Begun.{begun_behind}
use Rattle.handle_requests.proofs.gathering.close_all.Given as goal

-- what is begun, and what is still to come
abbrev pub invariant-closes : goal.invariant-closes
invariant-closes l = record {
  begun : map bare l.beginning.items ++ flat_map (begun_behind (content_in l.tables) l.conn) (drop l.handle-index l.handles) ≡ flat_map (begun_behind (content_in l.tables) l.conn) l.handles;
  shared : AllByRecursion (IsSharedBy l.tables.handles) l.beginning.items;
}
