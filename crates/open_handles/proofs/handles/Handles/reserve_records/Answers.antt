use Rattle.std.proofs.Common.{subst}
use Rattle.std.proofs.lemmas.List.{take_all}
use Rattle.std.specs.List.{AllByRecursion}
use Rattle.open_handles.specs.Whole.{IsReadyFor}
use Rattle.open_handles.proofs.Reserves.{reserved_then, ready_stays, all_more, room_all}
use Rattle.open_handles.proofs.handles.Handles.reserve_records.Goals as goal
use Rattle.std.proofs.Common.{take}

pub loop-entry-preserved : goal.loop-entry-preserved
loop-entry-preserved c = record {
  reserved = reserved_then c.args.self.now c.loop-entry.self c.reserve_next.new.self c.loop-entry.invariant.reserved c.reserve_next.ensures.reserved;
  ready = all_more (IsReadyFor c.args.entries.now c.reserve_next.new.self) c.args.entries.now c.loop-entry.entry-index c.entry-item.result c.loop-entry-test.true c.entry-item.is
      (ready_stays c.loop-entry.self c.reserve_next.new.self c.args.entries.now c.reserve_next.ensures.reserved (take c.loop-entry.entry-index c.args.entries.now) c.loop-entry.invariant.ready)
      c.in_ok-reserve_next.ensures.ready;
  before = c.in_ok-reserve_next.ensures.ready;
}

pub returns-clause-room : goal.returns-clause-room
returns-clause-room c =
    room_all c.args.entries.now c.loop-entry.self
    (subst (AllByRecursion (IsReadyFor c.args.entries.now c.loop-entry.self)) (take_all c.loop-entry.entry-index c.args.entries.now c.loop-entry-test.false) c.loop-entry.invariant.ready)
