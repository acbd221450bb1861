use Rattle.std.proofs.Common.{sym, arith}
use Rattle.sub_reader.specs.Rows.{row_at, with_progress}
use Rattle.topics.specs.Offers.{RoomIn}
use Rattle.topics.specs.Rooms.{IsKept}
use Rattle.topics.proofs.Moves.{progress-is}
use Rattle.topics.proofs.Roomed.{queue-kept}
use Rattle.topics.proofs.Walks.{goes-nowhere, goes-changed, changed-such}
use Rattle.topics.proofs.rooms.reserve_at.Goals as goal

pub returns-in_default-clause-kept : goal.returns-in_default-clause-kept
returns-in_default-clause-kept c = goes-nowhere IsKept c.args.place c.args.rows.now.slots c.requires.place (sym c.in_default.ensures.row)

pub returns-in-Ok-clause-kept : goal.returns-in-Ok-clause-kept
returns-in-Ok-clause-kept c =
    let ss = c.args.rows.now.slots in
    let x = c.in-Some.row.now in
    let q = c.progress_mut-queue.result.now in
    let w = c.reserve.new.self in
    goes-changed IsKept c.args.place ss (with_progress w) x c.in-Some.ensures.row
    (queue-kept x q w (progress-is (row_at c.args.place ss) x q c.in-Some.ensures.row c.progress_mut-queue.ensures.value) c.reserve.ensures.limit c.reserve.ensures.owed c.reserve.ensures.kept)

pub returns-in-Ok-clause-room : goal.returns-in-Ok-clause-room
returns-in-Ok-clause-room c =
    let w = c.reserve.new.self in
    let room : RoomIn c.args.object c.args.entries.now (with_progress w c.in-Some.row.now) = record {
      records = omega (arith, c.in-Ok.ensures.ok.0, c.needs-needs.ensures.records);
      messages = omega (arith, c.in-Ok.ensures.ok.1, c.needs-needs.ensures.messages);
    } in
    changed-such (RoomIn c.args.object c.args.entries.now) c.args.place c.args.rows.now.slots (with_progress w) c.in-Some.row.now c.in-Some.ensures.row room

pub returns-in-Err-clause-kept : goal.returns-in-Err-clause-kept
returns-in-Err-clause-kept c =
    let ss = c.args.rows.now.slots in
    let x = c.in-Some.row.now in
    let q = c.progress_mut-queue.result.now in
    let w = c.reserve.new.self in
    goes-changed IsKept c.args.place ss (with_progress w) x c.in-Some.ensures.row
    (queue-kept x q w (progress-is (row_at c.args.place ss) x q c.in-Some.ensures.row c.progress_mut-queue.ensures.value) c.reserve.ensures.limit c.reserve.ensures.owed c.reserve.ensures.kept)
