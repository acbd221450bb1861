-- Books and segments may be sent to threads, and threads may share a book behind its lock: the engines that they hold may be.
use denote.Param.Send.{IsSend, IsSync, sendable}
use Rattle.std.proofs.Crossing.{crosses}
use Rattle.pps_engine.proofs.Sends.{engine_send, engine_sync}
use Rattle.pps_lock.proofs.entry.Entry.TheSendSync as entry
use Rattle.pps_lock.specs.contracts.book.Book as book
use Rattle.pps_lock.specs.contracts.segment.Segment as segment
use Rattle.pps_lock.specs.contracts.shared.Shared as shared

pub book_send : IsSend book.the_row
book_send = search (engine_send, engine_sync, entry.the_send, crosses, sendable) depth 60 fits 20000

pub segment_send : IsSend segment.the_row
segment_send = search (engine_send, engine_sync, entry.the_send, crosses, sendable) depth 60 fits 20000

pub segment_sync : IsSync segment.the_row
segment_sync = search (engine_send, engine_sync, entry.the_sync, crosses, sendable) depth 60 fits 20000

pub shared_send : IsSend shared.the_row
shared_send = search (book_send, crosses, sendable) depth 60 fits 20000

pub shared_sync : IsSync shared.the_row
shared_sync = search (book_send, crosses, sendable) depth 60 fits 20000
