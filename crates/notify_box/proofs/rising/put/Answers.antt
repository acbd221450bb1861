use Rattle.std.proofs.Common.{arith}
use Rattle.pps_types.proofs.RisingEdits.{any_gap, any_place, put_gap, put_place, rising_insert, rising_set}
use Rattle.notify_box.proofs.rising.put.Goals as goal

pub returns-in-Ok-clause-items : goal.returns-in-Ok-clause-items
returns-in-Ok-clause-items g c = put_place g.T.Numbered.number_of c.args.entry _ _ (rw (c.deref.ensures.value, c.number.ensures) at c.in-Ok.ensures.found)

pub returns-in-Ok-clause-len : goal.returns-in-Ok-clause-len
returns-in-Ok-clause-len g c = rw (any_place g.T.Numbered.number_of _ c.args.entries.now.items _ (rw (c.deref.ensures.value, c.number.ensures) at c.in-Ok.ensures.found)) (omega arith)

pub returns-in-Ok-clause-rising : goal.returns-in-Ok-clause-rising
returns-in-Ok-clause-rising g c = rising_set g.T.Numbered.number_of c.args.entry _ _ c.requires.rising (rw (c.deref.ensures.value, c.number.ensures) at c.in-Ok.ensures.found)

pub insert_reserved-requires-clause-room : goal.insert_reserved-requires-clause-room
insert_reserved-requires-clause-room g c = c.requires.room (any_gap g.T.Numbered.number_of _ c.args.entries.now.items _ (rw (c.deref.ensures.value, c.number.ensures) at c.in-Err.ensures.absent))

pub returns-in-Err-clause-items : goal.returns-in-Err-clause-items
returns-in-Err-clause-items g c = rw (c.insert_reserved.ensures.items) (put_gap g.T.Numbered.number_of c.args.entry _ _ (rw (c.deref.ensures.value, c.number.ensures) at c.in-Err.ensures.absent))

pub returns-in-Err-clause-len : goal.returns-in-Err-clause-len
returns-in-Err-clause-len g c = rw (c.insert_reserved.ensures.len, any_gap g.T.Numbered.number_of _ c.args.entries.now.items _ (rw (c.deref.ensures.value, c.number.ensures) at c.in-Err.ensures.absent)) (omega arith)

pub returns-in-Err-clause-rising : goal.returns-in-Err-clause-rising
returns-in-Err-clause-rising g c = rw (c.insert_reserved.ensures.items) (rising_insert g.T.Numbered.number_of c.args.entry _ _ c.requires.rising (rw (c.deref.ensures.value, c.number.ensures) at c.in-Err.ensures.absent))
