use Rattle.std.proofs.Common.{arith, sym}
use Rattle.pps_types.proofs.RisingEdits.{any_gap, any_place, find_gap, find_place, filter_gap, filter_place, rising_remove}
use Rattle.notify_box.proofs.rising.take_out.Goals as goal

pub returns-in-Ok-clause-entry : goal.returns-in-Ok-clause-entry
returns-in-Ok-clause-entry g c = find_place g.T.Numbered.number_of _ _ _ c.remove.result (rw (c.deref.ensures.value) at c.in-Ok.ensures.found) c.remove.ensures.value

pub returns-in-Ok-clause-items : goal.returns-in-Ok-clause-items
returns-in-Ok-clause-items g c = rw (c.remove.ensures.items) (filter_place g.T.Numbered.number_of _ _ _ (rw (c.deref.ensures.value) at c.in-Ok.ensures.found))

pub returns-in-Ok-clause-len : goal.returns-in-Ok-clause-len
returns-in-Ok-clause-len g c = rw (any_place g.T.Numbered.number_of _ c.args.entries.now.items _ (rw (c.deref.ensures.value) at c.in-Ok.ensures.found)) (sym c.remove.ensures.len)

pub returns-in-Ok-clause-rising : goal.returns-in-Ok-clause-rising
returns-in-Ok-clause-rising g c = rw (c.remove.ensures.items) (rising_remove g.T.Numbered.number_of _ _ c.requires)

pub returns-in-Err-clause-entry : goal.returns-in-Err-clause-entry
returns-in-Err-clause-entry g c = sym (find_gap g.T.Numbered.number_of _ _ _ (rw (c.deref.ensures.value) at c.in-Err.ensures.absent))

pub returns-in-Err-clause-items : goal.returns-in-Err-clause-items
returns-in-Err-clause-items g c = sym (filter_gap g.T.Numbered.number_of _ _ _ (rw (c.deref.ensures.value) at c.in-Err.ensures.absent))

pub returns-in-Err-clause-len : goal.returns-in-Err-clause-len
returns-in-Err-clause-len g c = rw (any_gap g.T.Numbered.number_of _ c.args.entries.now.items _ (rw (c.deref.ensures.value) at c.in-Err.ensures.absent)) (omega arith)
