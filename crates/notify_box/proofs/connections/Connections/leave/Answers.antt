use Rattle.std.proofs.Common.{refl, sym, arith}
use Rattle.pps_types.proofs.RisingEdits.{rising_remove}
use Rattle.notify_box.specs.Standing.{number_of}
use Rattle.notify_box.proofs.ConnectionChanges.{standing_remove, standing_found, removed_gone, others_remove, not_stood, stands, gap_without, each_left}
use Rattle.notify_box.proofs.connections.Connections.leave.Goals as goal

pub invariant_of-self : goal.invariant_of-self
invariant_of-self c = rw c.remove.ensures.items (rising_remove number_of _ _ c.self.invariant)

pub returns-in-Ok-clause-standing : goal.returns-in-Ok-clause-standing
returns-in-Ok-clause-standing c = rw (← c.self.view_is, c.remove.ensures.items) (standing_remove c.args.conn c.self.inside.attached.items c.in-Ok.place (rw c.deref.ensures.value at c.in-Ok.ensures.found))

pub returns-in-Ok-clause-absent : goal.returns-in-Ok-clause-absent
returns-in-Ok-clause-absent c = rw (c.remove.ensures.items) (rw (standing_found c.args.conn, removed_gone c.args.conn c.self.inside.attached.items c.in-Ok.place (rw c.deref.ensures.value at c.in-Ok.ensures.found)) refl)

pub returns-in-Ok-clause-handle_rooms : goal.returns-in-Ok-clause-handle_rooms
returns-in-Ok-clause-handle_rooms c = rw (← c.self.view_is, c.remove.ensures.items) (each_left c.args.conn c.self.inside.attached.items c.in-Ok.place (rw c.deref.ensures.value at c.in-Ok.ensures.found))

pub returns-in-Ok-clause-others : goal.returns-in-Ok-clause-others
returns-in-Ok-clause-others c = rw (← c.self.view_is, c.remove.ensures.items) (λ other different. others_remove c.args.conn other c.self.inside.attached.items c.in-Ok.place different (rw c.deref.ensures.value at c.in-Ok.ensures.found))

pub returns-in-Ok-clause-room : goal.returns-in-Ok-clause-room
returns-in-Ok-clause-room c = rw (← c.self.view_is) (rw (stands c.args.conn c.self.inside.attached.items c.in-Ok.place (rw c.deref.ensures.value at c.in-Ok.ensures.found)) (omega (arith, c.remove.ensures.len, c.remove.ensures.capacity)))

pub returns-in_default-clause-standing : goal.returns-in_default-clause-standing
returns-in_default-clause-standing c = rw (← c.self.view_is) (sym (gap_without c.args.conn c.self.inside.attached.items _ (rw c.deref.ensures.value at c.in_default.ensures.absent)))

pub returns-in_default-clause-absent : goal.returns-in_default-clause-absent
returns-in_default-clause-absent c = rw (← c.self.view_is) (rw (not_stood c.args.conn c.self.inside.attached.items _ (rw c.deref.ensures.value at c.in_default.ensures.absent)) refl)

pub returns-in_default-clause-room : goal.returns-in_default-clause-room
returns-in_default-clause-room c = rw (← c.self.view_is) (rw (not_stood c.args.conn c.self.inside.attached.items _ (rw c.deref.ensures.value at c.in_default.ensures.absent)) (omega arith))
