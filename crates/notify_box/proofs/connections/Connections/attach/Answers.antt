use Rattle.notify_box.specs.contracts.attached.Attached.{the_view}
use Rattle.std.proofs.Common.{map, refl, ap, ◌∙◌}
use Rattle.pps_types.specs.Outbox.{put_rising}
use Rattle.pps_types.proofs.RisingEdits.{rising_insert}
use Rattle.notify_box.specs.Standing.{Standing, standing_of, number_of}
use Rattle.notify_box.proofs.ConnectionChanges.{standing_insert, others_insert, inserted, stands}
use Rattle.notify_box.proofs.connections.Connections.attach.Goals as goal

pub unreachable-requires : goal.unreachable-requires
unreachable-requires c = let here = stands c.args.conn c.self.inside.attached.items _ (rw c.deref.ensures.value at c.in-Ok.ensures.found) in let absent = rw (← c.self.view_is) at c.requires.absent in cc

pub invariant_of-self : goal.invariant_of-self
invariant_of-self c = rw c.insert_reserved.ensures.items (rising_insert number_of _ _ _ c.self.invariant (rw c.deref.ensures.value at c.in-Err.ensures.absent))

pub returns-clause-standing : goal.returns-clause-standing
returns-clause-standing c = rw (← c.self.view_is, c.insert_reserved.ensures.items) (standing_insert (the_view record { number = c.args.conn; outbox = c.args.outbox; handles = c.new-handles.result }) c.self.inside.attached.items c.in-Err.place (rw c.deref.ensures.value at c.in-Err.ensures.absent) ∙ ap (λ hs. put_rising (λ (s : Standing). s.number) (record { number = c.args.conn; outbox = c.args.outbox.outbox; handles = hs }) (map standing_of c.self.inside.attached.items)) c.new-handles.ensures)

pub returns-clause-others : goal.returns-clause-others
returns-clause-others c = rw (← c.self.view_is, c.insert_reserved.ensures.items) (λ other different. others_insert c.args.conn other c.self.inside.attached.items c.in-Err.place _ different refl)

pub returns-clause-roomed : goal.returns-clause-roomed
returns-clause-roomed c = rw (c.insert_reserved.ensures.items) (rw (inserted (the_view record { number = c.args.conn; outbox = c.args.outbox; handles = c.new-handles.result }) c.self.inside.attached.items c.in-Err.place (rw c.deref.ensures.value at c.in-Err.ensures.absent)) refl)
