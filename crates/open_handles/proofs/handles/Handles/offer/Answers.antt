use Rattle.std.proofs.Common.{◌-◌, ap, sym, subst, ◌∙◌}
use Rattle.pps_types.specs.declared.found.Found.TheVariants.{Directory as FoundDirectory}
use Rattle.pps_types.specs.declared.record.Record.{Record}
use Rattle.pps_types.specs.History.{Entry}
use Rattle.server_queue.specs.Shared.{Shared}
use Rattle.open_handles.specs.Whole.{IsWhole, handles_at}
use Rattle.open_handles.proofs.Offers.{room_mid, both_offered, both_room, one_offered, one_room}
use Rattle.open_handles.proofs.Shares.{shares_left, shared_object, same_above, none_made, nobody}
use Rattle.open_handles.proofs.handles.Handles.offer.Goals as goal

pub offer_at-requires-clause-enough : goal.offer_at-requires-clause-enough
offer_at-requires-clause-enough c = λ is. shared_object c.args.self.now c.args.told c.told.inside.for_object c.record.result.now.object (ap (λ (t : Shared). t.entry) c.told.view_is) (sym (shares_left c.told.inside.for_object c.told.inside.for_directory c.told.invariant) ∙ ap (λ (t : Shared). t.count - 1) c.told.view_is) (ap (λ (r : Record). r.object) (c.record.ensures ∙ ap (λ (e : Entry). e.record_of) (c.entry.ensures ∙ ap (λ (t : Shared). t.entry) c.told.view_is))) c.requires.enough

pub returns-in_default-clause-handles : goal.returns-in_default-clause-handles
returns-in_default-clause-handles c =
    one_offered c.args.self.now c.offer_at.new.self (subst IsWhole c.self.view_is c.self.invariant) c.offer_at.ensures.rows c.args.told.entry c.told.inside.for_object.entry c.record.result.now.object (ap (λ (t : Shared). t.entry) c.told.view_is) (ap (λ (r : Record). r.object) (c.record.ensures ∙ ap (λ (e : Entry). e.record_of) (c.entry.ensures ∙ ap (λ (t : Shared). t.entry) c.told.view_is)))
    (nobody (handles_at (FoundDirectory c.args.told.entry.directory) c.args.self.now) c.args.told.count c.requires.enough.directory (none_made c.args.told c.told.inside.for_object c.told.inside.for_directory (ap (λ (t : Shared). t.count) c.told.view_is) c.told.invariant c.in_default.is)) c.offer_at.ensures.handles c.offer_at.ensures.others

pub returns-in_default-clause-records : goal.returns-in_default-clause-records
returns-in_default-clause-records c =
    one_room c.args.self.now c.offer_at.new.self (subst IsWhole c.self.view_is c.self.invariant) c.offer_at.ensures.rows c.args.told.entry c.told.inside.for_object.entry c.record.result.now.object (ap (λ (t : Shared). t.entry) c.told.view_is) (ap (λ (r : Record). r.object) (c.record.ensures ∙ ap (λ (e : Entry). e.record_of) (c.entry.ensures ∙ ap (λ (t : Shared). t.entry) c.told.view_is)))
    (nobody (handles_at (FoundDirectory c.args.told.entry.directory) c.args.self.now) c.args.told.count c.requires.enough.directory (none_made c.args.told c.told.inside.for_object c.told.inside.for_directory (ap (λ (t : Shared). t.count) c.told.view_is) c.told.invariant c.in_default.is)) c.offer_at.ensures.handles c.offer_at.ensures.others c.offer_at.ensures.records

pub offer_at-requires-2-clause-room : goal.offer_at-requires-2-clause-room
offer_at-requires-2-clause-room c = room_mid c.args.self.now c.offer_at.new.self c.args.told.entry c.alone.result.entry (FoundDirectory c.new-directory.result) (ap (λ (t : Shared). t.entry) c.alone.ensures ∙ same_above c.told.inside.for_object c.told.inside.for_directory c.in-Some.entry c.told.invariant c.in-Some.is ∙ ap (λ (t : Shared). t.entry) c.told.view_is) (c.offer_at.ensures.others (FoundDirectory c.new-directory.result) (λ bad. cc)) c.requires.room

pub returns-clause-handles : goal.returns-clause-handles
returns-clause-handles c =
    let above = same_above c.told.inside.for_object c.told.inside.for_directory c.in-Some.entry c.told.invariant c.in-Some.is ∙ ap (λ (t : Shared). t.entry) c.told.view_is in
    both_offered c.args.self.now c.offer_at.new.self c.offer_at-2.new.self (subst IsWhole c.self.view_is c.self.invariant) (c.offer_at-2.ensures.rows ∙ c.offer_at.ensures.rows) c.args.told.entry c.told.inside.for_object.entry c.alone.result.entry c.record.result.now.object c.new-directory.result (ap (λ (t : Shared). t.entry) c.told.view_is) (ap (λ (t : Shared). t.entry) c.alone.ensures ∙ above) (ap (λ (r : Record). r.object) (c.record.ensures ∙ ap (λ (e : Entry). e.record_of) (c.entry.ensures ∙ (ap (λ (t : Shared). t.entry) c.told.view_is)))) (c.new-directory.ensures ∙ c.directory.ensures ∙ ap (λ (e : Entry). e.directory) above) c.offer_at.ensures.handles c.offer_at.ensures.others c.offer_at-2.ensures.handles c.offer_at-2.ensures.others

pub returns-clause-records : goal.returns-clause-records
returns-clause-records c =
    let above = same_above c.told.inside.for_object c.told.inside.for_directory c.in-Some.entry c.told.invariant c.in-Some.is ∙ ap (λ (t : Shared). t.entry) c.told.view_is in
    both_room c.args.self.now c.offer_at.new.self c.offer_at-2.new.self (subst IsWhole c.self.view_is c.self.invariant) (c.offer_at-2.ensures.rows ∙ c.offer_at.ensures.rows) c.args.told.entry c.told.inside.for_object.entry c.alone.result.entry c.record.result.now.object c.new-directory.result (ap (λ (t : Shared). t.entry) c.told.view_is) (ap (λ (t : Shared). t.entry) c.alone.ensures ∙ above) (ap (λ (r : Record). r.object) (c.record.ensures ∙ ap (λ (e : Entry). e.record_of) (c.entry.ensures ∙ (ap (λ (t : Shared). t.entry) c.told.view_is)))) (c.new-directory.ensures ∙ c.directory.ensures ∙ ap (λ (e : Entry). e.directory) above) c.offer_at.ensures.handles c.offer_at.ensures.others c.offer_at-2.ensures.handles c.offer_at-2.ensures.others c.offer_at.ensures.records c.offer_at-2.ensures.records
