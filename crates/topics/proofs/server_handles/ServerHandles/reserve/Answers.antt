use Rattle.std.proofs.Common.{◌∙◌, map, sym, ap, subst}
use Rattle.sub_reader.specs.Rows.{rows_of}
use Rattle.topics.specs.Standing.{IsReady, HaveRoom, spare_of}
use Rattle.topics.specs.QueueRows.{handle_of}
use Rattle.topics.specs.Offers.{RoomInEach}
use Rattle.topics.proofs.Offering.{room-each, room-all}
use Rattle.topics.proofs.Roomed.{kept-is, kept-seen, kept-rooms, ok-map}
use Rattle.topics.proofs.server_handles.ServerHandles.reserve.Goals as goal

pub reserve_each-requires-clause-span : goal.reserve_each-requires-clause-span
reserve_each-requires-clause-span c = c.find_span-span.ensures c.number-object.result

pub invariant_of-self : goal.invariant_of-self
invariant_of-self c = kept-is c.self.inside.object c.self.inside.led (rows_of c.self.inside.rows) (rows_of c.reserve_each.new.rows) c.self.invariant c.reserve_each.ensures.kept

pub returns-clause-handles : goal.returns-clause-handles
returns-clause-handles c =
    let s = c.self.inside in
    kept-seen s.object s.name (rows_of s.rows) (rows_of c.reserve_each.new.rows) c.reserve_each.ensures.kept ∙ ap (λ v. v.handles) c.self.view_is

pub returns-clause-ready : goal.returns-clause-ready
returns-clause-ready c =
    let s = c.self.inside in
    let new = rows_of c.reserve_each.new.rows in
    ok-map c.reserve_each.result (RoomInEach c.number-object.result c.args.entries.now new) (HaveRoom c.args.entries.now (map (handle_of s.object s.name) new) (map spare_of new))
    (λ room. room-all s.object s.name c.args.entries.now new (subst (λ n. RoomInEach n c.args.entries.now new) c.number-object.ensures.same room))
    c.reserve_each.ensures.room

pub returns-clause-kept : goal.returns-clause-kept
returns-clause-kept c others ready =
    let s = c.self.inside in
    let new = rows_of c.reserve_each.new.rows in
    room-all s.object s.name others new (kept-rooms s.object others (rows_of s.rows) new c.reserve_each.ensures.kept (room-each s.object s.name others (rows_of s.rows) (subst (IsReady others) (sym c.self.view_is) ready)))

pub returns-clause-succeeds : goal.returns-clause-succeeds
returns-clause-succeeds c ready =
    let s = c.self.inside in
    let e = c.args.entries.now in
    c.reserve_each.ensures.succeeds (subst (λ n. RoomInEach n e (rows_of s.rows)) (sym c.number-object.ensures.same) (room-each s.object s.name e (rows_of s.rows) (subst (IsReady e) (sym c.self.view_is) ready)))
