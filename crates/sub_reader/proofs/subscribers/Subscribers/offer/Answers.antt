use Rattle.std.proofs.Common.{◌≡◌, ◌+◌, ◌-◌, ◌<◌, ◌^◌, [], ◌∷◌, length, map, true, sym, ap, subst, ◌∙◌, arith, length-append}
use Rattle.std.specs.VecDeque.{deque_capacity}
use Rattle.pps_types.specs.Plan.{offer}
use Rattle.change_chain.specs.Span.{end_of}
use Rattle.pps_types.specs.Owed.{in_chain}
use Rattle.sub_reader.specs.Opened.{is_directory, number_of}
use Rattle.sub_reader.specs.Places.{reader_after}
use Rattle.sub_reader.specs.Counts.{AreWithin, IsCounted, zeros}
use Rattle.sub_reader.specs.Standing.{IsLoose, room_of}
use Rattle.sub_reader.proofs.Moves.{offer-other, offer-within, offer-agree, offer-loose, offer-seen, settle-is, settle-seen, room-fits}
use Rattle.sub_reader.specs.Rows.{rows_of}
use Rattle.sub_reader.proofs.subscribers.Subscribers.offer.Goals as goal

pub returns-then-not-is_in_chain-clause-handles : goal.returns-then-not-is_in_chain-clause-handles
returns-then-not-is_in_chain-clause-handles c =
    let t = c.self.inside in
    ap (λ v. v.handles) (sym c.self.view_is)
    ∙ offer-other (is_directory t.of) (number_of t.of) t.name t.records.start t.records.items t.counts.items (rows_of t.rows) c.self.invariant.loose c.args.entry (sym c.is_in_chain.ensures ∙ c.if-not-is_in_chain.true)
    ∙ ap (λ v. map (offer c.args.entry) v.handles) c.self.view_is

pub offer_each-requires-clause-within : goal.offer_each-requires-clause-within
offer_each-requires-clause-within c =
    let t = c.self.inside in
    subst (λ start. AreWithin start (length c.push_back_reserved.new.self.items) (rows_of t.rows)) (sym c.start-start.ensures)
    (offer-within (is_directory t.of) (number_of t.of) t.name t.records.start t.records.items t.counts.items (rows_of t.rows) c.self.invariant.loose c.push_back_reserved.new.self.items c.push_back_reserved.ensures.items)

pub offer_each-requires-clause-agree : goal.offer_each-requires-clause-agree
offer_each-requires-clause-agree c =
    let t = c.self.inside in
    subst (λ start. IsCounted start (rows_of t.rows) c.push_back_reserved.new.self.items) (sym c.start-start.ensures)
    (offer-agree (is_directory t.of) (number_of t.of) t.name t.records.start t.records.items t.counts.items (rows_of t.rows) c.self.invariant.loose c.push_back_reserved.new.self.items c.push_back_reserved.ensures.items)

pub invariant_of-self : goal.invariant_of-self
invariant_of-self c =
    let t = c.self.inside in
    let d = is_directory t.of in
    let n = number_of t.of in
    let cs = c.offer_each.new.counts.items in
    let rs = rows_of c.offer_each.new.rows in
    let es = c.push_reserved.new.self.items in
    let here : in_chain d n c.args.entry ≡ true = sym c.is_in_chain.ensures ∙ c.if-not-is_in_chain.false in
    let room : 0 < room_of (end_of t.records) t.records.room (deque_capacity t.counts - length t.counts.items) = subst (λ v. 0 < v.room) (sym c.self.view_is) c.requires.room in
    let fits : t.records.start + length t.records.items + 1 < 2 ^ 64 = room-fits (end_of t.records) t.records.room (deque_capacity t.counts - length t.counts.items) room in
    let agree : IsCounted t.records.start rs cs = subst (λ start. IsCounted start rs cs) c.start-start.ensures c.offer_each.ensures.agree in
    let long : length cs ≡ length t.counts.items + 1 = omega (arith, c.offer_each.ensures.length, ap length c.push_back_reserved.ensures.items, length-append t.counts.items (0 ∷ [])) in
    let readers : rs ≡ map (reader_after n c.args.entry c.end-position.result) (rows_of t.rows) = c.offer_each.ensures.rows ∙ ap (λ m. map (reader_after m c.args.entry c.end-position.result) (rows_of t.rows)) c.number_of-target.ensures in
    let loose : IsLoose d n t.name t.records.start es cs rs =
    offer-loose d n t.name t.records.start t.records.items t.counts.items (rows_of t.rows) c.self.invariant.loose c.args.entry here c.end-position.result c.end-position.ensures es cs rs c.push_reserved.ensures.items readers fits agree long in
    settle-is d n t.name t.records.start es cs rs loose c.cut.new.records.start c.cut.new.records.items c.cut.new.counts.items
    (c.cut.ensures.start ∙ ap (λ start. start + zeros cs) c.push_reserved.ensures.start) c.cut.ensures.records c.cut.ensures.counts

pub returns-clause-handles : goal.returns-clause-handles
returns-clause-handles c =
    let t = c.self.inside in
    let d = is_directory t.of in
    let n = number_of t.of in
    let cs = c.offer_each.new.counts.items in
    let rs = rows_of c.offer_each.new.rows in
    let es = c.push_reserved.new.self.items in
    let here : in_chain d n c.args.entry ≡ true = sym c.is_in_chain.ensures ∙ c.if-not-is_in_chain.false in
    let room : 0 < room_of (end_of t.records) t.records.room (deque_capacity t.counts - length t.counts.items) = subst (λ v. 0 < v.room) (sym c.self.view_is) c.requires.room in
    let fits : t.records.start + length t.records.items + 1 < 2 ^ 64 = room-fits (end_of t.records) t.records.room (deque_capacity t.counts - length t.counts.items) room in
    let agree : IsCounted t.records.start rs cs = subst (λ start. IsCounted start rs cs) c.start-start.ensures c.offer_each.ensures.agree in
    let long : length cs ≡ length t.counts.items + 1 = omega (arith, c.offer_each.ensures.length, ap length c.push_back_reserved.ensures.items, length-append t.counts.items (0 ∷ [])) in
    let readers : rs ≡ map (reader_after n c.args.entry c.end-position.result) (rows_of t.rows) = c.offer_each.ensures.rows ∙ ap (λ m. map (reader_after m c.args.entry c.end-position.result) (rows_of t.rows)) c.number_of-target.ensures in
    let loose : IsLoose d n t.name t.records.start es cs rs =
    offer-loose d n t.name t.records.start t.records.items t.counts.items (rows_of t.rows) c.self.invariant.loose c.args.entry here c.end-position.result c.end-position.ensures es cs rs c.push_reserved.ensures.items readers fits agree long in
    settle-seen d n t.name t.records.start es cs rs loose c.cut.new.records.start c.cut.new.records.items
    (c.cut.ensures.start ∙ ap (λ start. start + zeros cs) c.push_reserved.ensures.start) c.cut.ensures.records
    ∙ offer-seen d n t.name t.records.start t.records.items t.counts.items (rows_of t.rows) c.self.invariant.loose c.args.entry here c.end-position.result c.end-position.ensures es cs rs c.push_reserved.ensures.items readers
    ∙ ap (λ v. map (offer c.args.entry) v.handles) c.self.view_is
