use Rattle.std.proofs.Common.{◌∙◌, [], ◌∷◌, length, map, sym, ap, subst, arith}
use Rattle.std.specs.Prelude.{filter}
use Rattle.pps_types.specs.History.{Entry}
use Rattle.pps_types.specs.Reading.{OpenHandle, visible}
use Rattle.pps_types.specs.Rests.{Progress}
use Rattle.pps_types.specs.Plan.{offer}
use Rattle.sub_reader.specs.Rows.{rows_of}
use Rattle.topics.specs.QueueRows.{sees}
use Rattle.topics.specs.Standing.{IsReady}
use Rattle.topics.specs.Offers.{RoomInEach, AreOffered}
use Rattle.topics.specs.Spans.{IsSpan, IsUnseen}
use Rattle.topics.proofs.Offering.{count-handles, offers-is, offers-seen, room-each, room-all, room-after}
use Rattle.topics.proofs.server_handles.ServerHandles.offer.Goals as goal

pub offer_each-requires-clause-span : goal.offer_each-requires-clause-span
offer_each-requires-clause-span c =
    let span = c.find_span-span.result in
    let object = c.number-object.result in
    subst (λ es. IsSpan (IsUnseen object es) span.from span.to c.self.inside.rows.slots) (c.from_ref.ensures.value ∙ ap (λ (e : Entry). e ∷ []) c.entry.ensures) (c.find_span-span.ensures object)

pub offer_each-requires-clause-room : goal.offer_each-requires-clause-room
offer_each-requires-clause-room c =
    let s = c.self.inside in
    let e = c.args.shares.entry in
    subst (λ n. RoomInEach n (e ∷ []) (rows_of s.rows)) (sym c.number-object.ensures.same) (room-each s.object s.name (e ∷ []) (rows_of s.rows) (subst (IsReady (e ∷ [])) (sym c.self.view_is) c.requires.room))

pub offer_each-requires-clause-enough : goal.offer_each-requires-clause-enough
offer_each-requires-clause-enough c =
    let s = c.self.inside in
    let e = c.args.shares.entry in
    let same = ap (λ n. length (filter (sees n e) (rows_of s.rows))) c.number-object.ensures.same ∙ count-handles s.object s.name e (rows_of s.rows) ∙ ap (λ v. length (filter (λ (h : OpenHandle Progress). visible h e) v.handles)) c.self.view_is in
    omega (arith, same, c.requires.enough)

pub invariant_of-self : goal.invariant_of-self
invariant_of-self c =
    let s = c.self.inside in
    let e = c.args.shares.entry in
    let new = rows_of c.offer_each.new.rows in
    let all : AreOffered s.object e (rows_of s.rows) new = subst (λ n. AreOffered n e (rows_of s.rows) new) c.number-object.ensures.same c.offer_each.ensures.rows in
    offers-is s.object e s.led (rows_of s.rows) new c.self.invariant all

pub returns-clause-handles : goal.returns-clause-handles
returns-clause-handles c =
    let s = c.self.inside in
    let e = c.args.shares.entry in
    let new = rows_of c.offer_each.new.rows in
    let all : AreOffered s.object e (rows_of s.rows) new = subst (λ n. AreOffered n e (rows_of s.rows) new) c.number-object.ensures.same c.offer_each.ensures.rows in
    offers-seen s.object s.name e (rows_of s.rows) new c.self.invariant.each all ∙ ap (λ v. map (offer e) v.handles) c.self.view_is

pub returns-clause-ready : goal.returns-clause-ready
returns-clause-ready c entries ready =
    let s = c.self.inside in
    let e = c.args.shares.entry in
    let new = rows_of c.offer_each.new.rows in
    let all : AreOffered s.object e (rows_of s.rows) new = subst (λ n. AreOffered n e (rows_of s.rows) new) c.number-object.ensures.same c.offer_each.ensures.rows in
    room-all s.object s.name entries new (room-after s.object e entries (rows_of s.rows) new all (room-each s.object s.name (e ∷ entries) (rows_of s.rows) (subst (IsReady (e ∷ entries)) (sym c.self.view_is) ready)))
