use Rattle.std.specs.Prelude.{◌≡◌, ◌∷◌, [], Bool, true, false, not, Option, Some, None, is_some, map, option_map, IfSome}
use Rattle.std.specs.Option.{option_copied}
use Rattle.std.proofs.Common.{Bor, refl, ◌∙◌, sym, ap, subst}
use Rattle.pps_types.specs.Reading.{idle_answer}
use Rattle.pps_types.specs.WellFormed.{RiseBetween}
use Rattle.pps_types.specs.Content.{own_handle, object_numbered}
use Rattle.sub_reader.specs.Opened.{number_of}
use Rattle.open_handles.specs.Whole.{Whole, handles_in}
use Rattle.name_table.specs.Standing.{Named, known_of, standing_of, content_of}
use Rattle.service_state.specs.Tables.{content_in}
use Rattle.whole_texts.specs.Answered.{meant}
use Rattle.service_laws.proofs.Finds.{and-both}
use Rattle.handle_requests.specs.Reads.{IsReader}
use Rattle.handle_requests.proofs.Owns.{unlike}
use Rattle.handle_requests.proofs.Answered.{object_reader, idle_told}
use Rattle.handle_requests.proofs.sources.answer_of_object.Goals as goal

some_kept : {X Y : Type 0} (f : X → Y) (o : Option (Bor X)) → is_some o ≡ is_some (option_map f (option_copied o))
some_kept f None = refl
some_kept f (Some x) = refl

pub answered-requires-clause-reader : goal.answered-requires-clause-reader
answered-requires-clause-reader c =
    let t = c.args.tables.now in
    let own = c.args.asked.now.own in
    let known = option_map known_of (option_copied c.object-known.result) in
    let alive : c.is_some-is_alive.result ≡ is_some known = c.is_some-is_alive.ensures ∙ some_kept known_of c.object-known.result in
    subst (λ (b : Bool). IfSome (own_handle (content_in t) c.args.conn c.args.handle) (IsReader (content_in t) b c.new-whole.result)) (sym c.waits-waits.ensures)
    (object_reader t t.handles.rows.next
    (subst (λ (w : Whole). RiseBetween 0 (map (λ h. h.number) (handles_in w)) w.rows.next) c.handles-handles.ensures c.handles_are_placed.ensures.rise)
    c.args.conn c.args.handle own c.requires.own c.requires.reads c.requires.object c.args.asked.now.glance.is_over
    c.requires.known.over
    known
    (c.object-known.ensures.known ∙ ap (λ (n : Named). object_numbered (content_of (standing_of n)) c.new.result) c.names.ensures ∙ ap (object_numbered (content_in t)) (c.new.ensures ∙ c.target.ensures))
    c.member_of.result
    (c.member_of.ensures.name ∙ c.name.ensures ∙ c.requires.known.name)
    c.member_of.ensures.lines c.new-whole.result
    (c.new-whole.ensures ∙ (λ i. record { kind = c.kind.ensures i; parts = c.filter.ensures i; over = c.args.asked.now.glance.is_over; alive = alive i; members = c.member_of.result ∷ [] })))

pub returns-then-finds_nothing-clause-ok : goal.returns-then-finds_nothing-clause-ok
returns-then-finds_nothing-clause-ok c =
    let t = c.args.tables.now in
    let own = c.args.asked.now.own in
    let known = option_map known_of (option_copied c.object-known.result) in
    let known-is : known ≡ object_numbered (content_in t) (number_of own.found) =
    c.object-known.ensures.known ∙ ap (λ (n : Named). object_numbered (content_of (standing_of n)) c.new.result) c.names.ensures ∙ ap (object_numbered (content_in t)) (c.new.ensures ∙ c.target.ensures) in
    let both : (c.is_some-is_alive.result ≡ true) × (not c.args.asked.now.glance.has_news ≡ true) =
    and-both c.is_some-is_alive.result (not c.args.asked.now.glance.has_news) (sym c.finds_nothing.ensures ∙ c.if-finds_nothing.true) in
    let alive : is_some (object_numbered (content_in t) (number_of own.found)) ≡ true =
    ap is_some (sym known-is) ∙ sym (some_kept known_of c.object-known.result) ∙ sym c.is_some-is_alive.ensures ∙ both.0 in
    idle_told t c.args.conn c.args.handle own c.requires.own c.requires.reads c.requires.object alive
    c.args.asked.now.glance.has_news (unlike both.1) c.requires.known.news c.args.size
    (meant c.nothing_new.result) (c.nothing_new.ensures ∙ ap (idle_answer false) c.waits-waits.ensures)
