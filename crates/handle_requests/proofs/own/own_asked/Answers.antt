use Rattle.std.specs.Prelude.{◌≡◌, Option, Some, None, option_map, IfSome}
use Rattle.std.proofs.Common.{sym, ◌∙◌, ap, subst}
use Rattle.sub_reader.specs.Opened.{opened, as_opened, number_of, handle_at}
use Rattle.sub_reader.specs.Glances.{glanced, glance_on}
use Rattle.topics.specs.HandlesOf.{handles_of, name_of}
use Rattle.open_handles.specs.Whole.{Whole, handles_in, name_at}
use Rattle.open_handles.specs.declared.handles.Looked.{Looked}
use Rattle.handle_requests.proofs.Owns.{own_among, alike, unlike, opened_none, opened_other, opened_here}
use Rattle.handle_requests.proofs.Glances.{none_seen, opening_seen, is_asked}
use Rattle.handle_requests.proofs.own.own_asked.Goals as goal

pub returns-in_default-clause-own : goal.returns-in_default-clause-own
returns-in_default-clause-own c =
    let w = c.handles-handles.result.now in
    subst (λ (w : Whole). None ≡ option_map as_opened (own_among (handles_in w) c.args.conn c.args.handle)) c.handles-handles.ensures
    (opened_none (handles_in w) w.rows.next c.handles_are_placed.ensures.rise c.args.conn c.args.handle
    (none_seen (handle_at c.args.handle (handles_in w)) (ap (option_map (λ (o : Looked). glance_on (number_of o.found) (name_at o.found w) o.glance)) (sym c.in_default.is) ∙ c.look.ensures.glance)))

pub returns-then-ne-clause-own : goal.returns-then-ne-clause-own
returns-then-ne-clause-own c =
    let w = c.handles-handles.result.now in
    let l = c.in-Some.looked in
    subst (λ (w : Whole). None ≡ option_map as_opened (own_among (handles_in w) c.args.conn c.args.handle)) c.handles-handles.ensures
    (opened_other (handles_in w) w.rows.next c.handles_are_placed.ensures.rise c.args.conn c.args.handle
    (opened (number_of l.found) (name_at l.found w) l.glance.opening.now)
    (opening_seen (handle_at c.args.handle (handles_in w)) (glance_on (number_of l.found) (name_at l.found w) l.glance) (ap (option_map (λ (o : Looked). glance_on (number_of o.found) (name_at o.found w) o.glance)) (sym c.in-Some.is) ∙ c.look.ensures.glance))
    (unlike (sym c.ne.ensures ∙ c.if-ne.true)))

pub returns-clause-own : goal.returns-clause-own
returns-clause-own c =
    let w = c.handles-handles.result.now in
    let l = c.in-Some.looked in
    subst (λ (w : Whole). Some (opened (number_of l.found) (name_at l.found w) l.glance.opening.now) ≡ option_map as_opened (own_among (handles_in w) c.args.conn c.args.handle)) c.handles-handles.ensures
    (opened_here (handles_in w) w.rows.next c.handles_are_placed.ensures.rise c.args.conn c.args.handle
    (opened (number_of l.found) (name_at l.found w) l.glance.opening.now)
    (opening_seen (handle_at c.args.handle (handles_in w)) (glance_on (number_of l.found) (name_at l.found w) l.glance) (ap (option_map (λ (o : Looked). glance_on (number_of o.found) (name_at o.found w) o.glance)) (sym c.in-Some.is) ∙ c.look.ensures.glance))
    (alike (sym c.ne.ensures ∙ c.if-ne.false)))

pub returns-clause-known : goal.returns-clause-known
returns-clause-known c =
    let w = c.handles-handles.result.now in
    let l = c.in-Some.looked in
    let g = glance_on (number_of l.found) (name_at l.found w) l.glance in
    let at = handle_at c.args.handle (handles_in w) in
    let rise = c.handles_are_placed.ensures.rise in
    let seen : Some g ≡ option_map glanced at = ap (option_map (λ (o : Looked). glance_on (number_of o.found) (name_at o.found w) o.glance)) (sym c.in-Some.is) ∙ c.look.ensures.glance in
    let topic : handle_at c.args.handle (handles_of l.topic.now) ≡ at = subst (λ (o : Option Looked). IfSome o (λ o. handle_at c.args.handle (handles_of o.topic.now) ≡ at)) c.in-Some.is c.look.ensures.topic in
    let name : name_of l.topic.now ≡ name_at l.found w = subst (λ (o : Option Looked). IfSome o (λ o. name_of o.topic.now ≡ name_at o.found w)) c.in-Some.is c.look.ensures.name in
    is_asked c.args.tables.now w c.handles-handles.ensures c.args.conn c.args.handle (record { own = record { found = l.found; opening = l.glance.opening }; topic = l.topic; glance = l.glance }) rise seen topic name
