use Rattle.std.specs.Prelude.{◌≡◌, Some, None, option_map}
use Rattle.std.proofs.Common.{sym, ◌∙◌, ap, subst}
use Rattle.sub_reader.specs.Opened.{opened, as_opened, number_of}
use Rattle.open_handles.specs.Whole.{Whole, handles_in, name_at}
use Rattle.open_handles.specs.declared.handles.Opened.{Opened as OpenedAs}
use Rattle.handle_requests.proofs.Owns.{own_among, alike, unlike, opened_none, opened_other, opened_here}
use Rattle.handle_requests.proofs.own.own_handle.Goals as goal

pub returns-in_default : goal.returns-in_default
returns-in_default c =
    subst (λ (w : Whole). None ≡ option_map as_opened (own_among (handles_in w) c.args.conn c.args.handle)) c.handles-handles.ensures
    (opened_none (handles_in c.handles-handles.result.now) c.handles-handles.result.now.rows.next c.handles_are_placed.ensures.rise c.args.conn c.args.handle
    (ap (option_map (λ (o : OpenedAs). opened (number_of o.found) (name_at o.found c.handles-handles.result.now) o.opening.now)) (sym c.in_default.is) ∙ c.opening.ensures))

pub returns-then-ne : goal.returns-then-ne
returns-then-ne c =
    subst (λ (w : Whole). None ≡ option_map as_opened (own_among (handles_in w) c.args.conn c.args.handle)) c.handles-handles.ensures
    (opened_other (handles_in c.handles-handles.result.now) c.handles-handles.result.now.rows.next c.handles_are_placed.ensures.rise c.args.conn c.args.handle
    (opened (number_of c.in-Some.opened.found) (name_at c.in-Some.opened.found c.handles-handles.result.now) c.in-Some.opened.opening.now)
    (ap (option_map (λ (o : OpenedAs). opened (number_of o.found) (name_at o.found c.handles-handles.result.now) o.opening.now)) (sym c.in-Some.is) ∙ c.opening.ensures)
    (unlike (sym c.ne.ensures ∙ c.if-ne.true)))

pub returns : goal.returns
returns c =
    subst (λ (w : Whole). Some (opened (number_of c.in-Some.opened.found) (name_at c.in-Some.opened.found w) c.in-Some.opened.opening.now) ≡ option_map as_opened (own_among (handles_in w) c.args.conn c.args.handle)) c.handles-handles.ensures
    (opened_here (handles_in c.handles-handles.result.now) c.handles-handles.result.now.rows.next c.handles_are_placed.ensures.rise c.args.conn c.args.handle
    (opened (number_of c.in-Some.opened.found) (name_at c.in-Some.opened.found c.handles-handles.result.now) c.in-Some.opened.opening.now)
    (ap (option_map (λ (o : OpenedAs). opened (number_of o.found) (name_at o.found c.handles-handles.result.now) o.opening.now)) (sym c.in-Some.is) ∙ c.opening.ensures)
    (alike (sym c.ne.ensures ∙ c.if-ne.false)))
