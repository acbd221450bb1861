use Rattle.std.proofs.Common.{◌≡◌, ◌≤◌, ◌∷◌, ◌++◌, [], refl, sym, ap, subst, ◌∙◌}
use Rattle.pps_types.specs.declared.found.Found.{Found}
use Rattle.pps_types.specs.Reading.{OpenHandle}
use Rattle.pps_types.specs.Rests.{Progress}
use Rattle.sub_reader.specs.Opened.{number_of}
use Rattle.topics.specs.HandlesOf.{handles_of}
use Rattle.open_handles.specs.Whole.{Whole, handles_in, with_place, name_at, SuitsAt, KeepsSites}
use Rattle.open_handles.proofs.Turns.{whole_of, come, come_whole, below_new, suits_there, first_handle, same_first, turn_sites}
use Rattle.open_handles.proofs.handles.Handles.open_row.Goals as goal

pub open_in-requires-clause-suits : goal.open_in-requires-clause-suits
open_in-requires-clause-suits c = suits_there c.self.inside.places c.args.found c.known_mut-topic.result.now c.args.opening.kind c.known_mut-topic.ensures.value (c.self.invariant.placed.on c.args.found c.known_mut-topic.result.now c.known_mut-topic.ensures.value) (subst (λ (w : Whole). SuitsAt c.args.opening.kind c.args.found w) (sym c.self.view_is) c.requires.suits)

pub open_in-requires-clause-above : goal.open_in-requires-clause-above
open_in-requires-clause-above c = below_new c.self.inside.rows c.self.inside.places c.self.invariant c.args.found c.known_mut-topic.result.now c.known_mut-topic.ensures.value c.args.opening.number (subst (λ (w : Whole). w.rows.next ≤ c.args.opening.number) (sym c.self.view_is) c.requires.above)

pub invariant_of-self : goal.invariant_of-self
invariant_of-self c = come_whole c.self.inside.rows c.self.inside.places c.self.invariant c.args.found c.known_mut-topic.result.now c.open_in.new.topic c.known_mut-topic.ensures.value c.open_in.ensures.same c.open_in.ensures.on_topic c.args.opening.number c.args.number c.requires.number (subst (λ (w : Whole). w.rows.next ≤ c.args.opening.number) (sym c.self.view_is) c.requires.above) (first_handle (number_of c.args.found) (name_at c.args.found (whole_of c.self.inside.rows c.self.inside.places)) c.args.opening) refl (c.open_in.ensures.handles ∙ ap (λ (h : OpenHandle Progress). handles_of c.known_mut-topic.result.now ++ h ∷ []) (same_first c.self.inside.rows c.self.inside.places c.args.found c.known_mut-topic.result.now c.args.opening c.known_mut-topic.ensures.value (c.self.invariant.placed.on c.args.found c.known_mut-topic.result.now c.known_mut-topic.ensures.value))) c.push_reserved.new.self (c.push_reserved.ensures.entries ∙ ap (λ (x : Found). c.self.inside.rows.entries ++ record { number = c.args.number; value = x } ∷ []) c.row_of-row.ensures) c.push_reserved.ensures.next

pub returns-clause-handles : goal.returns-clause-handles
returns-clause-handles c =
    subst (λ (w : Whole). handles_in (whole_of c.push_reserved.new.self (with_place c.self.inside.places c.args.found c.open_in.new.topic)) ≡ handles_in w ++ first_handle (number_of c.args.found) (name_at c.args.found w) c.args.opening ∷ []) c.self.view_is
    (come c.self.inside.rows c.self.inside.places c.self.invariant c.args.found c.known_mut-topic.result.now c.open_in.new.topic c.known_mut-topic.ensures.value c.open_in.ensures.same c.open_in.ensures.on_topic c.args.opening.number c.args.number c.requires.number (subst (λ (w : Whole). w.rows.next ≤ c.args.opening.number) (sym c.self.view_is) c.requires.above) (first_handle (number_of c.args.found) (name_at c.args.found (whole_of c.self.inside.rows c.self.inside.places)) c.args.opening) refl (c.open_in.ensures.handles ∙ ap (λ (h : OpenHandle Progress). handles_of c.known_mut-topic.result.now ++ h ∷ []) (same_first c.self.inside.rows c.self.inside.places c.args.found c.known_mut-topic.result.now c.args.opening c.known_mut-topic.ensures.value (c.self.invariant.placed.on c.args.found c.known_mut-topic.result.now c.known_mut-topic.ensures.value))) c.push_reserved.new.self (c.push_reserved.ensures.entries ∙ ap (λ (x : Found). c.self.inside.rows.entries ++ record { number = c.args.number; value = x } ∷ []) c.row_of-row.ensures) c.push_reserved.ensures.next)

pub returns-clause-sites : goal.returns-clause-sites
returns-clause-sites c = subst (λ (w : Whole). KeepsSites w (whole_of c.push_reserved.new.self (with_place c.self.inside.places c.args.found c.open_in.new.topic))) c.self.view_is (turn_sites c.self.inside.places c.args.found c.known_mut-topic.result.now c.open_in.new.topic c.known_mut-topic.ensures.value c.open_in.ensures.same c.self.inside.rows c.push_reserved.new.self)
