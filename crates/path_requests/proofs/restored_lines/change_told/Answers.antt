use Rattle.std.specs.Prelude.{◌≡◌, ℕ, List, [], ◌∷◌, Option, Some, None, IfSome, IsSomeAnd}
use Rattle.std.proofs.Common.{sym, ap, subst, ◌∙◌, eqb, eqb-true}
use Rattle.pps_types.specs.declared.line.Line.{Line}
use Rattle.pps_types.specs.Plan.{entry_of}
use Rattle.pps_types.specs.declared.record.Kind.TheVariants.{Change}
use Rattle.pps_types.specs.History.{Entry}
use Rattle.pps_types.specs.Content.{LiveObject, object_numbered}
use Rattle.service_laws.proofs.Finds.{find-true}
use Rattle.name_table.specs.Standing.{Named, Placed, known_of, placed_at, standing_of, content_of, AreReadyAt, AreReadyIn}
use Rattle.service_state.specs.Lines.{HasLines}
use Rattle.path_requests.proofs.Stepped.{ok_to}
use Rattle.path_requests.proofs.restored_lines.change_told.Goals as goal

numbered : (n : Named) (object : ℕ) (x : Placed) → Some (known_of x) ≡ object_numbered (content_of (standing_of n)) object → x.object.number ≡ object
numbered n object x known = eqb-true x.object.number object (find-true (λ (o : LiveObject). eqb o.object.number object) (content_of (standing_of n)).objects (known_of x) (sym known))

-- the lines of the object's own record are ready
ready : (n : Named) (object : ℕ) (x : Placed) (lines : List Line) (e : Entry) → placed_at object n ≡ Some x → x.object.number ≡ object → AreReadyAt lines x → e ≡ entry_of x.object (Change lines) None → HasLines e n
ready n object x lines e placed number lined is =
    subst (λ e. HasLines e n) (sym is)
    (subst (λ m. AreReadyIn m lines n) (sym number) (subst (λ o. IsSomeAnd o (AreReadyAt lines)) (sym placed) lined))

pub returns-clause-lines : goal.returns-clause-lines
returns-clause-lines c =
    let n = c.names.result.now in
    let placed : placed_at c.args.object n ≡ Some c.in-Some.known.now = sym c.in-Some.ensures.placed in
    let lined = subst (λ (o : Option Placed). IfSome o (AreReadyAt (c.args.line ∷ []))) (ap (placed_at c.args.object) (sym c.names.ensures) ∙ placed) c.requires.lines in
    ok_to c.tell_ready.result _ _
    (λ t is. subst (λ (m : Named). HasLines t.entry m) (c.names.ensures ∙ sym c.tell_ready.ensures.names)
    (ready n c.args.object c.in-Some.known.now (c.args.line ∷ []) t.entry placed (numbered n c.args.object c.in-Some.known.now c.in-Some.ensures.known) lined (is ∙ c.in_ok-entry.ensures ∙ (λ i. entry_of c.in-Some.known.now.object (Change (c.one.ensures i)) None))))
    c.tell_ready.ensures.entry
