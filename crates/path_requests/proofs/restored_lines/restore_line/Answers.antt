use Rattle.std.specs.Prelude.{◌≡◌, ◌∷◌, ◌++◌, ℕ, List, [], Option, Some, None, Ok, IfSome, IsSome, IsSomeAnd, true, false, option_map}
use Rattle.std.proofs.Common.{refl, sym, ap, subst, ◌∙◌, inl, eqb, eqb-true}
use Rattle.std.proofs.lemmas.Result.{err_from_is_err_and}
use Rattle.pps_types.specs.declared.record.Kind.TheVariants.{Change}
use Rattle.pps_types.specs.Content.{Content, LiveObject, object_numbered}
use Rattle.pps_types.specs.History.{Entry}
use Rattle.service_laws.proofs.Finds.{find-true}
use Rattle.pps_types.specs.Plan.{entry_of}
use Rattle.pps_types.specs.Restore.{line_checks, line_moves}
use Rattle.pps_types.specs.declared.line.Line.{Line}
use Rattle.name_table.specs.Standing.{Named, Placed, known_of, placed_at, AreReadyAt, AreReadyFor, AreReadyIn}
use Rattle.service_state.specs.Tables.{content_in}
use Rattle.path_requests.proofs.RestoreChecked.{refused_by}
use Rattle.path_requests.proofs.LineChecks.{has_told, alive_there, line_exists, limited_or, passes_told, past_told, done_told, line_last}
use Rattle.path_requests.proofs.restored_lines.restore_line.Goals as goal

pub returns-in_err-object-clause-refused : goal.returns-in_err-object-clause-refused
returns-in_err-object-clause-refused c =
    let before = content_in c.args.tables.now in
    let p = err_from_is_err_and c.from_residual-in_err-object.result c.from_residual-in_err-object.ensures.1 in
    rw (p.1, p.2) (inl (refused_by before (line_moves before c.args.path.now c.args.line) (line_checks before c.args.path.now c.args.line) c.in_err-object.field-0.0 (c.in_err-object.ensures.err c.args.line)))

pub returns-then-has_attribute-clause-refused : goal.returns-then-has_attribute-clause-refused
returns-then-has_attribute-clause-refused c =
    let before = content_in c.args.tables.now in
    inl (line_exists before c.requires c.args.path.now c.args.line c.in_ok-object.object c.in_ok-object.ensures.ok
    (sym c.if-has_attribute.true ∙ has_told before c.requires c.args.path.now c.args.line c.in_ok-object.object c.in_ok-object.ensures.ok c.has_attribute.result c.in_ok-name.name c.in_ok-name.ensures c.has_attribute.ensures))

pub lines_ready-requires : goal.lines_ready-requires
lines_ready-requires c = alive_there (content_in c.args.tables.now) c.requires c.args.path.now c.args.line c.in_ok-object.object c.in_ok-object.ensures.ok

pub returns-in_err-lines_ready-clause-refused : goal.returns-in_err-lines_ready-clause-refused
returns-in_err-lines_ready-clause-refused c =
    let before = content_in c.args.tables.now in
    let p = err_from_is_err_and c.from_residual-in_err-lines_ready.result c.from_residual-in_err-lines_ready.ensures.1 in
    let none = sym c.if-has_attribute.false ∙ has_told before c.requires c.args.path.now c.args.line c.in_ok-object.object c.in_ok-object.ensures.ok c.has_attribute.result c.in_ok-name.name c.in_ok-name.ensures c.has_attribute.ensures in
    let one = c.from_ref-change.ensures.value in
    rw (p.1, p.2) (limited_or before c.requires c.args.path.now c.args.line c.in_ok-object.object c.in_ok-object.ensures.ok c.from_ref-change.result.now c.in_err-lines_ready.field-0.0 one none c.in_err-lines_ready.ensures.err)

pub returns-then-passes_last_number-clause-refused : goal.returns-then-passes_last_number-clause-refused
returns-then-passes_last_number-clause-refused c =
    let before = content_in c.args.tables.now in
    let none = sym c.if-has_attribute.false ∙ has_told before c.requires c.args.path.now c.args.line c.in_ok-object.object c.in_ok-object.ensures.ok c.has_attribute.result c.in_ok-name.name c.in_ok-name.ensures c.has_attribute.ensures in
    let one = c.from_ref-change.ensures.value in
    let passes = passes_told before c.requires c.args.path.now c.args.line c.in_ok-object.object c.in_ok-object.ensures.ok c.from_ref-change.result.now one c.in_ok-lines_ready.ensures.passes in
    let past = past_told before c.requires c.args.path.now c.args.line c.in_ok-object.object c.in_ok-object.ensures.ok (content_in c.lines_ready.new.tables) c.passes_last_number.result c.lines_ready.ensures.content c.passes_last_number.ensures in
    inl (line_last before c.requires c.args.path.now c.args.line c.in_ok-object.object c.in_ok-object.ensures.ok true none passes (sym c.if-passes_last_number.true ∙ past))

-- the lines are ready for the object that is there
ready_there : (n : Named) (d : Content) (object : ℕ) (lines : List Line) → option_map known_of (placed_at object n) ≡ object_numbered d object → IsSome (object_numbered d object)
    → IfSome (placed_at object n) (AreReadyAt lines) → AreReadyIn object lines n
ready_there n d object lines placed alive ready = by (placed_at object n) (subst IsSome (sym placed) alive) ready
  where
    by : (o : Option Placed) → IsSome (option_map known_of o) → IfSome o (AreReadyAt lines) → IsSomeAnd o (AreReadyAt lines)
    by None alive ready = absurd (let bad = alive in cc)
    by (Some x) alive ready = ready

-- there is a record of a change of the object that is there
told_there : {T : Type 0} → (d : Content) (n : ℕ) (ls : List Line) → IsSome (object_numbered d n)
    → ((e : Entry) → e.record_of.object ≡ n → e.record_of.kind ≡ Change ls → IfSome (object_numbered d n) (λ o. e ≡ entry_of o.object (Change ls) None) → T) → T
told_there {T = T} d n ls alive by = go (object_numbered d n) refl alive
  where
    go : (o : Option LiveObject) → object_numbered d n ≡ o → IsSome o → T
    go None is alive = absurd (let bad = alive in cc)
    go (Some o) is alive =
        by (entry_of o.object (Change ls) None) (eqb-true o.object.number n (find-true (λ (o : LiveObject). eqb o.object.number n) d.objects o is)) refl
        (subst (λ p. IfSome p (λ (q : LiveObject). entry_of o.object (Change ls) None ≡ entry_of q.object (Change ls) None)) (sym is) refl)

pub change_unheard-requires-clause-lines : goal.change_unheard-requires-clause-lines
change_unheard-requires-clause-lines c =
    let alive = subst (λ (d : Content). IsSome (object_numbered d c.in_ok-object.object)) (sym c.lines_ready.ensures.content) (alive_there (content_in c.args.tables.now) c.requires c.args.path.now c.args.line c.in_ok-object.object c.in_ok-object.ensures.ok) in
    ready_there c.lines_ready.new.tables.names (content_in c.lines_ready.new.tables) c.in_ok-object.object c.from_ref-change.result.now c.objects_are_placed.ensures alive c.in_ok-lines_ready.ensures.ready

pub returns-then-len-eq0-clause-done : goal.returns-then-len-eq0-clause-done
returns-then-len-eq0-clause-done c =
    let before = content_in c.args.tables.now in
    let there = alive_there before c.requires c.args.path.now c.args.line c.in_ok-object.object c.in_ok-object.ensures.ok in
    let none = sym c.if-has_attribute.false ∙ has_told before c.requires c.args.path.now c.args.line c.in_ok-object.object c.in_ok-object.ensures.ok c.has_attribute.result c.in_ok-name.name c.in_ok-name.ensures c.has_attribute.ensures in
    let one = c.from_ref-change.ensures.value in
    let passes = passes_told before c.requires c.args.path.now c.args.line c.in_ok-object.object c.in_ok-object.ensures.ok c.from_ref-change.result.now one c.in_ok-lines_ready.ensures.passes in
    let past = past_told before c.requires c.args.path.now c.args.line c.in_ok-object.object c.in_ok-object.ensures.ok (content_in c.lines_ready.new.tables) c.passes_last_number.result c.lines_ready.ensures.content c.passes_last_number.ensures in
    told_there before c.in_ok-object.object c.from_ref-change.result.now there
    (λ e object kind told.
    let left = done_told before c.requires c.args.path.now c.args.line c.in_ok-object.object c.in_ok-object.ensures.ok c.from_ref-change.result.now e (content_in c.lines_ready.new.tables) (content_in c.change_unheard.new.self) one c.lines_ready.ensures.content told (c.change_unheard.ensures.moves e object kind) in
    line_last before c.requires c.args.path.now c.args.line c.in_ok-object.object c.in_ok-object.ensures.ok false none passes (sym c.if-passes_last_number.false ∙ past) ∙ ap Ok (sym left))

pub change_told-requires-clause-alive : goal.change_told-requires-clause-alive
change_told-requires-clause-alive c =
    subst (λ (d : Content). IsSome (object_numbered d c.in_ok-object.object)) (sym c.lines_ready.ensures.content) (alive_there (content_in c.args.tables.now) c.requires c.args.path.now c.args.line c.in_ok-object.object c.in_ok-object.ensures.ok)

pub change_told-requires-clause-lines : goal.change_told-requires-clause-lines
change_told-requires-clause-lines c =
    subst (λ ls. AreReadyFor c.in_ok-object.object ls c.lines_ready.new.tables.names) c.from_ref-change.ensures.value c.in_ok-lines_ready.ensures.ready

pub returns-clause-done : goal.returns-clause-done
returns-clause-done c =
    let before = content_in c.args.tables.now in
    let none = sym c.if-has_attribute.false ∙ has_told before c.requires c.args.path.now c.args.line c.in_ok-object.object c.in_ok-object.ensures.ok c.has_attribute.result c.in_ok-name.name c.in_ok-name.ensures c.has_attribute.ensures in
    let passes = passes_told before c.requires c.args.path.now c.args.line c.in_ok-object.object c.in_ok-object.ensures.ok c.from_ref-change.result.now c.from_ref-change.ensures.value c.in_ok-lines_ready.ensures.passes in
    let past = past_told before c.requires c.args.path.now c.args.line c.in_ok-object.object c.in_ok-object.ensures.ok (content_in c.lines_ready.new.tables) c.passes_last_number.result c.lines_ready.ensures.content c.passes_last_number.ensures in
    let told = subst (λ (d : Content). IfSome (object_numbered d c.in_ok-object.object) (λ o. c.in_ok-told.told.entry ≡ entry_of o.object (Change (c.args.line ∷ [])) None)) c.lines_ready.ensures.content c.in_ok-told.ensures.entry in
    let left = done_told before c.requires c.args.path.now c.args.line c.in_ok-object.object c.in_ok-object.ensures.ok (c.args.line ∷ []) c.in_ok-told.told.entry (content_in c.change_told.new.tables) (content_in c.happen.new.self) refl (c.change_told.ensures.content ∙ c.lines_ready.ensures.content) told c.happen.ensures.moves in
    line_last before c.requires c.args.path.now c.args.line c.in_ok-object.object c.in_ok-object.ensures.ok false none passes (sym c.if-passes_last_number.false ∙ past) ∙ ap Ok (sym left)
