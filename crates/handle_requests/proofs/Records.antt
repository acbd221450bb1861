-- The record of a draft, and the lines that are ready for it.
use Rattle.std.proofs.Common.{◌≡◌, ◌∙◌, ℕ, true, false, cond, [], ◌∷◌, Option, Some, None, refl, sym, ap, subst, eqb, eqb-true}
use Rattle.std.specs.Prelude.{is_some, option_map, IfSome, IsSomeAnd}
use Rattle.std.specs.Option.{option_map_or}
use Rattle.pps_types.specs.declared.record.Kind.{Kind}
use Rattle.pps_types.specs.declared.record.Kind.TheVariants.{Created, Change, Truncated, Dropped, Deleted, Opened, Closed, FromClient, ToClient, ToAll}
use Rattle.pps_types.specs.History.{Entry}
use Rattle.pps_types.specs.Content.{Content, LiveObject, object_numbered}
use Rattle.pps_types.specs.Plan.{AppendsRecord, entry_of}
use Rattle.service_laws.proofs.Finds.{find-true}
use Rattle.name_table.specs.Standing.{Named, Placed, known_of, placed_at, AreReadyAt}
use Rattle.service_state.specs.Lines.{HasLines, HasLinesFor}
use Rattle.handle_requests.specs.declared.draft.Draft.{Draft}
use Rattle.handle_requests.specs.declared.draft.Prepared.TheVariants.{Record, Untold}
use Rattle.handle_requests.specs.Writes.{HasLinesAt, on_object}
use Rattle.handle_requests.specs.Drafting.{HasKindLines, IsPreparedOf}

-- ---- the lines of a record

lines_there : (n : Named) (object : ℕ) (x : Placed) → placed_at object n ≡ Some x → (kind : Kind) → HasLinesAt kind x → HasLinesFor kind object n
lines_there n object x placed (Change lines) ready = subst (λ o. IsSomeAnd o (AreReadyAt lines)) (sym placed) ready
lines_there n object x placed Created ready = tt
lines_there n object x placed Truncated ready = tt
lines_there n object x placed Dropped ready = tt
lines_there n object x placed Deleted ready = tt
lines_there n object x placed (Opened id) ready = tt
lines_there n object x placed (Closed id) ready = tt
lines_there n object x placed (FromClient id lines) ready = tt
lines_there n object x placed (ToClient id lines) ready = tt
lines_there n object x placed (ToAll lines) ready = tt

-- lines that are ready in an alive object are those of its record
pub record_lines : (n : Named) (e : Entry) (live : Option LiveObject) → option_map known_of (placed_at e.record_of.object n) ≡ live → is_some live ≡ true → HasKindLines e.record_of.object e.record_of.kind n → HasLines e n
record_lines n e live known alive ready = by (placed_at e.record_of.object n) refl ready
  where
    by : (o : Option Placed) → placed_at e.record_of.object n ≡ o → IfSome o (HasLinesAt e.record_of.kind) → HasLines e n
    by None is ready =
        let none : None ≡ live = sym (ap (option_map known_of) is) ∙ known in
        absurd (let bad : false ≡ true = ap is_some none ∙ alive in cc)
    by (Some x) is ready = lines_there n e.record_of.object x is e.record_of.kind ready

-- ---- a draft with its record

module _ (c : Content) (handle : ℕ) (d : Draft) where
  pub untold : d.has_lines ≡ false → IsPreparedOf c handle d (Untold d)
  untold none = record {
    object = refl;
    kind = refl;
    tells = sym (ap (λ b. cond b (on_object c d.object d.kind handle) []) none);
  }

  pub told : d.has_lines ≡ true → (x : Placed) → object_numbered c d.object ≡ Some (known_of x) → (e : Entry) → e ≡ entry_of x.object d.kind (Some handle) → IsPreparedOf c handle d (Record e)
  told lines x known e is = record {
    object = ap (λ (e : Entry). e.record_of.object) is ∙ eqb-true x.object.number d.object (find-true (λ (o : LiveObject). eqb o.object.number d.object) c.objects (known_of x) known);
    kind = ap (λ (e : Entry). e.record_of.kind) is;
    tells = ap (λ (e : Entry). AppendsRecord e ∷ []) is
        ∙ sym (ap (λ b. cond b (on_object c d.object d.kind handle) []) lines ∙ ap (λ o. option_map_or (λ (o : LiveObject). AppendsRecord (entry_of o.object d.kind (Some handle)) ∷ []) o []) known);
  }
