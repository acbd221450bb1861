-- What was noted of a name, found by the order of names.
use Rattle.std.proofs.Common.{◌≡◌, ℕ, List, Bool, true, false, refl, sym, ap, ◌∙◌}
use Rattle.std.specs.Map.{lookup}
use Rattle.std.specs.BTreeMap.{is_at}
use Rattle.std.specs.Ordering.{nat_cmp, is_eq, ordering_then}
use Rattle.std.specs.declared.cmp.Ordering.{Ordering}
use Rattle.std.specs.declared.cmp.Ordering.TheVariants.{Less, Equal, Greater}
use Rattle.std.specs.Cmp.Lexicographic.{slice_cmp}
use Rattle.std.proofs.lemmas.Cmp.{nat_cmp_total, tied_itself}
use Rattle.std.proofs.lemmas.Map.Text.{is_eq-slice_cmp}
use Rattle.pps_types.specs.Bytes.{same}
use Rattle.pps_types.proofs.SameBytes.{same-is}
use Rattle.object_state.specs.Digest.{name_digest, name_order}
use Rattle.object_state.specs.Effect.{noted_in}

-- names are tied just where they are the same
pub tied_as_same : (name other : List ℕ) → is_eq (name_order name other) ≡ same name other
tied_as_same name other = by (same name other) refl
  where
    not_tied : (o r : Ordering) → is_eq r ≡ false → is_eq (ordering_then o r) ≡ false
    not_tied Less r e = refl
    not_tied Equal r e = e
    not_tied Greater r e = refl

    by : (s : Bool) → same name other ≡ s → is_eq (name_order name other) ≡ s
    by false e = not_tied (nat_cmp (name_digest name) (name_digest other)) (slice_cmp nat_cmp name other) (is_eq-slice_cmp name other ∙ e)
    by true e =
        let tied : nat_cmp (name_digest name) (name_digest other) ≡ Equal = ap (λ n. nat_cmp (name_digest name) (name_digest n)) (sym (same-is name other e)) ∙ tied_itself nat_cmp_total (name_digest name) in
        ap (λ o. is_eq (ordering_then o (slice_cmp nat_cmp name other))) tied ∙ is_eq-slice_cmp name other ∙ e

pub noted_by_order : {X : Type 0} (notes : List (List ℕ × X)) (name : List ℕ) → lookup (is_at (name_order name)) notes ≡ noted_in notes name
noted_by_order notes name = λ i. lookup (λ other. tied_as_same name other i) notes
