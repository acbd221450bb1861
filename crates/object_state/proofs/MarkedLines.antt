-- What the mark before a line of a write makes of the line, and of what is foretold.
use Rattle.std.proofs.Common.{◌≡◌, ◌∙◌, ℕ, List, Bool, true, false, not, refl, sym, ap}
use mathlib.Core.Bool.{beq}
use Rattle.object_state.specs.Kept.{Kept}
use Rattle.pps_types.specs.declared.line.Line.TheVariants.{Set, Del}
use Rattle.pps_types.specs.declared.line.WriteLine.{WriteLine}
use Rattle.pps_types.specs.declared.line.WriteLine.TheVariants.{Set as WriteSet, Del as WriteDel}
use Rattle.pps_types.specs.History.{Attribute, marked_by, message_line, resolved_by}
use Rattle.object_state.specs.Effect.{noted_in}
use Rattle.object_state.specs.Entries.{attributes_in}
use Rattle.object_state.specs.MarkBefore.{IsMarkBefore, Resolves, StaysForetold, changes_mark}
use Rattle.object_state.specs.Notes.{is_marked_then}
use Rattle.object_state.proofs.Foretold.{stays-put, stays-cut}

unchanged : (a b : Bool) → not (beq a b) ≡ false → a ≡ b
unchanged true true e = refl
unchanged false false e = refl
unchanged true false e = absurd (let bad = e in cc)
unchanged false true e = absurd (let bad = e in cc)

module _ (notes : List (List ℕ × Bool)) (m : Kept) where
  pub mark-of-set : (is_last : Bool) (line : WriteLine) (name enc value : List ℕ) (on n : Bool) → Set name enc value on ≡ message_line line
      → n ≡ is_marked_then notes m name → IsMarkBefore notes m is_last line n
  mark-of-set is_last (WriteSet name' enc' value' mark) name enc value on n is marked =
      let named : name ≡ name' = cc in
      marked ∙ ap (is_marked_then notes m) named
  mark-of-set is_last (WriteDel name') name enc value on n is marked = absurd (let bad = is in cc)

  pub mark-of-deletion : (is_last : Bool) (line : WriteLine) (name : List ℕ) (n : Bool) → Del name ≡ message_line line
      → (is_last ≡ false → n ≡ is_marked_then notes m name) → IsMarkBefore notes m is_last line n
  mark-of-deletion is_last (WriteSet name' enc' value' mark) name n is marked = absurd (let bad = is in cc)
  mark-of-deletion is_last (WriteDel name') name n is marked = λ more.
      let named : name ≡ name' = cc in
      marked more ∙ ap (is_marked_then notes m) named

  pub resolves : (is_last : Bool) (line : WriteLine) (before : Bool) → IsMarkBefore notes m is_last line before → Resolves notes m line (resolved_by before line)
  resolves is_last (WriteSet name enc value mark) before is = λ after told.
      ap (λ n. Set name enc value (marked_by mark n)) (is ∙ told.marks name)
  resolves is_last (WriteDel name) before is = λ after told. refl

  pub stays : (is_last : Bool) (line : WriteLine) (before : Bool) → IsMarkBefore notes m is_last line before → is_last ≡ false
      → changes_mark before (resolved_by before line) ≡ false → StaysForetold notes m (resolved_by before line)
  stays is_last (WriteSet name enc value mark) before is more same = λ after told.
      let a : Attribute = record { name = name; enc = enc; value = value; n = marked_by mark before } in
      stays-put (noted_in notes) (attributes_in m) after told a (unchanged (marked_by mark before) before same ∙ is)
  stays is_last (WriteDel name) before is more same = λ after told.
      stays-cut (noted_in notes) (attributes_in m) after told name (sym (is more) ∙ same)
