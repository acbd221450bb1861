-- What a line that sets an attribute says, by its parts.
use Rattle.std.proofs.Common.{◌≡◌, ℕ, ◌+◌, true, List, ◌∷◌, ◌++◌, length, take, drop, Some, refl, sym, ap, ◌∙◌}
use Rattle.std.specs.Prelude.{option_and_then}
use Rattle.pps_types.specs.declared.line.Mark.{Mark}
use Rattle.pps_types.specs.declared.line.WriteLine.TheVariants.{Set as WriteSet}
use Rattle.pps_types.specs.Bytes.{split_at_first}
use Rattle.pps_types.specs.HeldLine.{joined, IsSetText, written_in}
use Rattle.pps_types.specs.Text.{is_attribute_name, is_encoding, set_line}
use Rattle.pps_types.proofs.Cuts.{split-only}
use Rattle.pps_types.proofs.SetTexts.{name-of, enc-of, value-of, is-set-text}

module _ (line name rest enc value : List ℕ)
    (named : ◌≡◌ (Some (name, rest)) (split_at_first 58 line))
    (encoded : ◌≡◌ (Some (enc, value)) (split_at_first 58 rest)) where
  text-is : line ≡ joined name enc value
  text-is = (split-only 58 line name rest (sym named)).0 ∙ ap (λ r. name ++ 58 ∷ r) (split-only 58 rest enc value (sym encoded)).0

  pub splits-set-text : IsSetText (length name) (length enc) line
  splits-set-text = is-set-text line name enc value text-is

  pub written-is : (mark : Mark) → is_attribute_name name ≡ true → is_encoding enc ≡ true
      → Some (written_in mark (length name) (length enc) line) ≡ set_line mark line
  written-is mark good_name good_encoding =
      (λ i. Some (WriteSet (name-of line name enc value text-is i) (enc-of line name enc value text-is i) (value-of line name enc value text-is i) mark))
      ∙ rw (← named) (rw (← encoded) (rw (good_name, good_encoding) refl))
