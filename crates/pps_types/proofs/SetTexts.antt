-- The text of a line that sets an attribute, by its parts.
use Rattle.std.proofs.Common.{◌≡◌, ℕ, ◌+◌, ◌≤◌, Bool, true, List, [], ◌∷◌, ◌++◌, length, take, drop, Some, append_assoc, refl, sym, ap, ◌∙◌, arith}
use Rattle.std.specs.Prelude.{codes, nat_le}
use Rattle.std.proofs.lemmas.Bool.Decides.{nat_tests}
use Rattle.pps_types.specs.declared.line.Line.{Line}
use Rattle.pps_types.specs.declared.line.Line.TheVariants.{Set}
use Rattle.std.proofs.Math.Seq.{take-append_seam, drop-append-add}
use Rattle.pps_types.specs.HeldLine.{joined, held_from, IsSetText}

module _ (text name enc value : List ℕ) (is : text ≡ joined name enc value) where
  pub name-of : take (length name) text ≡ name
  name-of = ap (take (length name)) is ∙ take-append_seam name (58 ∷ (enc ++ 58 ∷ value))

  pub enc-of : take (length enc) (drop (length name + 1) text) ≡ enc
  enc-of =
      ap (λ t. take (length enc) (drop (length name + 1) t)) is
      ∙ ap (take (length enc)) (drop-append-add name (58 ∷ (enc ++ 58 ∷ value)) 1)
      ∙ take-append_seam enc (58 ∷ value)

  pub value-of : drop (length name + length enc + 2) text ≡ value
  value-of =
      let places : length name + length enc + 2 ≡ length name + (1 + (length enc + 1)) = omega arith in
      ap (λ n. drop n text) places
      ∙ ap (drop (length name + (1 + (length enc + 1)))) is
      ∙ drop-append-add name (58 ∷ (enc ++ 58 ∷ value)) (1 + (length enc + 1))
      ∙ drop-append-add (58 ∷ []) (enc ++ 58 ∷ value) (length enc + 1)
      ∙ drop-append-add enc (58 ∷ value) 1

  pub is-set-text : IsSetText (length name) (length enc) text
  is-set-text = rw (name-of, enc-of, value-of) (simp append_assoc (sym is))

-- a line whose name and encoding are short is held
pub held-is : (line : Line) (name enc value : List ℕ) (n : Bool) → line ≡ Set name enc value n → length name ≤ 255 → length enc ≤ 255
    → Some (Set name enc value n) ≡ held_from line
held-is line name enc value n is short_name short_enc =
    let name_test : nat_le (length name) 255 ≡ true = grind (arith, nat_tests) in
    let enc_test : nat_le (length enc) 255 ≡ true = grind (arith, nat_tests) in
    rw is (rw (name_test, enc_test) refl)
