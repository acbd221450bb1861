-- Bytes that are escaped are read as they were.
use Rattle.std.proofs.Common.{◌≡◌, ℕ, ◌+◌, ◌*◌, ◌/◌, ◌%◌, ◌<◌, Bool, true, false, cond, eqb-true, List, [], ◌∷◌, ◌++◌, Option, Some, None, refl, ap, ◌∙◌, arith}
use Rattle.std.specs.Prelude.{option_map, All, ◌==◌}
use Rattle.std.proofs.lemmas.Bool.Decides.{nat_tests}
use Rattle.std.proofs.lemmas.List.Elements.{All-head, All-tail}
use Rattle.pps_types.specs.Bytes.{is_between}
use Rattle.script_text.specs.Escapes.{Plain, hex_digit, hex_value, hex_byte, escaped_byte, escaped, unescaped_from, unescaped}

-- ---- a byte of two digits

hex_value-digit : (n : ℕ) → n < 16 → hex_value (hex_digit n) ≡ Some n
hex_value-digit n small = grind (arith, nat_tests)

hex_byte-digits : (b : ℕ) → b < 256 → hex_byte (hex_digit (b / 16)) (hex_digit (b % 16)) ≡ Some b
hex_byte-digits b small =
    let high = hex_value-digit (b / 16) (omega arith) in
    let low = hex_value-digit (b % 16) (omega arith) in
    let whole : 16 * (b / 16) + b % 16 ≡ b = omega arith in
    rw (high, low) (ap Some whole)

-- ---- any byte

-- a byte of two written ones, and one of four
of_two : (b : ℕ) (o : Option (List ℕ)) → option_map (λ rest. [] ++ rest) (option_map (λ rest. b ∷ rest) o) ≡ option_map (λ rest. b ∷ rest) o
of_two b None = refl
of_two b (Some rest) = refl

of_four : (b : ℕ) (o : Option (List ℕ)) → option_map (λ rest. [] ++ rest) (option_map (λ rest. [] ++ rest) (option_map (λ rest. [] ++ rest) (option_map (λ rest. b ∷ rest) o))) ≡ option_map (λ rest. b ∷ rest) o
of_four b None = refl
of_four b (Some rest) = refl

pub unescaped-byte : (b : ℕ) (bs : List ℕ) → b < 256 → unescaped_from Plain (escaped_byte b ++ bs) ≡ option_map (λ rest. b ∷ rest) (unescaped_from Plain bs)
unescaped-byte b bs small = by (b == 10) (b == 92) (is_between 32 126 b) refl refl
  where
    by : (line slash shown : Bool) → (b == 10) ≡ line → (b == 92) ≡ slash
        → unescaped_from Plain (cond line (92 ∷ 110 ∷ []) (cond slash (92 ∷ 92 ∷ []) (cond shown (b ∷ []) (92 ∷ 120 ∷ hex_digit (b / 16) ∷ hex_digit (b % 16) ∷ []))) ++ bs)
        ≡ option_map (λ rest. b ∷ rest) (unescaped_from Plain bs)
    by true slash shown is other = rw (eqb-true b 10 is) (of_two 10 (unescaped_from Plain bs))
    by false true shown is other = rw (eqb-true b 92 other) (of_two 92 (unescaped_from Plain bs))
    by false false true is other = rw other refl
    by false false false is other = rw (hex_byte-digits b small) (of_four b (unescaped_from Plain bs))

pub unescaped-escaped : (bytes : List ℕ) → All (λ b. b < 256) bytes → unescaped (escaped bytes) ≡ Some bytes
unescaped-escaped [] small = refl
unescaped-escaped (b ∷ bs) small =
    unescaped-byte b (escaped bs) (All-head (λ x. x < 256) b bs small)
    ∙ ap (λ rest. option_map (λ more. b ∷ more) rest) (unescaped-escaped bs (All-tail (λ x. x < 256) b bs small))
