-- Bytes that are written over others, piece after piece.
use Rattle.std.proofs.Common.{◌≡◌, ℕ, ◌+◌, ◌≤◌, List, [], ◌++◌, length, take, drop, length-append, append_assoc, append-nil, sym, ap, ◌∙◌, arith}
use Rattle.std.proofs.lemmas.List.{take-append-drop, length-take}
use Rattle.std.proofs.lemmas.Slice.{drop-append-drop}
use Rattle.std.proofs.Math.Seq.{take-append_seam, drop-append-add}
use Rattle.std.proofs.Math.ListN.{drop_of_length-le}
use Rattle.attr_text.specs.Written.{overwritten}

pub overwritten-nil : (xs : List ℕ) (at : ℕ) → overwritten xs at [] ≡ xs
overwritten-nil xs at =
    let here : at + 0 ≡ at = omega arith in
    append_assoc (take at xs) [] (drop (at + 0) xs) ∙ ap (λ n. take at xs ++ drop n xs) here ∙ take-append-drop at xs

module _ (xs : List ℕ) (at : ℕ) (bytes more : List ℕ) (fits : at + length bytes + length more ≤ length xs) where
  front : List ℕ
  front = take at xs ++ bytes

  front-len : length (take at xs ++ bytes) ≡ at + length bytes
  front-len = omega (arith, length-append (take at xs) bytes, length-take at xs)

  before : take (at + length bytes) (overwritten xs at bytes) ≡ take at xs ++ bytes
  before = ap (λ n. take n (overwritten xs at bytes)) (sym front-len) ∙ take-append_seam (take at xs ++ bytes) (drop (at + length bytes) xs)

  behind : drop (at + length bytes + length more) (overwritten xs at bytes) ≡ drop (at + length bytes + length more) xs
  behind = drop-append-drop (at + length bytes) xs (take at xs ++ bytes) (at + length bytes + length more) (omega arith) front-len

  pub overwritten-more : overwritten (overwritten xs at bytes) (at + length bytes) more ≡ overwritten xs at (bytes ++ more)
  overwritten-more =
      let longer : at + length bytes + length more ≡ at + length (bytes ++ more) = omega (arith, length-append bytes more) in
      ap (λ ys. ys ++ more ++ drop (at + length bytes + length more) (overwritten xs at bytes)) before
      ∙ ap (λ ys. (take at xs ++ bytes) ++ more ++ ys) behind
      ∙ ap (λ ys. ys ++ drop (at + length bytes + length more) xs) (append_assoc (take at xs) bytes more)
      ∙ ap (λ n. take at xs ++ (bytes ++ more) ++ drop n xs) longer

-- a piece more, behind what is there
pub next-piece : (xs now then : List ℕ) (at end : ℕ) (bytes more : List ℕ) → at + length bytes + length more ≤ length xs → now ≡ overwritten xs at bytes → end ≡ at + length bytes → then ≡ overwritten now end more
    → then ≡ overwritten xs at (bytes ++ more)
next-piece xs now then at end bytes more fits is-now is-end is =
    is ∙ ap (λ ys. overwritten ys end more) is-now ∙ ap (λ n. overwritten (overwritten xs at bytes) n more) is-end ∙ overwritten-more xs at bytes more fits

-- what is written over all that stands behind
pub overwritten-end : (xs zs bytes : List ℕ) → length zs ≤ length bytes → overwritten (xs ++ zs) (length xs) bytes ≡ xs ++ bytes
overwritten-end xs zs bytes short =
    ap (λ ys. ys ++ bytes ++ drop (length xs + length bytes) (xs ++ zs)) (take-append_seam xs zs)
    ∙ ap (λ ys. xs ++ bytes ++ ys) (drop-append-add xs zs (length bytes) ∙ drop_of_length-le zs short) ∙ append-nil (xs ++ bytes)
