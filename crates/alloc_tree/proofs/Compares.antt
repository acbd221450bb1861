-- Names that are the same by their first and their last bytes.
use Rattle.std.proofs.Common.{◌≡◌, ℕ, zero, suc, ◌+◌, ◌-◌, ◌<◌, ◌≤◌, Bool, true, false, length, get_or, refl, arith}
use Rattle.std.specs.Prelude.{nat_lt}
use Rattle.std.proofs.lemmas.Grind.{same_number_lists}
use Rattle.std.proofs.lemmas.Bool.Decides.{nat_tests}
use Rattle.pps_types.specs.Names.{Name}
use Rattle.alloc_tree.specs.Entries.{four_bytes, AreFourBytes}

module _ (xs ys : Name) (i : ℕ) (mine : AreFourBytes xs i) (others : AreFourBytes ys i) (same : four_bytes xs i ≡ four_bytes ys i) where
  same_at : (k d : ℕ) → k ≡ i + d → d < 4 → get_or xs k 0 ≡ get_or ys k 0
  same_at k zero is few =
      let at : k ≡ i = omega arith in
      rw at (omega (arith, mine.first, mine.second, mine.third, mine.fourth, others.first, others.second, others.third, others.fourth, same))
  same_at k (suc zero) is few =
      let at : k ≡ i + 1 = omega arith in
      rw at (omega (arith, mine.first, mine.second, mine.third, mine.fourth, others.first, others.second, others.third, others.fourth, same))
  same_at k (suc (suc zero)) is few =
      let at : k ≡ i + 2 = omega arith in
      rw at (omega (arith, mine.first, mine.second, mine.third, mine.fourth, others.first, others.second, others.third, others.fourth, same))
  same_at k (suc (suc (suc zero))) is few =
      let at : k ≡ i + 3 = omega arith in
      rw at (omega (arith, mine.first, mine.second, mine.third, mine.fourth, others.first, others.second, others.third, others.fourth, same))
  same_at k (suc (suc (suc (suc d)))) is few = absurd (omega (arith, few))

-- two names of four to eight bytes whose first four and last four are the same
pub same_by_ends : (xs ys : Name) (last : ℕ) → length xs ≡ length ys → last + 4 ≡ length xs → length xs ≤ 8
    → AreFourBytes xs 0 → AreFourBytes ys 0 → four_bytes xs 0 ≡ four_bytes ys 0
    → AreFourBytes xs last → AreFourBytes ys last → four_bytes xs last ≡ four_bytes ys last → xs ≡ ys
same_by_ends xs ys last long ends most a b front c d back = same_number_lists xs ys long each
  where
    by : (k : ℕ) → k < length xs → (b : Bool) → nat_lt k 4 ≡ b → get_or xs k 0 ≡ get_or ys k 0
    by k within true e = same_at xs ys 0 a b front k k (omega arith) (let few : k < 4 = grind (arith, nat_tests, e) in few)
    by k within false e =
        let many : 4 ≤ k = grind (arith, nat_tests, e) in
        same_at xs ys last c d back k (k - last) (omega (arith, many, ends, most)) (omega (arith, within, many, ends, most))

    each : (k : ℕ) → k < length xs → get_or xs k 0 ≡ get_or ys k 0
    each k within = by k within (nat_lt k 4) refl
