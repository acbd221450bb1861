-- The order in which names are looked for.
use Rattle.std.specs.Prelude.{ℕ, ◌+◌, ◌*◌, ◌%◌, ◌^◌, List, fold}
use Rattle.std.specs.Ordering.{nat_cmp, on, then_cmp}
use Rattle.std.specs.Cmp.Lexicographic.{slice_cmp}
use Rattle.std.specs.declared.cmp.Ordering.{Ordering}

-- the bytes as digits to the base 31, modulo 2 ^ 64
abbrev pub name_digest : List ℕ → ℕ
name_digest bytes = fold (λ (sum b : ℕ). (sum * 31 % 2 ^ 64 + b) % 2 ^ 64) 0 bytes

-- by the digest, and then by the bytes
abbrev pub name_order : List ℕ → List ℕ → Ordering
name_order = then_cmp (on name_digest nat_cmp) (slice_cmp nat_cmp)
