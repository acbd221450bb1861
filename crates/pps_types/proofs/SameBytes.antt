-- Bytes are compared as what they are.
use Rattle.std.proofs.Common.{◌≡◌, ℕ, true, List, sym}
use Rattle.std.proofs.lemmas.Slice.Eq.{bytes_eq-Decides}
use Rattle.std.proofs.lemmas.Bool.Decides.{same_from_decides}
use Rattle.pps_types.specs.Bytes.{same}

pub same-is : (xs ys : List ℕ) → same xs ys ≡ true → xs ≡ ys
same-is xs ys = (bytes_eq-Decides xs ys).0

pub same-sym : (xs ys : List ℕ) → same xs ys ≡ same ys xs
same-sym xs ys = same_from_decides (same xs ys) (same ys xs) (bytes_eq-Decides xs ys)
    (λ e. sym ((bytes_eq-Decides ys xs).0 e), λ e. (bytes_eq-Decides ys xs).1 (sym e))
