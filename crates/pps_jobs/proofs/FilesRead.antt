-- Files that are read as a whole.
use Rattle.std.proofs.Common.{◌≡◌, ◌⊎◌, ◌≤◌, ◌+◌, ℕ, List, [], ◌++◌, length, Option, Some, None, Result, Ok, Err, inl, inr, refl, sym, ap, subst, ◌∙◌, append-nil, length-append, arith}
use Rattle.std.specs.Io.KnownBytes.{Consumes, IsAtEnd}
use Rattle.pps_types.proofs.KnownBytes.{Consumes-then, Consumes-same}
use Rattle.pps_persist.specs.Files.{FailsOnlyIf, HoldsOf, IsTooLong, MayBeUnread, OpensAt}
use Rattle.pps_persist.specs.Loads.{most_reads}
use Rattle.pps_persist.specs.declared.files.FileFault.{FileFault}
use Rattle.pps_persist.specs.declared.files.FileFault.TheVariants as faults

-- what was read to the end is all that there was
at-end : (from next : Option (List ℕ)) (text : List ℕ) → Consumes from next text → IsAtEnd next → HoldsOf from (λ bytes. text ≡ bytes)
at-end None next text read ended = (text, refl)
at-end (Some xs) None text read ended = absurd read
at-end (Some xs) (Some ys) text read ended = sym (read ∙ ap (λ (l : List ℕ). text ++ l) ended ∙ append-nil text)

pub whole : (from to next : Option (List ℕ)) (text piece : List ℕ) → piece ≡ [] → Consumes from to text → Consumes to next piece → IsAtEnd next
    → HoldsOf from (λ bytes. text ≡ bytes)
whole from to next text piece none read more ended =
    at-end from next text (Consumes-same from next _ _ (ap (λ (x : List ℕ). text ++ x) none ∙ append-nil text) (Consumes-then from to next text piece read more)) ended

-- so many bytes were read of it
pub read-long : (from to : Option (List ℕ)) (text : List ℕ) → Consumes from to text → most_reads ≤ length text → IsTooLong from
read-long None to text read many = (text, many)
read-long (Some xs) None text read many = absurd read
read-long (Some xs) (Some ys) text read many = omega (arith, many, ap length read, length-append text ys)

-- ---- from its first byte

pub holds-as-opened : (held left : Option (List ℕ)) (P : List ℕ → Type 0) → OpensAt held left → HoldsOf left P → HoldsOf held P
holds-as-opened None None P opens h = h
holds-as-opened None (Some xs) P opens h = (xs, h)
holds-as-opened (Some bytes) left P opens h = subst (λ (o : Option (List ℕ)). HoldsOf o P) opens h

unread-as-opened : (held left : Option (List ℕ)) (reads may_fail : Type 0) → OpensAt held left → (reads → may_fail) → MayBeUnread left reads → MayBeUnread held may_fail
unread-as-opened held left reads may_fail opens fails h = elim h [
  | inl may ↦ inl (fails may)
  | inr long ↦ inr (holds-as-opened held left (λ bytes. most_reads ≤ length bytes) opens long)
]

pub fails-as-opened : {X : Type 0} (held left : Option (List ℕ)) (reads may_fail : Type 0) (r : Result X FileFault) → OpensAt held left → (reads → may_fail)
    → FailsOnlyIf (MayBeUnread left reads) r → FailsOnlyIf (MayBeUnread held may_fail) r
fails-as-opened held left reads may_fail (Ok x) opens fails h = tt
fails-as-opened held left reads may_fail (Err faults.OutOfMemory) opens fails h = tt
fails-as-opened held left reads may_fail (Err faults.Failed) opens fails h = unread-as-opened held left reads may_fail opens fails h
