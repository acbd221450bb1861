-- Bytes that are read and written part after part, of readers and writers that tell theirs.
use Rattle.std.proofs.Common.{◌≡◌, ℕ, ◌+◌, List, [], ◌++◌, length, take, drop, Option, Some, None, refl, sym, ap, subst, ◌∙◌, append_assoc}
use Rattle.std.specs.Io.KnownBytes.{Appends, Consumes, Keeps}
use Rattle.std.proofs.lemmas.List.{append-nil}
use Rattle.std.proofs.Math.Seq.{take-add, take-append-add}

pub Appends-none : (a : Option (List ℕ)) → Appends a a []
Appends-none None = tt
Appends-none (Some xs) = sym (append-nil xs)

pub Appends-then : (a b c : Option (List ℕ)) (x y : List ℕ) → Appends a b x → Appends b c y → Appends a c (x ++ y)
Appends-then None b c x y p q = tt
Appends-then (Some xs) None c x y p q = absurd p
Appends-then (Some xs) (Some ys) None x y p q = absurd q
Appends-then (Some xs) (Some ys) (Some zs) x y p q = q ∙ ap (λ (t : List ℕ). t ++ y) p ∙ append_assoc xs x y

pub Appends-same : (a b : Option (List ℕ)) (x y : List ℕ) → x ≡ y → Appends a b x → Appends a b y
Appends-same a b x y e p = subst (λ (t : List ℕ). Appends a b t) e p

pub Consumes-none : (a b : Option (List ℕ)) → Keeps a b → Consumes a b []
Consumes-none None b k = tt
Consumes-none (Some xs) None k = absurd k
Consumes-none (Some xs) (Some ys) k = sym k

pub Consumes-then : (a b c : Option (List ℕ)) (x y : List ℕ) → Consumes a b x → Consumes b c y → Consumes a c (x ++ y)
Consumes-then None b c x y p q = tt
Consumes-then (Some xs) None c x y p q = absurd p
Consumes-then (Some xs) (Some ys) None x y p q = absurd q
Consumes-then (Some xs) (Some ys) (Some zs) x y p q = p ∙ ap (λ (t : List ℕ). x ++ t) q ∙ sym (append_assoc x y zs)

pub Consumes-same : (a b : Option (List ℕ)) (x y : List ℕ) → x ≡ y → Consumes a b x → Consumes a b y
Consumes-same a b x y e p = subst (λ (t : List ℕ). Consumes a b t) e p

-- the next part of some bytes
pub next_part : (a b c : Option (List ℕ)) (bytes : List ℕ) (at n : ℕ) → Appends a b (take at bytes) → Appends b c (take n (drop at bytes)) → Appends a c (take (at + n) bytes)
next_part a b c bytes at n p q = Appends-same a c _ _ (sym (take-add at n bytes)) (Appends-then a b c _ _ p q)

-- all of some bytes, and then a part of others
pub then_part : (a b c : Option (List ℕ)) (x y : List ℕ) (sent : ℕ) → Appends a b x → Appends b c (take sent y) → Appends a c (take (length x + sent) (x ++ y))
then_part a b c x y sent p q = Appends-same a c _ _ (sym (take-append-add x y sent)) (Appends-then a b c _ _ p q)

pub keeps_itself : (a : Option (List ℕ)) → Keeps a a
keeps_itself None = tt
keeps_itself (Some xs) = refl
