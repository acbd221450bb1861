-- Bytes that are written, or held until they are.
use Rattle.std.proofs.Common.{◌≡◌, ℕ, ◌+◌, List, [], ◌++◌, length, take, min, Option, Some, None, Result, Ok, Err, Bool, true, false, eqb, ◌&&◌, ◌||◌, if◌then◌else◌, inl, inr, refl, sym, ap, ◌∙◌, append_assoc, append-nil}
use Rattle.std.proofs.Math.Nat.{min-le_right}
use Rattle.std.proofs.lemmas.Bool.Decides.{eqb_tells}
use Rattle.std.specs.Io.KnownBytes.{Appends, Keeps}
use Rattle.std.proofs.lemmas.List.{take_min, take-append-le}
use Rattle.pps_types.specs.declared.exchange.AnswerFault.{AnswerFault}
use Rattle.pps_types.specs.declared.exchange.AnswerFault.TheVariants.{OutOfMemory, WriteFault}
use Rattle.pps_types.specs.Exchange.{Answers}
use Rattle.pps_types.specs.Device.{counted_once_more}
use Rattle.pps_types.specs.Writing.{SendsPart, Holds}
use Rattle.pps_types.proofs.KnownBytes.{Appends-none, Appends-then, Appends-same, then_part}

-- a write that took some bytes did not stall
pub no_stall : (n count : ℕ) (more : Bool) → (count ≡ 0 → ⊥) → (if eqb count 0 && more then counted_once_more n else n) ≡ n
no_stall n count more some = elim (eqb_tells count 0) [
  | inl zero ↦ absurd (some zero.1)
  | inr other ↦ ap (λ (b : Bool). if b && more then counted_once_more n else n) other.0
]

pub or_false : (b : Bool) → (b || false) ≡ b
or_false true = refl
or_false false = refl

-- ---- what is held

pub holds-none : (a : Option (List ℕ)) → Holds a a [] []
holds-none a = record { sent = []; written = Appends-none a; parts = refl }

-- bytes that are held behind others, and bytes behind these
pub holds-then : (a b c : Option (List ℕ)) (held left x y : List ℕ) → Holds a b held x → Holds b c left (held ++ y) → Holds a c left (x ++ y)
holds-then a b c held left x y p q = record {
  sent = p.sent ++ q.sent;
  written = Appends-then a b c p.sent q.sent p.written q.written;
  parts = ap (λ (t : List ℕ). t ++ y) p.parts ∙ append_assoc p.sent held y ∙ ap (λ (t : List ℕ). p.sent ++ t) q.parts ∙ sym (append_assoc p.sent q.sent left);
}

-- all that is held is written
pub holds-sent : (a b c : Option (List ℕ)) (held x : List ℕ) → Holds a b held x → Appends b c held → Appends a c x
holds-sent a b c held x p q = Appends-same a c _ _ (sym p.parts) (Appends-then a b c p.sent held p.written q)

-- or a part of it, and of what would have come behind it
pub holds-part : (a b c : Option (List ℕ)) (held x y : List ℕ) → Holds a b held x → SendsPart b c (held ++ y) → SendsPart a c (x ++ y)
holds-part a b c held x y p q = record {
  sent = length p.sent + q.sent;
  written = Appends-same a c _ _
      (ap (take (length p.sent + q.sent)) (sym (append_assoc p.sent held y) ∙ ap (λ (t : List ℕ). t ++ y) (sym p.parts)))
      (then_part a b c p.sent (held ++ y) q.sent p.written q.written);
}

-- a part of some bytes is one of more
pub part-more : (a b : Option (List ℕ)) (x y : List ℕ) → SendsPart a b x → SendsPart a b (x ++ y)
part-more a b x y p = record {
  sent = min p.sent (length x);
  written = Appends-same a b _ _
      (sym (take_min p.sent x) ∙ sym (take-append-le (min p.sent (length x)) x y (min-le_right p.sent (length x))))
      p.written;
}

-- nothing of some bytes is written
pub part-none : (a b : Option (List ℕ)) (x : List ℕ) → Keeps a b → SendsPart a b x
part-none a b x keeps = record { sent = 0; written = keeps-appends a b keeps }
  where
    keeps-appends : (a b : Option (List ℕ)) → Keeps a b → Appends a b []
    keeps-appends None b k = tt
    keeps-appends (Some xs) None k = absurd k
    keeps-appends (Some xs) (Some ys) k = k ∙ sym (append-nil xs)

-- an answer where what was held is written first
pub answers-behind : {X : Type 0} (a b c : Option (List ℕ)) (held left bytes : List ℕ) (r : Result X AnswerFault) → Appends a b held → Answers b [] c left bytes r → Answers a held c left bytes r
answers-behind a b c held left bytes (Ok x) p q = record {
  sent = held ++ q.sent;
  written = Appends-then a b c held q.sent p q.written;
  parts = ap (λ (t : List ℕ). held ++ t) q.parts ∙ sym (append_assoc held q.sent left);
}
answers-behind a b c held left bytes (Err OutOfMemory) p q = record {
  sent = held ++ q.sent;
  written = Appends-then a b c held q.sent p q.written;
  parts = sym (append-nil held) ∙ ap (λ (t : List ℕ). held ++ t) q.parts ∙ sym (append_assoc held q.sent left);
}
answers-behind a b c held left bytes (Err WriteFault) p q = record { sent = length held + q.sent; written = then_part a b c held bytes q.sent p q.written }

-- nothing is added to what is held
pub holds-same : (a : Option (List ℕ)) (held : List ℕ) → Holds a a held (held ++ [])
holds-same a held = record { sent = []; written = Appends-none a; parts = append-nil held }
