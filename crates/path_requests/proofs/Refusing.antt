-- What refuses an open, in the order of its checks.
use Rattle.std.specs.Prelude.{◌≡◌, ◌⊎◌, ℕ, List, [], ◌∷◌, ◌++◌, Bool, true, false, not, Some, None, Result, Ok, Err}
use Rattle.std.proofs.Common.{refl, sym, ◌∙◌, ap, cond, inl, inr}
use Rattle.pps_types.specs.declared.refusal.Refusal.{Refusal}
use Rattle.pps_types.specs.declared.refusal.Refusal.TheVariants.{OutOfMemory, TableFull, BadMode}
use Rattle.pps_types.specs.declared.event.Mode.{Mode}
use Rattle.pps_types.specs.declared.event.Request.TheVariants.{Open as OpenRequest}
use Rattle.pps_types.specs.declared.outcome.Outcome.TheVariants.{Opened as OpenedHandle}
use Rattle.pps_types.specs.OpenText.{OpenSpec, open_text}
use Rattle.pps_types.specs.Content.{Content}
use Rattle.pps_types.specs.Checks.{Check, Refuse, Memory, first_refusal, reaches_memory, parsed}
use Rattle.pps_types.specs.Plan.{effect, opening, found_object, with_result}

-- what refuses before is the refusal
first-before : (xs ys : List Check) (r : Refusal) → first_refusal xs ≡ Some r → first_refusal (xs ++ ys) ≡ Some r
first-before [] ys r e = absurd (let no = e in cc)
first-before (Memory ∷ xs) ys r e = first-before xs ys r e
first-before (Refuse true q ∷ xs) ys r e = e
first-before (Refuse false q ∷ xs) ys r e = first-before xs ys r e

-- where nothing does, what is behind
first-behind : (xs ys : List Check) → first_refusal xs ≡ None → first_refusal (xs ++ ys) ≡ first_refusal ys
first-behind [] ys e = refl
first-behind (Memory ∷ xs) ys e = first-behind xs ys e
first-behind (Refuse true q ∷ xs) ys e = absurd (let no = e in cc)
first-behind (Refuse false q ∷ xs) ys e = first-behind xs ys e

-- all checks, by the text and by whether the last number is passed
abbrev pub checks_by : Bool → Result OpenSpec Refusal → (OpenSpec → List Check) → Bool → List Check
checks_by letters text opens full = (Refuse (not letters) BadMode ∷ Memory ∷ parsed text opens) ++ Refuse full TableFull ∷ []

abbrev pub FailsBy : List Check → Refusal → Type 0
FailsBy cs r = (first_refusal cs ≡ Some r) ⊎ ((r ≡ OutOfMemory) × (reaches_memory cs ≡ true))

-- the letters
pub letters_fail : (letters : Bool) (text : Result OpenSpec Refusal) (opens : OpenSpec → List Check) (full : Bool) → letters ≡ false → FailsBy (checks_by letters text opens full) BadMode
letters_fail true text opens full e = absurd (let no = e in cc)
letters_fail false text opens full e = inl refl

-- memory may be wanting behind them
pub memory_wanted : (letters : Bool) (text : Result OpenSpec Refusal) (opens : OpenSpec → List Check) (full : Bool) → letters ≡ true → reaches_memory (checks_by letters text opens full) ≡ true
memory_wanted true text opens full e = refl
memory_wanted false text opens full e = absurd (let no = e in cc)

pub memory_fails : (letters : Bool) (text : Result OpenSpec Refusal) (opens : OpenSpec → List Check) (full : Bool) (r : Refusal) → letters ≡ true → r ≡ OutOfMemory → FailsBy (checks_by letters text opens full) r
memory_fails letters text opens full r e is = inr (is, memory_wanted letters text opens full e)

-- the text
pub text_fails : (letters : Bool) (text : Result OpenSpec Refusal) (opens : OpenSpec → List Check) (full : Bool) (r : Refusal) → letters ≡ true → (r ≡ OutOfMemory) ⊎ (text ≡ Err r) → FailsBy (checks_by letters text opens full) r
text_fails false text opens full r e why = absurd (let no = e in cc)
text_fails true text opens full r e (inl is) = inr (is, refl)
text_fails true text opens full r e (inr is) = inl (ap (λ t. first_refusal (checks_by true t opens full)) is)

-- what stands
pub open_fails : (letters : Bool) (text : Result OpenSpec Refusal) (opens : OpenSpec → List Check) (full : Bool) (spec : OpenSpec) (r : Refusal) → letters ≡ true → text ≡ Ok spec → first_refusal (opens spec) ≡ Some r → FailsBy (checks_by letters text opens full) r
open_fails false text opens full spec r e is fails = absurd (let no = e in cc)
open_fails true text opens full spec r e is fails = inl (ap (λ t. first_refusal (checks_by true t opens full)) is ∙ first-before (opens spec) (Refuse full TableFull ∷ []) r fails)

-- the last number
last-behind : (letters : Bool) (text : Result OpenSpec Refusal) (opens : OpenSpec → List Check) (full : Bool) (spec : OpenSpec) → letters ≡ true → text ≡ Ok spec → first_refusal (opens spec) ≡ None → first_refusal (checks_by letters text opens full) ≡ cond full (Some TableFull) None
last-behind false text opens full spec e is passes = absurd (let no = e in cc)
last-behind true text opens full spec e is passes = ap (λ t. first_refusal (checks_by true t opens full)) is ∙ first-behind (opens spec) (Refuse full TableFull ∷ []) passes

pub last_fails : (letters : Bool) (text : Result OpenSpec Refusal) (opens : OpenSpec → List Check) (full : Bool) (spec : OpenSpec) (r : Refusal) → letters ≡ true → text ≡ Ok spec → first_refusal (opens spec) ≡ None
    → Some r ≡ cond full (Some TableFull) None → FailsBy (checks_by letters text opens full) r
last_fails letters text opens full spec r e is passes why = inl (last-behind letters text opens full spec e is passes ∙ sym why)

pub all_pass : (letters : Bool) (text : Result OpenSpec Refusal) (opens : OpenSpec → List Check) (full : Bool) (spec : OpenSpec) → letters ≡ true → text ≡ Ok spec → first_refusal (opens spec) ≡ None
    → None ≡ cond full (Some TableFull) None → first_refusal (checks_by letters text opens full) ≡ None
all_pass letters text opens full spec e is passes why = last-behind letters text opens full spec e is passes ∙ sym why

-- ---- what an open does

pub effect-open : (c : Content) (conn : ℕ) (mode : Mode) (text : List ℕ) (spec : OpenSpec) → open_text text ≡ Ok spec → (effect c conn (OpenRequest mode text)).1 ≡ opening c conn mode spec (found_object c spec)
unfolding effect
effect-open c conn mode text spec e = ap (λ (r : Result OpenSpec Refusal). (with_result r (λ spec. (OpenedHandle c.next_handle, opening c conn mode spec (found_object c spec)))).1) e

pub effect-whole : (c : Content) (conn : ℕ) (mode : Mode) (text : List ℕ) (spec : OpenSpec) → open_text text ≡ Ok spec → effect c conn (OpenRequest mode text) ≡ (OpenedHandle c.next_handle, opening c conn mode spec (found_object c spec))
unfolding effect
effect-whole c conn mode text spec e = ap (λ (r : Result OpenSpec Refusal). with_result r (λ spec. (OpenedHandle c.next_handle, opening c conn mode spec (found_object c spec)))) e
