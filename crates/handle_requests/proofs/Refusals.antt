-- How a write of the own handle is checked.
use Rattle.std.proofs.Common.{◌≡◌, ◌∙◌, ℕ, Bool, true, false, not, cond, List, [], ◌∷◌, ◌++◌, Some, None, Result, Ok, refl, sym, ap, inl, inr}
use Rattle.std.specs.Prelude.{◌&&◌, nat_lt, length}
use Rattle.std.specs.Option.{option_map_or}
use Rattle.pps_types.specs.declared.event.Request.TheVariants.{Write}
use Rattle.pps_types.specs.declared.outcome.Outcome.TheVariants.{Wrote, Done}
use Rattle.pps_types.specs.declared.refusal.Refusal.{Refusal}
use Rattle.pps_types.specs.declared.refusal.Refusal.TheVariants.{OutOfMemory, BadHandle, BadMode, TooLarge, Gone, TableFull}
use Rattle.pps_types.specs.Text.{WriteText, write_text}
use Rattle.pps_types.specs.Reading.{OpenHandle}
use Rattle.pps_types.specs.Rests.{Progress}
use Rattle.pps_types.specs.Content.{Content, own_handle, target_is_dead}
use Rattle.pps_types.specs.Checks.{Check, Refuse, Memory, first_refusal, reaches_memory, request_checks, write_checks, parsed, text_checks}
use Rattle.pps_types.specs.Plan.{effect, writing, with_result}
use Rattle.service_state.specs.Refused.{Fails, all_request_checks}
use Rattle.handle_requests.specs.Writes.{early_checks, FailsLate, is_past}

-- ---- lists of checks

pub first_none : (cs ds : List Check) → first_refusal cs ≡ None → first_refusal (cs ++ ds) ≡ first_refusal ds
first_none [] ds none = refl
first_none (Refuse fails r ∷ cs) ds none = by fails none (first_none cs ds)
  where
    by : (b : Bool) → cond b (Some r) (first_refusal cs) ≡ None → (first_refusal cs ≡ None → first_refusal (cs ++ ds) ≡ first_refusal ds) → cond b (Some r) (first_refusal (cs ++ ds)) ≡ first_refusal ds
    by true none rest = absurd (let bad = none in cc)
    by false none rest = rest none
first_none (Memory ∷ cs) ds none = first_none cs ds none

pub first_some : (cs ds : List Check) (r : Refusal) → first_refusal cs ≡ Some r → first_refusal (cs ++ ds) ≡ Some r
first_some [] ds r some = absurd (let bad = some in cc)
first_some (Refuse fails s ∷ cs) ds r some = by fails some (first_some cs ds r)
  where
    by : (b : Bool) → cond b (Some s) (first_refusal cs) ≡ Some r → (first_refusal cs ≡ Some r → first_refusal (cs ++ ds) ≡ Some r) → cond b (Some s) (first_refusal (cs ++ ds)) ≡ Some r
    by true some rest = some
    by false some rest = rest some
first_some (Memory ∷ cs) ds r some = first_some cs ds r some

pub reaches_behind : (cs ds : List Check) → first_refusal cs ≡ None → reaches_memory (cs ++ Memory ∷ ds) ≡ true
reaches_behind [] ds none = refl
reaches_behind (Refuse fails r ∷ cs) ds none = by fails none (reaches_behind cs ds)
  where
    by : (b : Bool) → cond b (Some r) (first_refusal cs) ≡ None → (first_refusal cs ≡ None → reaches_memory (cs ++ Memory ∷ ds) ≡ true) → (not b && reaches_memory (cs ++ Memory ∷ ds)) ≡ true
    by true none rest = absurd (let bad = none in cc)
    by false none rest = rest none
reaches_behind (Memory ∷ cs) ds none = refl

-- ---- early checks

-- by what they look at
abbrev early_by : Bool → Bool → Bool → List Check
early_by writes long dead = Refuse (not writes) BadMode ∷ Refuse long TooLarge ∷ Refuse dead Gone ∷ []

module _ (c : Content) (bytes : List ℕ) (h : OpenHandle Progress) where
  pub mode_early : h.writes ≡ false → first_refusal (early_checks c bytes h) ≡ Some BadMode
  mode_early mode = ap (λ b. first_refusal (early_by b (nat_lt 65536 (length bytes)) (target_is_dead c h))) mode

  pub long_early : h.writes ≡ true → nat_lt 65536 (length bytes) ≡ true → first_refusal (early_checks c bytes h) ≡ Some TooLarge
  long_early mode long = ap (λ b. first_refusal (early_by b (nat_lt 65536 (length bytes)) (target_is_dead c h))) mode ∙ ap (λ b. first_refusal (early_by true b (target_is_dead c h))) long

  pub dead_early : h.writes ≡ true → nat_lt 65536 (length bytes) ≡ false → target_is_dead c h ≡ true → first_refusal (early_checks c bytes h) ≡ Some Gone
  dead_early mode short dead = ap (λ b. first_refusal (early_by b (nat_lt 65536 (length bytes)) (target_is_dead c h))) mode ∙ ap (λ b. first_refusal (early_by true b (target_is_dead c h))) short ∙ ap (λ b. first_refusal (early_by true false b)) dead

  pub none_early : h.writes ≡ true → nat_lt 65536 (length bytes) ≡ false → target_is_dead c h ≡ false → first_refusal (early_checks c bytes h) ≡ None
  none_early mode short alive = ap (λ b. first_refusal (early_by b (nat_lt 65536 (length bytes)) (target_is_dead c h))) mode ∙ ap (λ b. first_refusal (early_by true b (target_is_dead c h))) short ∙ ap (λ b. first_refusal (early_by true false b)) alive

  pub short_early : first_refusal (early_checks c bytes h) ≡ None → nat_lt 65536 (length bytes) ≡ false
  short_early none = by h.writes (nat_lt 65536 (length bytes)) (target_is_dead c h) none
    where
      by : (w l d : Bool) → first_refusal (early_by w l d) ≡ None → l ≡ false
      by true true d none = absurd (let bad = none in cc)
      by true false d none = refl
      by false l d none = absurd (let bad = none in cc)

-- ---- all checks

module _ (c : Content) (conn n : ℕ) (bytes : List ℕ) where
  abbrev last : List Check
  last = Refuse (is_past c (effect c conn (Write n bytes)).1) TableFull ∷ []

  pub unknown_first : own_handle c conn n ≡ None → first_refusal (request_checks c conn (Write n bytes)) ≡ Some BadHandle
  unknown_first none = ap (λ o. first_refusal (option_map_or (write_checks c bytes) o (Refuse true BadHandle ∷ []))) none

  pub first_fails : (r : Refusal) → first_refusal (request_checks c conn (Write n bytes)) ≡ Some r → Fails (all_request_checks c conn (Write n bytes)) r
  first_fails r some = inl (first_some (request_checks c conn (Write n bytes)) last r some)

  module _ (h : OpenHandle Progress) (own : own_handle c conn n ≡ Some h) where
    request_told : request_checks c conn (Write n bytes) ≡ early_checks c bytes h ++ Memory ∷ parsed (write_text bytes) (text_checks c h h.kind)
    request_told = ap (λ o. option_map_or (write_checks c bytes) o (Refuse true BadHandle ∷ [])) own

    all_told : all_request_checks c conn (Write n bytes) ≡ early_checks c bytes h ++ Memory ∷ (parsed (write_text bytes) (text_checks c h h.kind) ++ last)
    all_told = ap (λ o. option_map_or (write_checks c bytes) o (Refuse true BadHandle ∷ []) ++ last) own

    pub early_first : (r : Refusal) → first_refusal (early_checks c bytes h) ≡ Some r → first_refusal (request_checks c conn (Write n bytes)) ≡ Some r
    early_first r some = ap first_refusal request_told ∙ first_some (early_checks c bytes h) (Memory ∷ parsed (write_text bytes) (text_checks c h h.kind)) r some

    module _ (early : first_refusal (early_checks c bytes h) ≡ None) where
      all_first : first_refusal (all_request_checks c conn (Write n bytes)) ≡ first_refusal (parsed (write_text bytes) (text_checks c h h.kind) ++ last)
      all_first = ap first_refusal all_told ∙ first_none (early_checks c bytes h) (Memory ∷ (parsed (write_text bytes) (text_checks c h h.kind) ++ last)) early

      -- the mark is reached
      pub all_want : reaches_memory (all_request_checks c conn (Write n bytes)) ≡ true
      all_want = ap reaches_memory all_told ∙ reaches_behind (early_checks c bytes h) (parsed (write_text bytes) (text_checks c h h.kind) ++ last) early

      pub memory_fails : (r : Refusal) → r ≡ OutOfMemory → Fails (all_request_checks c conn (Write n bytes)) r
      memory_fails r memory = inr (memory, all_want)

      -- what the text is refused for
      pub text_fails : (r : Refusal) → FailsLate (parsed (write_text bytes) (text_checks c h h.kind)) r → Fails (all_request_checks c conn (Write n bytes)) r
      text_fails r (inl some) = inl (all_first ∙ first_some (parsed (write_text bytes) (text_checks c h h.kind)) last r some)
      text_fails r (inr memory) = memory_fails r memory

      module _ (passes : first_refusal (parsed (write_text bytes) (text_checks c h h.kind)) ≡ None) where
        all_last : first_refusal (all_request_checks c conn (Write n bytes)) ≡ cond (is_past c (effect c conn (Write n bytes)).1) (Some TableFull) None
        all_last = all_first ∙ first_none (parsed (write_text bytes) (text_checks c h h.kind)) last passes

        pub past_fails : is_past c (effect c conn (Write n bytes)).1 ≡ true → (r : Refusal) → r ≡ TableFull → Fails (all_request_checks c conn (Write n bytes)) r
        past_fails past r is = inl (all_last ∙ ap (λ b. cond b (Some TableFull) None) past ∙ ap Some (sym is))

        pub all_pass : is_past c (effect c conn (Write n bytes)).1 ≡ false → first_refusal (all_request_checks c conn (Write n bytes)) ≡ None
        all_pass past = all_last ∙ ap (λ b. cond b (Some TableFull) None) past

    -- what it answers and changes
    pub effect_told : (text : WriteText) → write_text bytes ≡ Ok text → effect c conn (Write n bytes) ≡ (Wrote (length bytes), writing c h text)
    unfolding effect
    effect_told text reads =
        ap (λ o. option_map_or (λ (h : OpenHandle Progress). with_result (write_text bytes) (λ (text : WriteText). (Wrote (length bytes), writing c h text))) o (Done, [])) own
        ∙ ap (λ (r : Result WriteText Refusal). with_result r (λ text. (Wrote (length bytes), writing c h text))) reads
