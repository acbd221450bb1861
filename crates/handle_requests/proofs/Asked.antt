-- How a read of the own handle is checked, and what it does.
use Rattle.std.specs.Prelude.{◌≡◌, ◌≢◌, ◌⊎◌, ◌∷◌, [], ◌++◌, ◌&&◌, ◌==◌, ℕ, List, Bool, true, false, not, nat_le, Option, Some, None, is_some, option_map, IfSome, IsSomeAnd, IfOk, IfErr, Result, Ok, Err}
use Rattle.std.specs.Option.{option_map_or}
use Rattle.std.proofs.Common.{refl, sym, ◌∙◌, ap, subst, inl, inr, arith}
use Rattle.std.proofs.lemmas.Bool.Decides.{nat_tests}
use Rattle.pps_types.specs.declared.refusal.Refusal.{Refusal}
use Rattle.pps_types.specs.declared.refusal.Refusal.TheVariants.{OutOfMemory, BadHandle, BadMode, BadArgument, ReadPending}
use Rattle.pps_types.specs.declared.event.Request.TheVariants.{Read}
use Rattle.pps_types.specs.declared.outcome.Outcome.{Outcome}
use Rattle.pps_types.specs.declared.outcome.Outcome.TheVariants.{Data, Parked, Done}
use Rattle.pps_types.specs.Reading as reading
use Rattle.pps_types.specs.Reading.{OpenHandle}
use Rattle.pps_types.specs.Rests.{Progress}
use Rattle.pps_types.specs.Outbox.{park_refusal}
use Rattle.pps_types.specs.Content.{Content, own_handle, outbox_of, read_answer}
use Rattle.pps_types.specs.Checks.{Check, Refuse, Memory, first_refusal, reaches_memory, refused, request_checks, answer_checks}
use Rattle.pps_types.specs.Plan.{effect, read_effect}
use Rattle.whole_texts.specs.Answered.{refusal_in, meant, moves_of}
use Rattle.whole_texts.specs.declared.answer.Answer.{Answer}
use Rattle.whole_texts.specs.declared.answer.Answer.TheVariants.{Everything, Blocks, Waits, Nothing}
use Rattle.whole_texts.specs.declared.answer.Effect.{Effect}
use Rattle.whole_texts.specs.declared.answer.Effect.TheVariants.{Parks}
use Rattle.service_laws.specs.Bounds.{IsBound}
use Rattle.service_laws.proofs.BoundedEffects.{bound-handle}
use Rattle.service_laws.proofs.BoundedReplies.{IsSmallNeed, small-read}
use Rattle.service_state.specs.Refused.{Fails}
use Rattle.handle_requests.specs.Reads.{Refuses, is_too_long, text_in, waits, IsRead, IsAnswered}
use Rattle.sub_reader.specs.Opened.{as_opened}
use Rattle.handle_requests.specs.declared.reading.ReadDone.{ReadDone}
use Rattle.handle_requests.proofs.Owns.{own_is, own_known}
use Rattle.service_state.proofs.Memory.{memory_or}

-- the checks, by what they look at
abbrev read_by : Bool → Bool → Bool → List Check → List Check
read_by reads size parked checks = Refuse (not reads) BadMode ∷ Refuse (not size) BadArgument ∷ Refuse parked ReadPending ∷ checks

-- an answer that is given refuses nothing
pub given_answer : (a : Answer) → refusal_in (meant a) ≡ None
given_answer (Everything text) = refl
given_answer (Blocks count text) = refl
given_answer Waits = refl
given_answer Nothing = refl

-- ---- its answer's checks

answer_fails : (c : Content) (h : OpenHandle Progress) (a : reading.Answer) → is_too_long a ≡ false → (r : Refusal) → Refuses a r → Fails (answer_checks c h a) r
answer_fails c h (reading.Everything text) short r (inl e) = absurd (let bad = e in cc)
answer_fails c h (reading.Everything text) short r (inr p) = inr (p.0, refl)
answer_fails c h (reading.Blocks count text) short r (inl e) = absurd (let bad = e in cc)
answer_fails c h (reading.Blocks count text) short r (inr p) = inr (p.0, refl)
answer_fails c h (reading.Needs n) short r (inl e) = inl e
answer_fails c h (reading.Needs n) short r (inr p) = absurd (let bad : true ≡ false = sym p.1 ∙ short in cc)
answer_fails c h reading.TargetGone short r (inl e) = inl e
answer_fails c h reading.TargetGone short r (inr p) = absurd (let bad = p.1 in cc)
answer_fails c h reading.Waits short r (inl e) = absurd (let bad = e in cc)
answer_fails c h reading.Waits short r (inr p) = absurd (let bad = p.1 in cc)
answer_fails c h reading.Nothing short r (inl e) = absurd (let bad = e in cc)
answer_fails c h reading.Nothing short r (inr p) = absurd (let bad = p.1 in cc)

-- an answer that is given at once
prompt_passes : (c : Content) (h : OpenHandle Progress) (a : reading.Answer) → refusal_in a ≡ None → waits a ≡ false → (first_refusal (answer_checks c h a) ≡ None) × ((reaches_memory (answer_checks c h a) ≡ true) × Unit {0})
prompt_passes c h (reading.Everything text) given prompt = (refl, (refl, tt))
prompt_passes c h (reading.Blocks count text) given prompt = (refl, (refl, tt))
prompt_passes c h (reading.Needs n) given prompt = absurd (let bad = given in cc)
prompt_passes c h reading.TargetGone given prompt = absurd (let bad = given in cc)
prompt_passes c h reading.Waits given prompt = absurd (let bad = prompt in cc)
prompt_passes c h reading.Nothing given prompt = (refl, (refl, tt))

prompt_text : (h : OpenHandle Progress) (size : ℕ) (a : reading.Answer) → waits a ≡ false → (read_effect h size a).0 ≡ Data (text_in a)
prompt_text h size (reading.Everything text) prompt = refl
prompt_text h size (reading.Blocks count text) prompt = refl
prompt_text h size (reading.Needs n) prompt = refl
prompt_text h size reading.TargetGone prompt = refl
prompt_text h size reading.Waits prompt = absurd (let bad = prompt in cc)
prompt_text h size reading.Nothing prompt = refl

prompt_parks : (h : OpenHandle Progress) (size k asked : ℕ) (a : reading.Answer) → waits a ≡ false → moves_of k (Parks asked) ≡ (read_effect h size a).1 → ⊥
prompt_parks h size k asked (reading.Everything text) prompt e = let bad = e in cc
prompt_parks h size k asked (reading.Blocks count text) prompt e = let bad = e in cc
prompt_parks h size k asked (reading.Needs n) prompt e = let bad = e in cc
prompt_parks h size k asked reading.TargetGone prompt e = let bad = e in cc
prompt_parks h size k asked reading.Waits prompt e = let bad = prompt in cc
prompt_parks h size k asked reading.Nothing prompt e = let bad = e in cc

is_waiting : (a : reading.Answer) → waits a ≡ true → a ≡ reading.Waits
is_waiting (reading.Everything text) e = absurd (let bad = e in cc)
is_waiting (reading.Blocks count text) e = absurd (let bad = e in cc)
is_waiting (reading.Needs n) e = absurd (let bad = e in cc)
is_waiting reading.TargetGone e = absurd (let bad = e in cc)
is_waiting reading.Waits e = refl
is_waiting reading.Nothing e = absurd (let bad = e in cc)

-- what an answer needs is a number of 32 bits
pub short_told : (c : Content) → IsBound c → (conn n size : ℕ) → IfSome (own_handle c conn n) (λ h. is_too_long (read_answer c h size) ≡ false)
short_told c bound conn n size = by (own_handle c conn n) refl
  where
    short : (a : reading.Answer) → IsSmallNeed a → is_too_long a ≡ false
    short (reading.Needs need) small = grind (arith, nat_tests, small)
    short (reading.Everything text) small = refl
    short (reading.Blocks count text) small = refl
    short reading.TargetGone small = refl
    short reading.Waits small = refl
    short reading.Nothing small = refl

    by : (o : Option (OpenHandle Progress)) → own_handle c conn n ≡ o → IfSome o (λ h. is_too_long (read_answer c h size) ≡ false)
    by None e = tt
    by (Some h) e = short (read_answer c h size) (small-read c h size bound (bound-handle c h (λ h. (h.number == n) && (h.connection == conn)) bound e))

-- ---- its checks

module _ (c : Content) (conn n size : ℕ) where
  checks_told : (h : OpenHandle Progress) → own_handle c conn n ≡ Some h → h.reads ≡ true → (nat_le 1 size && nat_le size 17000000) ≡ true → h.parked ≡ None
      → request_checks c conn (Read n size) ≡ read_by true true false (answer_checks c h (read_answer c h size))
  checks_told h own reads fits free =
      ap (λ o. option_map_or (λ (h : OpenHandle Progress). read_by h.reads (nat_le 1 size && nat_le size 17000000) (is_some h.parked) (answer_checks c h (read_answer c h size))) o (Refuse true BadHandle ∷ [])) own
      ∙ ap (λ b. read_by b (nat_le 1 size && nat_le size 17000000) (is_some h.parked) (answer_checks c h (read_answer c h size))) reads
      ∙ ap (λ b. read_by true b (is_some h.parked) (answer_checks c h (read_answer c h size))) fits
      ∙ ap (λ p. read_by true true (is_some p) (answer_checks c h (read_answer c h size))) free

  -- what refuses the answer refuses the read
  pub read_fails : (h : OpenHandle Progress) → own_handle c conn n ≡ Some h → h.reads ≡ true → (nat_le 1 size && nat_le size 17000000) ≡ true → IfSome (own_handle c conn n) (λ h. h.parked ≡ None)
      → IfSome (own_handle c conn n) (λ h. is_too_long (read_answer c h size) ≡ false) → (r : Refusal) → IfSome (own_handle c conn n) (λ h. Refuses (read_answer c h size) r) → Fails (request_checks c conn (Read n size)) r
  read_fails h own reads fits free short r refuses =
      let is-free : h.parked ≡ None = subst (λ o. IfSome o (λ h. h.parked ≡ None)) own free in
      let is-short : is_too_long (read_answer c h size) ≡ false = subst (λ o. IfSome o (λ h. is_too_long (read_answer c h size) ≡ false)) own short in
      let is-refused : Refuses (read_answer c h size) r = subst (λ o. IfSome o (λ h. Refuses (read_answer c h size) r)) own refuses in
      subst (λ cs. Fails cs r) (sym (checks_told h own reads fits is-free)) (answer_fails c h (read_answer c h size) is-short r is-refused)

  pub is_answered : (h : OpenHandle Progress) → own_handle c conn n ≡ Some h → h.reads ≡ true → (nat_le 1 size && nat_le size 17000000) ≡ true → IfSome (own_handle c conn n) (λ h. h.parked ≡ None)
      → (a : Answer) → IfSome (own_handle c conn n) (λ h. meant a ≡ read_answer c h size) → IsAnswered c conn n size (meant a)
  is_answered h own reads fits free a is =
      let is-free : h.parked ≡ None = subst (λ o. IfSome o (λ h. h.parked ≡ None)) own free in
      let is-it : meant a ≡ read_answer c h size = subst (λ o. IfSome o (λ h. meant a ≡ read_answer c h size)) own is in
      subst (λ o. IsSomeAnd o (IsRead c size (meant a))) (sym own) (record { reads = reads; size_fits = fits; free = is-free; answer = is-it; given = given_answer a })

  module _ (a : reading.Answer) (answered : IsAnswered c conn n size a) where
    known : (h : OpenHandle Progress) × ((own_handle c conn n ≡ Some h) × IsRead c size a h)
    known = by (own_handle c conn n) refl answered
      where
        by : (o : Option (OpenHandle Progress)) → own_handle c conn n ≡ o → IsSomeAnd o (IsRead c size a) → (h : OpenHandle Progress) × ((own_handle c conn n ≡ Some h) × IsRead c size a h)
        by None e some = absurd some
        by (Some h) e some = (h, (e, some))

    checks_known : request_checks c conn (Read n size) ≡ read_by true true false (answer_checks c known.0 a)
    checks_known = checks_told known.0 known.1.0 known.1.1.reads known.1.1.size_fits known.1.1.free ∙ ap (λ x. read_by true true false (answer_checks c known.0 x)) (sym known.1.1.answer)

    pub free_told : option_map (λ (h : OpenHandle Progress). h.parked) (own_handle c conn n) ≡ Some None
    free_told = ap (option_map (λ (h : OpenHandle Progress). h.parked)) known.1.0 ∙ ap Some known.1.1.free

    pub effect_told : (reply : Outcome) (e : Effect) → ((h : OpenHandle Progress) → reply ≡ (read_effect h size a).0) → ((h : OpenHandle Progress) → moves_of h.number e ≡ (read_effect h size a).1) → effect c conn (Read n size) ≡ (reply, moves_of n e)
    unfolding effect
    effect_told reply e says leaves =
        let h = known.0 in
        let is = own_is c.handles conn n h known.1.0 in
        ap (λ o. option_map_or (λ (h : OpenHandle Progress). read_effect h size (read_answer c h size)) o (Done, [])) known.1.0
        ∙ ap (read_effect h size) (sym known.1.1.answer)
        ∙ (λ i. (sym (says h) i, sym (leaves h) i))
        ∙ ap (λ k. (reply, moves_of k e)) is.0

    module _ (prompt : waits a ≡ false) where
      pub prompt_first : first_refusal (request_checks c conn (Read n size)) ≡ None
      prompt_first = ap first_refusal checks_known ∙ (prompt_passes c known.0 a known.1.1.given prompt).0

      pub prompt_wants : reaches_memory (request_checks c conn (Read n size)) ≡ true
      prompt_wants = ap reaches_memory checks_known ∙ (prompt_passes c known.0 a known.1.1.given prompt).1.0

      pub prompt_lacks : (r : Refusal) → r ≡ OutOfMemory → Fails (request_checks c conn (Read n size)) r
      prompt_lacks r is = inr (is, prompt_wants)

      pub prompt_does : (reply : Outcome) (text : List ℕ) (e : Effect) → text ≡ text_in a → reply ≡ Data text → ((h : OpenHandle Progress) → moves_of h.number e ≡ (read_effect h size a).1) → effect c conn (Read n size) ≡ (reply, moves_of n e)
      prompt_does reply text e text-is says leaves = effect_told reply e (λ h. says ∙ ap Data text-is ∙ sym (prompt_text h size a prompt)) leaves

      pub prompt_stays : {T : Type 0} (e : Effect) (asked : ℕ) → ((h : OpenHandle Progress) → moves_of h.number e ≡ (read_effect h size a).1) → e ≡ Parks asked → T
      prompt_stays e asked leaves parks = absurd (prompt_parks known.0 size known.0.number asked a prompt (ap (moves_of known.0.number) (sym parks) ∙ leaves known.0))

    module _ (waiting : waits a ≡ true) where
      waiting_checks : (o : Option Refusal) → park_refusal (outbox_of c conn) n ≡ o → request_checks c conn (Read n size) ≡ read_by true true false (refused o ++ Memory ∷ [])
      waiting_checks o is =
          let at = own_is c.handles conn n known.0 known.1.0 in
          checks_known ∙ ap (λ x. read_by true true false (answer_checks c known.0 x)) (is_waiting a waiting)
          ∙ ap (λ k. read_by true true false (refused (park_refusal (outbox_of c k) known.0.number) ++ Memory ∷ [])) at.1.0
          ∙ ap (λ k. read_by true true false (refused (park_refusal (outbox_of c conn) k) ++ Memory ∷ [])) at.0
          ∙ ap (λ p. read_by true true false (refused p ++ Memory ∷ [])) is

      pub waiting_first : park_refusal (outbox_of c conn) n ≡ None → first_refusal (request_checks c conn (Read n size)) ≡ None
      waiting_first free = ap first_refusal (waiting_checks None free)

      pub waiting_wants : park_refusal (outbox_of c conn) n ≡ None → reaches_memory (request_checks c conn (Read n size)) ≡ true
      waiting_wants free = ap reaches_memory (waiting_checks None free)

      pub waiting_fails : (r : Refusal) → (Some r ≢ Some OutOfMemory → Some r ≡ park_refusal (outbox_of c conn) n) → (Some r ≡ Some OutOfMemory → park_refusal (outbox_of c conn) n ≡ None) → Fails (request_checks c conn (Read n size)) r
      waiting_fails r full free = by (memory_or r)
        where
          by : (r ≡ OutOfMemory) ⊎ (Some r ≢ Some OutOfMemory) → Fails (request_checks c conn (Read n size)) r
          by (inl is) = inr (is, ap reaches_memory (waiting_checks None (free (ap Some is))))
          by (inr other) = inl (ap first_refusal (waiting_checks (Some r) (sym (full other))))

      pub waiting_does : (e : Effect) → ((h : OpenHandle Progress) → moves_of h.number e ≡ (read_effect h size a).1) → effect c conn (Read n size) ≡ (Parked, moves_of n e)
      waiting_does e leaves = effect_told Parked e (λ h. sym (ap (λ x. (read_effect h size x).0) (is_waiting a waiting))) leaves

-- ---- by what the open of the handle fixed

module _ (c : Content) (conn n size : ℕ) (x : OpenHandle (Unit {0})) (own : Some x ≡ option_map as_opened (own_handle c conn n)) (reads : x.reads ≡ true) (fits : (nat_le 1 size && nat_le size 17000000) ≡ true)
    (free : IfSome (own_handle c conn n) (λ h. h.parked ≡ None)) where
  pub result_fails : IfSome (own_handle c conn n) (λ h. is_too_long (read_answer c h size) ≡ false) → (result : Result Answer Refusal)
      → IfErr result (λ r. IfSome (own_handle c conn n) (λ h. Refuses (read_answer c h size) r)) → IfErr result (λ r. Fails (request_checks c conn (Read n size)) r)
  result_fails short (Ok a) refuses = tt
  result_fails short (Err r) refuses =
      let known = own_known (own_handle c conn n) x own in
      read_fails c conn n size known.0 known.1.0 (ap (λ (y : OpenHandle (Unit {0})). y.reads) known.1.1 ∙ reads) fits free short r refuses

  pub result_answered : (result : Result Answer Refusal) → IfOk result (λ a. IfSome (own_handle c conn n) (λ h. meant a ≡ read_answer c h size)) → IfOk result (λ a. IsAnswered c conn n size (meant a))
  result_answered (Err r) is = tt
  result_answered (Ok a) is =
      let known = own_known (own_handle c conn n) x own in
      is_answered c conn n size known.0 known.1.0 (ap (λ (y : OpenHandle (Unit {0})). y.reads) known.1.1 ∙ reads) fits free a is

-- ---- by a reply with a text

module _ (c : Content) (conn n size : ℕ) (a : reading.Answer) (answered : IsAnswered c conn n size a) (prompt : waits a ≡ false) (result : Result ReadDone Refusal) (text : List ℕ) (e : Effect)
    (text-is : text ≡ text_in a) (reply : IfOk result (λ d. d.reply ≡ Data text)) (same : IfOk result (λ d. d.effect ≡ e)) (leaves : (h : OpenHandle Progress) → moves_of h.number e ≡ (read_effect h size a).1) where
  pub done_does : IfOk result (λ d. effect c conn (Read n size) ≡ (d.reply, moves_of n d.effect))
  done_does = by result reply same
    where
      by : (r : Result ReadDone Refusal) → IfOk r (λ d. d.reply ≡ Data text) → IfOk r (λ d. d.effect ≡ e) → IfOk r (λ d. effect c conn (Read n size) ≡ (d.reply, moves_of n d.effect))
      by (Err r) reply same = tt
      by (Ok d) reply same = prompt_does c conn n size a answered prompt d.reply text d.effect text-is reply (λ h. ap (moves_of h.number) same ∙ leaves h)

  pub done_stays : (P : Type 0) → IfOk result (λ d. (asked : ℕ) → d.effect ≡ Parks asked → P)
  done_stays P = by result same
    where
      by : (r : Result ReadDone Refusal) → IfOk r (λ d. d.effect ≡ e) → IfOk r (λ d. (asked : ℕ) → d.effect ≡ Parks asked → P)
      by (Err r) same = tt
      by (Ok d) same = λ asked parks. prompt_stays c conn n size a answered prompt e asked leaves (sym same ∙ parks)
