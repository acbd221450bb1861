-- What a read gives of what is owed, and what refuses it.
use Rattle.std.specs.Prelude.{◌≡◌, ◌≢◌, ◌<◌, ◌^◌, ◌⊎◌, ◌∷◌, [], ℕ, List, Bool, true, false, nat_le, if◌then◌else◌, Option, Some, None, is_none, IfSome, length, map, filter, ◌&&◌}
use Rattle.std.specs.Option.{option_map_or}
use Rattle.std.proofs.Common.{refl, sym, ◌∙◌, ap, inl, inr, arith}
use Rattle.std.proofs.lemmas.Bool.Decides.{nat_tests}
use Rattle.pps_types.specs.declared.refusal.Refusal.{Refusal}
use Rattle.pps_types.specs.declared.refusal.Refusal.TheVariants.{OutOfMemory}
use Rattle.pps_types.specs.Reading.{OpenHandle, Needs, fitting, blocks_answer, owed_answer, block, visible}
use Rattle.pps_types.specs.Rests.{Progress, News, Unread, Over, Owed, answer, news_in}
use Rattle.pps_types.specs.Owed.{owed_in_seen}
use Rattle.pps_types.specs.Content.{news}
use Rattle.server_queue.specs.Given.{needed, refused_for, first_len}
use Rattle.sub_reader.specs.Blocks.{owed_blocks}
use Rattle.whole_texts.specs.Answered.{Owes, AreFitting, refusal_in}
use Rattle.server_queue.specs.declared.plan.GivenBlocks.{GivenBlocks}
use Rattle.handle_requests.specs.Reads.{Refuses, is_given_all}
use Rattle.service_state.proofs.Memory.{memory_or}

long_or : (k n : ℕ) → (n < k → ⊥) → nat_le k n ≡ true
long_or k n short = by (nat_le k n) refl
  where
    by : (b : Bool) → nat_le k n ≡ b → b ≡ true
    by true e = refl
    by false e = absurd (short (grind (arith, nat_tests, e)))

-- ---- everything

all_of : (max : ℕ) (h : OpenHandle Progress) (s : Progress) → (is_none (owed_in_seen h s) && news_in h.reads s) ≡ true → Owes max h s None
all_of max h (News true) e = refl
all_of max h (News false) e = absurd (let bad = e in cc)
all_of max h Unread e = refl
all_of max h Over e = refl
all_of max h (Owed rest) e = absurd (let bad = e in cc)

pub all_owed : (max : ℕ) (o : Option (OpenHandle Progress)) → is_given_all o ≡ true → IfSome o (λ h. h.reads ≡ true → Owes max h h.seen None)
all_owed max None e = tt
all_owed max (Some h) e = λ reads. all_of max h h.seen e

-- ---- blocks

fits : (max : ℕ) (bs : List (List ℕ)) → None ≡ refused_for max bs → refusal_in (owed_answer false bs false max) ≡ None
fits max [] e = refl
fits max (b ∷ bs) e = by (nat_le (length b) max) e
  where
    by : (t : Bool) → None ≡ needed (if t then blocks_answer (fitting max (b ∷ bs)) else Needs (length b)) → refusal_in (if t then blocks_answer (fitting max (b ∷ bs)) else Needs (length b)) ≡ None
    by true e = refl
    by false e = absurd (let bad = e in cc)

module _ (max : ℕ) (g : GivenBlocks) (h : OpenHandle Progress) (reads : h.reads ≡ true) where
  some_of : (s : Progress) → (is_none (owed_in_seen h s) && news_in h.reads s) ≡ false → (g.count, g.text.items) ≡ fitting max (owed_blocks (Some (record h { seen = s })))
      → None ≡ refused_for max (owed_blocks (Some (record h { seen = s }))) → Owes max h s (Some g)
  some_of (News true) e same fit = absurd (let bad = e in cc)
  some_of (News false) e same fit = record { same = same; fits = refl }
  some_of Unread e same fit = absurd (let bad = e in let r = reads in cc)
  some_of Over e same fit = absurd (let bad = e in cc)
  some_of (Owed rest) e same fit = record { same = same; fits = fits max (map (block h) (filter (visible h) rest)) fit }

pub some_owed : (max : ℕ) (g : GivenBlocks) (o : Option (OpenHandle Progress)) → is_given_all o ≡ false → (g.count, g.text.items) ≡ fitting max (owed_blocks o) → None ≡ refused_for max (owed_blocks o)
    → IfSome o (λ h. h.reads ≡ true → Owes max h h.seen (Some g))
some_owed max g None e same fit = tt
some_owed max g (Some h) e same fit = λ reads. some_of max g h reads h.seen e same fit

-- ---- nothing

module _ (max : ℕ) (g : GivenBlocks) (count : g.count ≡ 0) (text : g.text.items ≡ []) where
  none_fits : AreFitting max [] g
  none_fits = record { same = λ i. (count i, text i); fits = refl }

  none_of : (h : OpenHandle Progress) → h.reads ≡ true → (s : Progress) → news_in h.reads s ≡ false → Owes max h s (Some g)
  none_of h reads (News true) e = absurd (let bad = e in cc)
  none_of h reads (News false) e = none_fits
  none_of h reads Unread e = absurd (let bad : true ≡ false = sym reads ∙ e in cc)
  none_of h reads Over e = absurd (let bad = e in cc)
  none_of h reads (Owed []) e = none_fits
  none_of h reads (Owed (x ∷ xs)) e = absurd (let bad = e in cc)

  -- a handle without news is owed nothing
  pub none_owed : (o : Option (OpenHandle Progress)) → option_map_or news o false ≡ false → IfSome o (λ h. h.reads ≡ true → Owes max h h.seen (Some g))
  none_owed None e = tt
  none_owed (Some h) e = λ reads. none_of h reads h.seen e

-- ---- refusals

module _ (max : ℕ) (r : Refusal) where
  -- nothing refuses a read of nothing
  none_refuses : {T : Type 0} → (Some r ≢ Some OutOfMemory → Some r ≡ refused_for max []) → (Some r ≡ Some OutOfMemory → 0 < length {A = List ℕ} []) → T
  none_refuses {T = T} full some = by (memory_or r)
    where
      by : (r ≡ OutOfMemory) ⊎ (Some r ≢ Some OutOfMemory) → T
      by (inl is) = absurd (let bad = some (ap Some is) in omega arith)
      by (inr other) = absurd (let bad : Some r ≡ None = full other in cc)

  block_refuses : (b : List ℕ) (bs : List (List ℕ)) (t : Bool) → (Some r ≢ Some OutOfMemory → Some r ≡ needed (if t then blocks_answer (fitting max (b ∷ bs)) else Needs (length b)))
      → (Some r ≡ Some OutOfMemory → length b < 2 ^ 32 → needed (if t then blocks_answer (fitting max (b ∷ bs)) else Needs (length b)) ≡ None)
      → (r ≡ OutOfMemory) ⊎ (Some r ≢ Some OutOfMemory) → Refuses (if t then blocks_answer (fitting max (b ∷ bs)) else Needs (length b)) r
  block_refuses b bs true full memory (inl is) = inr (is, refl)
  block_refuses b bs true full memory (inr other) = absurd (let bad : Some r ≡ None = full other in cc)
  block_refuses b bs false full memory (inl is) = inr (is, long_or (2 ^ 32) (length b) (λ short. let bad = memory (ap Some is) short in cc))
  block_refuses b bs false full memory (inr other) = inl (sym (full other))

  blocks_refuse : (wait dead : Bool) (bs : List (List ℕ)) → (Some r ≢ Some OutOfMemory → Some r ≡ refused_for max bs) → (Some r ≡ Some OutOfMemory → first_len bs < 2 ^ 32 → refused_for max bs ≡ None)
      → (Some r ≡ Some OutOfMemory → 0 < length bs) → Refuses (owed_answer wait bs dead max) r
  blocks_refuse wait dead [] full memory some = none_refuses full some
  blocks_refuse wait dead (b ∷ bs) full memory some = block_refuses b bs (nat_le (length b) max) full memory (memory_or r)

  module _ (h : OpenHandle Progress) (reads : h.reads ≡ true) (everything : List ℕ) (dead : Bool) where
    refuse_of : (s : Progress) → (is_none (owed_in_seen h s) && news_in h.reads s) ≡ false → (Some r ≢ Some OutOfMemory → Some r ≡ refused_for max (owed_blocks (Some (record h { seen = s }))))
        → (Some r ≡ Some OutOfMemory → first_len (owed_blocks (Some (record h { seen = s }))) < 2 ^ 32 → refused_for max (owed_blocks (Some (record h { seen = s }))) ≡ None)
        → (Some r ≡ Some OutOfMemory → 0 < length (owed_blocks (Some (record h { seen = s })))) → Refuses (answer h s everything dead max) r
    refuse_of (News true) e full memory some = absurd (let bad = e in cc)
    refuse_of (News false) e full memory some = none_refuses full some
    refuse_of Unread e full memory some = absurd (let bad = e in let r = reads in cc)
    refuse_of Over e full memory some = absurd (let bad = e in cc)
    refuse_of (Owed rest) e full memory some = blocks_refuse h.options.wait dead (map (block h) (filter (visible h) rest)) full memory some

  pub owed_refuses : (o : Option (OpenHandle Progress)) → is_given_all o ≡ false → (Some r ≢ Some OutOfMemory → Some r ≡ refused_for max (owed_blocks o))
      → (Some r ≡ Some OutOfMemory → first_len (owed_blocks o) < 2 ^ 32 → refused_for max (owed_blocks o) ≡ None)
      → (Some r ≡ Some OutOfMemory → 0 < length (owed_blocks o)) → IfSome o (λ h. h.reads ≡ true → (everything : List ℕ) (dead : Bool) → Refuses (answer h h.seen everything dead max) r)
  owed_refuses None e full memory some = tt
  owed_refuses (Some h) e full memory some = λ reads everything dead. refuse_of h reads everything dead h.seen e full memory some
