-- An answer with bytes may be wanted memory for.
use Rattle.std.specs.Prelude.{◌≡◌, ℕ, List, [], ◌∷◌, ◌++◌, not, true, false, cond, if◌then◌else◌, Option, Some, None, Result, Ok, Err, length, refl}
use Rattle.std.specs.Option.{option_map_or}
use Rattle.pps_types.specs.declared.refusal.Refusal.{Refusal}
use Rattle.pps_types.specs.declared.event.Event.{Event}
use Rattle.pps_types.specs.declared.event.Request.{Request}
use Rattle.pps_types.specs.declared.event.Request.TheVariants.{Attach, Detach, Open as OpenRequest, Read, Write, Close, Unlink, Mkdir, List as ListRequest, Notify, Receive}
use Rattle.pps_types.specs.declared.outcome.Outcome.{Outcome}
use Rattle.pps_types.specs.declared.outcome.Item.{Item}
use Rattle.pps_types.specs.Outcome.{has_bytes, item_has_bytes}
use Rattle.pps_types.specs.Text.{WriteText, write_text}
use Rattle.pps_types.specs.Reading.{OpenHandle, Answer, Everything, Blocks, Needs, TargetGone, Waits, Nothing}
use Rattle.pps_types.specs.Rests.{Progress}
use Rattle.pps_types.specs.Outbox.{arms, first_of, park_refusal}
use Rattle.pps_types.specs.Content.{Content, is_attached, own_handle, queue_of, outbox_of, read_answer, news}
use Rattle.pps_types.specs.Checks.{Check, Refuse, Memory, first_refusal, reaches_memory, refused, on_handle, answer_checks, read_checks, checks}
use Rattle.pps_types.specs.Plan.{Move, Arms, effect, writing, closing, received, with_result, apply_all_seen, passes_last_number, decided, all_checks_of, plan, step_seen, may_lack_memory}
use Rattle.service_laws.proofs.Passes.{passes-both, all-pass, none-fails, behind}

own-checks : (c : Content) (conn handle : ℕ) (h : OpenHandle Progress) (k : OpenHandle Progress → List Check) → own_handle c conn handle ≡ Some h → on_handle c conn handle k ≡ k h
own-checks c conn handle h k e = rw e refl

-- the mark is among the checks
abbrev HasMark : List Check → Type 0
HasMark [] = ⊥
HasMark (Memory ∷ cs) = Unit {0}
HasMark (Refuse fails r ∷ cs) = HasMark cs

mark-reached : (cs : List Check) → HasMark cs → first_refusal cs ≡ None → reaches_memory cs ≡ true
mark-reached [] m p = absurd m
mark-reached (Memory ∷ cs) m p = refl
mark-reached (Refuse true r ∷ cs) m p = absurd (let h = p in cc)
mark-reached (Refuse false r ∷ cs) m p = mark-reached cs m p

mark-behind : (o : Option Refusal) (cs : List Check) → HasMark cs → HasMark (refused o ++ cs)
mark-behind None cs m = m
mark-behind (Some r) cs m = m

-- a read that answers with bytes
answer-mark : (c : Content) (h : OpenHandle Progress) (size : ℕ) (a : Answer) → first_refusal (answer_checks c h a) ≡ None → HasMark (answer_checks c h a)
answer-mark c h size (Everything text) p = tt
answer-mark c h size (Blocks count text) p = tt
answer-mark c h size Nothing p = tt
answer-mark c h size Waits p = mark-behind (park_refusal (outbox_of c h.connection) h.number) (Memory ∷ []) tt
answer-mark c h size (Needs need) p = absurd (let e = p in cc)
answer-mark c h size TargetGone p = absurd (let e = p in cc)

bytes-mark : (c : Content) (conn : ℕ) (request : Request) → first_refusal (checks c conn request) ≡ None → has_bytes (effect c conn request).0 ≡ true → HasMark (checks c conn request)
unfolding checks effect
bytes-mark c conn Attach p e = absurd (let h = e in cc)
bytes-mark c conn Detach p e = tt
bytes-mark c conn (OpenRequest mode text) p e = tt
bytes-mark c conn (Read handle size) p e = on (own_handle c conn handle) refl
  where
    q : first_refusal (on_handle c conn handle (read_checks c size)) ≡ None
    q = (behind (not (is_attached c conn)) Refusal.NotAttached (on_handle c conn handle (read_checks c size)) p).1

    on : (o : Option (OpenHandle Progress)) → own_handle c conn handle ≡ o → HasMark (on_handle c conn handle (read_checks c size))
    on None f = absurd (let h = rw f at q in cc)
    on (Some h) f = rw (own-checks c conn handle h (read_checks c size) f) (answer-mark c h size (read_answer c h size)
        (none-fails (answer_checks c h (read_answer c h size)) (all-pass (read_checks c size h) (rw (own-checks c conn handle h (read_checks c size) f) at q)).1.1.1))
bytes-mark c conn (Write handle bytes) p e = absurd (on (own_handle c conn handle) e)
  where
    go : (h : OpenHandle Progress) (r : Result WriteText Refusal) → has_bytes (with_result r (λ text. (Outcome.Wrote (length bytes), writing c h text))).0 ≡ true → ⊥
    go h (Ok text) e = let f = e in cc
    go h (Err r) e = let f = e in cc

    on : (o : Option (OpenHandle Progress)) → has_bytes (option_map_or {U = Outcome × List Move} (λ h. with_result (write_text bytes) (λ text. (Outcome.Wrote (length bytes), writing c h text))) o (Outcome.Done, [])).0 ≡ true → ⊥
    on None e = let f = e in cc
    on (Some h) e = go h (write_text bytes) e
bytes-mark c conn (Close handle) p e = absurd (go (own_handle c conn handle) e)
  where
    go : (o : Option (OpenHandle Progress)) → has_bytes (option_map_or {U = Outcome × List Move} (λ h. (Outcome.Done, closing c h)) o (Outcome.Done, [])).0 ≡ true → ⊥
    go None e = let f = e in cc
    go (Some h) e = let f = e in cc
bytes-mark c conn (Unlink path) p e = tt
bytes-mark c conn (Mkdir path) p e = tt
bytes-mark c conn (ListRequest path) p e = tt
bytes-mark c conn (Notify handle action code value) p e = absurd (go (own_handle c conn handle) e)
  where
    go : (o : Option (OpenHandle Progress)) → has_bytes (option_map_or {U = Outcome × List Move} (λ h. (Outcome.Input (news h), Arms h.number (if arms action (news h) then Some (code, value) else None) ∷ [])) o (Outcome.Done, [])).0 ≡ true → ⊥
    go None e = let f = e in cc
    go (Some h) e = let f = e in cc
bytes-mark c conn Receive p e = go (first_of (queue_of c conn)) e
  where
    go : (o : Option Item) → has_bytes (received conn o).0 ≡ true → HasMark (cond (option_map_or item_has_bytes o false) (Memory ∷ []) [])
    go None e = absurd (let f = e in cc)
    go (Some item) e = rw e tt

pub bytes-may-lack : (c : Content) (e : Event) (reply : Outcome) → (step_seen c e).0 ≡ Ok reply → has_bytes reply ≡ true → may_lack_memory c e ≡ true
unfolding plan step_seen
bytes-may-lack c e reply is bytes = go (first_refusal (all_checks_of c e)) refl is
  where
    done : Outcome × List Move
    done = effect c e.conn e.request

    go : (o : Option Refusal) → first_refusal (all_checks_of c e) ≡ o → (decided c done o).0 ≡ Ok reply → may_lack_memory c e ≡ true
    go (Some r) p is = absurd (let h = is in cc)
    go None p is =
        let passes = (passes-both (checks c e.conn e.request) (Refuse (passes_last_number (apply_all_seen done.1 c)) Refusal.TableFull ∷ []) p).0 in
        let same : done.0 ≡ reply = cc in
        mark-reached (checks c e.conn e.request) (bytes-mark c e.conn e.request passes (rw same bytes)) passes
