-- What a connection is told by an event is read off what it sees, and it isn't told of others' own events.
use Rattle.std.proofs.Common.{◌≡◌, ℕ, ◌^◌, ◌-◌, Bool, true, false, cond, not, ◌&&◌, ◌||◌, eqb, List, [], ◌∷◌, ◌++◌, map, Option, Some, None, Ok, Err, refl, sym, ap, ◌∙◌}
use Rattle.std.specs.Prelude.{option_map, is_none, nat_lt}
use Rattle.std.specs.List.{flat_map, AllByRecursion}
use Rattle.std.proofs.lemmas.Grind.{flat_map-append}
use Rattle.pps_types.specs.declared.event.Event.{Event}
use Rattle.pps_types.specs.declared.event.Request.{Request}
use Rattle.pps_types.specs.declared.event.Request.TheVariants.{Attach, Detach, Open as OpenRequest, Read, Write, Close, Unlink, Mkdir, List as ListRequest, Notify, Receive}
use Rattle.pps_types.specs.declared.outcome.Item.{Item}
use Rattle.pps_types.specs.declared.refusal.Refusal.{Refusal}
use Rattle.pps_types.specs.declared.refusal.Refusal.TheVariants.{BadHandle, NotAttached, TableFull}
use Rattle.pps_types.specs.Outcome.{Reply}
use Rattle.pps_types.specs.Reading.{OpenHandle, Answer, Everything, Blocks, Needs, TargetGone, Waits, Nothing}
use Rattle.pps_types.specs.Rests.{Progress}
use Rattle.pps_types.specs.Outbox.{first_of}
use Rattle.pps_types.specs.Content.{Content, handle_numbered, is_attached, queue_of, read_answer}
use Rattle.pps_types.specs.Checks.{Check, Refuse, Memory, first_refusal, on_handle, checks, read_checks, notify_checks}
use Rattle.pps_types.specs.Plan.{Move, apply_all_seen, effect, plan, decided, all_checks_of, settling, passes_last_number, read_effect, received}
use Rattle.pps_types.specs.Runs.{queued_by}
use Rattle.pps_types.specs.Privacy.{wants_records}
use Rattle.service_laws.proofs.Views.{masked, view, view-twice, MoveOf, Fits, owns-moves, other-moves, other-items}
use Rattle.service_laws.proofs.Settlings.{moves-append, settling-seen, settling-items, AreFound, still}
use Rattle.service_laws.proofs.Orders.{IsOrdered, found, mine, owns, effect-fits}
use Rattle.service_laws.proofs.Effects.{find-all, behind, accepted, handle-seen, effect-seen, is_unseen}
use Rattle.service_laws.proofs.CheckViews.{blocked, is_queue_write, checks-seen}

module _ (conn : ℕ) where
  -- ---- what is told

  abbrev pub passes_names : Content → Bool
  passes_names d = nat_lt (2 ^ 64 - 1) d.next_object || nat_lt (2 ^ 64 - 1) d.next_directory

  abbrev pub effect_told : Content → Event → Content
  effect_told v e = view conn (apply_all_seen (effect v e.conn e.request).1 v)

  abbrev pub refusal_told : Content → Event → Option Refusal
  refusal_told v e = first_refusal (checks v e.conn e.request ++ Refuse (passes_names (effect_told v e)) TableFull ∷ [])

  pub record Told : Type 0 where
    pub reply : Reply
    pub items : List Item
    pub next : Content

  abbrev pub told_by : Content → Event → Option Refusal → Told
  told_by v e (Some r) = record { reply = Err r; items = []; next = v }
  told_by v e None = record {
    reply = Ok (effect v e.conn e.request).0;
    items = flat_map (queued_by conn) (effect v e.conn e.request).1 ++ flat_map (queued_by conn) (settling v (effect_told v e));
    next = view conn (apply_all_seen (settling v (effect_told v e)) (effect_told v e));
  }

  abbrev pub nothing_told : Content → Told
  nothing_told v = record { reply = Err BadHandle; items = []; next = v }

  abbrev pub told : Content → Event → Told
  told v e = cond (is_unseen conn e.conn e.request) (nothing_told v) (told_by v e (refusal_told v e))

  -- ---- a shared event

  abbrev pub or_full : Option Refusal → Bool → Option Refusal
  or_full (Some r) b = Some r
  or_full None b = cond b (Some TableFull) None

  pub last-refusal : (xs : List Check) (b : Bool) → first_refusal (xs ++ Refuse b TableFull ∷ []) ≡ or_full (first_refusal xs) b
  last-refusal [] b = refl
  last-refusal (Memory ∷ xs) b = last-refusal xs b
  last-refusal (Refuse f r ∷ xs) b = by f (last-refusal xs b)
    where
      by : (f : Bool) → first_refusal (xs ++ Refuse b TableFull ∷ []) ≡ or_full (first_refusal xs) b → cond f (Some r) (first_refusal (xs ++ Refuse b TableFull ∷ [])) ≡ or_full (cond f (Some r) (first_refusal xs)) b
      by true rec = refl
      by false rec = rec

  pub none-before : (xs : List Check) (b : Bool) → first_refusal (xs ++ Refuse b TableFull ∷ []) ≡ None → first_refusal xs ≡ None
  none-before xs b e = by (first_refusal xs) refl
    where
      by : (o : Option Refusal) → first_refusal xs ≡ o → first_refusal xs ≡ None
      by None is = is
      by (Some r) is = absurd (let all = sym (last-refusal xs b) ∙ e in let some : Some r ≡ None = ap (λ o. or_full o b) (sym is) ∙ all in cc)

  -- what follows, as it is seen
  settled-seen : (c : Content) (who : ℕ) → IsOrdered c → (xs : List Move) (v : Content) → AllByRecursion (Fits conn (mine conn c who)) xs → view conn (apply_all_seen xs c) ≡ v
      → view conn (apply_all_seen (xs ++ settling c (apply_all_seen xs c)) c) ≡ view conn (apply_all_seen (settling (view conn c) v) v)
  settled-seen c who o xs v fits is =
      let d = apply_all_seen xs c in
      ap (view conn) (moves-append xs (settling c d) c)
      ∙ settling-seen conn (mine conn c who) c d (owns conn c who o) (owns-moves conn (mine conn c who) xs c fits (owns conn c who o))
      ∙ ap (λ w. view conn (apply_all_seen (settling (view conn c) w) w)) is

  settled-items : (c : Content) (who : ℕ) → IsOrdered c → (xs : List Move) (v : Content) → AllByRecursion (Fits conn (mine conn c who)) xs → view conn (apply_all_seen xs c) ≡ v
      → flat_map (queued_by conn) (xs ++ settling c (apply_all_seen xs c)) ≡ flat_map (queued_by conn) xs ++ flat_map (queued_by conn) (settling (view conn c) v)
  settled-items c who o xs v fits is =
      let d = apply_all_seen xs c in
      flat_map-append (queued_by conn) xs (settling c d)
      ∙ ap (λ is. flat_map (queued_by conn) xs ++ is) (settling-items conn (mine conn c who) c d (owns conn c who o) (owns-moves conn (mine conn c who) xs c fits (owns conn c who o)))
      ∙ ap (λ w. flat_map (queued_by conn) xs ++ flat_map (queued_by conn) (settling (view conn c) w)) is

  pub record IsTold (c : Content) (e : Event) : Type 0 where
    pub reply : (plan c e).0 ≡ (told_by (view conn c) e (refusal_told (view conn c) e)).reply
    pub items : flat_map (queued_by conn) (plan c e).1 ≡ (told_by (view conn c) e (refusal_told (view conn c) e)).items
    pub next : view conn (apply_all_seen (plan c e).1 c) ≡ (told_by (view conn c) e (refusal_told (view conn c) e)).next

  refusal-seen : (c : Content) (e : Event) → IsOrdered c → is_unseen conn e.conn e.request ≡ false → (is_queue_write c e.request ≡ true → blocked (first_refusal (checks c e.conn e.request)) ≡ false) → wants_records c e ≡ false
      → first_refusal (all_checks_of c e) ≡ refusal_told (view conn c) e
  refusal-seen c e o seen q records =
      last-refusal (checks c e.conn e.request) (passes_last_number d)
      ∙ by (first_refusal (checks c e.conn e.request)) refl
      ∙ ap (λ r. or_full r (passes_names (effect_told (view conn c) e))) (sym (checks-seen conn c e.conn e.request o seen q))
      ∙ sym (last-refusal (checks (view conn c) e.conn e.request) (passes_names (effect_told (view conn c) e)))
    where
      d : Content
      d = apply_all_seen (effect c e.conn e.request).1 c

      past : (r s t : Bool) → r ≡ false → (r || s || t) ≡ (s || t)
      past true s t e = absurd cc
      past false s t e = refl

      by : (r : Option Refusal) → first_refusal (checks c e.conn e.request) ≡ r → or_full (first_refusal (checks c e.conn e.request)) (passes_last_number (apply_all_seen (effect c e.conn e.request).1 c)) ≡ or_full (first_refusal (checks c e.conn e.request)) (passes_names (effect_told (view conn c) e))
      by (Some r) is = ap (λ r. or_full r (passes_last_number (apply_all_seen (effect c e.conn e.request).1 c))) is ∙ sym (ap (λ r. or_full r (passes_names (effect_told (view conn c) e))) is)
      by None is =
          let f = apply_all_seen (effect c e.conn e.request).1 c in
          let few : nat_lt (2 ^ 64 - 1) f.records ≡ false = ap (λ r. is_none r && nat_lt (2 ^ 64 - 1) f.records) (sym is) ∙ records in
          ap (or_full (first_refusal (checks c e.conn e.request))) (past (nat_lt (2 ^ 64 - 1) f.records) (nat_lt (2 ^ 64 - 1) f.next_object) (nat_lt (2 ^ 64 - 1) f.next_directory) few ∙ ap passes_names (effect-seen conn c e.conn e.request o seen is).moves.seen)

  pub shared-told : (c : Content) (e : Event) → IsOrdered c → is_unseen conn e.conn e.request ≡ false → (is_queue_write c e.request ≡ true → blocked (first_refusal (checks c e.conn e.request)) ≡ false) → wants_records c e ≡ false → IsTold c e
  unfolding plan
  shared-told c e o seen q records = by (first_refusal (all_checks_of c e)) refl
    where
      same : first_refusal (all_checks_of c e) ≡ refusal_told (view conn c) e
      same = refusal-seen c e o seen q records

      by : (r : Option Refusal) → first_refusal (all_checks_of c e) ≡ r → IsTold c e
      by (Some r) is =
          let there : refusal_told (view conn c) e ≡ Some r = sym same ∙ is in
          record {
            reply = ap (λ r. (decided c (effect c e.conn e.request) r).0) is ∙ sym (ap (λ r. (told_by (view conn c) e r).reply) there);
            items = ap (λ r. flat_map (queued_by conn) (decided c (effect c e.conn e.request) r).1) is ∙ sym (ap (λ r. (told_by (view conn c) e r).items) there);
            next = ap (λ r. view conn (apply_all_seen (decided c (effect c e.conn e.request) r).1 c)) is ∙ sym (ap (λ r. (told_by (view conn c) e r).next) there);
          }
      by None is =
          let there : refusal_told (view conn c) e ≡ None = sym same ∙ is in
          let fine = none-before (checks c e.conn e.request) (passes_last_number (apply_all_seen (effect c e.conn e.request).1 c)) is in
          let done = effect-seen conn c e.conn e.request o seen fine in
          let fits = effect-fits conn c e.conn e.request in
          record {
            reply = ap (λ r. (decided c (effect c e.conn e.request) r).0) is ∙ ap Ok done.outcome ∙ sym (ap (λ r. (told_by (view conn c) e r).reply) there);
            items = ap (λ r. flat_map (queued_by conn) (decided c (effect c e.conn e.request) r).1) is
                ∙ settled-items c e.conn o (effect c e.conn e.request).1 (effect_told (view conn c) e) fits done.moves.seen
                ∙ ap (λ is. is ++ flat_map (queued_by conn) (settling (view conn c) (effect_told (view conn c) e))) done.moves.items
                ∙ sym (ap (λ r. (told_by (view conn c) e r).items) there);
            next = ap (λ r. view conn (apply_all_seen (decided c (effect c e.conn e.request) r).1 c)) is
                ∙ settled-seen c e.conn o (effect c e.conn e.request).1 (effect_told (view conn c) e) fits done.moves.seen
                ∙ sym (ap (λ r. (told_by (view conn c) e r).next) there);
          }

  -- ---- an event that isn't told

  pub record IsUntold (c : Content) (e : Event) : Type 0 where
    pub items : flat_map (queued_by conn) (plan c e).1 ≡ []
    pub next : view conn (apply_all_seen (plan c e).1 c) ≡ view conn c

  found-view : (c : Content) (hs : List (OpenHandle Progress)) → AreFound c hs → AreFound (view conn c) (map (masked conn) hs)
  found-view c [] all = tt
  found-view c (h ∷ hs) all = (handle-seen conn c h.number ∙ ap (option_map (masked conn)) all.0, found-view c hs all.1)

  view-still : (c : Content) → IsOrdered c → settling (view conn c) (view conn c) ≡ []
  view-still c o = still (view conn c) (found-view c c.handles (found c o))

  -- where the effect isn't seen, nothing is
  pub untold : (c : Content) (e : Event) → IsOrdered c
      → (first_refusal (checks c e.conn e.request) ≡ None → (view conn (apply_all_seen (effect c e.conn e.request).1 c) ≡ view conn c) × (flat_map (queued_by conn) (effect c e.conn e.request).1 ≡ []))
      → IsUntold c e
  unfolding plan
  untold c e o does = by (first_refusal (all_checks_of c e)) refl
    where
      by : (r : Option Refusal) → first_refusal (all_checks_of c e) ≡ r → IsUntold c e
      by (Some r) is = record {
        items = ap (λ r. flat_map (queued_by conn) (decided c (effect c e.conn e.request) r).1) is;
        next = ap (λ r. view conn (apply_all_seen (decided c (effect c e.conn e.request) r).1 c)) is;
      }
      by None is =
          let fine = none-before (checks c e.conn e.request) (passes_last_number (apply_all_seen (effect c e.conn e.request).1 c)) is in
          let done = does fine in
          let fits = effect-fits conn c e.conn e.request in
          record {
            items = ap (λ r. flat_map (queued_by conn) (decided c (effect c e.conn e.request) r).1) is
                ∙ settled-items c e.conn o (effect c e.conn e.request).1 (view conn c) fits done.0
                ∙ ap (λ is. is ++ flat_map (queued_by conn) (settling (view conn c) (view conn c))) done.1
                ∙ ap (flat_map (queued_by conn)) (view-still c o);
            next = ap (λ r. view conn (apply_all_seen (decided c (effect c e.conn e.request) r).1 c)) is
                ∙ settled-seen c e.conn o (effect c e.conn e.request).1 (view conn c) fits done.0
                ∙ ap (λ xs. view conn (apply_all_seen xs (view conn c))) (view-still c o)
                ∙ view-twice conn c;
          }

  read-moves : (own : ℕ → Bool) (h : OpenHandle Progress) (size : ℕ) (a : Answer) → own h.number ≡ false → AllByRecursion (MoveOf conn own false) (read_effect h size a).1
  read-moves own h size (Everything text) m = (m, tt)
  read-moves own h size (Blocks count text) m = (m, tt)
  read-moves own h size Waits m = (m, tt)
  read-moves own h size (Needs need) m = tt
  read-moves own h size TargetGone m = tt
  read-moves own h size Nothing m = tt

  received-moves : (own : ℕ → Bool) (who : ℕ) (i : Option Item) → eqb who conn ≡ false → AllByRecursion (MoveOf conn own false) (received who i).1
  received-moves own who None m = tt
  received-moves own who (Some i) m = (m, tt)

  -- others' handles are not the connection's
  others' : (c : Content) (who n : ℕ) (h : OpenHandle Progress) → IsOrdered c → handle_numbered c n ≡ Some h → eqb h.connection conn ≡ false → mine conn c who h.number ≡ false
  others' c who n h o is other = sym (find-all (λ h. eqb h.number n) (λ h. eqb h.connection conn ≡ mine conn c who h.number) c.handles h (owns conn c who o) is) ∙ other

  other-who : (who : ℕ) → (b : Bool) → (not (eqb who conn) && b) ≡ true → eqb who conn ≡ false
  other-who who b e = by (eqb who conn) refl e
    where
      by : (t : Bool) → eqb who conn ≡ t → (not t && b) ≡ true → eqb who conn ≡ false
      by true is e = absurd cc
      by false is e = is

  never : (b : Bool) → (not b && false) ≡ true → ⊥
  never true e = cc
  never false e = cc

  unseen-moves : (c : Content) (who : ℕ) (request : Request) → IsOrdered c → is_unseen conn who request ≡ true → first_refusal (checks c who request) ≡ None → AllByRecursion (MoveOf conn (mine conn c who) false) (effect c who request).1
  unfolding effect checks
  unseen-moves c who (Read handle size) o unseen fine =
      let a = accepted c who handle (read_checks c size) o (behind (not (is_attached c who)) NotAttached (on_handle c who handle (read_checks c size)) fine) in
      let other : mine conn c who a.h.number ≡ false = others' c who handle a.h o a.numbered (ap (λ n. eqb n conn) a.is_who ∙ other-who who true unseen) in
      let is = a.is_own in
      rw is (read-moves (mine conn c who) a.h size (read_answer c a.h size) other)
  unseen-moves c who (Notify handle action code value) o unseen fine =
      let a = accepted c who handle (notify_checks c action code) o (behind (not (is_attached c who)) NotAttached (on_handle c who handle (notify_checks c action code)) fine) in
      let other : mine conn c who a.h.number ≡ false = others' c who handle a.h o a.numbered (ap (λ n. eqb n conn) a.is_who ∙ other-who who true unseen) in
      let is = a.is_own in
      rw is (other, tt)
  unseen-moves c who Receive o unseen fine = received-moves (mine conn c who) who (first_of (queue_of c who)) (other-who who true unseen)
  unseen-moves c who Attach o unseen fine = absurd (never (eqb who conn) unseen)
  unseen-moves c who Detach o unseen fine = absurd (never (eqb who conn) unseen)
  unseen-moves c who (OpenRequest mode text) o unseen fine = absurd (never (eqb who conn) unseen)
  unseen-moves c who (Write handle bytes) o unseen fine = absurd (never (eqb who conn) unseen)
  unseen-moves c who (Close handle) o unseen fine = absurd (never (eqb who conn) unseen)
  unseen-moves c who (Unlink path) o unseen fine = absurd (never (eqb who conn) unseen)
  unseen-moves c who (Mkdir path) o unseen fine = absurd (never (eqb who conn) unseen)
  unseen-moves c who (ListRequest path) o unseen fine = absurd (never (eqb who conn) unseen)

  pub unseen-untold : (c : Content) (e : Event) → IsOrdered c → is_unseen conn e.conn e.request ≡ true → IsUntold c e
  unseen-untold c e o unseen = untold c e o (λ fine.
      let moves = unseen-moves c e.conn e.request o unseen fine in
      (other-moves conn (mine conn c e.conn) (effect c e.conn e.request).1 c moves (owns conn c e.conn o), other-items conn (mine conn c e.conn) (effect c e.conn e.request).1 moves))
