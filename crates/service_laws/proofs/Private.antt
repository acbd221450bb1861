-- Private traffic: what a connection meets in a quiet run is read off what it sees at first and the events that are not foreign to it.
use Rattle.std.proofs.Common.{◌≡◌, ℕ, Bool, true, false, cond, not, ◌&&◌, ◌||◌, eqb, List, [], ◌∷◌, ◌++◌, Option, Some, None, Err, refl, sym, ap, subst, ◌∙◌}
use Rattle.std.specs.Option.{option_map_or}
use Rattle.std.specs.List.{flat_map}
use Rattle.pps_types.specs.declared.event.Event.{Event}
use Rattle.pps_types.specs.declared.event.Request.{Request}
use Rattle.pps_types.specs.declared.event.Request.TheVariants.{Attach, Detach, Open as OpenRequest, Read, Write, Close, Unlink, Mkdir, List as ListRequest, Notify, Receive}
use Rattle.pps_types.specs.declared.outcome.Item.{Item}
use Rattle.pps_types.specs.declared.refusal.Refusal.{Refusal}
use Rattle.pps_types.specs.declared.refusal.Refusal.TheVariants.{Backlogged}
use Rattle.pps_types.specs.Outcome.{Reply, is_marked}
use Rattle.pps_types.specs.Reading.{OpenHandle}
use Rattle.pps_types.specs.Rests.{Progress}
use Rattle.pps_types.specs.Content.{Content, handle_numbered, queue_of, handles_of}
use Rattle.pps_types.specs.Checks.{first_refusal, checks, is_server, is_client}
use Rattle.pps_types.specs.Plan.{apply_all_seen, plan, decided, effect, step_seen, passes_last_number}
use Rattle.pps_types.specs.Machine.{Machine, IsMachine, content_of, step, marked_step}
use Rattle.pps_types.specs.Runs.{Answered, after_answered, IsReply, IsRun, end_of, queued_by, items_queued, queued_in, replies_to}
use Rattle.pps_types.specs.Privacy.{on_kind, is_foreign, is_others_own, names_other, unless, shared_events, holds_server, is_backlogged, is_server_write, wants_records, is_quiet_step, is_quiet}
use Rattle.service_laws.specs.Laws.{PrivateTraffic}
use Rattle.service_laws.proofs.Law.{step-shown, step-made}
use Rattle.service_laws.proofs.Views.{view}
use Rattle.service_laws.proofs.Orders.{IsOrdered, ordered, step-order}
use Rattle.service_laws.proofs.Effects.{own-handles, queue-seen, is_unseen, is_quiet_request}
use Rattle.service_laws.proofs.CheckViews.{blocked, is_queue_kind, is_queue_write}
use Rattle.service_laws.proofs.Told.{last-refusal, or_full, told, told_by, refusal_told, nothing_told, shared-told, IsUntold, untold, unseen-untold}
use Rattle.service_laws.proofs.Unseen.{all-settled, foreign-write}

-- ---- tests

and-first : (a b : Bool) → (a && b) ≡ true → a ≡ true
and-first true b e = refl
and-first false b e = e

and-second : (a b : Bool) → (a && b) ≡ true → b ≡ true
and-second true b e = e
and-second false b e = absurd cc

not-true : (b : Bool) → not b ≡ true → b ≡ false
not-true true e = absurd cc
not-true false e = refl

same-blocked : (r : Refusal) → is_backlogged (Err r) ≡ blocked (Some r)
same-blocked (Backlogged n) = refl
same-blocked r = refl

-- ---- a step that isn't marked

record Took (m : Machine) (x : Answered) : Type 0 where
  pub reply : x.reply ≡ (plan (content_of m) x.event).0
  pub next : content_of (after_answered m x) ≡ apply_all_seen (plan (content_of m) x.event).1 (content_of m)
  pub items : (conn : ℕ) → items_queued conn m x ≡ flat_map (queued_by conn) (plan (content_of m) x.event).1
  pub made : IsMachine (after_answered m x)
  pub order : IsOrdered (content_of (after_answered m x))

took : (m : Machine) → IsMachine m → IsOrdered (content_of m) → (x : Answered) → IsReply m x.event x.reply → is_marked x.reply ≡ false → Took m x
unfolding step_seen
took m made o x is unmarked =
    let both = step-shown m made x.event in
    let goes : marked_step m x.event (is_marked x.reply) ≡ step m x.event = ap (marked_step m x.event) unmarked in
    let next : content_of (after_answered m x) ≡ apply_all_seen (plan (content_of m) x.event).1 (content_of m) = ap (λ (s : Reply × Machine). content_of s.1) goes ∙ ap (λ (s : Reply × Content). s.1) both in
    record {
      reply = is.replied ∙ ap (λ (s : Reply × Machine). s.0) goes ∙ ap (λ (s : Reply × Content). s.0) both;
      next = next;
      items = λ conn. ap (λ b. cond b [] (flat_map (queued_by conn) (plan (content_of m) x.event).1)) unmarked;
      made = subst IsMachine (sym (ap (λ (s : Reply × Machine). s.1) goes)) (step-made m made x.event);
      order = subst IsOrdered (sym next) (step-order (content_of m) x.event o);
    }

module _ (conn : ℕ) where
  -- ---- a shared event

  queue-kind : (f : Option (OpenHandle Progress)) → option_map_or (λ h. is_queue_kind h.kind) f false ≡ true → option_map_or (λ h. is_server h.kind) f false ≡ false → option_map_or (λ h. is_client h.kind) f false ≡ true
  queue-kind None e s = e
  queue-kind (Some h) e s = by (is_server h.kind) (is_client h.kind) e s
    where
      by : (a b : Bool) → (a || b) ≡ true → a ≡ false → b ≡ true
      by true b e s = absurd cc
      by false b e s = e

  -- a full queue that refuses is a server's or the connection's own
  refused-alike : (c : Content) (who : ℕ) (request : Request) → is_queue_write c request ≡ true → (eqb who conn || is_server_write c request) ≡ false → (not (eqb who conn) && is_others_own conn c request) ≡ true
  refused-alike c who (Write handle bytes) q alone = by (eqb who conn) (option_map_or (λ h. is_server h.kind) (handle_numbered c handle) false) refl alone
    where
      by : (a b : Bool) → option_map_or (λ h. is_server h.kind) (handle_numbered c handle) false ≡ b → (a || b) ≡ false → (not a && (on_kind c handle is_client || option_map_or (names_other c conn bytes) (handle_numbered c handle) false)) ≡ true
      by true b e alone = absurd cc
      by false b e alone = ap (λ b. b || option_map_or (names_other c conn bytes) (handle_numbered c handle) false) (queue-kind (handle_numbered c handle) q (e ∙ alone))
  refused-alike c who Attach q alone = absurd cc
  refused-alike c who Detach q alone = absurd cc
  refused-alike c who (OpenRequest mode text) q alone = absurd cc
  refused-alike c who (Read handle size) q alone = absurd cc
  refused-alike c who (Close handle) q alone = absurd cc
  refused-alike c who (Unlink path) q alone = absurd cc
  refused-alike c who (Mkdir path) q alone = absurd cc
  refused-alike c who (ListRequest path) q alone = absurd cc
  refused-alike c who (Notify handle action code value) q alone = absurd cc
  refused-alike c who Receive q alone = absurd cc

  quiet-parts : (a b c : Bool) → (a && b && c) ≡ true → (a ≡ true) × (b ≡ true) × (c ≡ true)
  quiet-parts true true true e = (refl, refl, refl)
  quiet-parts true true false e = absurd cc
  quiet-parts true false c e = absurd cc
  quiet-parts false b c e = absurd cc

  reply-of : (c : Content) (e : Event) (r : Refusal) → first_refusal (checks c e.conn e.request) ≡ Some r → (plan c e).0 ≡ Err r
  unfolding plan
  reply-of c e r is =
      let b = passes_last_number (apply_all_seen (effect c e.conn e.request).1 c) in
      ap (λ f. (decided c (effect c e.conn e.request) f).0) (last-refusal conn (checks c e.conn e.request) b ∙ ap (λ f. or_full conn f b) is)

  unblocked : (c : Content) (x : Answered) → x.reply ≡ (plan c x.event).0 → not (is_backlogged x.reply && (eqb x.event.conn conn || is_server_write c x.event.request)) ≡ true → is_foreign conn c x.event ≡ false
      → is_queue_write c x.event.request ≡ true → blocked (first_refusal (checks c x.event.conn x.event.request)) ≡ false
  unblocked c x replied quiet shared q = by (first_refusal (checks c x.event.conn x.event.request)) refl
    where
      alone : (z : Bool) → is_backlogged x.reply ≡ true → not (is_backlogged x.reply && z) ≡ true → z ≡ false
      alone z is e = not-true z (sym (ap (λ b. not (b && z)) is) ∙ e)

      by : (f : Option Refusal) → first_refusal (checks c x.event.conn x.event.request) ≡ f → blocked f ≡ false
      by None is = refl
      by (Some r) is = full (blocked (Some r)) refl
        where
          full : (b : Bool) → blocked (Some r) ≡ b → b ≡ false
          full false same = refl
          full true same = absurd (
              let back : is_backlogged x.reply ≡ true = ap is_backlogged (replied ∙ reply-of c x.event r is) ∙ same-blocked r ∙ same in
              let foreign = refused-alike c x.event.conn x.event.request q (alone (eqb x.event.conn conn || is_server_write c x.event.request) back quiet) in
              let both : false ≡ true = sym shared ∙ foreign in
              cc)

  record Step (m : Machine) (x : Answered) : Type 0 where
    pub reply : eqb x.event.conn conn ≡ true → x.reply ≡ (told conn (view conn (content_of m)) x.event).reply
    pub items : items_queued conn m x ≡ (told conn (view conn (content_of m)) x.event).items
    pub next : view conn (content_of (after_answered m x)) ≡ (told conn (view conn (content_of m)) x.event).next

  shared-step : (m : Machine) (x : Answered) → Took m x → IsOrdered (content_of m) → is_quiet_step conn (content_of m) x ≡ true → is_foreign conn (content_of m) x.event ≡ false → Step m x
  shared-step m x took o quiet shared = by (is_unseen conn x.event.conn x.event.request) refl
    where
      not-own : (a b : Bool) → (not a && b) ≡ true → a ≡ true → ⊥
      not-own true b e is = cc
      not-own false b e is = cc

      by : (b : Bool) → is_unseen conn x.event.conn x.event.request ≡ b → Step m x
      by true unseen =
          let none = unseen-untold conn (content_of m) x.event o unseen in
          let there : told conn (view conn (content_of m)) x.event ≡ nothing_told conn (view conn (content_of m)) = ap (λ b. cond b (nothing_told conn (view conn (content_of m))) (told_by conn (view conn (content_of m)) x.event (refusal_told conn (view conn (content_of m)) x.event))) unseen in
          record {
            reply = λ own. absurd (not-own (eqb x.event.conn conn) (is_quiet_request conn x.event.request) unseen own);
            items = took.items conn ∙ none.items ∙ sym (ap (λ t. t.items) there);
            next = ap (view conn) took.next ∙ none.next ∙ sym (ap (λ t. t.next) there);
          }
      by false seen =
          let parts = quiet-parts _ _ _ quiet in
          let all = shared-told conn (content_of m) x.event o seen (unblocked (content_of m) x took.reply parts.1 shared) (not-true (wants_records (content_of m) x.event) parts.2) in
          let there : told conn (view conn (content_of m)) x.event ≡ told_by conn (view conn (content_of m)) x.event (refusal_told conn (view conn (content_of m)) x.event) = ap (λ b. cond b (nothing_told conn (view conn (content_of m))) (told_by conn (view conn (content_of m)) x.event (refusal_told conn (view conn (content_of m)) x.event))) seen in
          record {
            reply = λ own. took.reply ∙ all.reply ∙ sym (ap (λ t. t.reply) there);
            items = took.items conn ∙ all.items ∙ sym (ap (λ t. t.items) there);
            next = ap (view conn) took.next ∙ all.next ∙ sym (ap (λ t. t.next) there);
          }

  -- ---- a foreign event

  record ForeignStep (m : Machine) (x : Answered) : Type 0 where
    pub other : eqb x.event.conn conn ≡ false
    pub items : items_queued conn m x ≡ []
    pub next : view conn (content_of (after_answered m x)) ≡ view conn (content_of m)

  foreign-untold : (m : Machine) (e : Event) (request : Request) → e.request ≡ request → IsOrdered (content_of m) → holds_server conn (content_of m) ≡ false → eqb e.conn conn ≡ false → is_others_own conn (content_of m) request ≡ true → IsUntold conn (content_of m) e
  foreign-untold m e (Write handle bytes) is o none other own = untold conn (content_of m) e o (λ fine.
      let w = foreign-write conn (content_of m) e.conn handle bytes o none (all-settled m.history m.handles) own in
      subst (λ r. (view conn (apply_all_seen (effect (content_of m) e.conn r).1 (content_of m)) ≡ view conn (content_of m)) × (flat_map (queued_by conn) (effect (content_of m) e.conn r).1 ≡ [])) (sym is) (w.seen, w.items))
  foreign-untold m e (Read handle size) is o none other own = unseen-untold conn (content_of m) e o (λ i. not (other i) && is_quiet_request conn (is i))
  foreign-untold m e (Notify handle action code value) is o none other own = unseen-untold conn (content_of m) e o (λ i. not (other i) && is_quiet_request conn (is i))
  foreign-untold m e Receive is o none other own = unseen-untold conn (content_of m) e o (λ i. not (other i) && is_quiet_request conn (is i))
  foreign-untold m e Attach is o none other own = absurd cc
  foreign-untold m e Detach is o none other own = absurd cc
  foreign-untold m e (OpenRequest mode text) is o none other own = absurd cc
  foreign-untold m e (Close handle) is o none other own = absurd cc
  foreign-untold m e (Unlink path) is o none other own = absurd cc
  foreign-untold m e (Mkdir path) is o none other own = absurd cc
  foreign-untold m e (ListRequest path) is o none other own = absurd cc

  foreign-step : (m : Machine) (x : Answered) → Took m x → IsOrdered (content_of m) → holds_server conn (content_of m) ≡ false → is_foreign conn (content_of m) x.event ≡ true → ForeignStep m x
  foreign-step m x took o none foreign =
      let other = not-true (eqb x.event.conn conn) (and-first (not (eqb x.event.conn conn)) (is_others_own conn (content_of m) x.event.request) foreign) in
      let un = foreign-untold m x.event x.event.request refl o none other (and-second (not (eqb x.event.conn conn)) (is_others_own conn (content_of m) x.event.request) foreign) in
      record { other = other; items = took.items conn ∙ un.items; next = ap (view conn) took.next ∙ un.next }

  -- ---- a run

  abbrev replies_told : Content → List Event → List Reply
  replies_told v [] = []
  replies_told v (e ∷ es) = cond (eqb e.conn conn) ((told conn v e).reply ∷ replies_told (told conn v e).next es) (replies_told (told conn v e).next es)

  abbrev items_told : Content → List Event → List Item
  items_told v [] = []
  items_told v (e ∷ es) = (told conn v e).items ++ items_told (told conn v e).next es

  abbrev end_told : Content → List Event → Content
  end_told v [] = v
  end_told v (e ∷ es) = end_told (told conn v e).next es

  record RunTold (m : Machine) (xs : List Answered) (v : Content) (es : List Event) : Type 0 where
    pub replies : replies_to conn xs ≡ replies_told v es
    pub items : queued_in conn m xs ≡ items_told v es
    pub end : view conn (content_of (end_of m xs)) ≡ end_told v es

  run-told : (xs : List Answered) (m : Machine) → IsMachine m → IsOrdered (content_of m) → IsRun m xs → is_quiet conn m xs ≡ true → RunTold m xs (view conn (content_of m)) (shared_events conn m xs)
  run-told [] m made o run quiet = record { replies = refl; items = refl; end = refl }
  run-told (x ∷ xs) m made o run quiet =
      let parts = quiet-parts (not (holds_server conn (content_of m))) (is_quiet_step conn (content_of m) x) (is_quiet conn (after_answered m x) xs) quiet in
      let unmarked = not-true (is_marked x.reply) (quiet-parts (not (is_marked x.reply)) _ _ parts.1).0 in
      let t = took m made o x run.0 unmarked in
      by t (not-true (holds_server conn (content_of m)) parts.0) parts.1 (run-told xs (after_answered m x) t.made t.order run.1 parts.2) (is_foreign conn (content_of m) x.event) refl
    where
      by : Took m x → holds_server conn (content_of m) ≡ false → is_quiet_step conn (content_of m) x ≡ true → RunTold (after_answered m x) xs (view conn (content_of (after_answered m x))) (shared_events conn (after_answered m x) xs)
          → (b : Bool) → is_foreign conn (content_of m) x.event ≡ b → RunTold m (x ∷ xs) (view conn (content_of m)) (unless b x.event (shared_events conn (after_answered m x) xs))
      by t none quiet rest true foreign =
          let step = foreign-step m x t o none foreign in
          let es = shared_events conn (after_answered m x) xs in
          record {
            replies = ap (λ b. cond b (x.reply ∷ replies_to conn xs) (replies_to conn xs)) step.other ∙ rest.replies ∙ ap (λ v. replies_told v es) step.next;
            items = ap (λ is. is ++ queued_in conn (after_answered m x) xs) step.items ∙ rest.items ∙ ap (λ v. items_told v es) step.next;
            end = rest.end ∙ ap (λ v. end_told v es) step.next;
          }
      by t none quiet rest false shared =
          let step = shared-step m x t o quiet shared in
          let es = shared_events conn (after_answered m x) xs in
          let more = rest.replies ∙ ap (λ v. replies_told v es) step.next in
          record {
            replies = reply-by (eqb x.event.conn conn) (told conn (view conn (content_of m)) x.event).reply (replies_told (told conn (view conn (content_of m)) x.event).next es) step.reply more;
            items = λ i. step.items i ++ (rest.items ∙ ap (λ v. items_told v es) step.next) i;
            end = rest.end ∙ ap (λ v. end_told v es) step.next;
          }
        where
          reply-by : (b : Bool) (r : Reply) (rs : List Reply) → (b ≡ true → x.reply ≡ r) → replies_to conn xs ≡ rs → cond b (x.reply ∷ replies_to conn xs) (replies_to conn xs) ≡ cond b (r ∷ rs) rs
          reply-by true r rs same more = λ i. same refl i ∷ more i
          reply-by false r rs same more = more

-- ---- the law

pub private-traffic : PrivateTraffic
private-traffic conn m made first second run1 run2 agree =
    let o = ordered (content_of m) made.standing.order.handles_rise in
    let a = run-told conn first m made o run1 agree.first_quiet in
    let b = run-told conn second m made o run2 agree.second_quiet in
    let v = view conn (content_of m) in
    let same = agree.same_events in
    let end : view conn (content_of (end_of m first)) ≡ view conn (content_of (end_of m second)) = a.end ∙ ap (end_told conn v) same ∙ sym b.end in
    record {
      replies = a.replies ∙ ap (replies_told conn v) same ∙ sym b.replies;
      items = a.items ∙ ap (items_told conn v) same ∙ sym b.items;
      queue = sym (queue-seen conn (content_of (end_of m first))) ∙ ap (λ c. queue_of c conn) end ∙ queue-seen conn (content_of (end_of m second));
      handles = sym (own-handles conn (content_of (end_of m first))) ∙ ap (λ c. handles_of c conn) end ∙ own-handles conn (content_of (end_of m second));
    }
