-- What an event does, as one connection sees it, is read off what it sees.
use Rattle.std.proofs.Common.{◌≡◌, ℕ, Bool, true, false, cond, not, ◌&&◌, eqb, eqb-true, eq-eqb, List, [], ◌∷◌, ◌++◌, map, Option, Some, None, Err, refl, sym, ap, subst, ◌∙◌}
use Rattle.std.specs.Prelude.{find, option_map, is_some, filter}
use Rattle.std.specs.Option.{option_map_or}
use Rattle.std.specs.List.{flat_map, AllByRecursion}
use Rattle.std.proofs.lemmas.Grind.{flat_map-append}
use Rattle.pps_types.specs.declared.event.Request.{Request}
use Rattle.pps_types.specs.declared.event.Request.TheVariants.{Attach, Detach, Open as OpenRequest, Read, Write, Close, Unlink, Mkdir, List as ListRequest, Notify, Receive}
use Rattle.pps_types.specs.declared.outcome.Outcome.{Outcome}
use Rattle.pps_types.specs.declared.outcome.Outcome.TheVariants.{Done}
use Rattle.pps_types.specs.declared.outcome.Item.TheVariants.{ReadDone}
use Rattle.pps_types.specs.declared.refusal.Refusal.{Refusal}
use Rattle.pps_types.specs.declared.refusal.Refusal.TheVariants.{BadHandle, NotAttached}
use Rattle.pps_types.specs.declared.record.Kind.{Kind}
use Rattle.pps_types.specs.declared.record.Kind.TheVariants.{Deleted, Dropped, Closed}
use Rattle.pps_types.specs.declared.handle_kind.HandleKind.{HandleKind}
use Rattle.pps_types.specs.declared.handle_kind.HandleKind.TheVariants.{Object as ObjectHandle, Directory as DirectoryHandle, Names as NamesHandle, Server as ServerHandle, Client as ClientHandle}
use Rattle.pps_types.specs.Reading.{OpenHandle}
use Rattle.pps_types.specs.Rests.{Progress}
use Rattle.pps_types.specs.Outbox.{first_of}
use Rattle.pps_types.specs.Content.{Content, LiveObject, Connection, object_numbered, handle_numbered, handles_of, connection_numbered, is_attached, queue_of, outbox_of, own_handle}
use Rattle.pps_types.specs.Checks.{Check, Refuse, first_refusal, on_handle, checks, read_checks, notify_checks}
use Rattle.pps_types.specs.Plan.{Move, Leaves, AppendsRecord, Closes, Queues, apply_seen, apply_all_seen, entry_of, effect, received, on_target, closing, closings, parting}
use Rattle.pps_types.specs.Runs.{queued_by}
use Rattle.service_laws.proofs.Views.{masked, masked_queue, view, masked-own, view-twice, view-moves, views-moves, other-queue}
use Rattle.service_laws.proofs.Settlings.{moves-append, find-map}
use Rattle.service_laws.proofs.Orders.{IsOrdered, found}

module _ {X : Type 0} (test : X → Bool) where
  pub find-test : (xs : List X) (x : X) → find test xs ≡ Some x → test x ≡ true
  find-test [] x e = absurd cc
  find-test (y ∷ ys) x e = by (test y) refl e (find-test ys x)
    where
      by : (b : Bool) → test y ≡ b → cond b (Some y) (find test ys) ≡ Some x → (find test ys ≡ Some x → test x ≡ true) → test x ≡ true
      by true is e more = let same : y ≡ x = cc in ap test (sym same) ∙ is
      by false is e more = more e

  pub find-all : (P : X → Type 0) (xs : List X) (x : X) → AllByRecursion P xs → find test xs ≡ Some x → P x
  find-all P [] x all e = absurd cc
  find-all P (y ∷ ys) x all e = by (test y) e (find-all P ys x all.1)
    where
      by : (b : Bool) → cond b (Some y) (find test ys) ≡ Some x → (find test ys ≡ Some x → P x) → P x
      by true e more = let same : y ≡ x = cc in subst P same all.0
      by false e more = more e

  pub filter-map : (see : X → X) → ((x : X) → test (see x) ≡ test x) → (xs : List X) → filter test (map see xs) ≡ map see (filter test xs)
  filter-map see same [] = refl
  filter-map see same (x ∷ xs) = ap (λ b. cond b (see x ∷ filter test (map see xs)) (filter test (map see xs))) (same x) ∙ by (test x) (filter-map see same xs)
    where
      by : (b : Bool) → filter test (map see xs) ≡ map see (filter test xs) → cond b (see x ∷ filter test (map see xs)) (filter test (map see xs)) ≡ map see (cond b (x ∷ filter test xs) (filter test xs))
      by true rec = ap (λ ys. see x ∷ ys) rec
      by false rec = rec

pub behind : (b : Bool) (r : Refusal) (xs : List Check) → first_refusal (Refuse b r ∷ xs) ≡ None → first_refusal xs ≡ None
behind true r xs e = absurd cc
behind false r xs e = e

and-first : (a b : Bool) → (a && b) ≡ true → a ≡ true
and-first true b e = refl
and-first false b e = e

and-second : (a b : Bool) → (a && b) ≡ true → b ≡ true
and-second true b e = e
and-second false b e = absurd cc

pub own-numbered : (c : Content) (who number : ℕ) (h : OpenHandle Progress) → IsOrdered c → own_handle c who number ≡ Some h → handle_numbered c number ≡ Some h
own-numbered c who number h o e =
    let both = find-test (λ h. eqb h.number number && eqb h.connection who) c.handles h e in
    let is : h.number ≡ number = eqb-true h.number number (and-first (eqb h.number number) (eqb h.connection who) both) in
    let there : handle_numbered c h.number ≡ Some h = find-all (λ h. eqb h.number number && eqb h.connection who) (λ h. handle_numbered c h.number ≡ Some h) c.handles h (found c o) e in
    ap (handle_numbered c) (sym is) ∙ there

-- a handle of that connection, which no check refuses
pub record Accepted (c : Content) (who number : ℕ) (k : OpenHandle Progress → List Check) : Type 0 where
  pub h : OpenHandle Progress
  pub is_own : own_handle c who number ≡ Some h
  pub numbered : handle_numbered c number ≡ Some h
  pub is_number : h.number ≡ number
  pub is_who : h.connection ≡ who
  pub fine : first_refusal (k h) ≡ None

pub accepted : (c : Content) (who number : ℕ) (k : OpenHandle Progress → List Check) → IsOrdered c → first_refusal (on_handle c who number k) ≡ None → Accepted c who number k
accepted c who number k o p = by (find (λ h. eqb h.number number && eqb h.connection who) c.handles) refl
  where
    by : (f : Option (OpenHandle Progress)) → find (λ h. eqb h.number number && eqb h.connection who) c.handles ≡ f → Accepted c who number k
    by None e = absurd (let q = rw e at p in cc)
    by (Some h) e =
        let both = find-test (λ h. eqb h.number number && eqb h.connection who) c.handles h e in
        let is : h.number ≡ number = eqb-true h.number number (and-first (eqb h.number number) (eqb h.connection who) both) in
        let there : handle_numbered c h.number ≡ Some h = find-all (λ h. eqb h.number number && eqb h.connection who) (λ h. handle_numbered c h.number ≡ Some h) c.handles h (found c o) e in
        record { h = h; is_own = e; numbered = ap (handle_numbered c) (sym is) ∙ there; is_number = is; is_who = eqb-true h.connection who (and-second (eqb h.number number) (eqb h.connection who) both); fine = rw e at p }

module _ (conn : ℕ) where
  pub handle-seen : (c : Content) (n : ℕ) → handle_numbered (view conn c) n ≡ option_map (masked conn) (handle_numbered c n)
  handle-seen c n = find-map (masked conn) (λ h. eqb h.number n) (λ h. refl) c.handles

  pub own-handle-seen : (c : Content) (who n : ℕ) → own_handle (view conn c) who n ≡ option_map (masked conn) (own_handle c who n)
  own-handle-seen c who n = find-map (masked conn) (λ h. eqb h.number n && eqb h.connection who) (λ h. refl) c.handles

  pub handles-seen : (c : Content) (who : ℕ) → handles_of (view conn c) who ≡ map (masked conn) (handles_of c who)
  handles-seen c who = filter-map (λ h. eqb h.connection who) (masked conn) (λ h. refl) c.handles

  masked-all : (hs : List (OpenHandle Progress)) → map (masked conn) (filter (λ h. eqb h.connection conn) hs) ≡ filter (λ h. eqb h.connection conn) hs
  masked-all [] = refl
  masked-all (h ∷ hs) = by (eqb h.connection conn) refl (masked-all hs)
    where
      by : (b : Bool) → eqb h.connection conn ≡ b → map (masked conn) (filter (λ h. eqb h.connection conn) hs) ≡ filter (λ h. eqb h.connection conn) hs → map (masked conn) (cond b (h ∷ filter (λ h. eqb h.connection conn) hs) (filter (λ h. eqb h.connection conn) hs)) ≡ cond b (h ∷ filter (λ h. eqb h.connection conn) hs) (filter (λ h. eqb h.connection conn) hs)
      by true own rec = λ i. masked-own conn h own i ∷ rec i
      by false own rec = rec

  -- the connection's own handles are seen as they are
  pub own-handles : (c : Content) → handles_of (view conn c) conn ≡ handles_of c conn
  own-handles c = handles-seen c conn ∙ masked-all c.handles

  connection-seen : (c : Content) (n : ℕ) → connection_numbered (view conn c) n ≡ option_map (masked_queue conn) (connection_numbered c n)
  connection-seen c n = find-map (masked_queue conn) (λ x. eqb x.number n) (λ x. refl) c.connections

  pub attached-seen : (c : Content) (n : ℕ) → is_attached (view conn c) n ≡ is_attached c n
  attached-seen c n = ap is_some (connection-seen c n) ∙ by (connection_numbered c n)
    where
      by : (o : Option Connection) → is_some (option_map (masked_queue conn) o) ≡ is_some o
      by None = refl
      by (Some x) = refl

  pub queue-seen : (c : Content) → queue_of (view conn c) conn ≡ queue_of c conn
  queue-seen c = ap (λ o. option_map_or (λ x. x.queue) o []) (connection-seen c conn) ∙ by (connection_numbered c conn) refl
    where
      by : (o : Option Connection) → connection_numbered c conn ≡ o → option_map_or (λ x. x.queue) (option_map (masked_queue conn) o) [] ≡ option_map_or (λ x. x.queue) o []
      by None e = refl
      by (Some x) e = ap (λ b. cond b x.queue []) (find-test (λ x. eqb x.number conn) c.connections x e)

  pub outbox-seen : (c : Content) → outbox_of (view conn c) conn ≡ outbox_of c conn
  outbox-seen c = rw (own-handles c, queue-seen c) refl

  -- a handle of the connection that is found, is found as it is
  pub own-seen : (c : Content) (who n : ℕ) (h : OpenHandle Progress) → own_handle c who n ≡ Some h → h.connection ≡ conn → own_handle (view conn c) who n ≡ own_handle c who n
  own-seen c who n h is own = own-handle-seen c who n ∙ ap (option_map (masked conn)) is ∙ ap Some (masked-own conn h (eq-eqb h.connection conn own)) ∙ sym is

  -- ---- closing

  parting-seen : (c d : Content) → c.objects ≡ d.objects → (h : OpenHandle Progress) (k : HandleKind) → parting c h k ≡ parting d (masked conn h) k
  parting-seen c d e h ServerHandle = ap (λ (os : List LiveObject). option_map_or (λ o. AppendsRecord (entry_of o.object Deleted None) ∷ []) (find (λ o. eqb o.object.number h.target) os) []) e
  parting-seen c d e h ClientHandle = ap (λ (os : List LiveObject). option_map_or (λ o. AppendsRecord (entry_of o.object (Closed h.number) None) ∷ []) (find (λ o. eqb o.object.number h.target) os) []) e
  parting-seen c d e h (ObjectHandle delta) = ap (λ (os : List LiveObject). cond (h.options.critical && h.writes) (option_map_or (λ o. AppendsRecord (entry_of o.object Dropped None) ∷ []) (find (λ o. eqb o.object.number h.target) os) []) []) e
  parting-seen c d e h (DirectoryHandle delta) = refl
  parting-seen c d e h NamesHandle = refl

  on_target-items : (c : Content) (h : OpenHandle Progress) (kind : Kind) (writer : Option ℕ) → flat_map (queued_by conn) (on_target c h kind writer) ≡ []
  on_target-items c h kind writer = by (object_numbered c h.target)
    where
      by : (o : Option LiveObject) → flat_map (queued_by conn) (option_map_or (λ o. AppendsRecord (entry_of o.object kind writer) ∷ []) o []) ≡ []
      by None = refl
      by (Some o) = refl

  abbrev ends : OpenHandle Progress → Option ℕ → List Move
  ends h parked = cond (is_some parked) (Queues h.connection (ReadDone h.number (Err BadHandle)) ∷ []) []

  ends-seen : (h : OpenHandle Progress) → eqb h.connection conn ≡ false → (c : Content) (parked : Option ℕ) → view conn (apply_all_seen (ends h parked) c) ≡ view conn c
  ends-seen h other c None = refl
  ends-seen h other c (Some size) = ap (λ xs. record (view conn c) { connections = xs }) (other-queue conn (λ n. false) (λ items. items ++ ReadDone h.number (Err BadHandle) ∷ []) h.connection other c.connections)

  ends-items : (h : OpenHandle Progress) → eqb h.connection conn ≡ false → (parked : Option ℕ) → flat_map (queued_by conn) (ends h parked) ≡ []
  ends-items h other None = refl
  ends-items h other (Some size) = ap (λ b. cond b (ReadDone h.number (Err BadHandle) ∷ []) [] ++ []) other

  pub record SeenAs (xs : List Move) (c : Content) (ys : List Move) (d : Content) : Type 0 where
    pub seen : view conn (apply_all_seen xs c) ≡ view conn (apply_all_seen ys d)
    pub items : flat_map (queued_by conn) xs ≡ flat_map (queued_by conn) ys

  closing-seen : (h : OpenHandle Progress) (c d : Content) → view conn c ≡ view conn d → SeenAs (closing c h) c (closing d (masked conn h)) d
  closing-seen h c d same = by (eqb h.connection conn) refl
    where
      parts : parting c h h.kind ≡ parting d (masked conn h) h.kind
      parts = parting-seen c d (ap (λ v. v.objects) same) h h.kind

      by : (b : Bool) → eqb h.connection conn ≡ b → SeenAs (closing c h) c (closing d (masked conn h)) d
      by true own =
          let moves : closing c h ≡ closing d (masked conn h) = ap (λ b. Closes h.number ∷ ends h (cond b h.parked None) ++ parting c h h.kind) (sym own) ∙ ap (λ ps. Closes h.number ∷ ends h (masked conn h).parked ++ ps) parts in
          record { seen = views-moves conn (closing c h) c d same ∙ ap (λ xs. view conn (apply_all_seen xs d)) moves; items = ap (flat_map (queued_by conn)) moves }
      by false other =
          let c1 = apply_seen (Closes h.number) c in
          let d1 = apply_seen (Closes h.number) d in
          let moves : closing d (masked conn h) ≡ Closes h.number ∷ parting d (masked conn h) h.kind = ap (λ b. Closes h.number ∷ ends h (cond b h.parked None) ++ parting d (masked conn h) h.kind) other in
          let ended = ends-seen h other c1 h.parked ∙ views-moves conn (Closes h.number ∷ []) c d same in
          record {
            seen = ap (view conn) (moves-append (ends h h.parked) (parting c h h.kind) c1)
                ∙ views-moves conn (parting c h h.kind) (apply_all_seen (ends h h.parked) c1) d1 ended
                ∙ ap (λ ps. view conn (apply_all_seen ps d1)) parts
                ∙ ap (λ xs. view conn (apply_all_seen xs d)) (sym moves);
            items = flat_map-append (queued_by conn) (ends h h.parked) (parting c h h.kind)
                ∙ ap (λ is. is ++ flat_map (queued_by conn) (parting c h h.kind)) (ends-items h other h.parked)
                ∙ ap (flat_map (queued_by conn)) parts
                ∙ ap (flat_map (queued_by conn)) (sym moves);
          }

  closings-seen : (hs : List (OpenHandle Progress)) (c d : Content) → view conn c ≡ view conn d → SeenAs (closings c hs) c (closings d (map (masked conn) hs)) d
  closings-seen [] c d same = record { seen = same; items = refl }
  closings-seen (h ∷ hs) c d same =
      let one = closing-seen h c d same in
      let c1 = apply_all_seen (closing c h) c in
      let d1 = apply_all_seen (closing d (masked conn h)) d in
      let rest = closings-seen hs c1 d1 one.seen in
      record {
        seen = ap (view conn) (moves-append (closing c h) (closings c1 hs) c) ∙ rest.seen ∙ sym (ap (view conn) (moves-append (closing d (masked conn h)) (closings d1 (map (masked conn) hs)) d));
        items = flat_map-append (queued_by conn) (closing c h) (closings c1 hs)
            ∙ ap (λ is. is ++ flat_map (queued_by conn) (closings c1 hs)) one.items
            ∙ ap (λ is. flat_map (queued_by conn) (closing d (masked conn h)) ++ is) rest.items
            ∙ sym (flat_map-append (queued_by conn) (closing d (masked conn h)) (closings d1 (map (masked conn) hs)));
      }

  then-seen : (xs ys zs : List Move) (c d : Content) → SeenAs xs c ys d → SeenAs (xs ++ zs) c (ys ++ zs) d
  then-seen xs ys zs c d s = record {
    seen = ap (view conn) (moves-append xs zs c) ∙ views-moves conn zs (apply_all_seen xs c) (apply_all_seen ys d) s.seen ∙ sym (ap (view conn) (moves-append ys zs d));
    items = flat_map-append (queued_by conn) xs zs ∙ ap (λ is. is ++ flat_map (queued_by conn) zs) s.items ∙ sym (flat_map-append (queued_by conn) ys zs);
  }

  -- ---- effects

  -- others' requests that only they are told of
  abbrev pub is_quiet_request : Request → Bool
  is_quiet_request (Read handle size) = true
  is_quiet_request (Notify handle action code value) = true
  is_quiet_request Receive = true
  is_quiet_request _ = false

  abbrev pub is_unseen : ℕ → Request → Bool
  is_unseen who request = not (eqb who conn) && is_quiet_request request

  pub record EffectSeen (c : Content) (who : ℕ) (request : Request) : Type 0 where
    pub moves : SeenAs (effect c who request).1 c (effect (view conn c) who request).1 (view conn c)
    pub outcome : (effect c who request).0 ≡ (effect (view conn c) who request).0

  same-moves : (xs ys : List Move) (c : Content) → xs ≡ ys → SeenAs xs c ys (view conn c)
  same-moves xs ys c e = record { seen = sym (view-moves conn xs c) ∙ ap (λ zs. view conn (apply_all_seen zs (view conn c))) e; items = ap (flat_map (queued_by conn)) e }

  same-effect : (c : Content) (who : ℕ) (request : Request) → effect c who request ≡ effect (view conn c) who request → EffectSeen c who request
  same-effect c who request e = record { moves = same-moves (effect c who request).1 (effect (view conn c) who request).1 c (ap (λ d. d.1) e); outcome = ap (λ d. d.0) e }

  pub is-own : (who : ℕ) → (not (eqb who conn) && true) ≡ false → who ≡ conn
  is-own who e = by (eqb who conn) refl e
    where
      by : (b : Bool) → eqb who conn ≡ b → (not b && true) ≡ false → who ≡ conn
      by true is e = eqb-true who conn is
      by false is e = absurd cc

  pub effect-seen : (c : Content) (who : ℕ) (request : Request) → IsOrdered c → is_unseen who request ≡ false → first_refusal (checks c who request) ≡ None → EffectSeen c who request
  unfolding effect checks
  effect-seen c who Attach o seen fine = same-effect c who Attach refl
  effect-seen c who Detach o seen fine = record {
    moves = let ended = closings-seen (handles_of c who) c (view conn c) (sym (view-twice conn c)) in
        let all = then-seen (closings c (handles_of c who)) (closings (view conn c) (map (masked conn) (handles_of c who))) (Leaves who ∷ []) c (view conn c) ended in
        subst (λ hs. SeenAs (closings c (handles_of c who) ++ Leaves who ∷ []) c (closings (view conn c) hs ++ Leaves who ∷ []) (view conn c)) (sym (handles-seen c who)) all;
    outcome = refl;
  }
  effect-seen c who (OpenRequest mode text) o seen fine = same-effect c who (OpenRequest mode text) refl
  effect-seen c who (Read handle size) o seen fine =
      let a = accepted c who handle (read_checks c size) o (behind (not (is_attached c who)) NotAttached (on_handle c who handle (read_checks c size)) fine) in
      same-effect c who (Read handle size) (rw (own-seen c who handle a.h a.is_own (a.is_who ∙ is-own who seen)) refl)
  effect-seen c who (Write handle bytes) o seen fine = same-effect c who (Write handle bytes) (by (own_handle c who handle) refl)
    where
      by : (f : Option (OpenHandle Progress)) → own_handle c who handle ≡ f → effect c who (Write handle bytes) ≡ effect (view conn c) who (Write handle bytes)
      by None e = rw (own-handle-seen c who handle, e) refl
      by (Some h) e = rw (own-handle-seen c who handle, e) refl
  effect-seen c who (Close handle) o seen fine = by (own_handle c who handle) refl
    where
      by : (f : Option (OpenHandle Progress)) → own_handle c who handle ≡ f → EffectSeen c who (Close handle)
      by None e = same-effect c who (Close handle) (rw (own-handle-seen c who handle, e) refl)
      by (Some h) e =
          let before : effect c who (Close handle) ≡ (Done, closing c h) = rw e refl in
          let after : effect (view conn c) who (Close handle) ≡ (Done, closing (view conn c) (masked conn h)) = rw (own-handle-seen c who handle, e) refl in
          record {
            moves = subst (λ (d : Outcome × List Move). SeenAs d.1 c (effect (view conn c) who (Close handle)).1 (view conn c)) (sym before)
                (subst (λ (d : Outcome × List Move). SeenAs (closing c h) c d.1 (view conn c)) (sym after) (closing-seen h c (view conn c) (sym (view-twice conn c))));
            outcome = ap (λ (d : Outcome × List Move). d.0) before ∙ sym (ap (λ (d : Outcome × List Move). d.0) after);
          }
  effect-seen c who (Unlink path) o seen fine = same-effect c who (Unlink path) refl
  effect-seen c who (Mkdir path) o seen fine = same-effect c who (Mkdir path) refl
  effect-seen c who (ListRequest path) o seen fine = same-effect c who (ListRequest path) refl
  effect-seen c who (Notify handle action code value) o seen fine =
      let a = accepted c who handle (notify_checks c action code) o (behind (not (is_attached c who)) NotAttached (on_handle c who handle (notify_checks c action code)) fine) in
      same-effect c who (Notify handle action code value) (rw (own-seen c who handle a.h a.is_own (a.is_who ∙ is-own who seen)) refl)
  effect-seen c who Receive o seen fine = same-effect c who Receive (ap (λ items. received who (first_of items)) (ap (queue_of c) (is-own who seen) ∙ sym (queue-seen c) ∙ ap (queue_of (view conn c)) (sym (is-own who seen))))
