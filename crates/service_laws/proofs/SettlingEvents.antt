-- What every event's moves are, and what follows from them.
use Rattle.std.proofs.Common.{◌≡◌, ℕ, Bool, true, false, cond, not, ◌&&◌, List, [], ◌∷◌, ◌++◌, Option, Some, None, Result, Ok, Err, refl, sym, ap, ◌∙◌}
use Rattle.std.specs.Prelude.{filter, is_some, option_and_then}
use Rattle.std.specs.Option.{option_map_or}
use Rattle.std.specs.List.{flat_map, cons_option, AllByRecursion, list_any, list_all}
use Rattle.pps_types.specs.Bytes.{is_empty}
use Rattle.pps_types.specs.declared.refusal.Refusal.{Refusal}
use Rattle.pps_types.specs.declared.event.Mode.{Mode}
use Rattle.pps_types.specs.declared.event.Request.{Request}
use Rattle.pps_types.specs.declared.event.Request.TheVariants.{Attach, Detach, Open as OpenRequest, Read, Write, Close, Unlink, Mkdir, List as ListRequest, Notify, Receive}
use Rattle.pps_types.specs.declared.outcome.Outcome.{Outcome}
use Rattle.pps_types.specs.declared.outcome.Outcome.TheVariants.{Done}
use Rattle.pps_types.specs.declared.outcome.Item.{Item}
use Rattle.pps_types.specs.declared.record.Kind.{Kind}
use Rattle.pps_types.specs.declared.record.Kind.TheVariants.{Dropped}
use Rattle.pps_types.specs.declared.handle_kind.HandleKind.{HandleKind}
use Rattle.pps_types.specs.declared.handle_kind.HandleKind.TheVariants.{Object as ObjectHandle, Directory as DirectoryHandle, Names as NamesHandle, Server as ServerHandle, Client as ClientHandle}
use Rattle.pps_types.specs.OpenText.{OpenSpec, open_text, path_text}
use Rattle.pps_types.specs.Text.{write_text}
use Rattle.pps_types.specs.Outbox.{first_of}
use Rattle.pps_types.specs.Reading.{OpenHandle, style, visible, Answer, Everything, Blocks, Needs, TargetGone, Waits, Nothing}
use Rattle.pps_types.specs.Rests.{Progress}
use Rattle.pps_types.specs.Content.{Content, LiveObject, Directory, object_numbered, object_at, directory_at, own_handle, handles_of, queue_of, news, read_answer, is_waiting, learns}
use Rattle.pps_types.specs.WellFormed.{fits}
use Rattle.pps_types.specs.Plan.{Move, Attaches, Leaves, Creates, AppendsRecord, Opens, Closes, CatchesUp, Advances, Parks, Arms, Queues, Takes, MakesDirectory, RemovesDirectory, apply_seen, apply_all_seen, effect, settling, preparing, new_handle, written_kind, on_target, closing, closings, parting, unlinking, received, read_effect, with_result, found_object}
use Rattle.pps_types.proofs.Lists.{all-weaken}
use Rattle.service_laws.proofs.Finds.{and-both}
use Rattle.service_laws.proofs.Fits.{Fits, AreFit}
use Rattle.service_laws.proofs.Orders.{NotOpens, preparing-not, effect-of}
use Rattle.service_laws.proofs.Settlings.{all-append}
use Rattle.service_laws.specs.Told.{entries_told, handle_after, opened_by, handles_opened, HandlesRise, IsNumbered, AreNumbered, only_tells, closes_handle, is_woken}
use Rattle.service_laws.specs.SettlingMoves.{follows_in}
use Rattle.service_laws.proofs.SettlingLists.{flat_map-same, all-passing}
use Rattle.service_laws.proofs.SettlingHandles.{next_handle-by}
use Rattle.service_laws.proofs.Settling.{IsIdle, woken, settling-silent, settling-wakes}
use Rattle.service_laws.proofs.SettlingReplies.{woken-follows}

-- ---- handles that open have the next numbers

numbered-by : (x : Move) (c : Content) → Fits c x → IsNumbered c.next_handle (opened_by x)
numbered-by (Opens h) c f = f.0
numbered-by (Attaches conn) c f = tt
numbered-by (Leaves conn) c f = tt
numbered-by (Creates o) c f = tt
numbered-by (AppendsRecord e) c f = tt
numbered-by (Closes number) c f = tt
numbered-by (CatchesUp number) c f = tt
numbered-by (Advances number count) c f = tt
numbered-by (Parks number size) c f = tt
numbered-by (Arms number pulse) c f = tt
numbered-by (Queues conn item) c f = tt
numbered-by (Takes conn) c f = tt
numbered-by (MakesDirectory path) c f = tt
numbered-by (RemovesDirectory number) c f = tt

pub numbered-fit : (xs : List Move) (c : Content) → AreFit c xs → AreNumbered c.next_handle xs
numbered-fit [] c f = tt
numbered-fit (x ∷ xs) c f = (numbered-by x c f.0, rw (sym (next_handle-by c x)) (numbered-fit xs (apply_seen x c) f.1))

-- ---- the handle that an event opens waits for nothing

none-by : (x : Move) → NotOpens x → opened_by x ≡ None
none-by (Opens h) closed = absurd closed
none-by (Attaches conn) closed = refl
none-by (Leaves conn) closed = refl
none-by (Creates o) closed = refl
none-by (AppendsRecord e) closed = refl
none-by (Closes number) closed = refl
none-by (CatchesUp number) closed = refl
none-by (Advances number count) closed = refl
none-by (Parks number size) closed = refl
none-by (Arms number pulse) closed = refl
none-by (Queues conn item) closed = refl
none-by (Takes conn) closed = refl
none-by (MakesDirectory path) closed = refl
none-by (RemovesDirectory number) closed = refl

opened-append : (xs ys : List Move) → AllByRecursion NotOpens xs → handles_opened (xs ++ ys) ≡ handles_opened ys
opened-append [] ys closed = refl
opened-append (x ∷ xs) ys closed = ap (λ o. cons_option (option_and_then (handle_after (xs ++ ys)) o) (handles_opened (xs ++ ys))) (none-by x closed.0) ∙ opened-append xs ys closed.1

none-opened : (xs : List Move) → AllByRecursion NotOpens xs → handles_opened xs ≡ []
none-opened [] closed = refl
none-opened (x ∷ xs) closed = ap (λ o. cons_option (option_and_then (handle_after xs) o) (handles_opened xs)) (none-by x closed.0) ∙ none-opened xs closed.1

abbrev NoneWaits : List Move → Type 0
NoneWaits xs = AllByRecursion IsIdle (handles_opened xs)

pub effect-quiet : (c : Content) (conn : ℕ) (request : Request) → NoneWaits (effect c conn request).1
effect-quiet c conn request = effect-of NoneWaits c conn (λ xs closed. rw (none-opened xs closed) tt)
    (λ mode spec. rw (opened-append (preparing c mode spec (found_object c spec)) (Opens (new_handle c conn mode spec (found_object c spec)) ∷ []) (preparing-not c mode spec (found_object c spec))) (refl, tt)) request

-- ---- what holds of each part of an effect holds of it

module _ (P : List Move → Type 0) where
  pub of-outcome : P [] → {X : Type 0} (f : X → Outcome × List Move) → ((x : X) → P (f x).1) → (o : Option X) → P (option_map_or f o (Done, [])).1
  of-outcome none f p None = none
  of-outcome none f p (Some x) = p x

  pub of-result : P [] → {X : Type 0} (f : X → Outcome × List Move) → ((x : X) → P (f x).1) → (r : Result X Refusal) → P (with_result r f).1
  of-result none f p (Err e) = none
  of-result none f p (Ok x) = p x

  pub of-option : P [] → {X : Type 0} (f : X → List Move) → ((x : X) → P (f x)) → (o : Option X) → P (option_map_or f o [])
  of-option none f p None = none
  of-option none f p (Some x) = p x

  pub of-either : (b : Bool) (xs ys : List Move) → P xs → P ys → P (cond b xs ys)
  of-either true xs ys p q = p
  of-either false xs ys p q = q

-- ---- each event's moves only tell, or tell nothing

abbrev IsTelling : Move → Type 0
IsTelling x = only_tells x ≡ true

abbrev AreTelling : List Move → Type 0
AreTelling xs = AllByRecursion IsTelling xs

telling-all : (xs : List Move) → AreTelling xs → list_all only_tells xs ≡ true
telling-all [] p = refl
telling-all (x ∷ xs) p = rw p.0 (telling-all xs p.1)

on_target-telling : (c : Content) (h : OpenHandle Progress) (kind : Kind) (writer : Option ℕ) → AreTelling (on_target c h kind writer)
on_target-telling c h kind writer = of-option AreTelling tt _ (λ o. (refl, tt)) (object_numbered c h.target)

parting-telling : (c : Content) (h : OpenHandle Progress) (k : HandleKind) → AreTelling (parting c h k)
parting-telling c h ServerHandle = on_target-telling c h _ None
parting-telling c h ClientHandle = on_target-telling c h _ None
parting-telling c h NamesHandle = tt
parting-telling c h (ObjectHandle delta) = of-either AreTelling (h.options.critical && h.writes) _ [] (on_target-telling c h Dropped None) tt
parting-telling c h (DirectoryHandle delta) = tt

closing-telling : (c : Content) (h : OpenHandle Progress) → AreTelling (closing c h)
closing-telling c h = (refl, all-append IsTelling _ (parting c h h.kind) (of-either AreTelling (is_some h.parked) _ [] (refl, tt) tt) (parting-telling c h h.kind))

closings-telling : (c : Content) (hs : List (OpenHandle Progress)) → AreTelling (closings c hs)
closings-telling c [] = tt
closings-telling c (h ∷ hs) = all-append IsTelling (closing c h) (closings (apply_all_seen (closing c h) c) hs) (closing-telling c h) (closings-telling (apply_all_seen (closing c h) c) hs)

preparing-telling : (c : Content) (mode : Mode) (spec : OpenSpec) (found : Option LiveObject) → AreTelling (preparing c mode spec found)
preparing-telling c mode spec None = of-either AreTelling spec.all [] _ tt (refl, tt)
preparing-telling c mode spec (Some o) = of-either AreTelling spec.options.server _ _ (refl, (refl, tt)) (of-either AreTelling (is_some o.object.server) _ _ (refl, tt) (of-either AreTelling mode.t _ [] (refl, tt) tt))

unlinking-telling : (o : Option LiveObject) (d : Option Directory) → AreTelling (unlinking o d)
unlinking-telling (Some o) d = (refl, tt)
unlinking-telling None (Some d) = (refl, tt)
unlinking-telling None None = tt

received-telling : (conn : ℕ) (i : Option Item) → AreTelling (received conn i).1
received-telling conn None = tt
received-telling conn (Some i) = (refl, tt)

-- the other kind: no record
abbrev IsSilent : List Move → Type 0
IsSilent xs = entries_told xs ≡ []

pub read_effect-silent : (h : OpenHandle Progress) (size : ℕ) (a : Answer) → entries_told (read_effect h size a).1 ≡ []
read_effect-silent h size (Everything text) = refl
read_effect-silent h size (Blocks count text) = refl
read_effect-silent h size Waits = refl
read_effect-silent h size (Needs need) = refl
read_effect-silent h size TargetGone = refl
read_effect-silent h size Nothing = refl

-- who wakes where no record is told
pub nobody : (ms : List Move) (hs : List (OpenHandle Progress)) → entries_told ms ≡ [] → filter (is_woken ms) hs ≡ []
nobody ms [] e = refl
nobody ms (h ∷ hs) e = ap (λ b. cond b (h ∷ filter (is_woken ms) hs) (filter (is_woken ms) hs)) (ap (λ es. is_waiting h && (not (news h) && list_any (visible h) es) && not (list_any (closes_handle h.number) ms)) e ∙ by (is_waiting h) (not (news h)) (not (list_any (closes_handle h.number) ms))) ∙ nobody ms hs e
  where
    by : (a b k : Bool) → (a && (b && false) && k) ≡ false
    by true true k = refl
    by true false k = refl
    by false b k = refl

abbrev Follows : Content → List Move → Type 0
Follows c ms = settling c (apply_all_seen ms c) ≡ flat_map (woken (apply_all_seen ms c) (entries_told ms)) (filter (is_woken ms) c.handles)

module _ (c : Content) (r : HandlesRise c) where
  follows-silent : (ms : List Move) → AreNumbered c.next_handle ms → NoneWaits ms → entries_told ms ≡ [] → Follows c ms
  follows-silent ms n quiet silent = settling-silent ms c r n quiet silent ∙ sym (ap (flat_map (woken (apply_all_seen ms c) (entries_told ms))) (nobody ms c.handles silent))

  follows-telling : (ms : List Move) → AreNumbered c.next_handle ms → NoneWaits ms → AreTelling ms → Follows c ms
  follows-telling ms n quiet tells = settling-wakes ms c r n quiet (telling-all ms tells)

  -- What follows from an event: what follows for each handle that it wakes, in rising number.
  pub event-follows : (conn : ℕ) (request : Request) → AreNumbered c.next_handle (effect c conn request).1 → NoneWaits (effect c conn request).1 → Follows c (effect c conn request).1
  unfolding effect
  event-follows conn Attach n q = follows-telling (Attaches conn ∷ []) n q (refl, tt)
  event-follows conn Detach n q = follows-telling _ n q (all-append IsTelling (closings c (handles_of c conn)) _ (closings-telling c (handles_of c conn)) (refl, tt))
  event-follows conn (OpenRequest mode text) n q =
      follows-telling _ n q (of-result AreTelling tt _ (λ spec. all-append IsTelling (preparing c mode spec (found_object c spec)) _ (preparing-telling c mode spec (found_object c spec)) (refl, tt)) (open_text text))
  event-follows conn (Read handle size) n q = follows-silent _ n q (of-outcome IsSilent refl _ (λ h. read_effect-silent h size (read_answer c h size)) (own_handle c conn handle))
  event-follows conn (Write handle bytes) n q =
      follows-telling _ n q
      (of-outcome AreTelling tt _ (λ h. of-result AreTelling tt _ (λ text. of-either AreTelling (is_empty text.lines) [] _ tt (on_target-telling c h (written_kind c h h.kind text) (Some h.number))) (write_text bytes)) (own_handle c conn handle))
  event-follows conn (Close handle) n q = follows-telling _ n q (of-outcome AreTelling tt _ (λ h. closing-telling c h) (own_handle c conn handle))
  event-follows conn (Unlink path) n q = follows-telling _ n q (of-outcome AreTelling tt _ (λ names. unlinking-telling (object_at c names) (directory_at c names)) (path_text path))
  event-follows conn (Mkdir path) n q = follows-telling _ n q (of-outcome AreTelling tt _ (λ names. (refl, tt)) (path_text path))
  event-follows conn (ListRequest path) n q = follows-telling _ n q (of-outcome AreTelling tt _ (λ names. tt) (path_text path))
  event-follows conn (Notify handle action code value) n q = follows-silent _ n q (of-outcome IsSilent refl _ (λ h. refl) (own_handle c conn handle))
  event-follows conn Receive n q = follows-telling _ n q (received-telling conn (first_of (queue_of c conn)))

-- ---- by the handles as they stood before

pub turned : (b : Bool) → not b ≡ true → b ≡ false
turned true e = absurd (let bad = e in cc)
turned false e = refl

pub woken-parts : (ms : List Move) (h : OpenHandle Progress) → is_woken ms h ≡ true → (is_waiting h ≡ true) × (news h ≡ false) × (list_any (visible h) (entries_told ms) ≡ true) × (list_any (closes_handle h.number) ms ≡ false)
woken-parts ms h e =
    let outer = and-both (is_waiting h && learns (entries_told ms) h) (not (list_any (closes_handle h.number) ms)) e in
    let inner = and-both (is_waiting h) (learns (entries_told ms) h) outer.0 in
    let seen = and-both (not (news h)) (list_any (visible h) (entries_told ms)) inner.1 in
    (inner.0, turned (news h) seen.0, seen.1, turned (list_any (closes_handle h.number) ms) outer.1)

pub woken-all : (c : Content) (ms : List Move) (d : Content) → AllByRecursion (λ h. fits (style h.kind) h.seen ≡ true) c.handles
    → flat_map (woken d (entries_told ms)) (filter (is_woken ms) c.handles) ≡ flat_map (follows_in d (entries_told ms)) (filter (is_woken ms) c.handles)
woken-all c ms d fit =
    flat_map-same (woken d (entries_told ms)) (follows_in d (entries_told ms)) (filter (is_woken ms) c.handles)
    (all-weaken {P = λ h. (is_woken ms h ≡ true) × (fits (style h.kind) h.seen ≡ true)} {Q = λ h. woken d (entries_told ms) h ≡ follows_in d (entries_told ms) h}
    (λ h is. let parts = woken-parts ms h is.0 in woken-follows d h (entries_told ms) is.1 parts.1 parts.2) (filter (is_woken ms) c.handles) (all-passing (λ h. fits (style h.kind) h.seen ≡ true) (is_woken ms) c.handles fit))
