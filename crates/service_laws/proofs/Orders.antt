-- Open handles stand in rising number, so each is found by its number; each event keeps that.
use Rattle.std.proofs.Common.{◌≡◌, ℕ, ◌+◌, ◌≤◌, ◌<◌, Bool, true, false, cond, not, ◌&&◌, eqb, eq-eqb, ne_eqb, List, [], ◌∷◌, ◌++◌, map, Option, Some, None, Result, Ok, Err, refl, sym, ap, subst, ◌∙◌, arith}
use Rattle.std.specs.Prelude.{find, is_some}
use Rattle.std.specs.Option.{option_map_or}
use Rattle.std.specs.List.{flat_map, AllByRecursion}
use Rattle.std.proofs.lemmas.List.{map-append}
use Rattle.pps_types.specs.declared.event.Event.{Event}
use Rattle.pps_types.specs.declared.event.Request.{Request}
use Rattle.pps_types.specs.declared.event.Request.TheVariants.{Attach, Detach, Open as OpenRequest, Read, Write, Close, Unlink, Mkdir, List as ListRequest, Notify, Receive}
use Rattle.pps_types.specs.declared.event.Mode.{Mode}
use Rattle.pps_types.specs.declared.outcome.Outcome.{Outcome}
use Rattle.pps_types.specs.declared.outcome.Outcome.TheVariants.{Done}
use Rattle.pps_types.specs.declared.outcome.Item.{Item}
use Rattle.pps_types.specs.declared.refusal.Refusal.{Refusal}
use Rattle.pps_types.specs.declared.record.Kind.{Kind}
use Rattle.pps_types.specs.declared.record.Kind.TheVariants.{Dropped}
use Rattle.pps_types.specs.declared.handle_kind.HandleKind.{HandleKind}
use Rattle.pps_types.specs.declared.handle_kind.HandleKind.TheVariants.{Object as ObjectHandle, Directory as DirectoryHandle, Names as NamesHandle, Server as ServerHandle, Client as ClientHandle}
use Rattle.pps_types.specs.OpenText.{OpenSpec, open_text, path_text}
use Rattle.pps_types.specs.Text.{WriteText, write_text}
use Rattle.pps_types.specs.Bytes.{is_empty}
use Rattle.pps_types.specs.History.{Entry}
use Rattle.pps_types.specs.Checks.{first_refusal}
use Rattle.pps_types.specs.Reading.{OpenHandle, reseen, style, Answer, Everything, Blocks, Needs, TargetGone, Waits, Nothing}
use Rattle.pps_types.specs.Rests.{Progress}
use Rattle.pps_types.specs.Outbox.{first_of}
use Rattle.pps_types.specs.Content.{Content, LiveObject, Directory, object_numbered, object_at, directory_at, handle_numbered, handles_of, queue_of, news, read_answer, own_handle}
use Rattle.pps_types.specs.Plan.{Move, Attaches, Leaves, Creates, AppendsRecord, Opens, Closes, CatchesUp, Advances, Parks, Arms, Queues, Takes, MakesDirectory, RemovesDirectory, without_first, on_numbered, offer, creation, caught_up, left, first_seen, apply_seen, apply_all_seen, effect, plan, decided, all_checks_of, settling, settling_handle, fired, late_replies, late_reply, opening, preparing, new_handle, writing, written_kind, on_target, closing, closings, parting, unlinking, received, read_effect, with_result, had_news, found_object, step_seen}
use Rattle.pps_types.specs.WellFormed.{RiseBetween}
use Rattle.pps_types.proofs.Lists.{all-weaken, all-push, all-without_first, map-without_first}
use Rattle.service_laws.proofs.Views.{Owns, Fits}
use Rattle.service_laws.proofs.Settlings.{all-append, all-or, all-cond, moves-append, AreFound}

-- ---- order

abbrev Rising : List ℕ → Type 0
Rising [] = Unit {0}
Rising (n ∷ ns) = AllByRecursion (λ k. n < k) ns × Rising ns

pub record Ordered (next : ℕ) (numbers : List ℕ) : Type 0 where
  pub rising : Rising numbers
  pub below : AllByRecursion (λ n. n < next) numbers

abbrev pub IsOrdered : Content → Type 0
IsOrdered c = Ordered c.next_handle (map (λ h. h.number) c.handles)

from-low : (low : ℕ) (ns : List ℕ) (high : ℕ) → RiseBetween low ns high → AllByRecursion (λ k. low ≤ k) ns
from-low low [] high r = tt
from-low low (n ∷ ns) high r = (r.0, all-weaken {P = λ k. n + 1 ≤ k} {Q = λ k. low ≤ k} (λ k le. omega (arith, le, r.0)) ns (from-low (n + 1) ns high r.1))

low-high : (low : ℕ) (ns : List ℕ) (high : ℕ) → RiseBetween low ns high → low ≤ high
low-high low [] high r = r
low-high low (n ∷ ns) high r = omega (arith, low-high (n + 1) ns high r.1, r.0)

of-rising : (low : ℕ) (ns : List ℕ) (high : ℕ) → RiseBetween low ns high → Ordered high ns
of-rising low [] high r = record { rising = tt; below = tt }
of-rising low (n ∷ ns) high r =
    let rest = of-rising (n + 1) ns high r.1 in
    record {
      rising = (all-weaken {P = λ k. n + 1 ≤ k} {Q = λ k. n < k} (λ k le. omega arith) ns (from-low (n + 1) ns high r.1), rest.rising);
      below = (omega (arith, low-high (n + 1) ns high r.1), rest.below);
    }

pub ordered : (c : Content) → RiseBetween 0 (map (λ h. h.number) c.handles) c.next_handle → IsOrdered c
ordered c r = of-rising 0 (map (λ h. h.number) c.handles) c.next_handle r

-- ---- numbers

abbrev numbers : List (OpenHandle Progress) → List ℕ
numbers hs = map (λ h. h.number) hs

numbers-on : (f : OpenHandle Progress → OpenHandle Progress) → ((h : OpenHandle Progress) → (f h).number ≡ h.number) → (n : ℕ) (hs : List (OpenHandle Progress)) → numbers (on_numbered n f hs) ≡ numbers hs
numbers-on f same n [] = refl
numbers-on f same n (h ∷ hs) = by (eqb h.number n) (numbers-on f same n hs)
  where
    by : (b : Bool) → numbers (on_numbered n f hs) ≡ numbers hs → numbers (cond b (f h ∷ hs) (h ∷ on_numbered n f hs)) ≡ h.number ∷ numbers hs
    by true rec = ap (λ k. k ∷ numbers hs) (same h)
    by false rec = ap (λ ks. h.number ∷ ks) rec

numbers-offered : (e : Entry) (hs : List (OpenHandle Progress)) → numbers (map (offer e) hs) ≡ numbers hs
numbers-offered e [] = refl
numbers-offered e (h ∷ hs) = ap (λ ks. h.number ∷ ks) (numbers-offered e hs)

rising-without : (test : ℕ → Bool) (ns : List ℕ) → Rising ns → Rising (without_first test ns)
rising-without test [] r = tt
rising-without test (n ∷ ns) r = elim (test n) as (λ b. Rising (cond b ns (n ∷ without_first test ns))) [ true ↦ r.1 | false ↦ (all-without_first (λ k. n < k) test ns r.0, rising-without test ns r.1) ]

rising-push : (n : ℕ) (ns : List ℕ) → Rising ns → AllByRecursion (λ k. k < n) ns → Rising (ns ++ n ∷ [])
rising-push n [] r below = (tt, tt)
rising-push n (k ∷ ns) r below = (all-push (λ j. k < j) ns n r.0 below.0, rising-push n ns r.1 below.1)

abbrev pub NotOpens : Move → Type 0
NotOpens (Opens h) = ⊥
NotOpens x = Unit {0}

same-numbers : (next : ℕ) {ns ks : List ℕ} → ns ≡ ks → Ordered next ks → Ordered next ns
same-numbers next e o = subst (λ ns. Ordered next ns) (sym e) o

order-move : (x : Move) (c : Content) → NotOpens x → IsOrdered c → IsOrdered (apply_seen x c)
order-move (Attaches to) c closed o = o
order-move (Leaves to) c closed o = o
order-move (Creates p) c closed o = same-numbers c.next_handle (numbers-offered (creation p) c.handles) o
order-move (AppendsRecord e) c closed o = same-numbers c.next_handle (numbers-offered e c.handles) o
order-move (Opens h) c closed o = absurd closed
order-move (Closes n) c closed o = same-numbers c.next_handle (map-without_first (λ h. h.number) (λ h. eqb h.number n) (λ k. eqb k n) (λ h. refl) c.handles)
    (record { rising = rising-without (λ k. eqb k n) (numbers c.handles) o.rising; below = all-without_first (λ k. k < c.next_handle) (λ k. eqb k n) (numbers c.handles) o.below })
order-move (CatchesUp n) c closed o = same-numbers c.next_handle (numbers-on (reseen caught_up) (λ h. refl) n c.handles) o
order-move (Advances n count) c closed o = same-numbers c.next_handle (numbers-on (reseen (λ h. left h count h.seen)) (λ h. refl) n c.handles) o
order-move (Parks n size) c closed o = same-numbers c.next_handle (numbers-on (λ h. record h { parked = size }) (λ h. refl) n c.handles) o
order-move (Arms n pulse) c closed o = same-numbers c.next_handle (numbers-on (λ h. record h { armed = pulse }) (λ h. refl) n c.handles) o
order-move (Queues to item) c closed o = o
order-move (Takes to) c closed o = o
order-move (MakesDirectory path) c closed o = o
order-move (RemovesDirectory n) c closed o = o

pub order-moves : (xs : List Move) (c : Content) → AllByRecursion NotOpens xs → IsOrdered c → IsOrdered (apply_all_seen xs c)
order-moves [] c closed o = o
order-moves (x ∷ xs) c closed o = order-moves xs (apply_seen x c) closed.1 (order-move x c closed.0 o)

order-opened : (h : OpenHandle (Unit {0})) (c : Content) → h.number ≡ c.next_handle → IsOrdered c → IsOrdered (apply_seen (Opens h) c)
order-opened h c is o =
    let next = all-push (λ n. n < c.next_handle + 1) (numbers c.handles) h.number (all-weaken {P = λ n. n < c.next_handle} {Q = λ n. n < c.next_handle + 1} (λ n lt. omega arith) (numbers c.handles) o.below) (omega arith) in
    same-numbers (c.next_handle + 1) (map-append (λ g. g.number) c.handles (reseen (λ h. first_seen h (style h.kind)) h ∷ []))
    (record { rising = rising-push h.number (numbers c.handles) o.rising (subst (λ n. AllByRecursion (λ k. k < n) (numbers c.handles)) (sym is) o.below); below = next })

-- ---- which moves open

all-flat : {X : Type 0} (f : X → List Move) → ((x : X) → AllByRecursion NotOpens (f x)) → (xs : List X) → AllByRecursion NotOpens (flat_map f xs)
all-flat f p [] = tt
all-flat f p (x ∷ xs) = all-append NotOpens (f x) (flat_map f xs) (p x) (all-flat f p xs)

late_reply-not : (h : OpenHandle Progress) (a : Answer) → AllByRecursion NotOpens (late_reply h a)
late_reply-not h (Everything text) = (tt, (tt, (tt, tt)))
late_reply-not h (Blocks count text) = (tt, (tt, (tt, tt)))
late_reply-not h (Needs need) = (tt, (tt, tt))
late_reply-not h TargetGone = tt
late_reply-not h Waits = tt
late_reply-not h Nothing = tt

settling-not : (before c : Content) → AllByRecursion NotOpens (settling before c)
unfolding settling
settling-not before c = all-flat (settling_handle before c) (λ h. all-cond NotOpens (not (had_news before h) && news h) (fired h ++ late_replies c h) []
    (all-append NotOpens (fired h) (late_replies c h) (all-or NotOpens _ (λ pulse. (tt, (tt, tt))) h.armed) (all-or NotOpens _ (λ size. late_reply-not h (read_answer c h size)) h.parked)) tt) c.handles

on_target-not : (c : Content) (h : OpenHandle Progress) (kind : Kind) (writer : Option ℕ) → AllByRecursion NotOpens (on_target c h kind writer)
on_target-not c h kind writer = all-or NotOpens _ (λ o. (tt, tt)) (object_numbered c h.target)

parting-not : (c : Content) (h : OpenHandle Progress) (k : HandleKind) → AllByRecursion NotOpens (parting c h k)
parting-not c h ServerHandle = on_target-not c h _ None
parting-not c h ClientHandle = on_target-not c h _ None
parting-not c h NamesHandle = tt
parting-not c h (ObjectHandle delta) = all-cond NotOpens (h.options.critical && h.writes) _ [] (on_target-not c h Dropped None) tt
parting-not c h (DirectoryHandle delta) = tt

closing-not : (c : Content) (h : OpenHandle Progress) → AllByRecursion NotOpens (closing c h)
closing-not c h = (tt, all-append NotOpens _ (parting c h h.kind) (all-cond NotOpens (is_some h.parked) _ [] (tt, tt) tt) (parting-not c h h.kind))

closings-not : (c : Content) (hs : List (OpenHandle Progress)) → AllByRecursion NotOpens (closings c hs)
closings-not c [] = tt
closings-not c (h ∷ hs) = all-append NotOpens (closing c h) (closings (apply_all_seen (closing c h) c) hs) (closing-not c h) (closings-not (apply_all_seen (closing c h) c) hs)

writing-not : (c : Content) (h : OpenHandle Progress) (text : WriteText) → AllByRecursion NotOpens (writing c h text)
writing-not c h text = all-cond NotOpens (is_empty text.lines) [] _ tt (on_target-not c h (written_kind c h h.kind text) (Some h.number))

pub preparing-not : (c : Content) (mode : Mode) (spec : OpenSpec) (found : Option LiveObject) → AllByRecursion NotOpens (preparing c mode spec found)
preparing-not c mode spec None = all-cond NotOpens spec.all [] _ tt (tt, tt)
preparing-not c mode spec (Some o) = all-cond NotOpens spec.options.server _ _ (tt, (tt, tt)) (all-cond NotOpens (is_some o.object.server) _ _ (tt, tt) (all-cond NotOpens mode.t _ [] (tt, tt) tt))

read_effect-not : (h : OpenHandle Progress) (size : ℕ) (a : Answer) → AllByRecursion NotOpens (read_effect h size a).1
read_effect-not h size (Everything text) = (tt, tt)
read_effect-not h size (Blocks count text) = (tt, tt)
read_effect-not h size Waits = (tt, tt)
read_effect-not h size (Needs need) = tt
read_effect-not h size TargetGone = tt
read_effect-not h size Nothing = tt

-- ---- the plan keeps P, where moves that open nothing do, and an opening does

module _ (P : List Move → Type 0) where
  of-outcome : {X : Type 0} (f : X → Outcome × List Move) → P [] → ((x : X) → P (f x).1) → (o : Option X) → P (option_map_or f o (Done, [])).1
  of-outcome f nil p None = nil
  of-outcome f nil p (Some x) = p x

  of-result : {X : Type 0} (f : X → Outcome × List Move) → P [] → ((x : X) → P (f x).1) → (r : Result X Refusal) → P (with_result r f).1
  of-result f nil p (Err e) = nil
  of-result f nil p (Ok x) = p x

  received-of : ((xs : List Move) → AllByRecursion NotOpens xs → P xs) → (conn : ℕ) (i : Option Item) → P (received conn i).1
  received-of not-opens conn None = not-opens [] tt
  received-of not-opens conn (Some i) = not-opens (_ ∷ []) (tt, tt)

  unlinking-of : ((xs : List Move) → AllByRecursion NotOpens xs → P xs) → (o : Option LiveObject) (d : Option Directory) → P (unlinking o d)
  unlinking-of not-opens (Some o) d = not-opens (_ ∷ []) (tt, tt)
  unlinking-of not-opens None (Some d) = not-opens (_ ∷ []) (tt, tt)
  unlinking-of not-opens None None = not-opens [] tt

  pub effect-of : (c : Content) (conn : ℕ) → ((xs : List Move) → AllByRecursion NotOpens xs → P xs)
      → ((mode : Mode) (spec : OpenSpec) → P (opening c conn mode spec (found_object c spec))) → (request : Request) → P (effect c conn request).1
  unfolding effect
  effect-of c conn not-opens opens Attach = not-opens (Attaches conn ∷ []) (tt, tt)
  effect-of c conn not-opens opens Detach = not-opens (closings c (handles_of c conn) ++ Leaves conn ∷ []) (all-append NotOpens (closings c (handles_of c conn)) (Leaves conn ∷ []) (closings-not c (handles_of c conn)) (tt, tt))
  effect-of c conn not-opens opens (OpenRequest mode text) = of-result _ (not-opens [] tt) (λ spec. opens mode spec) (open_text text)
  effect-of c conn not-opens opens (Read handle size) = of-outcome _ (not-opens [] tt) (λ h. not-opens (read_effect h size (read_answer c h size)).1 (read_effect-not h size (read_answer c h size))) (own_handle c conn handle)
  effect-of c conn not-opens opens (Write handle bytes) = of-outcome _ (not-opens [] tt) (λ h. of-result _ (not-opens [] tt) (λ text. not-opens (writing c h text) (writing-not c h text)) (write_text bytes)) (own_handle c conn handle)
  effect-of c conn not-opens opens (Close handle) = of-outcome _ (not-opens [] tt) (λ h. not-opens (closing c h) (closing-not c h)) (own_handle c conn handle)
  effect-of c conn not-opens opens (Unlink path) = of-outcome _ (not-opens [] tt) (λ names. unlinking-of not-opens (object_at c names) (directory_at c names)) (path_text path)
  effect-of c conn not-opens opens (Mkdir path) = of-outcome _ (not-opens [] tt) (λ names. not-opens (MakesDirectory names ∷ []) (tt, tt)) (path_text path)
  effect-of c conn not-opens opens (ListRequest path) = of-outcome _ (not-opens [] tt) (λ names. not-opens [] tt) (path_text path)
  effect-of c conn not-opens opens (Notify handle action code value) = of-outcome _ (not-opens [] tt) (λ h. not-opens (Arms h.number _ ∷ []) (tt, tt)) (own_handle c conn handle)
  effect-of c conn not-opens opens Receive = received-of not-opens conn (first_of (queue_of c conn))

next-move : (x : Move) (c : Content) → NotOpens x → (apply_seen x c).next_handle ≡ c.next_handle
next-move (Opens h) c closed = absurd closed
next-move (Attaches to) c closed = refl
next-move (Leaves to) c closed = refl
next-move (Creates p) c closed = refl
next-move (AppendsRecord e) c closed = refl
next-move (Closes n) c closed = refl
next-move (CatchesUp n) c closed = refl
next-move (Advances n count) c closed = refl
next-move (Parks n size) c closed = refl
next-move (Arms n pulse) c closed = refl
next-move (Queues to item) c closed = refl
next-move (Takes to) c closed = refl
next-move (MakesDirectory path) c closed = refl
next-move (RemovesDirectory n) c closed = refl

next-moves : (xs : List Move) (c : Content) → AllByRecursion NotOpens xs → (apply_all_seen xs c).next_handle ≡ c.next_handle
next-moves [] c closed = refl
next-moves (x ∷ xs) c closed = next-moves xs (apply_seen x c) closed.1 ∙ next-move x c closed.0

order-opening : (c : Content) (conn : ℕ) (mode : Mode) (spec : OpenSpec) (found : Option LiveObject) → IsOrdered c → IsOrdered (apply_all_seen (opening c conn mode spec found) c)
order-opening c conn mode spec found o =
    let not-opens = preparing-not c mode spec found in
    subst IsOrdered (sym (moves-append (preparing c mode spec found) (Opens (new_handle c conn mode spec found) ∷ []) c))
    (order-opened (new_handle c conn mode spec found) (apply_all_seen (preparing c mode spec found) c) (sym (next-moves (preparing c mode spec found) c not-opens)) (order-moves (preparing c mode spec found) c not-opens o))

pub effect-order : (c : Content) (conn : ℕ) (request : Request) → IsOrdered c → IsOrdered (apply_all_seen (effect c conn request).1 c)
effect-order c conn request o = effect-of (λ xs. IsOrdered (apply_all_seen xs c)) c conn (λ xs closed. order-moves xs c closed o) (λ mode spec. order-opening c conn mode spec (found_object c spec) o) request

pub step-order : (c : Content) (e : Event) → IsOrdered c → IsOrdered (step_seen c e).1
unfolding step_seen plan
step-order c e o = by (first_refusal (all_checks_of c e))
  where
    by : (r : Option Refusal) → IsOrdered (apply_all_seen (decided c (effect c e.conn e.request) r).1 c)
    by (Some r) = o
    by None =
        let d = apply_all_seen (effect c e.conn e.request).1 c in
        subst IsOrdered (sym (moves-append (effect c e.conn e.request).1 (settling c d) c)) (order-moves (settling c d) d (settling-not c d) (effect-order c e.conn e.request o))

-- ---- each handle is found

found-more : (h : OpenHandle Progress) (hs gs : List (OpenHandle Progress)) → AllByRecursion (λ n. h.number < n) (numbers gs) → AllByRecursion (λ g. find (λ k. eqb k.number g.number) hs ≡ Some g) gs → AllByRecursion (λ g. find (λ k. eqb k.number g.number) (h ∷ hs) ≡ Some g) gs
found-more h hs [] lt all = tt
found-more h hs (g ∷ gs) lt all = (ap (λ b. cond b (Some h) (find (λ k. eqb k.number g.number) hs)) (ne_eqb h.number g.number (λ e. let l = lt.0 in absurd (omega arith))) ∙ all.0, found-more h hs gs lt.1 all.1)

found-all : (hs : List (OpenHandle Progress)) → Rising (numbers hs) → AllByRecursion (λ g. find (λ k. eqb k.number g.number) hs ≡ Some g) hs
found-all [] r = tt
found-all (h ∷ hs) r = (ap (λ b. cond b (Some h) (find (λ k. eqb k.number h.number) hs)) (eq-eqb h.number h.number refl), found-more h hs hs r.0 (found-all hs r.1))

pub found : (c : Content) → IsOrdered c → AreFound c c.handles
found c o = found-all c.handles o.rising

-- ---- whose each handle is, the next one too

module _ (conn : ℕ) (c : Content) (who : ℕ) where
  abbrev pub mine : ℕ → Bool
  mine n = cond (eqb n c.next_handle) (eqb who conn) (option_map_or (λ h. eqb h.connection conn) (handle_numbered c n) false)

  owns-all : (hs : List (OpenHandle Progress)) → AllByRecursion (λ n. n < c.next_handle) (numbers hs) → AreFound c hs → Owns conn mine hs
  owns-all [] lt all = tt
  owns-all (h ∷ hs) lt all = (
    sym (ap (λ b. cond b (eqb who conn) (option_map_or (λ g. eqb g.connection conn) (handle_numbered c h.number) false)) (ne_eqb h.number c.next_handle (λ e. let l = lt.0 in absurd (omega arith)))
        ∙ ap (λ f. option_map_or (λ g. eqb g.connection conn) f false) all.0),
    owns-all hs lt.1 all.1,
  )

  pub owns : IsOrdered c → Owns conn mine c.handles
  owns o = owns-all c.handles o.below (found c o)

  fits-not : (x : Move) → NotOpens x → Fits conn mine x
  fits-not (Opens h) closed = absurd closed
  fits-not (Attaches to) closed = tt
  fits-not (Leaves to) closed = tt
  fits-not (Creates p) closed = tt
  fits-not (AppendsRecord e) closed = tt
  fits-not (Closes n) closed = tt
  fits-not (CatchesUp n) closed = tt
  fits-not (Advances n count) closed = tt
  fits-not (Parks n size) closed = tt
  fits-not (Arms n pulse) closed = tt
  fits-not (Queues to item) closed = tt
  fits-not (Takes to) closed = tt
  fits-not (MakesDirectory path) closed = tt
  fits-not (RemovesDirectory n) closed = tt

  fit-not : (xs : List Move) → AllByRecursion NotOpens xs → AllByRecursion (Fits conn mine) xs
  fit-not [] closed = tt
  fit-not (x ∷ xs) closed = (fits-not x closed.0, fit-not xs closed.1)

  pub effect-fits : (request : Request) → AllByRecursion (Fits conn mine) (effect c who request).1
  effect-fits request = effect-of (AllByRecursion (Fits conn mine)) c who fit-not (λ mode spec. all-append (Fits conn mine) (preparing c mode spec (found_object c spec)) (Opens (new_handle c who mode spec (found_object c spec)) ∷ []) (fit-not (preparing c mode spec (found_object c spec)) (preparing-not c mode spec (found_object c spec)))
      (sym (ap (λ b. cond b (eqb who conn) (option_map_or (λ g. eqb g.connection conn) (handle_numbered c c.next_handle) false)) (eq-eqb c.next_handle c.next_handle refl)), tt)) request
