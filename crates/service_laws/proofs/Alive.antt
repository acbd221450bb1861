-- A handle opens on an object that is alive, and for its kind.
use Rattle.std.proofs.Common.{◌≡◌, ℕ, Bool, true, false, cond, not, ◌&&◌, eqb, eqb-true, List, [], ◌∷◌, ◌++◌, Option, Some, None, Result, Ok, Err, refl, sym, ap, subst, ◌∙◌}
use Rattle.std.specs.Prelude.{find, is_some, option_map}
use Rattle.std.specs.Option.{option_map_or}
use Rattle.std.specs.List.{AllByRecursion, flat_map}
use Rattle.pps_types.specs.declared.event.Event.{Event}
use Rattle.pps_types.specs.declared.event.Request.{Request}
use Rattle.pps_types.specs.declared.event.Request.TheVariants.{Attach, Detach, Open as OpenRequest, Read, Write, Close, Unlink, Mkdir, List as ListRequest, Notify, Receive}
use Rattle.pps_types.specs.declared.event.Mode.{Mode}
use Rattle.pps_types.specs.declared.outcome.Outcome.{Outcome}
use Rattle.pps_types.specs.declared.outcome.Outcome.TheVariants.{Done, Opened as OpenedHandle}
use Rattle.pps_types.specs.declared.outcome.Item.{Item}
use Rattle.pps_types.specs.declared.outcome.Item.TheVariants.{ReadDone}
use Rattle.pps_types.specs.declared.refusal.Refusal.TheVariants.{BadHandle}
use Rattle.pps_types.specs.declared.record.Kind.{Kind}
use Rattle.pps_types.specs.Bytes.{is_empty}
use Rattle.pps_types.specs.declared.refusal.Refusal.{Refusal}
use Rattle.pps_types.specs.declared.record.Kind.TheVariants.{Deleted, Truncated, Dropped, Opened, Closed}
use Rattle.pps_types.specs.declared.handle_kind.HandleKind.{HandleKind}
use Rattle.pps_types.specs.declared.handle_kind.HandleKind.TheVariants.{Object as ObjectHandle, Directory as DirectoryHandle, Names as NamesHandle, Server as ServerHandle, Client as ClientHandle}
use Rattle.pps_types.specs.Names.{Path, place}
use Rattle.pps_types.specs.OpenText.{OpenSpec, open_text, path_text}
use Rattle.pps_types.specs.Text.{WriteText, write_text}
use Rattle.pps_types.specs.Outbox.{first_of}
use Rattle.pps_types.specs.Reading.{OpenHandle, is_directory_kind, Answer, Everything, Blocks, Needs, TargetGone, Waits, Nothing}
use Rattle.pps_types.specs.Rests.{Progress}
use Rattle.pps_types.specs.Content.{Object, Directory, LiveObject, Content, at, directory_at, object_at, object_numbered, handles_of, is_attached, queue_of, news, read_answer, own_handle}
use Rattle.pps_types.specs.Checks.{Refuse, Memory, first_refusal, parsed, all_checks, name_checks, open_checks, letters_fit, mode_fits, checks}
use Rattle.pps_types.specs.Plan.{Move, Leaves, Creates, AppendsRecord, Opens, Closes, Queues, on_target, written_kind, writing, parting, closing, read_effect, settling_handle, fired, late_replies, late_reply, had_news, apply_seen, apply_all_seen, entry_of, new_object, new_handle, kind_opened, found_object, opening, closings, unlinking, received, with_result, effect, settling, all_checks_of, passes_last_number, decided, plan}
use Rattle.pps_types.specs.WellFormed.{server_of}
use Rattle.pps_types.specs.Machine.{is_for, IsOfAlive, IsAlive, AreAlive}
use Rattle.service_laws.proofs.Settlings.{all-append, all-or, all-cond}
use Rattle.service_laws.proofs.Finds.{find-true}
use Rattle.service_laws.proofs.Fits.{Order}
use Rattle.service_laws.proofs.Holders.{Basis, basis-after}
use Rattle.service_laws.proofs.Passes.{all-kind, behind, passes-both, not-false}
use Rattle.service_laws.proofs.Servers.{last-server}
use Rattle.service_laws.proofs.Serving.{at-own, kept-server}

-- moves that open no handle and tell nothing but that an object is created
abbrev IsSilent : Move → Type 0
IsSilent x = (c : Content) → IsAlive c x

abbrev AreSilent : List Move → Type 0
AreSilent xs = AllByRecursion IsSilent xs

silent-alive : (xs : List Move) (c : Content) → AreSilent xs → AreAlive c xs
silent-alive [] c n = tt
silent-alive (x ∷ xs) c n = (n.0 c, silent-alive xs (apply_seen x c) n.1)

silent-flat : {X : Type 0} (f : X → List Move) → ((x : X) → AreSilent (f x)) → (xs : List X) → AreSilent (flat_map f xs)
silent-flat f p [] = tt
silent-flat f p (x ∷ xs) = all-append IsSilent (f x) (flat_map f xs) (p x) (silent-flat f p xs)

late_reply-silent : (h : OpenHandle Progress) (a : Answer) → AreSilent (late_reply h a)
late_reply-silent h (Everything text) = ((λ c. tt), ((λ c. tt), ((λ c. tt), tt)))
late_reply-silent h (Blocks count text) = ((λ c. tt), ((λ c. tt), ((λ c. tt), tt)))
late_reply-silent h (Needs need) = ((λ c. tt), ((λ c. tt), tt))
late_reply-silent h TargetGone = tt
late_reply-silent h Waits = tt
late_reply-silent h Nothing = tt

settling-silent : (before c : Content) → AreSilent (settling before c)
unfolding settling
settling-silent before c = silent-flat (settling_handle before c) (λ h. all-cond IsSilent (not (had_news before h) && news h) (fired h ++ late_replies c h) []
    (all-append IsSilent (fired h) (late_replies c h) (all-or IsSilent _ (λ pulse. ((λ c. tt), ((λ c. tt), tt))) h.armed) (all-or IsSilent _ (λ size. late_reply-silent h (read_answer c h size)) h.parked)) tt) c.handles

read-silent : (h : OpenHandle Progress) (size : ℕ) (a : Answer) → AreSilent (read_effect h size a).1
read-silent h size (Everything text) = ((λ c. tt), tt)
read-silent h size (Blocks count text) = ((λ c. tt), tt)
read-silent h size Waits = ((λ c. tt), tt)
read-silent h size (Needs need) = tt
read-silent h size TargetGone = tt
read-silent h size Nothing = tt

received-silent : (conn : ℕ) (i : Option Item) → AreSilent (received conn i).1
received-silent conn None = tt
received-silent conn (Some i) = ((λ c. tt), tt)

silent-outcome : {X : Type 0} (f : X → Outcome × List Move) → ((x : X) → AreSilent (f x).1) → (o : Option X) → AreSilent (option_map_or f o (Done, [])).1
silent-outcome f p None = tt
silent-outcome f p (Some x) = p x

-- ---- records of objects that are found

of-found : (c : Content) (o : LiveObject) (kind : Kind) (writer : Option ℕ) → object_numbered c o.object.number ≡ Some o → IsOfAlive c.objects (entry_of o.object kind writer)
of-found c o kind writer e = record { object = o; found = e; in_directory = refl; under_name = refl }

target-alive : (c d : Content) → d.objects ≡ c.objects → (h : OpenHandle Progress) (kind : Kind) (writer : Option ℕ) → AreAlive d (on_target c h kind writer)
target-alive c d same h kind writer = go (object_numbered c h.target) refl
  where
    go : (o : Option LiveObject) → object_numbered c h.target ≡ o → AreAlive d (option_map_or (λ (o : LiveObject). AppendsRecord (entry_of o.object kind writer) ∷ []) o [])
    go None f = tt
    go (Some o) f = (
      of-found d o kind writer
          (ap (λ os. find (λ (x : LiveObject). eqb x.object.number o.object.number) os) same ∙ ap (object_numbered c) (eqb-true o.object.number h.target (find-true (λ (x : LiveObject). eqb x.object.number h.target) c.objects o f)) ∙ f),
      tt,
    )

parting-alive : (c d : Content) → d.objects ≡ c.objects → (h : OpenHandle Progress) (k : HandleKind) → AreAlive d (parting c h k)
parting-alive c d same h ServerHandle = target-alive c d same h Deleted None
parting-alive c d same h ClientHandle = target-alive c d same h (Closed h.number) None
parting-alive c d same h NamesHandle = tt
parting-alive c d same h (ObjectHandle delta) = elim (h.options.critical && h.writes) as (λ b. AreAlive d (cond b (on_target c h Dropped None) [])) [ true ↦ target-alive c d same h Dropped None | false ↦ tt ]
parting-alive c d same h (DirectoryHandle delta) = tt

closing-alive : (c : Content) (h : OpenHandle Progress) → AreAlive c (closing c h)
closing-alive c h = (
  tt,
  elim (is_some h.parked) as (λ b. AreAlive (apply_seen (Closes h.number) c) ((cond b (Queues h.connection (ReadDone h.number (Err BadHandle)) ∷ []) []) ++ parting c h h.kind)) [
    | true ↦ (tt, parting-alive c (apply_seen (Queues h.connection (ReadDone h.number (Err BadHandle))) (apply_seen (Closes h.number) c)) refl h h.kind)
    | false ↦ parting-alive c (apply_seen (Closes h.number) c) refl h h.kind
  ],
)

writing-alive : (c : Content) (h : OpenHandle Progress) (text : WriteText) → AreAlive c (writing c h text)
writing-alive c h text = elim (is_empty text.lines) as (λ b. AreAlive c (cond b [] (on_target c h (written_kind c h h.kind text) (Some h.number)))) [ true ↦ tt | false ↦ target-alive c c refl h (written_kind c h h.kind text) (Some h.number) ]

pub alive-append : (xs ys : List Move) (c : Content) → AreAlive c xs → AreAlive (apply_all_seen xs c) ys → AreAlive c (xs ++ ys)
alive-append [] ys c f g = g
alive-append (x ∷ xs) ys c f g = (f.0, alive-append xs ys (apply_seen x c) f.1 g)

closings-alive : (hs : List (OpenHandle Progress)) (c : Content) → AreAlive c (closings c hs)
closings-alive [] c = tt
closings-alive (h ∷ hs) c = alive-append (closing c h) (closings (apply_all_seen (closing c h) c) hs) c (closing-alive c h) (closings-alive hs (apply_all_seen (closing c h) c))

directory-for : (k : HandleKind) (o : Option (Option ℕ)) → is_directory_kind k ≡ true → is_for k o ≡ true
directory-for ServerHandle o e = absurd (let h = e in cc)
directory-for ClientHandle o e = absurd (let h = e in cc)
directory-for (ObjectHandle d) o e = absurd (let h = e in cc)
directory-for (DirectoryHandle d) o e = refl
directory-for NamesHandle o e = refl

module _ (c : Content) (b : Basis c) (conn : ℕ) (mode : Mode) (spec : OpenSpec) where
  open-new-alive : (d : Content) → Order d → d.next_object ≡ c.next_object → (found : Option LiveObject) → spec.all ≡ false → (spec.options.server ≡ false → found ≡ None)
      → IsAlive (apply_seen (Creates (new_object c spec)) d) (Opens (new_handle c conn mode spec found))
  open-new-alive d r number found all only = go spec.options.server refl
    where
      H : OpenHandle (Unit {0})
      H = new_handle c conn mode spec found

      N : Object
      N = new_object c spec

      go : (v : Bool) → spec.options.server ≡ v → is_for H.kind (server_of (apply_seen (Creates N) d) H.target) ≡ true
      go true v = (λ i. is_for (kind i) (server_of (apply_seen (Creates N) d) (target i))) ∙ ap (is_for ServerHandle) (last-server d r N (sym number) ∙ ap (λ s. Some (cond s (Some c.next_handle) None)) v)
        where
          kind : H.kind ≡ ServerHandle
          kind = rw v refl

          target : H.target ≡ N.number
          target = rw (all, v) refl
      go false v = (λ i. is_for (kind i) (server_of (apply_seen (Creates N) d) (target i))) ∙ ap (is_for (ObjectHandle spec.options.delta)) (last-server d r N (sym number) ∙ ap (λ s. Some (cond s (Some c.next_handle) None)) v)
        where
          target : H.target ≡ N.number
          target = rw (only v, all, v) refl

          kind : H.kind ≡ ObjectHandle spec.options.delta
          kind = rw (only v, v, all) refl

  open-found-alive : spec.all ≡ false → (o : LiveObject) → object_at c spec.names ≡ Some o → AreAlive c (opening c conn mode spec (Some o))
  open-found-alive all o found = go spec.options.server refl (is_some o.object.server) refl mode.t
    where
      H : OpenHandle (Unit {0})
      H = new_handle c conn mode spec (Some o)

      own : object_numbered c o.object.number ≡ Some o
      own = at-own c b.order spec.names o found

      its : server_of c o.object.number ≡ Some o.object.server
      its = ap (option_map (λ (x : LiveObject). x.object.server)) own

      target : spec.options.server ≡ false → H.target ≡ o.object.number
      target v = rw (all, v) refl

      client : (k : Bool) → spec.options.server ≡ false → is_some o.object.server ≡ k → H.kind ≡ cond k ClientHandle (ObjectHandle spec.options.delta)
      client k v e = rw (v, all) (ap (λ b. cond b ClientHandle (ObjectHandle spec.options.delta)) e)

      may : (d : Content) → server_of d o.object.number ≡ server_of c o.object.number → spec.options.server ≡ false → (k : Bool) → is_some o.object.server ≡ k → is_for H.kind (server_of d H.target) ≡ true
      may d same v true e = (λ i. is_for (client true v e i) (server_of d (target v i))) ∙ ap (is_for ClientHandle) (same ∙ its) ∙ e
      may d same v false e = (λ i. is_for (client false v e i) (server_of d (target v i))) ∙ ap (is_for (ObjectHandle spec.options.delta)) (same ∙ its) ∙ ap not e

      go : (v : Bool) → spec.options.server ≡ v → (k : Bool) → is_some o.object.server ≡ k → (t : Bool)
          → AreAlive c (cond v (AppendsRecord (entry_of o.object Deleted None) ∷ Creates (new_object c spec) ∷ []) (cond k (AppendsRecord (entry_of o.object (Opened c.next_handle) None) ∷ []) (cond t (AppendsRecord (entry_of o.object Truncated None) ∷ []) [])) ++ Opens H ∷ [])
      go true v k e t = (of-found c o Deleted None own, (tt, (open-new-alive (apply_seen (AppendsRecord (entry_of o.object Deleted None)) c) (basis-after (AppendsRecord (entry_of o.object Deleted None) ∷ []) c b (tt, tt)).order refl (Some o) all (λ w. absurd (let no = sym w ∙ v in cc)), tt)))
      go false v true e t = (of-found c o (Opened c.next_handle) None own, (may (apply_seen (AppendsRecord (entry_of o.object (Opened c.next_handle) None)) c) (kept-server c (entry_of o.object (Opened c.next_handle) None) o.object.number refl) v true e, tt))
      go false v false e true = (of-found c o Truncated None own, (may (apply_seen (AppendsRecord (entry_of o.object Truncated None)) c) (kept-server c (entry_of o.object Truncated None) o.object.number refl) v false e, tt))
      go false v false e false = (may c refl v false e, tt)

  opening-alive : first_refusal (open_checks c mode spec) ≡ None → AreAlive c (opening c conn mode spec (found_object c spec))
  opening-alive p = by spec.all refl
    where
      fits : mode_fits mode spec ≡ true
      fits = not-false (mode_fits mode spec) (behind (not (mode_fits mode spec)) Refusal.BadMode (parsed (place (at c) spec.names) (λ found. cond spec.all (all_checks c found) (name_checks c mode spec found))) p).0

      at-name : spec.all ≡ false → (o : Option LiveObject) → object_at c spec.names ≡ o → AreAlive c (opening c conn mode spec o)
      at-name all None e = subst (λ a. AreAlive c (cond a [] (Creates (new_object c spec) ∷ []) ++ Opens (new_handle c conn mode spec None) ∷ [])) (sym all) (tt, (open-new-alive c b.order refl None all (λ v. refl), tt))
      at-name all (Some o) e = open-found-alive all o e

      by : (all : Bool) → spec.all ≡ all → AreAlive c (opening c conn mode spec (cond all None (object_at c spec.names)))
      by true all = subst (λ a. AreAlive c (cond a [] (Creates (new_object c spec) ∷ []) ++ Opens (new_handle c conn mode spec None) ∷ [])) (sym all) (directory-for (kind_opened spec None) _ (all-kind mode spec all fits), tt)
      by false all = at-name all (object_at c spec.names) refl

alive-outcome : {X : Type 0} (c : Content) (f : X → Outcome × List Move) → ((x : X) → AreAlive c (f x).1) → (o : Option X) → AreAlive c (option_map_or f o (Done, [])).1
alive-outcome c f p None = tt
alive-outcome c f p (Some x) = p x

alive-result : {X : Type 0} (c : Content) (f : X → Outcome × List Move) → ((x : X) → AreAlive c (f x).1) → (r : Result X Refusal) → AreAlive c (with_result r f).1
alive-result c f p (Err e) = tt
alive-result c f p (Ok x) = p x

unlinking-alive : (c : Content) → Order c → (names : Path) → AreAlive c (unlinking (object_at c names) (directory_at c names))
unlinking-alive c r names = go (object_at c names) refl (directory_at c names)
  where
    go : (o : Option LiveObject) → object_at c names ≡ o → (d : Option Directory) → AreAlive c (unlinking o d)
    go (Some o) e d = (of-found c o Deleted None (at-own c r names o e), tt)
    go None e (Some d) = (tt, tt)
    go None e None = tt

effect-alive : (c : Content) (conn : ℕ) (request : Request) → Basis c → first_refusal (checks c conn request) ≡ None → AreAlive c (effect c conn request).1
unfolding checks effect
effect-alive c conn Attach b p = (tt, tt)
effect-alive c conn Detach b p = alive-append (closings c (handles_of c conn)) (Leaves conn ∷ []) c (closings-alive (handles_of c conn) c) (tt, tt)
effect-alive c conn (OpenRequest mode text) b p = go (open_text text) rest.1
  where
    first : (not (is_attached c conn) ≡ false) × (first_refusal (Refuse (not (letters_fit mode)) Refusal.BadMode ∷ Memory ∷ parsed (open_text text) (open_checks c mode)) ≡ None)
    first = behind (not (is_attached c conn)) Refusal.NotAttached (Refuse (not (letters_fit mode)) Refusal.BadMode ∷ Memory ∷ parsed (open_text text) (open_checks c mode)) p

    rest : (not (letters_fit mode) ≡ false) × (first_refusal (parsed (open_text text) (open_checks c mode)) ≡ None)
    rest = behind (not (letters_fit mode)) Refusal.BadMode (Memory ∷ parsed (open_text text) (open_checks c mode)) first.1

    go : (r : Result OpenSpec Refusal) → first_refusal (parsed r (open_checks c mode)) ≡ None → AreAlive c (with_result r (λ spec. (OpenedHandle c.next_handle, opening c conn mode spec (found_object c spec)))).1
    go (Err r) q = tt
    go (Ok spec) q = opening-alive c b conn mode spec q
effect-alive c conn (Read handle size) b p = silent-alive _ c (silent-outcome _ (λ h. read-silent h size (read_answer c h size)) (own_handle c conn handle))
effect-alive c conn (Write handle bytes) b p = alive-outcome c _ (λ h. alive-result c _ (λ text. writing-alive c h text) (write_text bytes)) (own_handle c conn handle)
effect-alive c conn (Close handle) b p = alive-outcome c _ (λ h. closing-alive c h) (own_handle c conn handle)
effect-alive c conn (Unlink path) b p = alive-outcome c _ (λ names. unlinking-alive c b.order names) (path_text path)
effect-alive c conn (Mkdir path) b p = alive-outcome c _ (λ names. (tt, tt)) (path_text path)
effect-alive c conn (ListRequest path) b p = alive-outcome c _ (λ names. tt) (path_text path)
effect-alive c conn (Notify handle action code value) b p = alive-outcome c _ (λ h. (tt, tt)) (own_handle c conn handle)
effect-alive c conn Receive b p = silent-alive _ c (received-silent conn (first_of (queue_of c conn)))

pub plan-alive : (c : Content) (e : Event) → Basis c → AreAlive c (plan c e).1
unfolding plan
plan-alive c e b = by (first_refusal (all_checks_of c e)) refl
  where
    by : (r : Option Refusal) → first_refusal (all_checks_of c e) ≡ r → AreAlive c (decided c (effect c e.conn e.request) r).1
    by (Some r) is = tt
    by None is =
        let done = (effect c e.conn e.request).1 in
        let d = apply_all_seen done c in
        let passes = passes-both (checks c e.conn e.request) (Refuse (passes_last_number d) Refusal.TableFull ∷ []) is in
        alive-append done (settling c d) c (effect-alive c e.conn e.request b passes.0) (silent-alive (settling c d) d (settling-silent c d))
