-- Events that no check refuses keep servers with their objects.
use Rattle.std.proofs.Common.{◌≡◌, ◌≤◌, ◌<◌, ℕ, ◌+◌, Bool, true, false, cond, not, ◌&&◌, ◌||◌, eqb, eqb-true, eq-eqb, ne_eqb, List, [], ◌∷◌, ◌++◌, map, Option, Some, None, Result, Ok, Err, refl, sym, ap, subst, ◌∙◌, arith}
use Rattle.std.specs.Prelude.{find, filter, is_some, is_none, option_map, ok_or}
use Rattle.std.specs.Option.{option_map_or, option_or}
use Rattle.std.specs.List.{AllByRecursion, flat_map}
use Rattle.pps_types.specs.declared.event.Event.{Event}
use Rattle.pps_types.specs.declared.event.Request.{Request}
use Rattle.pps_types.specs.declared.event.Request.TheVariants.{Attach, Detach, Open as OpenRequest, Read, Write, Close, Unlink, Mkdir, List as ListRequest, Notify, Receive}
use Rattle.pps_types.specs.declared.event.Mode.{Mode}
use Rattle.pps_types.specs.declared.found.Found.{Found}
use Rattle.pps_types.specs.declared.found.Found.TheVariants.{Object as FoundObject, Directory as FoundDirectory}
use Rattle.pps_types.specs.declared.outcome.Outcome.{Outcome}
use Rattle.pps_types.specs.declared.outcome.Outcome.TheVariants.{Done, Opened as OpenedHandle}
use Rattle.pps_types.specs.declared.outcome.Item.{Item}
use Rattle.pps_types.specs.declared.outcome.Item.TheVariants.{ReadDone}
use Rattle.pps_types.specs.declared.refusal.Refusal.{Refusal}
use Rattle.pps_types.specs.declared.refusal.Refusal.TheVariants.{BadHandle}
use Rattle.pps_types.specs.declared.record.Kind.{Kind}
use Rattle.pps_types.specs.declared.record.Kind.TheVariants.{Truncated, Dropped, Deleted, Opened, Closed}
use Rattle.pps_types.specs.declared.handle_kind.HandleKind.{HandleKind}
use Rattle.pps_types.specs.declared.handle_kind.HandleKind.TheVariants.{Object as ObjectHandle, Directory as DirectoryHandle, Names as NamesHandle, Server as ServerHandle, Client as ClientHandle}
use Rattle.pps_types.specs.Bytes.{is_empty, ◌>>=◌}
use Rattle.pps_types.specs.History.{Entry}
use Rattle.pps_types.specs.Names.{Path, same_path, last_name, place, find_at, is_directory}
use Rattle.pps_types.specs.OpenText.{OpenSpec, open_text, path_text}
use Rattle.pps_types.specs.Text.{WriteText, write_text}
use Rattle.pps_types.specs.Outbox.{first_of}
use Rattle.pps_types.specs.Reading.{OpenHandle, reseen, is_directory_kind, Answer, Everything, Blocks, Needs, TargetGone, Waits, Nothing}
use Rattle.pps_types.specs.Rests.{Progress}
use Rattle.pps_types.specs.Content.{Object, Directory, LiveObject, Content, at, directory_at, object_at, object_numbered, handle_numbered, handles_of, has_object_handle, is_attached, queue_of, news, read_answer, own_handle}
use Rattle.pps_types.specs.Checks.{Refuse, Memory, first_refusal, parsed, is_server, Addressee, Everyone, OneClient, Nobody, addressee, found_as, is_used, handle_checks, object_checks, all_checks, name_checks, open_checks, letters_fit, mode_fits, on_path, unlink_checks, unlink_found, checks}
use Rattle.pps_types.specs.Plan.{Move, Leaves, Creates, AppendsRecord, Opens, Closes, Queues, apply_seen, apply_all_seen, touched, entry_of, offer, caught_up, left, new_object, new_handle, kind_opened, target_of, found_object, opening, sent, written_kind, writing, on_target, parting, closing, closings, unlinking, received, read_effect, with_result, effect, settling, settling_handle, fired, late_replies, late_reply, had_news, all_checks_of, passes_last_number, decided, plan, step_seen}
use Rattle.pps_types.specs.WellFormed.{RiseBetween, is_server_of, has_server, server_of, may_be_on}
use Rattle.pps_types.proofs.Lists.{all-without_first}
use Rattle.service_laws.proofs.Settlings.{all-append, all-or, all-cond, moves-append, find-map}
use Rattle.service_laws.proofs.Finds.{OfSome, all-both, all-imp, all-left, all-filter, all-find, find-true, find-without, none-all}
use Rattle.service_laws.proofs.Rising.{rising-lower, rising-above, none-left, found-each}
use Rattle.service_laws.proofs.Fits.{Order, Tree, safe-fit}
use Rattle.service_laws.proofs.Trees.{of_name, path-of}
use Rattle.service_laws.proofs.Holders.{Basis, basis-after}
use Rattle.service_laws.proofs.Servers.{MayBe, Users, Served, served-changed, is_deletion, server-offered, server-mono, served-happens, users-happens, served-stays, served-created, served-opened, served-server, last-server, touched-server}
use Rattle.service_laws.proofs.Passes.{object-found, all-kind, closing-safe, behind, passes-both, all-pass, place-at, not-false}

-- ---- moves that keep it wherever

abbrev IsCalm : Move → Type 0
IsCalm x = (c : Content) → Served c → Served (apply_seen x c)

abbrev AreCalm : List Move → Type 0
AreCalm xs = AllByRecursion IsCalm xs

calm-after : (xs : List Move) → AreCalm xs → (c : Content) → Served c → Served (apply_all_seen xs c)
calm-after [] calm c s = s
calm-after (x ∷ xs) calm c s = calm-after xs calm.1 (apply_seen x c) (calm.0 c s)

calm-catches : (n : ℕ) → IsCalm (Move.CatchesUp n)
calm-catches n c s = served-changed c n (reseen caught_up) (record { number = λ h. refl; kind = λ h. refl; target = λ h. refl }) s

calm-passes : (n count : ℕ) → IsCalm (Move.Advances n count)
calm-passes n count c s = served-changed c n (reseen (λ h. left h count h.seen)) (record { number = λ h. refl; kind = λ h. refl; target = λ h. refl }) s

calm-parks : (n : ℕ) (size : Option ℕ) → IsCalm (Move.Parks n size)
calm-parks n size c s = served-changed c n (λ h. record h { parked = size }) (record { number = λ h. refl; kind = λ h. refl; target = λ h. refl }) s

calm-arms : (n : ℕ) (pulse : Option (ℕ × ℕ)) → IsCalm (Move.Arms n pulse)
calm-arms n pulse c s = served-changed c n (λ h. record h { armed = pulse }) (record { number = λ h. refl; kind = λ h. refl; target = λ h. refl }) s

calm-target : (c : Content) (h : OpenHandle Progress) (kind : Kind) (writer : Option ℕ) → is_deletion kind ≡ false → AreCalm (on_target c h kind writer)
calm-target c h kind writer e = all-or IsCalm _ (λ o. ((λ d s. served-stays d (entry_of o.object kind writer) e s), tt)) (object_numbered c h.target)

late_reply-calm : (h : OpenHandle Progress) (a : Answer) → AreCalm (late_reply h a)
late_reply-calm h (Everything text) = (calm-catches h.number, (calm-parks h.number None, ((λ c s. s), tt)))
late_reply-calm h (Blocks count text) = (calm-passes h.number count, (calm-parks h.number None, ((λ c s. s), tt)))
late_reply-calm h (Needs need) = (calm-parks h.number None, ((λ c s. s), tt))
late_reply-calm h TargetGone = tt
late_reply-calm h Waits = tt
late_reply-calm h Nothing = tt

calm-flat : {X : Type 0} (f : X → List Move) → ((x : X) → AreCalm (f x)) → (xs : List X) → AreCalm (flat_map f xs)
calm-flat f p [] = tt
calm-flat f p (x ∷ xs) = all-append IsCalm (f x) (flat_map f xs) (p x) (calm-flat f p xs)

settling-calm : (before c : Content) → AreCalm (settling before c)
unfolding settling
settling-calm before c = calm-flat (settling_handle before c) (λ h. all-cond IsCalm (not (had_news before h) && news h) (fired h ++ late_replies c h) []
    (all-append IsCalm (fired h) (late_replies c h) (all-or IsCalm _ (λ pulse. (calm-arms h.number None, ((λ c s. s), tt))) h.armed) (all-or IsCalm _ (λ size. late_reply-calm h (read_answer c h size)) h.parked)) tt) c.handles

read-calm : (h : OpenHandle Progress) (size : ℕ) (a : Answer) → AreCalm (read_effect h size a).1
read-calm h size (Everything text) = (calm-catches h.number, tt)
read-calm h size (Blocks count text) = (calm-passes h.number count, tt)
read-calm h size Waits = (calm-parks h.number (Some size), tt)
read-calm h size (Needs need) = tt
read-calm h size TargetGone = tt
read-calm h size Nothing = tt

written-stays : (c : Content) (h : OpenHandle Progress) (k : HandleKind) (text : WriteText) → is_deletion (written_kind c h k text) ≡ false
written-stays c h ServerHandle text = by (addressee h.name text.header) _
  where
    by : (a : Addressee) (lines : List _) → is_deletion (sent a lines) ≡ false
    by Everyone lines = refl
    by (OneClient id) lines = refl
    by Nobody lines = refl
written-stays c h ClientHandle text = refl
written-stays c h NamesHandle text = refl
written-stays c h (ObjectHandle delta) text = refl
written-stays c h (DirectoryHandle delta) text = refl

writing-calm : (c : Content) (h : OpenHandle Progress) (text : WriteText) → AreCalm (writing c h text)
writing-calm c h text = all-cond IsCalm (is_empty text.lines) [] _ tt (calm-target c h (written_kind c h h.kind text) (Some h.number) (written-stays c h h.kind text))

calm-outcome : {X : Type 0} (f : X → Outcome × List Move) → ((x : X) → AreCalm (f x).1) → (o : Option X) → AreCalm (option_map_or f o (Done, [])).1
calm-outcome f p None = tt
calm-outcome f p (Some x) = p x

calm-result : {X : Type 0} (f : X → Outcome × List Move) → ((x : X) → AreCalm (f x).1) → (r : Result X Refusal) → AreCalm (with_result r f).1
calm-result f p (Err e) = tt
calm-result f p (Ok x) = p x

received-calm : (conn : ℕ) (i : Option Item) → AreCalm (received conn i).1
received-calm conn None = tt
received-calm conn (Some i) = ((λ c s. s), tt)

-- ---- Close

-- the handle stands, whatever else is known of it by now
record IsIn (c : Content) (h : OpenHandle Progress) : Type 0 where
  pub now : OpenHandle Progress
  pub found : handle_numbered c h.number ≡ Some now
  pub same_kind : now.kind ≡ h.kind
  pub same_target : now.target ≡ h.target

in-may : (c : Content) → Served c → (h : OpenHandle Progress) → IsIn c h → may_be_on h.kind h.number (server_of c h.target) ≡ true
in-may c s h i =
    let may = all-find (MayBe c) (λ g. eqb g.number h.number) c.handles i.now s.1 i.found in
    let own : i.now.number ≡ h.number = eqb-true i.now.number h.number (find-true (λ (g : OpenHandle Progress). eqb g.number h.number) c.handles i.now i.found) in
    sym (λ k. may_be_on (i.same_kind k) (own k) (server_of c (i.same_target k))) ∙ may

-- other numbers are found as before
closed-other : (c : Content) (n k : ℕ) (g : OpenHandle Progress) → handle_numbered c k ≡ Some g → eqb k n ≡ false → handle_numbered (apply_seen (Closes n) c) k ≡ Some g
closed-other c n k g e other =
    let own : g.number ≡ k = eqb-true g.number k (find-true (λ (h : OpenHandle Progress). eqb h.number k) c.handles g e) in
    find-without (λ (h : OpenHandle Progress). eqb h.number k) (λ h. eqb h.number n) c.handles g e (ap (λ m. eqb m n) own ∙ other)

closed-server : (c : Content) (n k t : ℕ) → is_server_of c t k ≡ true → eqb k n ≡ false → is_server_of (apply_seen (Closes n) c) t k ≡ true
closed-server c n k t e other = go (handle_numbered c k) refl e
  where
    go : (o : Option (OpenHandle Progress)) → handle_numbered c k ≡ o → option_map_or (λ h. is_server h.kind && eqb h.target t) o false ≡ true → is_server_of (apply_seen (Closes n) c) t k ≡ true
    go None f e = absurd (let h = e in cc)
    go (Some g) f e = ap (λ o. option_map_or (λ h. is_server h.kind && eqb h.target t) o false) (closed-other c n k g f other) ∙ e

-- a handle that is no server's goes
closed-plain : (c : Content) (h : OpenHandle Progress) → IsIn c h → is_server h.kind ≡ false → Served c → Served (apply_seen (Closes h.number) c)
closed-plain c h i plain s = (
  all-imp (λ (o : LiveObject). has_server c o.object ≡ true) (λ (o : LiveObject). has_server (apply_seen (Closes h.number) c) o.object ≡ true) (λ o. server-mono c (apply_seen (Closes h.number) c) (λ n t e. closed-server c h.number n t e (other n t e)) o.object) c.objects s.0,
  all-without_first (MayBe c) (λ g. eqb g.number h.number) c.handles s.1,
)
  where
    other : (n t : ℕ) → is_server_of c t n ≡ true → eqb n h.number ≡ false
    other n t e = ne_eqb n h.number (λ is.
        let no : is_server_of c t n ≡ false = ap (is_server_of c t) is ∙ ap (λ o. option_map_or (λ (g : OpenHandle Progress). is_server g.kind && eqb g.target t) o false) i.found ∙ ap (λ b. b && eqb i.now.target t) (ap is_server i.same_kind ∙ plain) in
        cc)

-- what is left where a server's handle has gone and its object has not yet
abbrev Parted : Content → OpenHandle Progress → Type 0
Parted d h = AllByRecursion (λ (o : LiveObject). eqb h.target o.object.number ≡ false → has_server d o.object ≡ true) d.objects
    × AllByRecursion (λ (g : OpenHandle Progress). MayBe d g × ((is_server g.kind && eqb h.target g.target) ≡ false)) d.handles

named-server : (k : HandleKind) (n t : ℕ) (o : Option (Option ℕ)) → is_server k ≡ true → may_be_on k n o ≡ true → o ≡ Some (Some n)
named-server ServerHandle n t (Some (Some s)) e p = ap (λ s. Some (Some s)) (eqb-true s n p)
named-server ServerHandle n t (Some None) e p = absurd (let h = p in cc)
named-server ServerHandle n t None e p = absurd (let h = p in cc)
named-server ClientHandle n t o e p = absurd (let h = e in cc)
named-server NamesHandle n t o e p = absurd (let h = e in cc)
named-server (ObjectHandle d) n t o e p = absurd (let h = e in cc)
named-server (DirectoryHandle d) n t o e p = absurd (let h = e in cc)

closed-parted : (c : Content) (h : OpenHandle Progress) → Order c → IsIn c h → is_server h.kind ≡ true → Served c → Parted (apply_seen (Closes h.number) c) h
closed-parted c h r i server s = (
  all-imp (λ (o : LiveObject). has_server c o.object ≡ true) (λ (o : LiveObject). eqb h.target o.object.number ≡ false → has_server after o.object ≡ true) one c.objects s.0,
  all-imp (λ (g : OpenHandle Progress). MayBe c g × (eqb g.number h.number ≡ false)) (λ (g : OpenHandle Progress). MayBe after g × ((is_server g.kind && eqb h.target g.target) ≡ false)) (λ g p. (p.0, two g p.0 p.1 (is_server g.kind) refl (eqb h.target g.target) refl)) after.handles
      (all-both _ _ after.handles (all-without_first (MayBe c) (λ g. eqb g.number h.number) c.handles s.1) (none-left (λ (g : OpenHandle Progress). g.number) h.number 0 c.next_handle c.handles r.0)),
)
  where
    after : Content
    after = apply_seen (Closes h.number) c

    named : server_of c h.target ≡ Some (Some h.number)
    named = named-server h.kind h.number h.target (server_of c h.target) server (in-may c s h i)

    one : (o : LiveObject) → has_server c o.object ≡ true → eqb h.target o.object.number ≡ false → has_server after o.object ≡ true
    one o has other = go o.object.server has
      where
        go : (k : Option ℕ) → option_map_or (is_server_of c o.object.number) k true ≡ true → option_map_or (is_server_of after o.object.number) k true ≡ true
        go None e = refl
        go (Some n) e = closed-server c h.number n o.object.number e (ne_eqb n h.number (λ is.
            let found : is_server_of c o.object.number n ≡ (is_server i.now.kind && eqb i.now.target o.object.number) = ap (is_server_of c o.object.number) is ∙ ap (λ f. option_map_or (λ (g : OpenHandle Progress). is_server g.kind && eqb g.target o.object.number) f false) i.found in
            let no : (is_server i.now.kind && eqb i.now.target o.object.number) ≡ (is_server h.kind && false) = (λ k. is_server (i.same_kind k) && (ap (λ t. eqb t o.object.number) i.same_target ∙ other) k) in
            let off : (is_server h.kind && false) ≡ false = ap (λ b. b && false) server in
            cc))

    two : (g : OpenHandle Progress) → MayBe c g → eqb g.number h.number ≡ false → (a : Bool) → is_server g.kind ≡ a → (b : Bool) → eqb h.target g.target ≡ b → (a && b) ≡ false
    two g may other false e b f = refl
    two g may other true e false f = refl
    two g may other true e true f =
        let mine : server_of c g.target ≡ Some (Some g.number) = named-server g.kind g.number g.target (server_of c g.target) e may in
        let same : Some (Some h.number) ≡ Some (Some g.number) = sym named ∙ ap (server_of c) (eqb-true h.target g.target f) ∙ mine in
        let own : h.number ≡ g.number = cc in
        let yes : eqb g.number h.number ≡ true = eq-eqb g.number h.number (sym own) in
        absurd (let no = other in cc)

-- and its object goes
parted-served : (d : Content) (h : OpenHandle Progress) (o : Object) → o.number ≡ h.target → Parted d h → Served (apply_seen (AppendsRecord (entry_of o Deleted None)) d)
parted-served d h o own p = (
  all-left (λ (x : LiveObject). eqb h.target x.object.number ≡ false → has_server d x.object ≡ true) (λ (x : LiveObject). has_server after x.object ≡ true) (touched e) one d.objects p.0,
  users-happens d e (all-imp (λ (g : OpenHandle Progress). MayBe d g × ((is_server g.kind && eqb h.target g.target) ≡ false)) (λ (g : OpenHandle Progress). MayBe d g × ((is_server g.kind && (eqb e.record_of.object g.target && is_deletion e.record_of.kind)) ≡ false)) (λ g q. (q.0, by (is_server g.kind) (eqb o.number g.target) (eqb h.target g.target) (ap (λ n. eqb n g.target) own) q.1)) d.handles p.1),
)
  where
    e : Entry
    e = entry_of o Deleted None

    after : Content
    after = apply_seen (AppendsRecord e) d

    one : (x : LiveObject) → (eqb h.target x.object.number ≡ false → has_server d x.object ≡ true) → OfSome (λ (x : LiveObject). has_server after x.object ≡ true) (touched e x)
    one x has = go (eqb o.number x.object.number) refl
      where
        go : (b : Bool) → eqb o.number x.object.number ≡ b → OfSome (λ (x : LiveObject). has_server after x.object ≡ true) (cond b None (Some x))
        go true f = tt
        go false f = server-mono d after (λ n t q. server-offered d e n t ∙ q) x.object (has (ap (λ n. eqb n x.object.number) (sym own) ∙ f))

    by : (a b t : Bool) → b ≡ t → (a && t) ≡ false → (a && (b && true)) ≡ false
    by false b t e f = refl
    by true false t e f = refl
    by true true true e f = f
    by true true false e f = absurd (let h = e in cc)

-- ---- the whole close

served-target : (c : Content) (h : OpenHandle Progress) (d : Content) → Parted d h → (o : Option LiveObject) → object_numbered c h.target ≡ o → is_some o ≡ true → Served (apply_all_seen (option_map_or (λ (o : LiveObject). AppendsRecord (entry_of o.object Deleted None) ∷ []) o []) d)
served-target c h d p None f some = absurd (let no = some in cc)
served-target c h d p (Some o) f some = parted-served d h o.object (eqb-true o.object.number h.target (find-true (λ (x : LiveObject). eqb x.object.number h.target) c.objects o f)) p

closing-by : (c : Content) (h : OpenHandle Progress) → Order c → Served c → IsIn c h → (k : HandleKind) → h.kind ≡ k → (q : List Move) → ((d : Content) → Served d → Served (apply_all_seen q d)) → ((d : Content) → Parted d h → Parted (apply_all_seen q d) h)
    → Served (apply_all_seen (parting c h k) (apply_all_seen q (apply_seen (Closes h.number) c)))
closing-by c h r s i ServerHandle e q keeps parts =
    served-target c h (apply_all_seen q (apply_seen (Closes h.number) c)) (parts (apply_seen (Closes h.number) c) (closed-parted c h r i (ap is_server e) s)) (object_numbered c h.target) refl (stands (object_numbered c h.target) (named-server h.kind h.number h.target (server_of c h.target) (ap is_server e) (in-may c s h i)))
  where
    stands : (o : Option LiveObject) → option_map (λ (o : LiveObject). o.object.server) o ≡ Some (Some h.number) → is_some o ≡ true
    stands None f = absurd (let no = f in cc)
    stands (Some o) f = refl
closing-by c h r s i ClientHandle e q keeps parts = calm-after (on_target c h (Closed h.number) None) (calm-target c h (Closed h.number) None refl) _ (keeps _ (closed-plain c h i (ap is_server e) s))
closing-by c h r s i NamesHandle e q keeps parts = keeps _ (closed-plain c h i (ap is_server e) s)
closing-by c h r s i (DirectoryHandle delta) e q keeps parts = keeps _ (closed-plain c h i (ap is_server e) s)
closing-by c h r s i (ObjectHandle delta) e q keeps parts =
    calm-after (cond (h.options.critical && h.writes) (on_target c h Dropped None) []) (all-cond IsCalm (h.options.critical && h.writes) (on_target c h Dropped None) [] (calm-target c h Dropped None refl) tt) _ (keeps _ (closed-plain c h i (ap is_server e) s))

closing-served : (c : Content) (h : OpenHandle Progress) → Order c → Served c → IsIn c h → Served (apply_all_seen (closing c h) c)
closing-served c h r s i = go (is_some h.parked)
  where
    queue : Bool → List Move
    queue b = cond b (Queues h.connection (ReadDone h.number (Err BadHandle)) ∷ []) []

    go : (b : Bool) → Served (apply_all_seen ((cond b (Queues h.connection (ReadDone h.number (Err BadHandle)) ∷ []) []) ++ parting c h h.kind) (apply_seen (Closes h.number) c))
    go true = closing-by c h r s i h.kind refl (Queues h.connection (ReadDone h.number (Err BadHandle)) ∷ []) (λ d s. s) (λ d p. p)
    go false = closing-by c h r s i h.kind refl [] (λ d s. s) (λ d p. p)

-- others stand as before
abbrev IsLoose : Move → Type 0
IsLoose x = (c : Content) (h : OpenHandle Progress) → IsIn c h → IsIn (apply_seen x c) h

loose-after : (xs : List Move) → AllByRecursion IsLoose xs → (c : Content) (h : OpenHandle Progress) → IsIn c h → IsIn (apply_all_seen xs c) h
loose-after [] loose c h i = i
loose-after (x ∷ xs) loose c h i = loose-after xs loose.1 (apply_seen x c) h (loose.0 c h i)

loose-happens : (e : Entry) → IsLoose (AppendsRecord e)
loose-happens e c h i = record {
  now = offer e i.now;
  found = find-map (offer e) (λ g. eqb g.number h.number) (λ g. refl) c.handles ∙ ap (option_map (offer e)) i.found;
  same_kind = i.same_kind;
  same_target = i.same_target;
}

loose-queues : (conn : ℕ) (item : Item) → IsLoose (Queues conn item)
loose-queues conn item c h i = record { now = i.now; found = i.found; same_kind = i.same_kind; same_target = i.same_target }

loose-target : (c : Content) (h : OpenHandle Progress) (kind : Kind) (writer : Option ℕ) → AllByRecursion IsLoose (on_target c h kind writer)
loose-target c h kind writer = all-or IsLoose _ (λ o. (loose-happens (entry_of o.object kind writer), tt)) (object_numbered c h.target)

loose-parting : (c : Content) (h : OpenHandle Progress) (k : HandleKind) → AllByRecursion IsLoose (parting c h k)
loose-parting c h ServerHandle = loose-target c h _ None
loose-parting c h ClientHandle = loose-target c h _ None
loose-parting c h NamesHandle = tt
loose-parting c h (ObjectHandle delta) = all-cond IsLoose (h.options.critical && h.writes) _ [] (loose-target c h Dropped None) tt
loose-parting c h (DirectoryHandle delta) = tt

closing-in : (c : Content) (h g : OpenHandle Progress) → h.number < g.number → IsIn c g → IsIn (apply_all_seen (closing c h) c) g
closing-in c h g lt i = loose-after ((cond (is_some h.parked) (Queues h.connection (ReadDone h.number (Err BadHandle)) ∷ []) []) ++ parting c h h.kind)
    (all-append IsLoose _ (parting c h h.kind) (all-cond IsLoose (is_some h.parked) (Queues h.connection (ReadDone h.number (Err BadHandle)) ∷ []) [] (loose-queues h.connection (ReadDone h.number (Err BadHandle)), tt) tt) (loose-parting c h h.kind))
    (apply_seen (Closes h.number) c) g
    (record { now = i.now; found = closed-other c h.number g.number i.now i.found (ne_eqb g.number h.number (λ is. absurd (omega arith))); same_kind = i.same_kind; same_target = i.same_target })

closings-served : (hs : List (OpenHandle Progress)) (c : Content) (low high : ℕ) → Basis c → Served c → RiseBetween low (map (λ (h : OpenHandle Progress). h.number) hs) high → AllByRecursion (IsIn c) hs → Served (apply_all_seen (closings c hs) c)
closings-served [] c low high b s r all = s
closings-served (h ∷ hs) c low high b s r all =
    let next = apply_all_seen (closing c h) c in
    subst Served (sym (moves-append (closing c h) (closings next hs) c))
    (closings-served hs next (h.number + 1) high (basis-after (closing c h) c b (safe-fit (closing c h) c (closing-safe c h))) (closing-served c h b.order s all.0) r.1
    (all-imp (λ (g : OpenHandle Progress). (h.number + 1 ≤ g.number) × IsIn c g) (IsIn next) (λ g p. closing-in c h g (let le = p.0 in omega arith) p.1) hs (all-both _ _ hs (rising-above (λ (h : OpenHandle Progress). h.number) (h.number + 1) high hs r.1) all.1)))

rising-filter : (test : OpenHandle Progress → Bool) (low high : ℕ) (xs : List (OpenHandle Progress)) → RiseBetween low (map (λ (h : OpenHandle Progress). h.number) xs) high → RiseBetween low (map (λ (h : OpenHandle Progress). h.number) (filter test xs)) high
rising-filter test low high [] r = r
rising-filter test low high (x ∷ xs) r = elim (test x) as (λ b. RiseBetween low (map (λ (h : OpenHandle Progress). h.number) (cond b (x ∷ filter test xs) (filter test xs))) high)
    [ true ↦ (r.0, rising-filter test (x.number + 1) high xs r.1) | false ↦ rising-lower (x.number + 1) low high (map (λ (h : OpenHandle Progress). h.number) (filter test xs)) (omega (arith, r.0)) (rising-filter test (x.number + 1) high xs r.1) ]

leaving-served : (c : Content) (conn : ℕ) → Basis c → Served c → Served (apply_all_seen (closings c (handles_of c conn) ++ Leaves conn ∷ []) c)
leaving-served c conn b s = subst Served (sym (moves-append (closings c (handles_of c conn)) (Leaves conn ∷ []) c))
    (closings-served (handles_of c conn) c 0 c.next_handle b s (rising-filter (λ h. eqb h.connection conn) 0 c.next_handle c.handles b.order.0)
    (all-filter (IsIn c) (λ h. eqb h.connection conn) c.handles (all-imp (λ (h : OpenHandle Progress). handle_numbered c h.number ≡ Some h) (IsIn c) (λ h e. record { now = h; found = e; same_kind = refl; same_target = refl }) c.handles (found-each (λ (h : OpenHandle Progress). h.number) 0 c.next_handle c.handles b.order.0))))

-- ---- Unlink

-- an object that is found is found by its number
object-own : (c : Content) → Order c → (test : LiveObject → Bool) (o : LiveObject) → find test c.objects ≡ Some o → object_numbered c o.object.number ≡ Some o
object-own c r test o e = all-find (λ (x : LiveObject). object_numbered c x.object.number ≡ Some x) test c.objects o (found-each (λ (x : LiveObject). x.object.number) 0 c.next_object c.objects r.1) e

pub at-own : (c : Content) → Order c → (names : Path) (o : LiveObject) → object_at c names ≡ Some o → object_numbered c o.object.number ≡ Some o
at-own c r names o e = let f = object-found c names o e in object-own c r (of_name (last_name names) f.0) o f.2

-- no server's handle is on it
abbrev Unserved : Content → ℕ → Type 0
Unserved c t = AllByRecursion (λ (h : OpenHandle Progress). (is_server h.kind && (eqb t h.target && true)) ≡ false) c.handles

deleted-served : (c : Content) (o : LiveObject) → Served c → Unserved c o.object.number → Served (apply_seen (AppendsRecord (entry_of o.object Deleted None)) c)
deleted-served c o s none = served-happens c (entry_of o.object Deleted None) s.0 (all-both _ _ c.handles s.1 none)

plain-unserved : (c : Content) (o : LiveObject) → object_numbered c o.object.number ≡ Some o → is_some o.object.server ≡ false → Users c → Unserved c o.object.number
plain-unserved c o own plain users = all-imp (MayBe c) (λ (h : OpenHandle Progress). (is_server h.kind && (eqb o.object.number h.target && true)) ≡ false) (λ h may. go h may (is_server h.kind) refl (eqb o.object.number h.target) refl) c.handles users
  where
    go : (h : OpenHandle Progress) → MayBe c h → (a : Bool) → is_server h.kind ≡ a → (b : Bool) → eqb o.object.number h.target ≡ b → (a && (b && true)) ≡ false
    go h may false e b f = refl
    go h may true e false f = refl
    go h may true e true f =
        let named = named-server h.kind h.number h.target (server_of c h.target) e may in
        let its : server_of c o.object.number ≡ Some o.object.server = ap (option_map (λ (x : LiveObject). x.object.server)) own in
        let same : Some o.object.server ≡ Some (Some h.number) = sym its ∙ ap (server_of c) (eqb-true o.object.number h.target f) ∙ named in
        let is : o.object.server ≡ Some h.number = cc in
        let yes : is_some o.object.server ≡ true = ap is_some is in
        absurd (let no = plain in cc)

-- a directory and an object are not under one path
not-directory-too : (c : Content) → Tree c → (names : Path) (o : LiveObject) → object_at c names ≡ Some o → directory_at c names ≡ None
not-directory-too c t names o e = go (directory_at c names) refl
  where
    go : (d : Option Directory) → directory_at c names ≡ d → d ≡ None
    go None f = refl
    go (Some d) f = absurd (let free : object_at c d.path ≡ None = all-find (λ (d : Directory). object_at c d.path ≡ None) (λ d. same_path d.path names) c.directories d t.3 f in
        let none : object_at c names ≡ None = ap (object_at c) (sym (path-of c names d f)) ∙ free in
        let no = sym none ∙ e in cc)

found-object-is : (c : Content) (names : Path) (o : LiveObject) → directory_at c names ≡ None → object_at c names ≡ Some o → at c names ≡ Some (FoundObject o.object.number)
found-object-is c names o e f = λ i. option_or (option_map (λ (d : Directory). FoundDirectory d.number) (e i)) (option_map (λ (o : LiveObject). FoundObject o.object.number) (f i))

unlink-served : (c : Content) (names : Path) → Basis c → Served c → first_refusal (unlink_checks c names) ≡ None → Served (apply_all_seen (unlinking (object_at c names) (directory_at c names)) c)
unlink-served c names b s p = go (object_at c names) refl (directory_at c names)
  where
    tests : (is_empty names ≡ false) × (first_refusal (parsed (find_at (at c) names) (unlink_found c names)) ≡ None)
    tests = behind (is_empty names) Refusal.Busy (parsed (find_at (at c) names) (unlink_found c names)) p

    plain : (o : LiveObject) → object_at c names ≡ Some o → is_some o.object.server ≡ false
    plain o e = by (place (at c) names) refl tests.1
      where
        with : (found : Option Found) → found ≡ Some (FoundObject o.object.number) → first_refusal (parsed (ok_or found Refusal.NotFound) (unlink_found c names)) ≡ None → is_some o.object.server ≡ false
        with found is q =
            let now : first_refusal (unlink_found c names (FoundObject o.object.number)) ≡ None = rw is at q in
            let pass = all-pass (unlink_found c names (FoundObject o.object.number)) now in
            ap (λ f. option_map_or (λ (o : LiveObject). is_some o.object.server) f false) (sym (at-own c b.order names o e)) ∙ pass.0

        by : (r : Result (Option Found) Refusal) → place (at c) names ≡ r → first_refusal (parsed (r >>= (λ found. ok_or found Refusal.NotFound)) (unlink_found c names)) ≡ None → is_some o.object.server ≡ false
        by (Err r) f q = absurd (let h = q in cc)
        by (Ok found) f q = with found (sym (place-at (at c) names found f) ∙ found-object-is c names o (not-directory-too c b.tree names o e) e) q

    go : (o : Option LiveObject) → object_at c names ≡ o → (d : Option Directory) → Served (apply_all_seen (unlinking o d) c)
    go (Some o) e d = deleted-served c o s (plain-unserved c o (at-own c b.order names o e) (plain o e) s.1)
    go None e (Some d) = s
    go None e None = s

-- ---- Open

directory-on : (k : HandleKind) (n : ℕ) (o : Option (Option ℕ)) → is_directory_kind k ≡ true → may_be_on k n o ≡ true
directory-on ServerHandle n o e = absurd (let h = e in cc)
directory-on ClientHandle n o e = absurd (let h = e in cc)
directory-on (ObjectHandle d) n o e = absurd (let h = e in cc)
directory-on (DirectoryHandle d) n o e = refl
directory-on NamesHandle n o e = refl

pub kept-server : (c : Content) (e : Entry) (t : ℕ) → is_deletion e.record_of.kind ≡ false → server_of (apply_seen (AppendsRecord e) c) t ≡ server_of c t
kept-server c e t plain = touched-server e t c.objects ∙ ap (λ b. cond (eqb e.record_of.object t && b) None (server_of c t)) plain ∙ by (eqb e.record_of.object t)
  where
    by : (b : Bool) → cond (b && false) None (server_of c t) ≡ server_of c t
    by true = refl
    by false = refl

first-false : (a b : Bool) → (a || b) ≡ false → a ≡ false
first-false true b e = e
first-false false b e = refl

unused : (c : Content) (t : ℕ) → has_object_handle c t ≡ false → Unserved c t
unused c t e = all-imp (λ (h : OpenHandle Progress). (not (is_directory_kind h.kind) && eqb h.target t) ≡ false) (λ (h : OpenHandle Progress). (is_server h.kind && (eqb t h.target && true)) ≡ false) (λ h q. by h.target h.kind (eqb h.target t) refl (eqb t h.target) refl q) c.handles
    (none-all (λ (h : OpenHandle Progress). not (is_directory_kind h.kind) && eqb h.target t) c.handles (go (find (λ (h : OpenHandle Progress). not (is_directory_kind h.kind) && eqb h.target t) c.handles) e))
  where
    go : (o : Option (OpenHandle Progress)) → is_some o ≡ false → o ≡ None
    go None e = refl
    go (Some h) e = absurd (let no = e in cc)

    by : (h : ℕ) (k : HandleKind) (b : Bool) → eqb h t ≡ b → (d : Bool) → eqb t h ≡ d → (not (is_directory_kind k) && b) ≡ false → (is_server k && (d && true)) ≡ false
    by h ServerHandle b f false g q = refl
    by h ServerHandle false f true g q = absurd (let yes : eqb h t ≡ true = eq-eqb h t (sym (eqb-true t h g)) in cc)
    by h ServerHandle true f true g q = q
    by h ClientHandle b f d g q = refl
    by h NamesHandle b f d g q = refl
    by h (ObjectHandle k) b f d g q = refl
    by h (DirectoryHandle k) b f d g q = refl

module _ (c : Content) (b : Basis c) (s : Served c) (conn : ℕ) (mode : Mode) (spec : OpenSpec) where
  open-new-served : (d : Content) → Basis d → Served d → d.next_handle ≡ c.next_handle → d.next_object ≡ c.next_object → (found : Option LiveObject) → spec.all ≡ false → (spec.options.server ≡ false → found ≡ None)
      → Served (apply_seen (Opens (new_handle c conn mode spec found)) (apply_seen (Creates (new_object c spec)) d))
  open-new-served d db ds next number found all only = go spec.options.server refl
    where
      H : OpenHandle (Unit {0})
      H = new_handle c conn mode spec found

      N : Object
      N = new_object c spec

      go : (v : Bool) → spec.options.server ≡ v → Served (apply_seen (Opens H) (apply_seen (Creates N) d))
      go true v = served-server d db.order db.held ds N H (sym number) (ap (λ s. cond s (Some c.next_handle) None) v ∙ ap Some (sym next)) (sym next) (rw v refl) (rw (all, v) refl)
      go false v = served-opened (apply_seen (Creates N) d) H may (served-created d N (sym number) (ap (λ s. cond s (Some c.next_handle) None) v) db.held ds)
        where
          target : H.target ≡ N.number
          target = rw (only v, all, v) refl

          kind : H.kind ≡ ObjectHandle spec.options.delta
          kind = rw (only v, v, all) refl

          may : may_be_on H.kind H.number (server_of (apply_seen (Creates N) d) H.target) ≡ true
          may = (λ i. may_be_on (kind i) H.number (server_of (apply_seen (Creates N) d) (target i))) ∙ ap (may_be_on (ObjectHandle spec.options.delta) H.number) (last-server d db.order N (sym number) ∙ ap Some (ap (λ s. cond s (Some c.next_handle) None) v))

  -- an object is there
  open-found-served : spec.all ≡ false → (o : LiveObject) → object_at c spec.names ≡ Some o → (spec.options.server ≡ true → Unserved c o.object.number) → Served (apply_all_seen (opening c conn mode spec (Some o)) c)
  open-found-served all o found unserved = go spec.options.server refl (is_some o.object.server) refl mode.t
    where
      H : OpenHandle (Unit {0})
      H = new_handle c conn mode spec (Some o)

      its : server_of c o.object.number ≡ Some o.object.server
      its = ap (option_map (λ (x : LiveObject). x.object.server)) (at-own c b.order spec.names o found)

      gone : Content
      gone = apply_seen (AppendsRecord (entry_of o.object Deleted None)) c

      target : spec.options.server ≡ false → H.target ≡ o.object.number
      target v = rw (all, v) refl

      client : (k : Bool) → spec.options.server ≡ false → is_some o.object.server ≡ k → H.kind ≡ cond k ClientHandle (ObjectHandle spec.options.delta)
      client k v e = rw (v, all) (ap (λ b. cond b ClientHandle (ObjectHandle spec.options.delta)) e)

      may : (d : Content) → server_of d o.object.number ≡ server_of c o.object.number → spec.options.server ≡ false → (k : Bool) → is_some o.object.server ≡ k → may_be_on H.kind H.number (server_of d H.target) ≡ true
      may d same v true e = (λ i. may_be_on (client true v e i) H.number (server_of d (target v i))) ∙ ap (may_be_on ClientHandle H.number) (same ∙ its) ∙ e
      may d same v false e = (λ i. may_be_on (client false v e i) H.number (server_of d (target v i))) ∙ ap (may_be_on (ObjectHandle spec.options.delta) H.number) (same ∙ its) ∙ ap not e

      go : (v : Bool) → spec.options.server ≡ v → (k : Bool) → is_some o.object.server ≡ k → (t : Bool)
          → Served (apply_all_seen (cond v (AppendsRecord (entry_of o.object Deleted None) ∷ Creates (new_object c spec) ∷ []) (cond k (AppendsRecord (entry_of o.object (Opened c.next_handle) None) ∷ []) (cond t (AppendsRecord (entry_of o.object Truncated None) ∷ []) [])) ++ Opens H ∷ []) c)
      go true v k e t = open-new-served gone (basis-after (AppendsRecord (entry_of o.object Deleted None) ∷ []) c b (tt, tt)) (deleted-served c o s (unserved v)) refl refl (Some o) all (λ w. absurd (let no = sym w ∙ v in cc))
      go false v true e t = served-opened (apply_seen (AppendsRecord (entry_of o.object (Opened c.next_handle) None)) c) H (may (apply_seen (AppendsRecord (entry_of o.object (Opened c.next_handle) None)) c) (kept-server c (entry_of o.object (Opened c.next_handle) None) o.object.number refl) v true e) (served-stays c (entry_of o.object (Opened c.next_handle) None) refl s)
      go false v false e true = served-opened (apply_seen (AppendsRecord (entry_of o.object Truncated None)) c) H (may (apply_seen (AppendsRecord (entry_of o.object Truncated None)) c) (kept-server c (entry_of o.object Truncated None) o.object.number refl) v false e) (served-stays c (entry_of o.object Truncated None) refl s)
      go false v false e false = served-opened c H (may c refl v false e) s

  open-none-served : spec.all ≡ false → Served (apply_all_seen (opening c conn mode spec None) c)
  open-none-served all = subst (λ a. Served (apply_all_seen (cond a [] (Creates (new_object c spec) ∷ []) ++ Opens (new_handle c conn mode spec None) ∷ []) c)) (sym all) (open-new-served c b s refl refl None all (λ v. refl))

  open-all-served : spec.all ≡ true → mode_fits mode spec ≡ true → Served (apply_all_seen (opening c conn mode spec None) c)
  open-all-served all fits = subst (λ a. Served (apply_all_seen (cond a [] (Creates (new_object c spec) ∷ []) ++ Opens (new_handle c conn mode spec None) ∷ []) c)) (sym all)
      (served-opened c (new_handle c conn mode spec None) (directory-on (kind_opened spec None) c.next_handle (server_of c (target_of c spec None)) (all-kind mode spec all fits)) s)

  pub opening-served : first_refusal (open_checks c mode spec) ≡ None → Served (apply_all_seen (opening c conn mode spec (found_object c spec)) c)
  opening-served p = placed (place (at c) spec.names) refl tests.1
    where
      tests : (not (mode_fits mode spec) ≡ false) × (first_refusal (parsed (place (at c) spec.names) (λ found. cond spec.all (all_checks c found) (name_checks c mode spec found))) ≡ None)
      tests = behind (not (mode_fits mode spec)) Refusal.BadMode (parsed (place (at c) spec.names) (λ found. cond spec.all (all_checks c found) (name_checks c mode spec found))) p

      by-name : spec.all ≡ false → (found : Option Found) → place (at c) spec.names ≡ Ok found → first_refusal (name_checks c mode spec found) ≡ None → Served (apply_all_seen (opening c conn mode spec (object_at c spec.names)) c)
      by-name all found e q = go (object_at c spec.names) refl
        where
          first : (first_refusal (Refuse (is_none found && not mode.c) Refusal.NotFound ∷ Refuse (found_as is_directory found) Refusal.IsDirectory ∷ Refuse (spec.options.server && found_as (is_used c) found) Refusal.Busy ∷ []) ≡ None) × (first_refusal (handle_checks c ++ cond (is_none found) (object_checks c spec.names) []) ≡ None)
          first = passes-both (Refuse (is_none found && not mode.c) Refusal.NotFound ∷ Refuse (found_as is_directory found) Refusal.IsDirectory ∷ Refuse (spec.options.server && found_as (is_used c) found) Refusal.Busy ∷ []) (handle_checks c ++ cond (is_none found) (object_checks c spec.names) []) q

          busy : (spec.options.server && found_as (is_used c) found) ≡ false
          busy = (all-pass (Refuse (is_none found && not mode.c) Refusal.NotFound ∷ Refuse (found_as is_directory found) Refusal.IsDirectory ∷ Refuse (spec.options.server && found_as (is_used c) found) Refusal.Busy ∷ []) first.0).1.1.0

          unserved : (o : LiveObject) → object_at c spec.names ≡ Some o → spec.options.server ≡ true → Unserved c o.object.number
          unserved o f v =
              let is : found ≡ Some (FoundObject o.object.number) = sym (place-at (at c) spec.names found e) ∙ found-object-is c spec.names o (not-directory-too c b.tree spec.names o f) f in
              let free : is_used c (FoundObject o.object.number) ≡ false = sym (λ i. v i && found_as (is_used c) (is i)) ∙ busy in
              unused c o.object.number (first-false (has_object_handle c o.object.number) _ free)

          go : (o : Option LiveObject) → object_at c spec.names ≡ o → Served (apply_all_seen (opening c conn mode spec o) c)
          go None f = open-none-served all
          go (Some o) f = open-found-served all o f (unserved o f)

      by : (all : Bool) → spec.all ≡ all → (found : Option Found) → place (at c) spec.names ≡ Ok found → first_refusal (cond all (all_checks c found) (name_checks c mode spec found)) ≡ None → Served (apply_all_seen (opening c conn mode spec (cond all None (object_at c spec.names))) c)
      by true all found e q = open-all-served all (not-false (mode_fits mode spec) tests.0)
      by false all found e q = by-name all found e q

      placed : (r : Result (Option Found) Refusal) → place (at c) spec.names ≡ r → first_refusal (parsed r (λ found. cond spec.all (all_checks c found) (name_checks c mode spec found))) ≡ None → Served (apply_all_seen (opening c conn mode spec (found_object c spec)) c)
      placed (Err r) e q = absurd (let h = q in cc)
      placed (Ok found) e q = by spec.all refl found e q

-- ---- each event

close-served : (c : Content) (conn handle : ℕ) → Basis c → Served c → Served (apply_all_seen (option_map_or {U = Outcome × List Move} (λ h. (Done, closing c h)) (own_handle c conn handle) (Done, [])).1 c)
close-served c conn handle b s = go (own_handle c conn handle) refl
  where
    go : (o : Option (OpenHandle Progress)) → own_handle c conn handle ≡ o → Served (apply_all_seen (option_map_or {U = Outcome × List Move} (λ h. (Done, closing c h)) o (Done, [])).1 c)
    go None e = s
    go (Some h) e = closing-served c h b.order s (record { now = h; found = all-find (λ (g : OpenHandle Progress). handle_numbered c g.number ≡ Some g) (λ g. eqb g.number handle && eqb g.connection conn) c.handles h (found-each (λ (g : OpenHandle Progress). g.number) 0 c.next_handle c.handles b.order.0) e; same_kind = refl; same_target = refl })

pub effect-served : (c : Content) (conn : ℕ) (request : Request) → Basis c → Served c → first_refusal (checks c conn request) ≡ None → Served (apply_all_seen (effect c conn request).1 c)
unfolding checks effect
effect-served c conn Attach b s p = s
effect-served c conn Detach b s p = leaving-served c conn b s
effect-served c conn (OpenRequest mode text) b s p = go (open_text text) rest.1
  where
    first : (not (is_attached c conn) ≡ false) × (first_refusal (Refuse (not (letters_fit mode)) Refusal.BadMode ∷ Memory ∷ parsed (open_text text) (open_checks c mode)) ≡ None)
    first = behind (not (is_attached c conn)) Refusal.NotAttached (Refuse (not (letters_fit mode)) Refusal.BadMode ∷ Memory ∷ parsed (open_text text) (open_checks c mode)) p

    rest : (not (letters_fit mode) ≡ false) × (first_refusal (parsed (open_text text) (open_checks c mode)) ≡ None)
    rest = behind (not (letters_fit mode)) Refusal.BadMode (Memory ∷ parsed (open_text text) (open_checks c mode)) first.1

    go : (r : Result OpenSpec Refusal) → first_refusal (parsed r (open_checks c mode)) ≡ None → Served (apply_all_seen (with_result r (λ spec. (OpenedHandle c.next_handle, opening c conn mode spec (found_object c spec)))).1 c)
    go (Err r) q = s
    go (Ok spec) q = opening-served c b s conn mode spec q
effect-served c conn (Read handle size) b s p = calm-after _ (calm-outcome _ (λ h. read-calm h size (read_answer c h size)) (own_handle c conn handle)) c s
effect-served c conn (Write handle bytes) b s p = calm-after _ (calm-outcome _ (λ h. calm-result _ (λ text. writing-calm c h text) (write_text bytes)) (own_handle c conn handle)) c s
effect-served c conn (Close handle) b s p = close-served c conn handle b s
effect-served c conn (Unlink path) b s p = go (path_text path) (behind (not (is_attached c conn)) Refusal.NotAttached (Memory ∷ on_path path (unlink_checks c)) p).1
  where
    go : (o : Option Path) → first_refusal (parsed (ok_or o Refusal.BadPath) (unlink_checks c)) ≡ None → Served (apply_all_seen (option_map_or {U = Outcome × List Move} (λ names. (Done, unlinking (object_at c names) (directory_at c names))) o (Done, [])).1 c)
    go None q = s
    go (Some names) q = unlink-served c names b s q
effect-served c conn (Mkdir path) b s p = calm-after _ (calm-outcome _ (λ names. ((λ c s. s), tt)) (path_text path)) c s
effect-served c conn (ListRequest path) b s p = calm-after _ (calm-outcome _ (λ names. tt) (path_text path)) c s
effect-served c conn (Notify handle action code value) b s p = calm-after _ (calm-outcome _ (λ h. (calm-arms h.number _, tt)) (own_handle c conn handle)) c s
effect-served c conn Receive b s p = calm-after _ (received-calm conn (first_of (queue_of c conn))) c s

pub step-served : (c : Content) (e : Event) → Basis c → Served c → Served (step_seen c e).1
unfolding step_seen plan
step-served c e b s = by (first_refusal (all_checks_of c e)) refl
  where
    by : (r : Option Refusal) → first_refusal (all_checks_of c e) ≡ r → Served (apply_all_seen (decided c (effect c e.conn e.request) r).1 c)
    by (Some r) is = s
    by None is =
        let done = (effect c e.conn e.request).1 in
        let d = apply_all_seen done c in
        let passes = passes-both (checks c e.conn e.request) (Refuse (passes_last_number d) Refusal.TableFull ∷ []) is in
        subst Served (sym (moves-append done (settling c d) c)) (calm-after (settling c d) (settling-calm c d) d (effect-served c e.conn e.request b s passes.0))
