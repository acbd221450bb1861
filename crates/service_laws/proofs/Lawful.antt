-- Each plan is lawful: only an open creates an object, and gives it the next number.
use Rattle.std.proofs.Common.{◌≡◌, ℕ, Bool, true, false, cond, not, ◌&&◌, List, [], ◌∷◌, ◌++◌, Option, Some, None, Result, Ok, Err, refl}
use Rattle.std.specs.Prelude.{is_some}
use Rattle.std.specs.Option.{option_map_or}
use Rattle.std.specs.List.{flat_map, AllByRecursion}
use Rattle.pps_types.specs.declared.event.Event.{Event}
use Rattle.pps_types.specs.declared.event.Request.{Request}
use Rattle.pps_types.specs.declared.event.Request.TheVariants.{Attach, Detach, Open as OpenRequest, Read, Write, Close, Unlink, Mkdir, List as ListRequest, Notify, Receive}
use Rattle.pps_types.specs.declared.outcome.Outcome.{Outcome}
use Rattle.pps_types.specs.declared.outcome.Outcome.TheVariants.{Done}
use Rattle.pps_types.specs.declared.outcome.Item.{Item}
use Rattle.pps_types.specs.declared.event.Mode.{Mode}
use Rattle.pps_types.specs.declared.refusal.Refusal.{Refusal}
use Rattle.pps_types.specs.declared.record.Kind.{Kind}
use Rattle.pps_types.specs.declared.record.Kind.TheVariants.{Deleted, Dropped, Truncated, Opened}
use Rattle.pps_types.specs.OpenText.{OpenSpec, open_text, path_text}
use Rattle.pps_types.specs.Text.{WriteText, write_text}
use Rattle.pps_types.specs.Bytes.{is_empty}
use Rattle.pps_types.specs.Checks.{Addressee, Everyone, OneClient, Nobody, addressee, first_refusal}
use Rattle.pps_types.specs.declared.handle_kind.HandleKind.{HandleKind}
use Rattle.pps_types.specs.declared.handle_kind.HandleKind.TheVariants.{Object as ObjectHandle, Directory as DirectoryHandle, Names as NamesHandle, Server as ServerHandle, Client as ClientHandle}
use Rattle.pps_types.specs.Reading.{OpenHandle, Answer, Everything, Blocks, Needs, TargetGone, Waits, Nothing}
use Rattle.pps_types.specs.Rests.{Progress}
use Rattle.pps_types.specs.Outbox.{first_of}
use Rattle.pps_types.specs.Content.{Content, LiveObject, Directory, object_numbered, object_at, directory_at, handles_of, queue_of, news, read_answer, own_handle}
use Rattle.pps_types.specs.Plan.{Move, Creates, AppendsRecord, apply_all_seen, entry_of, effect, plan, decided, all_checks_of, settling, settling_handle, fired, late_replies, late_reply, opening, preparing, new_object, writing, written_kind, sent, on_target, closing, closings, parting, unlinking, received, read_effect, with_result, had_news, found_object}
use Rattle.pps_types.specs.Machine.{IsLawful, AreLawful, next_after, is_creation}

-- lawful whatever the next number is
abbrev IsPlain : Move → Type 0
IsPlain x = (n : ℕ) → IsLawful n x

abbrev ArePlain : List Move → Type 0
ArePlain xs = AllByRecursion IsPlain xs

plain-append : (xs ys : List Move) → ArePlain xs → ArePlain ys → ArePlain (xs ++ ys)
plain-append [] ys p q = q
plain-append (x ∷ xs) ys p q = (p.0, plain-append xs ys p.1 q)

plain-lawful : (xs : List Move) (n : ℕ) → ArePlain xs → AreLawful n xs
plain-lawful [] n p = tt
plain-lawful (x ∷ xs) n p = (p.0 n, plain-lawful xs (next_after n x) p.1)

lawful-append : (xs ys : List Move) (n : ℕ) → AreLawful n xs → ArePlain ys → AreLawful n (xs ++ ys)
lawful-append [] ys n p q = plain-lawful ys n q
lawful-append (x ∷ xs) ys n p q = (p.0, lawful-append xs ys (next_after n x) p.1 q)

plain-or : {X : Type 0} (f : X → List Move) → ((x : X) → ArePlain (f x)) → (o : Option X) → ArePlain (option_map_or f o [])
plain-or f p None = tt
plain-or f p (Some x) = p x

plain-cond : (b : Bool) (xs ys : List Move) → ArePlain xs → ArePlain ys → ArePlain (cond b xs ys)
plain-cond true xs ys p q = p
plain-cond false xs ys p q = q

plain-flat : {X : Type 0} (f : X → List Move) → ((x : X) → ArePlain (f x)) → (xs : List X) → ArePlain (flat_map f xs)
plain-flat f p [] = tt
plain-flat f p (x ∷ xs) = plain-append (f x) (flat_map f xs) (p x) (plain-flat f p xs)

-- ---- settling

late_reply-plain : (h : OpenHandle Progress) (a : Answer) → ArePlain (late_reply h a)
late_reply-plain h (Everything text) = ((λ n. tt), ((λ n. tt), ((λ n. tt), tt)))
late_reply-plain h (Blocks count text) = ((λ n. tt), ((λ n. tt), ((λ n. tt), tt)))
late_reply-plain h (Needs need) = ((λ n. tt), ((λ n. tt), tt))
late_reply-plain h TargetGone = tt
late_reply-plain h Waits = tt
late_reply-plain h Nothing = tt

settling-plain : (before c : Content) → ArePlain (settling before c)
unfolding settling
settling-plain before c = plain-flat (settling_handle before c) (λ h. plain-cond (not (had_news before h) && news h) (fired h ++ late_replies c h) []
    (plain-append (fired h) (late_replies c h) (plain-or _ (λ pulse. ((λ n. tt), ((λ n. tt), tt))) h.armed) (plain-or _ (λ size. late_reply-plain h (read_answer c h size)) h.parked)) tt) c.handles

-- ---- effects

on_target-plain : (c : Content) (h : OpenHandle Progress) (kind : Kind) (writer : Option ℕ) → is_creation kind ≡ false → ArePlain (on_target c h kind writer)
on_target-plain c h kind writer e = plain-or _ (λ o. ((λ n. e), tt)) (object_numbered c h.target)

parting-plain : (c : Content) (h : OpenHandle Progress) (k : HandleKind) → ArePlain (parting c h k)
parting-plain c h ServerHandle = on_target-plain c h _ None refl
parting-plain c h ClientHandle = on_target-plain c h _ None refl
parting-plain c h NamesHandle = tt
parting-plain c h (ObjectHandle delta) = plain-cond (h.options.critical && h.writes) _ [] (on_target-plain c h Dropped None refl) tt
parting-plain c h (DirectoryHandle delta) = tt

closing-plain : (c : Content) (h : OpenHandle Progress) → ArePlain (closing c h)
closing-plain c h = ((λ n. tt), plain-append _ (parting c h h.kind) (plain-cond (is_some h.parked) _ [] ((λ n. tt), tt) tt) (parting-plain c h h.kind))

closings-plain : (c : Content) (hs : List (OpenHandle Progress)) → ArePlain (closings c hs)
closings-plain c [] = tt
closings-plain c (h ∷ hs) = plain-append (closing c h) (closings (apply_all_seen (closing c h) c) hs) (closing-plain c h) (closings-plain (apply_all_seen (closing c h) c) hs)

written-plain : (c : Content) (h : OpenHandle Progress) (k : HandleKind) (text : WriteText) → is_creation (written_kind c h k text) ≡ false
written-plain c h ServerHandle text = by (addressee h.name text.header) _
  where
    by : (a : Addressee) (lines : List _) → is_creation (sent a lines) ≡ false
    by Everyone lines = refl
    by (OneClient id) lines = refl
    by Nobody lines = refl
written-plain c h ClientHandle text = refl
written-plain c h NamesHandle text = refl
written-plain c h (ObjectHandle delta) text = refl
written-plain c h (DirectoryHandle delta) text = refl

writing-plain : (c : Content) (h : OpenHandle Progress) (text : WriteText) → ArePlain (writing c h text)
writing-plain c h text = plain-cond (is_empty text.lines) [] _ tt (on_target-plain c h (written_kind c h h.kind text) (Some h.number) (written-plain c h h.kind text))

lawful-cond : (b : Bool) (xs ys : List Move) (n : ℕ) → AreLawful n xs → AreLawful n ys → AreLawful n (cond b xs ys)
lawful-cond true xs ys n p q = p
lawful-cond false xs ys n p q = q

preparing-lawful : (c : Content) (mode : Mode) (spec : OpenSpec) (found : Option LiveObject) → AreLawful c.next_object (preparing c mode spec found)
preparing-lawful c mode spec None = lawful-cond spec.all [] (Creates (new_object c spec) ∷ []) c.next_object tt (refl, tt)
preparing-lawful c mode spec (Some o) =
    lawful-cond spec.options.server (AppendsRecord (entry_of o.object Deleted None) ∷ Creates (new_object c spec) ∷ []) _ c.next_object (refl, (refl, tt))
    (lawful-cond (is_some o.object.server) (AppendsRecord (entry_of o.object (Opened c.next_handle) None) ∷ []) _ c.next_object (refl, tt)
    (lawful-cond mode.t (AppendsRecord (entry_of o.object Truncated None) ∷ []) [] c.next_object (refl, tt) tt))

opening-lawful : (c : Content) (conn : ℕ) (mode : Mode) (spec : OpenSpec) (found : Option LiveObject) → AreLawful c.next_object (opening c conn mode spec found)
opening-lawful c conn mode spec found = lawful-append (preparing c mode spec found) _ c.next_object (preparing-lawful c mode spec found) ((λ n. tt), tt)

read_effect-plain : (h : OpenHandle Progress) (size : ℕ) (a : Answer) → ArePlain (read_effect h size a).1
read_effect-plain h size (Everything text) = ((λ n. tt), tt)
read_effect-plain h size (Blocks count text) = ((λ n. tt), tt)
read_effect-plain h size Waits = ((λ n. tt), tt)
read_effect-plain h size (Needs need) = tt
read_effect-plain h size TargetGone = tt
read_effect-plain h size Nothing = tt

-- what no list is told to do is done
plain-outcome : {X : Type 0} (f : X → Outcome × List Move) → ((x : X) → ArePlain (f x).1) → (o : Option X) → ArePlain (option_map_or f o (Done, [])).1
plain-outcome f p None = tt
plain-outcome f p (Some x) = p x

plain-result : {X : Type 0} (f : X → Outcome × List Move) → ((x : X) → ArePlain (f x).1) → (r : Result X Refusal) → ArePlain (with_result r f).1
plain-result f p (Err e) = tt
plain-result f p (Ok x) = p x

lawful-result : {X : Type 0} (n : ℕ) (f : X → Outcome × List Move) → ((x : X) → AreLawful n (f x).1) → (r : Result X Refusal) → AreLawful n (with_result r f).1
lawful-result n f p (Err e) = tt
lawful-result n f p (Ok x) = p x

unlinking-plain : (o : Option LiveObject) (d : Option Directory) → ArePlain (unlinking o d)
unlinking-plain (Some o) d = ((λ n. refl), tt)
unlinking-plain None (Some d) = ((λ n. tt), tt)
unlinking-plain None None = tt

received-plain : (conn : ℕ) (i : Option Item) → ArePlain (received conn i).1
received-plain conn None = tt
received-plain conn (Some i) = ((λ n. tt), tt)

effect-lawful : (c : Content) (conn : ℕ) (request : Request) → AreLawful c.next_object (effect c conn request).1
unfolding effect
effect-lawful c conn Attach = (tt, tt)
effect-lawful c conn Detach = plain-lawful _ c.next_object (plain-append (closings c (handles_of c conn)) _ (closings-plain c (handles_of c conn)) ((λ n. tt), tt))
effect-lawful c conn (OpenRequest mode text) = lawful-result c.next_object _ (λ spec. opening-lawful c conn mode spec (found_object c spec)) (open_text text)
effect-lawful c conn (Read handle size) = plain-lawful _ c.next_object (plain-outcome _ (λ h. read_effect-plain h size (read_answer c h size)) (own_handle c conn handle))
effect-lawful c conn (Write handle bytes) = plain-lawful _ c.next_object (plain-outcome _ (λ h. plain-result _ (λ text. writing-plain c h text) (write_text bytes)) (own_handle c conn handle))
effect-lawful c conn (Close handle) = plain-lawful _ c.next_object (plain-outcome _ (λ h. closing-plain c h) (own_handle c conn handle))
effect-lawful c conn (Unlink path) = plain-lawful _ c.next_object (plain-outcome _ (λ names. unlinking-plain (object_at c names) (directory_at c names)) (path_text path))
effect-lawful c conn (Mkdir path) = plain-lawful _ c.next_object (plain-outcome _ (λ names. ((λ n. tt), tt)) (path_text path))
effect-lawful c conn (ListRequest path) = plain-lawful _ c.next_object (plain-outcome _ (λ names. tt) (path_text path))
effect-lawful c conn (Notify handle action code value) = plain-lawful _ c.next_object (plain-outcome _ (λ h. ((λ n. tt), tt)) (own_handle c conn handle))
effect-lawful c conn Receive = plain-lawful _ c.next_object (received-plain conn (first_of (queue_of c conn)))

pub plan-lawful : (c : Content) (e : Event) → AreLawful c.next_object (plan c e).1
unfolding plan
plan-lawful c e = by (first_refusal (all_checks_of c e))
  where
    done : Outcome × List Move
    done = effect c e.conn e.request

    by : (o : Option Refusal) → AreLawful c.next_object (decided c done o).1
    by (Some r) = tt
    by None = lawful-append done.1 (settling c (apply_all_seen done.1 c)) c.next_object (effect-lawful c e.conn e.request) (settling-plain c (apply_all_seen done.1 c))
