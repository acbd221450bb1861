-- A message of another client, or for one, is not seen by a connection that holds no server's handle.
use Rattle.std.proofs.Common.{◌≡◌, ℕ, Bool, true, false, cond, not, ◌&&◌, ◌||◌, eqb, eqb-true, List, [], ◌∷◌, map, drop, length, Option, Some, None, Result, Ok, Err, refl, sym, ap, subst, ◌∙◌}
use Rattle.std.specs.Prelude.{is_some, filter}
use Rattle.std.specs.Option.{option_map_or}
use Rattle.std.specs.List.{flat_map, filter_map, cons_option, list_any, AllByRecursion}
use Rattle.pps_types.specs.declared.event.Request.TheVariants.{Write}
use Rattle.pps_types.specs.declared.line.Line.{Line}
use Rattle.pps_types.specs.declared.line.WriteLine.{WriteLine}
use Rattle.pps_types.specs.declared.outcome.Outcome.{Outcome}
use Rattle.pps_types.specs.declared.outcome.Outcome.TheVariants.{Wrote}
use Rattle.pps_types.specs.declared.refusal.Refusal.{Refusal}
use Rattle.pps_types.specs.declared.record.Kind.{Kind}
use Rattle.pps_types.specs.declared.record.Kind.TheVariants.{FromClient, ToClient}
use Rattle.pps_types.specs.declared.handle_kind.HandleKind.{HandleKind}
use Rattle.pps_types.specs.declared.handle_kind.HandleKind.TheVariants.{Object as ObjectHandle, Directory as DirectoryHandle, Names as NamesHandle, Server as ServerHandle, Client as ClientHandle}
use Rattle.pps_types.specs.Filter.{Part}
use Rattle.pps_types.specs.Bytes.{is_empty}
use Rattle.pps_types.specs.Text.{WriteText, lines_of, header_of, with_header, text_after, text_of_lines, write_lines, write_text}
use Rattle.pps_types.specs.History.{Entry, message_line}
use Rattle.pps_types.specs.Reading.{OpenHandle, Style, Full, Delta, Queue, style, visible, concerns, is_chained, is_writer, is_object_kind, Shown, shown}
use Rattle.pps_types.specs.Rests.{Progress, News, Unread, Over, Owed, stand, unread, seen_of, seen_with, over_limit, rest_of, keeps, pushed}
use Rattle.pps_types.specs.Content.{LiveObject, Content, object_numbered, handle_numbered, own_handle}
use Rattle.pps_types.specs.Checks.{Addressee, Everyone, OneClient, Nobody, addressee, is_client, is_server}
use Rattle.pps_types.specs.Plan.{Move, AppendsRecord, apply_seen, apply_all_seen, entry_of, offered, offer, touched, still_known, sent, written_kind, on_target, writing, effect, with_result}
use Rattle.pps_types.specs.Machine.{shown_handle}
use Rattle.pps_types.specs.Runs.{queued_by}
use Rattle.pps_types.specs.Privacy.{is_elsewhere, names_other, is_others_own, holds_server}
use Rattle.service_laws.proofs.Views.{masked, view, masked-other}
use Rattle.service_laws.proofs.Settlings.{AreFound}
use Rattle.service_laws.proofs.Orders.{IsOrdered, found}
use Rattle.service_laws.proofs.Effects.{own-numbered}

-- ---- what a handle has seen stays as it is, where a record isn't for it

abbrev pub renewed : OpenHandle Progress → Progress → Progress
renewed h (Owed rest) = seen_of h rest
renewed h seen = seen

abbrev pub IsSettled : OpenHandle Progress → Type 0
IsSettled h = renewed h h.seen ≡ h.seen

or-false : (b v : Bool) → v ≡ false → (b || v) ≡ b
or-false true v e = refl
or-false false v e = e

and-false : (b v : Bool) → v ≡ false → (b && v) ≡ false
and-false true v e = e
and-false false v e = refl

unseen-visible : (h : OpenHandle Progress) (e : Entry) → is_some (shown h.kind h.number h.options.filter e.record_of.kind) ≡ false → visible h e ≡ false
unseen-visible h e none = by (concerns h e) h.reads (not (is_writer h.number e.record_of.writer) || (h.options.reflect && is_object_kind h.kind)) (is_some (shown h.kind h.number h.options.filter e.record_of.kind)) none
  where
    by : (a b c d : Bool) → d ≡ false → (a && (b && c && d)) ≡ false
    by true true true d is = is
    by true true false d is = refl
    by true false c d is = refl
    by false b c d is = refl

unseen-keeps : (h : OpenHandle Progress) (e : Entry) → visible h e ≡ false → is_chained h.kind e.record_of.kind ≡ false → keeps h e ≡ false
unseen-keeps h e v k = or-false (visible h e) (concerns h e && is_chained h.kind e.record_of.kind) (and-false (concerns h e) (is_chained h.kind e.record_of.kind) k) ∙ v

offered-same : (h : OpenHandle Progress) (e : Entry) → visible h e ≡ false → keeps h e ≡ false → (s : Progress) → renewed h s ≡ s → offered h e s ≡ s
offered-same h e v k (News b) is = ap News (or-false b (visible h e) v)
offered-same h e v k Unread is = refl
offered-same h e v k Over is = refl
offered-same h e v k (Owed rest) is = ap (λ b. seen_of h (cond b (pushed (visible h) e rest) rest)) k ∙ is

offer-same : (h : OpenHandle Progress) (e : Entry) → is_some (shown h.kind h.number h.options.filter e.record_of.kind) ≡ false → is_chained h.kind e.record_of.kind ≡ false → IsSettled h → offer e h ≡ h
offer-same h e none chained settled =
    let v = unseen-visible h e none in
    ap (λ s. record h { seen = s }) (offered-same h e v (unseen-keeps h e v chained) h.seen settled)

-- ---- what stands of a machine is settled

unread-settled : (h : OpenHandle Progress) (s : Style) (reads : Bool) → renewed h (unread s reads) ≡ unread s reads
unread-settled h Full reads = refl
unread-settled h Delta reads = refl
unread-settled h Queue reads = refl

stand-settled : (h : OpenHandle Progress) (rest : List Entry) (s : Style) → style h.kind ≡ s → (b : Bool) → over_limit h rest ≡ b → renewed h (stand s h.reads b rest) ≡ stand s h.reads b rest
stand-settled h rest Full is b over = refl
stand-settled h rest Delta is true over = refl
stand-settled h rest Delta is false over = λ i. stand (is i) h.reads (over i) rest
stand-settled h rest Queue is b over = λ i. stand (is i) h.reads (over i) rest

settled-shown : (H : List Entry) (h : OpenHandle (Option ℕ)) → IsSettled (shown_handle H h)
settled-shown H h = by h.seen
  where
    by : (cursor : Option ℕ) → renewed (shown_handle H h) (seen_with h H cursor) ≡ seen_with h H cursor
    by None = unread-settled (shown_handle H h) (style h.kind) h.reads
    by (Some cursor) = stand-settled (shown_handle H h) (rest_of h (drop cursor H)) (style h.kind) refl (over_limit h (rest_of h (drop cursor H))) refl

pub all-settled : (H : List Entry) (hs : List (OpenHandle (Option ℕ))) → AllByRecursion IsSettled (map (shown_handle H) hs)
all-settled H [] = tt
all-settled H (h ∷ hs) = (settled-shown H h, all-settled H hs)

-- ---- messages

from-chained : (k : HandleKind) (id : ℕ) (lines : List Line) → is_chained k (FromClient id lines) ≡ false
from-chained ServerHandle id lines = refl
from-chained ClientHandle id lines = refl
from-chained NamesHandle id lines = refl
from-chained (ObjectHandle delta) id lines = refl
from-chained (DirectoryHandle delta) id lines = refl

to-chained : (k : HandleKind) (id : ℕ) (lines : List Line) → is_chained k (ToClient id lines) ≡ false
to-chained ServerHandle id lines = refl
to-chained ClientHandle id lines = refl
to-chained NamesHandle id lines = refl
to-chained (ObjectHandle delta) id lines = refl
to-chained (DirectoryHandle delta) id lines = refl

from-shown : (k : HandleKind) (n : ℕ) (parts : Option (List Part)) (id : ℕ) (lines : List Line) → is_server k ≡ false → is_some (shown k n parts (FromClient id lines)) ≡ false
from-shown ServerHandle n parts id lines e = absurd cc
from-shown ClientHandle n parts id lines e = refl
from-shown NamesHandle n parts id lines e = refl
from-shown (ObjectHandle delta) n parts id lines e = refl
from-shown (DirectoryHandle delta) n parts id lines e = refl

to-shown : (k : HandleKind) (n : ℕ) (parts : Option (List Part)) (id : ℕ) (lines : List Line) → eqb id n ≡ false → is_some (shown k n parts (ToClient id lines)) ≡ false
to-shown ServerHandle n parts id lines e = refl
to-shown ClientHandle n parts id lines e = ap (λ b. is_some {T = Shown} (cond b (Some (record { mark = []; suffix = []; lines = lines })) None)) e
to-shown NamesHandle n parts id lines e = refl
to-shown (ObjectHandle delta) n parts id lines e = refl
to-shown (DirectoryHandle delta) n parts id lines e = refl

module _ (conn : ℕ) where
  -- none of the connection's handles is told of that kind of record
  abbrev IsNotTold : Kind → OpenHandle Progress → Type 0
  IsNotTold kind h = eqb h.connection conn ≡ true → (is_some (shown h.kind h.number h.options.filter kind) ≡ false) × IsSettled h

  -- changes nothing of an object, and is kept for no handle
  record IsNote (kind : Kind) : Type 0 where
    pub changes : (o : LiveObject) → still_known o kind ≡ Some o
    pub kept : (k : HandleKind) → is_chained k kind ≡ false

  objects-same : (e : Entry) → IsNote e.record_of.kind → (os : List LiveObject) → filter_map (touched e) os ≡ os
  objects-same e note [] = refl
  objects-same e note (o ∷ os) = ap (λ f. cons_option f (filter_map (touched e) os)) (by (eqb e.record_of.object o.object.number)) ∙ ap (λ xs. o ∷ xs) (objects-same e note os)
    where
      by : (b : Bool) → cond b (still_known o e.record_of.kind) (Some o) ≡ Some o
      by true = note.changes o
      by false = refl

  handles-same : (e : Entry) → IsNote e.record_of.kind → (hs : List (OpenHandle Progress)) → AllByRecursion (IsNotTold e.record_of.kind) hs → map (masked conn) (map (offer e) hs) ≡ map (masked conn) hs
  handles-same e note [] all = refl
  handles-same e note (h ∷ hs) all = λ i. by (eqb h.connection conn) refl i ∷ handles-same e note hs all.1 i
    where
      by : (b : Bool) → eqb h.connection conn ≡ b → masked conn (offer e h) ≡ masked conn h
      by true own = let is = all.0 own in ap (masked conn) (offer-same h e is.0 (note.kept h.kind) is.1)
      by false other = masked-other conn (offer e h) other ∙ sym (masked-other conn h other)

  note-unseen : (e : Entry) (c : Content) → IsNote e.record_of.kind → AllByRecursion (IsNotTold e.record_of.kind) c.handles → view conn (apply_seen (AppendsRecord e) c) ≡ view conn c
  note-unseen e c note all = λ i. record (view conn c) { objects = objects-same e note c.objects i; handles = handles-same e note c.handles all i }

  pub record IsUnseen (xs : List Move) (c : Content) : Type 0 where
    pub seen : view conn (apply_all_seen xs c) ≡ view conn c
    pub items : flat_map (queued_by conn) xs ≡ []

  message-unseen : (c : Content) (h : OpenHandle Progress) (kind : Kind) (b : Bool) → IsNote kind → AllByRecursion (IsNotTold kind) c.handles → IsUnseen (cond b [] (on_target c h kind (Some h.number))) c
  message-unseen c h kind true note all = record { seen = refl; items = refl }
  message-unseen c h kind false note all = by (object_numbered c h.target)
    where
      by : (o : Option LiveObject) → IsUnseen (option_map_or (λ o. AppendsRecord (entry_of o.object kind (Some h.number)) ∷ []) o []) c
      by None = record { seen = refl; items = refl }
      by (Some o) = record { seen = note-unseen (entry_of o.object kind (Some h.number)) c note all; items = refl }

  -- ---- whom a message isn't for

  no-server : (id : ℕ) (lines : List Line) (hs : List (OpenHandle Progress)) → list_any (λ h. eqb h.connection conn && is_server h.kind) hs ≡ false → AllByRecursion IsSettled hs → AllByRecursion (IsNotTold (FromClient id lines)) hs
  no-server id lines [] e settled = tt
  no-server id lines (h ∷ hs) e settled = ((λ own. (from-shown h.kind h.number h.options.filter id lines (first (eqb h.connection conn) (is_server h.kind) (list_any (λ h. eqb h.connection conn && is_server h.kind) hs) e own), settled.0)), no-server id lines hs (rest (eqb h.connection conn && is_server h.kind) (list_any (λ h. eqb h.connection conn && is_server h.kind) hs) e) settled.1)
    where
      first : (a s r : Bool) → ((a && s) || r) ≡ false → a ≡ true → s ≡ false
      first true true r e own = absurd cc
      first true false r e own = refl
      first false s r e own = absurd cc

      rest : (a r : Bool) → (a || r) ≡ false → r ≡ false
      rest true r e = absurd cc
      rest false r e = e

  -- an open client of that number is another connection's
  record Elsewhere (c : Content) (id : ℕ) : Type 0 where
    pub h : OpenHandle Progress
    pub numbered : handle_numbered c id ≡ Some h
    pub other : eqb h.connection conn ≡ false

  elsewhere : (c : Content) (object id : ℕ) (hs : List (OpenHandle Progress)) → AreFound c hs → list_any (λ h. not (eqb h.connection conn)) (filter (λ h. eqb h.number id) (filter (λ h. is_client h.kind && eqb h.target object) hs)) ≡ true → Elsewhere c id
  elsewhere c object id [] all e = absurd cc
  elsewhere c object id (h ∷ hs) all e = by (is_client h.kind && eqb h.target object) (eqb h.number id) refl (eqb h.connection conn) refl (elsewhere c object id hs all.1) e
    where
      by : (a b : Bool) → eqb h.number id ≡ b → (own : Bool) → eqb h.connection conn ≡ own
          → (list_any (λ h. not (eqb h.connection conn)) (filter (λ h. eqb h.number id) (filter (λ h. is_client h.kind && eqb h.target object) hs)) ≡ true → Elsewhere c id)
          → list_any (λ h. not (eqb h.connection conn)) (filter (λ h. eqb h.number id) (cond a (h ∷ filter (λ h. is_client h.kind && eqb h.target object) hs) (filter (λ h. is_client h.kind && eqb h.target object) hs))) ≡ true → Elsewhere c id
      by false b is own who rec e = rec e
      by true false is own who rec e = rec (ap (λ b. list_any (λ h. not (eqb h.connection conn)) (cond b (h ∷ filter (λ h. eqb h.number id) (filter (λ h. is_client h.kind && eqb h.target object) hs)) (filter (λ h. eqb h.number id) (filter (λ h. is_client h.kind && eqb h.target object) hs)))) (sym is) ∙ e)
      by true true is false who rec e = record { h = h; numbered = ap (handle_numbered c) (sym (eqb-true h.number id is)) ∙ all.0; other = who }
      by true true is true who rec e = rec (ap (λ b. not b || list_any (λ h. not (eqb h.connection conn)) (filter (λ h. eqb h.number id) (filter (λ h. is_client h.kind && eqb h.target object) hs))) (sym who)
          ∙ ap (λ b. list_any (λ h. not (eqb h.connection conn)) (cond b (h ∷ filter (λ h. eqb h.number id) (filter (λ h. is_client h.kind && eqb h.target object) hs)) (filter (λ h. eqb h.number id) (filter (λ h. is_client h.kind && eqb h.target object) hs)))) (sym is) ∙ e)

  not-addressed : (c : Content) (id : ℕ) (lines : List Line) → Elsewhere c id → (hs : List (OpenHandle Progress)) → AreFound c hs → AllByRecursion IsSettled hs → AllByRecursion (IsNotTold (ToClient id lines)) hs
  not-addressed c id lines there [] all settled = tt
  not-addressed c id lines there (h ∷ hs) all settled = ((λ own. (to-shown h.kind h.number h.options.filter id lines (by (eqb id h.number) refl own), settled.0)), not-addressed c id lines there hs all.1 settled.1)
    where
      by : (b : Bool) → eqb id h.number ≡ b → eqb h.connection conn ≡ true → eqb id h.number ≡ false
      by false is own = is
      by true is own = absurd (
          let same : Some there.h ≡ Some h = sym there.numbered ∙ ap (handle_numbered c) (eqb-true id h.number is) ∙ all.0 in
          let one : there.h ≡ h = cc in
          let both : false ≡ true = sym there.other ∙ ap (λ g. eqb g.connection conn) one ∙ own in
          cc)

  from-note : (id : ℕ) (lines : List Line) → IsNote (FromClient id lines)
  from-note id lines = record { changes = λ o. refl; kept = λ k. from-chained k id lines }

  to-note : (id : ℕ) (lines : List Line) → IsNote (ToClient id lines)
  to-note id lines = record { changes = λ o. refl; kept = λ k. to-chained k id lines }

  -- ---- a foreign write

  -- the header of a text that can be read is its first line's
  headed : (body : Result (List WriteLine) Refusal) (header : Option (List ℕ)) (text : WriteText) → with_header header body ≡ Ok text → text.header ≡ header
  headed (Ok lines) header text is = let same : text ≡ record { header = header; lines = lines } = cc in ap (λ (t : WriteText). t.header) same
  headed (Err e) header text is = absurd (let h = is in cc)

  text-header : (ls : List (List ℕ)) (text : WriteText) → text_of_lines ls ≡ Ok text → text.header ≡ header_of ls
  text-header [] text is = headed (Ok []) None text is
  text-header (l ∷ ls) text is = by (header_of (l ∷ ls)) is
    where
      by : (o : Option (List ℕ)) → text_after o (l ∷ ls) ls ≡ Ok text → text.header ≡ o
      by (Some header) is = headed (write_lines 2 ls) (Some header) text is
      by None is = headed (write_lines 1 (l ∷ ls)) None text is

  writing-unseen : (c : Content) (h : OpenHandle Progress) (text : WriteText) → IsOrdered c → holds_server conn c ≡ false → AllByRecursion IsSettled c.handles
      → (is_client h.kind || (is_server h.kind && is_elsewhere c conn h.target (addressee h.name text.header))) ≡ true → IsUnseen (writing c h text) c
  writing-unseen c h text o none settled foreign = by h.kind foreign
    where
      to : (a : Addressee) → is_elsewhere c conn h.target a ≡ true → IsUnseen (cond (is_empty text.lines) [] (on_target c h (sent a (map message_line text.lines)) (Some h.number))) c
      to Everyone e = absurd cc
      to Nobody e = absurd cc
      to (OneClient id) e =
          let there = elsewhere c h.target id c.handles (found c o) e in
          message-unseen c h (ToClient id (map message_line text.lines)) (is_empty text.lines) (to-note id (map message_line text.lines)) (not-addressed c id (map message_line text.lines) there c.handles (found c o) settled)

      by : (k : HandleKind) → (is_client k || (is_server k && is_elsewhere c conn h.target (addressee h.name text.header))) ≡ true → IsUnseen (cond (is_empty text.lines) [] (on_target c h (written_kind c h k text) (Some h.number))) c
      by ClientHandle e = message-unseen c h (FromClient h.number (map message_line text.lines)) (is_empty text.lines) (from-note h.number (map message_line text.lines)) (no-server h.number (map message_line text.lines) c.handles none settled)
      by ServerHandle e = to (addressee h.name text.header) e
      by NamesHandle e = absurd cc
      by (ObjectHandle delta) e = absurd cc
      by (DirectoryHandle delta) e = absurd cc

  pub foreign-write : (c : Content) (who handle : ℕ) (bytes : List ℕ) → IsOrdered c → holds_server conn c ≡ false → AllByRecursion IsSettled c.handles
      → is_others_own conn c (Write handle bytes) ≡ true → IsUnseen (effect c who (Write handle bytes)).1 c
  unfolding effect
  foreign-write c who handle bytes o none settled foreign = by (own_handle c who handle) refl
    where
      text-by : (h : OpenHandle Progress) (r : Result WriteText Refusal) → write_text bytes ≡ r → (is_client h.kind || names_other c conn bytes h) ≡ true → IsUnseen (with_result r (λ text. (Wrote 0, writing c h text))).1 c
      text-by h (Err e) is foreign = record { seen = refl; items = refl }
      text-by h (Ok text) is foreign = writing-unseen c h text o none settled (subst (λ (header : Option (List ℕ)). (is_client h.kind || (is_server h.kind && is_elsewhere c conn h.target (addressee h.name header))) ≡ true) (sym (text-header (lines_of bytes) text is)) foreign)

      same-moves : (h : OpenHandle Progress) (n : ℕ) (r : Result WriteText Refusal) → (with_result r (λ text. (Wrote n, writing c h text))).1 ≡ (with_result r (λ text. (Wrote 0, writing c h text))).1
      same-moves h n (Err e) = refl
      same-moves h n (Ok text) = refl

      by : (f : Option (OpenHandle Progress)) → own_handle c who handle ≡ f → IsUnseen (effect c who (Write handle bytes)).1 c
      by None is = rw is (record { seen = refl; items = refl })
      by (Some h) is =
          let known : effect c who (Write handle bytes) ≡ with_result (write_text bytes) (λ text. (Wrote (length bytes), writing c h text)) = rw is refl in
          subst (λ xs. IsUnseen xs c) (sym (ap (λ (d : Outcome × List Move). d.1) known ∙ same-moves h (length bytes) (write_text bytes))) (text-by h (write_text bytes) refl (rw (own-numbered c who handle h o is) at foreign))
