-- No check refuses for want of memory.
use Rattle.std.specs.Prelude.{◌≡◌, ℕ, ◌+◌, List, [], ◌∷◌, ◌++◌, ◌==◌, ◌&&◌, Bool, true, false, cond, nat_le, Option, Some, None, is_some, is_none, option_and_then, ok_or, Result, Ok, Err, find, codes, ◌-◌, if◌then◌else◌, refl}
use Rattle.std.specs.Option.{option_map_or}
use Rattle.pps_types.specs.declared.found.Found.{Found}
use Rattle.pps_types.specs.declared.found.Found.TheVariants.{Object as FoundObject, Directory as FoundDirectory}
use Rattle.pps_types.specs.declared.refusal.Refusal.{Refusal}
use Rattle.pps_types.specs.declared.refusal.Refusal.TheVariants.{BadPath, BadOption, NotFound, Exists}
use Rattle.pps_types.specs.declared.event.Mode.{Mode}
use Rattle.pps_types.specs.declared.event.Request.{Request}
use Rattle.pps_types.specs.declared.event.Request.TheVariants.{Attach, Detach, Open as OpenRequest, Read, Write, Close, Unlink, Mkdir, List as ListRequest, Notify, Receive}
use Rattle.pps_types.specs.declared.outcome.Item.{Item}
use Rattle.pps_types.specs.declared.line.WriteLine.{WriteLine}
use Rattle.pps_types.specs.declared.handle_kind.HandleKind.{HandleKind}
use Rattle.pps_types.specs.declared.handle_kind.HandleKind.TheVariants.{Object as ObjectHandle, Directory as DirectoryHandle, Names as NamesHandle, Server as ServerHandle, Client as ClientHandle}
use Rattle.pps_types.specs.Bytes.{is_empty, after_prefix, ◌>>=◌}
use Rattle.pps_types.specs.Outcome.{is_marked, item_has_bytes}
use Rattle.pps_types.specs.Text.{WriteText, line_or, write_line, write_lines, with_header, text_after, text_of_lines, lines_of, write_text}
use Rattle.pps_types.specs.Names.{Path, beyond, place, find_at, refusal_of, new_refusal}
use Rattle.pps_types.specs.OpenText.{OpenPath, open_path, Options, options_text, OpenSpec, open_parts, open_spec, open_text, path_text}
use Rattle.pps_types.specs.Reading.{OpenHandle, Answer, Everything, Blocks, Needs, TargetGone, Waits, Nothing}
use Rattle.pps_types.specs.Rests.{Progress}
use Rattle.pps_types.specs.Outbox.{Outbox, arm_refusal, park_refusal, held, is_armed, is_parked, is_full, arms, first_of}
use Rattle.pps_types.specs.Content.{Content, at, object_numbered, handle_numbered, outbox_of, queue_of, read_answer, news}
use Rattle.pps_types.specs.Checks.{Check, Refuse, Memory, first_refusal, refused, parsed, handle_checks, all_checks, object_checks, name_checks, open_checks, on_handle, answer_checks, read_checks, Addressee, Everyone, OneClient, Nobody, addressee, meant, server_backlog, client_backlog, client_checks, where_lines, count_owed, is_message_of, text_checks, write_checks, close_checks, on_path, unlink_found, unlink_checks, mkdir_checks, list_checks, notify_checks, receive_checks, checks}
use Rattle.pps_types.specs.declared.event.Event.{Event}
use Rattle.pps_types.specs.Plan.{apply_all_seen, effect, all_checks_of, passes_last_number}
use Rattle.service_laws.specs.RunLaws.{ChecksWantNothing}

abbrev IsNoWant : Refusal → Type 0
IsNoWant r = is_marked (Err r) ≡ false

abbrev WantNothing : List Check → Type 0
WantNothing [] = Unit {0}
WantNothing (Refuse fails r ∷ cs) = IsNoWant r × WantNothing cs
WantNothing (Memory ∷ cs) = WantNothing cs

first-wants : (cs : List Check) (r : Refusal) → WantNothing cs → first_refusal cs ≡ Some r → IsNoWant r
first-wants [] r w e = absurd (let h = e in cc)
first-wants (Memory ∷ cs) r w e = first-wants cs r w e
first-wants (Refuse true s ∷ cs) r w e = let is : r ≡ s = cc in rw is w.0
first-wants (Refuse false s ∷ cs) r w e = first-wants cs r w.1 e

both : (xs ys : List Check) → WantNothing xs → WantNothing ys → WantNothing (xs ++ ys)
both [] ys v w = w
both (Memory ∷ xs) ys v w = both xs ys v w
both (Refuse fails r ∷ xs) ys v w = (v.0, both xs ys v.1 w)

either : (b : Bool) (xs ys : List Check) → WantNothing xs → WantNothing ys → WantNothing (cond b xs ys)
either true xs ys v w = v
either false xs ys v w = w

-- ---- steps that may be refused

abbrev OfErr : {X : Type 0} → Result X Refusal → Type 0
OfErr (Ok x) = Unit {0}
OfErr (Err r) = IsNoWant r

abbrev OfRefusal : Option Refusal → Type 0
OfRefusal None = Unit {0}
OfRefusal (Some r) = IsNoWant r

parsed-wants : {X : Type 0} (r : Result X Refusal) (k : X → List Check) → OfErr r → ((x : X) → WantNothing (k x)) → WantNothing (parsed r k)
parsed-wants (Ok x) k e w = w x
parsed-wants (Err r) k e w = (e, tt)

refused-wants : (o : Option Refusal) → OfRefusal o → WantNothing (refused o)
refused-wants None w = tt
refused-wants (Some r) w = (w, tt)

path-err : (o : Option Path) → OfErr (ok_or o BadPath)
path-err None = refl
path-err (Some p) = tt

open-err : (text : List ℕ) → OfErr (open_text text)
open-err text = go (open_path (open_parts text).0)
  where
    with : (p : OpenPath) (o : Option Options) → OfErr (do options ← ok_or o BadOption; Ok (open_spec p options))
    with p None = refl
    with p (Some o) = tt

    go : (o : Option OpenPath) → OfErr (do path ← ok_or o BadPath; options ← ok_or (options_text path.all (open_parts text).1) BadOption; Ok (open_spec path options))
    go None = refl
    go (Some p) = with p (options_text p.all (open_parts text).1)

lines-err : (n : ℕ) (ls : List (List ℕ)) → OfErr (write_lines n ls)
lines-err n [] = tt
lines-err n (l ∷ ls) = elim (is_empty l) as (λ b. OfErr (cond b (write_lines (n + 1) ls) (line_or n (write_line l) (write_lines (n + 1) ls)))) [ true ↦ lines-err (n + 1) ls | false ↦ joined (write_line l) (write_lines (n + 1) ls) (lines-err (n + 1) ls) ]
  where
    joined : (o : Option WriteLine) (r : Result (List WriteLine) Refusal) → OfErr r → OfErr (line_or n o r)
    joined None r e = refl
    joined (Some w) (Ok ws) e = tt
    joined (Some w) (Err r) e = e

text-err : (bytes : List ℕ) → OfErr (write_text bytes)
text-err bytes = go (lines_of bytes)
  where
    headed : (header : Option (List ℕ)) (r : Result (List WriteLine) Refusal) → OfErr r → OfErr (with_header header r)
    headed header (Ok ws) e = tt
    headed header (Err r) e = e

    pick : (o : Option (List ℕ)) (all others : List (List ℕ)) → OfErr (text_after o all others)
    pick None all others = headed None (write_lines 1 all) (lines-err 1 all)
    pick (Some header) all others = headed (Some header) (write_lines 2 others) (lines-err 2 others)

    go : (ls : List (List ℕ)) → OfErr (text_of_lines ls)
    go [] = tt
    go (l ∷ ls) = pick (after_prefix (codes "@") l) (l ∷ ls) ls

place-err : (at : Path → Option Found) (path : Path) → OfErr (place at path)
place-err at [] = tt
place-err at (n ∷ path) = go (at []) (place (λ p. at (n ∷ p)) path) (place-err (λ p. at (n ∷ p)) path)
  where
    go : (o : Option Found) (next : Result (Option Found) Refusal) → OfErr next → OfErr (beyond o next)
    go None next e = refl
    go (Some (FoundObject number)) next e = refl
    go (Some (FoundDirectory number)) next e = e

find-err : (at : Path → Option Found) (path : Path) → OfErr (find_at at path)
find-err at path = go (place at path) (place-err at path)
  where
    found : (o : Option Found) → OfErr (ok_or o NotFound)
    found None = refl
    found (Some f) = tt

    go : (r : Result (Option Found) Refusal) → OfErr r → OfErr (r >>= (λ found. ok_or found NotFound))
    go (Ok o) e = found o
    go (Err r) e = e

new-err : (at : Path → Option Found) (path : Path) → OfRefusal (new_refusal at path)
new-err at path = go (place at path) (place-err at path)
  where
    go : (r : Result (Option Found) Refusal) → OfErr r → OfRefusal (refusal_of (r >>= (λ found. if is_some found then Err Exists else Ok found)))
    go (Ok None) e = tt
    go (Ok (Some f)) e = refl
    go (Err r) e = e

arm-err : (box : Outbox) (handle : ℕ) → OfRefusal (arm_refusal box handle)
arm-err box handle = elim (is_full (held box - cond (is_armed box handle) 1 0)) as (λ b. OfRefusal (cond b (Some Refusal.OutboxFull) None)) [ true ↦ refl | false ↦ tt ]

park-err : (box : Outbox) (handle : ℕ) → OfRefusal (park_refusal box handle)
park-err box handle = go (is_parked box handle) (is_full (held box))
  where
    go : (a b : Bool) → OfRefusal (cond a (Some Refusal.ReadPending) (cond b (Some Refusal.OutboxFull) None))
    go true b = refl
    go false true = refl
    go false false = tt

-- ---- kinds of requests

handle-wants : (c : Content) (conn handle : ℕ) (k : OpenHandle Progress → List Check) → ((h : OpenHandle Progress) → WantNothing (k h)) → WantNothing (on_handle c conn handle k)
handle-wants c conn handle k w = go (find (λ h. (h.number == handle) && (h.connection == conn)) c.handles) refl
  where
    go : (o : Option (OpenHandle Progress)) → find (λ h. (h.number == handle) && (h.connection == conn)) c.handles ≡ o → WantNothing (on_handle c conn handle k)
    go None e = rw e (refl, tt)
    go (Some h) e = rw e (w h)

path-wants : (text : List ℕ) (k : Path → List Check) → ((p : Path) → WantNothing (k p)) → WantNothing (on_path text k)
path-wants text k w = parsed-wants (ok_or (path_text text) BadPath) k (path-err (path_text text)) w

open-wants : (c : Content) (mode : Mode) (spec : OpenSpec) → WantNothing (open_checks c mode spec)
open-wants c mode spec = (
  refl,
  parsed-wants (place (at c) spec.names) _ (place-err (at c) spec.names) (λ found. either spec.all (all_checks c found) (name_checks c mode spec found) (refl, (refl, (refl, tt)))
      (refl, (refl, (refl, both (handle_checks c) (cond (is_none found) (object_checks c spec.names) []) (refl, tt) (either (is_none found) (object_checks c spec.names) [] (refl, (refl, tt)) tt))))),
)

answer-wants : (c : Content) (h : OpenHandle Progress) (a : Answer) → WantNothing (answer_checks c h a)
answer-wants c h (Needs need) = (refl, tt)
answer-wants c h TargetGone = (refl, tt)
answer-wants c h Waits = both (refused (park_refusal (outbox_of c h.connection) h.number)) (Memory ∷ []) (refused-wants (park_refusal (outbox_of c h.connection) h.number) (park-err (outbox_of c h.connection) h.number)) tt
answer-wants c h (Everything text) = tt
answer-wants c h (Blocks count text) = tt
answer-wants c h Nothing = tt

backlog-wants : (hs : List (OpenHandle Progress)) → WantNothing (client_backlog hs)
backlog-wants [] = tt
backlog-wants (h ∷ hs) = (refl, backlog-wants hs)

server-wants : (c : Content) (h : OpenHandle Progress) → WantNothing (server_backlog c h)
server-wants c h = go (option_and_then (λ o. option_and_then (handle_numbered c) o.object.server) (object_numbered c h.target))
  where
    go : (o : Option (OpenHandle Progress)) → WantNothing (option_map_or (λ s. Refuse (nat_le s.limit (count_owed (is_message_of h.number) s)) (Refusal.Backlogged s.number) ∷ []) o [])
    go None = tt
    go (Some s) = (refl, tt)

text-wants : (c : Content) (h : OpenHandle Progress) (k : HandleKind) (text : WriteText) → WantNothing (text_checks c h k text)
text-wants c h (ObjectHandle delta) text = (refl, (refl, tt))
text-wants c h ServerHandle text = both (client_checks c h.target (addressee h.name text.header)) (where_lines text (client_backlog (meant c h.target (addressee h.name text.header)))) (to (addressee h.name text.header))
    (either (is_empty text.lines) [] (client_backlog (meant c h.target (addressee h.name text.header))) tt (backlog-wants (meant c h.target (addressee h.name text.header))))
  where
    to : (a : Addressee) → WantNothing (client_checks c h.target a)
    to Everyone = tt
    to Nobody = (refl, tt)
    to (OneClient id) = (refl, tt)
text-wants c h ClientHandle text = (refl, either (is_empty text.lines) [] (server_backlog c h) tt (server-wants c h))
text-wants c h (DirectoryHandle delta) text = tt
text-wants c h NamesHandle text = tt

close-wants : (c : Content) (h : OpenHandle Progress) (k : HandleKind) → h.kind ≡ k → WantNothing (close_checks c h)
close-wants c h (ObjectHandle delta) e = rw e (either _ (Memory ∷ []) [] tt tt)
close-wants c h ServerHandle e = rw e tt
close-wants c h ClientHandle e = rw e tt
close-wants c h (DirectoryHandle delta) e = rw e tt
close-wants c h NamesHandle e = rw e tt

unlink-wants : (c : Content) (path : Path) → WantNothing (unlink_checks c path)
unlink-wants c path = (refl, parsed-wants (find_at (at c) path) (unlink_found c path) (find-err (at c) path) of)
  where
    of : (f : Found) → WantNothing (unlink_found c path f)
    of (FoundObject number) = (refl, tt)
    of (FoundDirectory number) = (refl, (refl, tt))

checks-wants : (c : Content) (conn : ℕ) (request : Request) → WantNothing (checks c conn request)
unfolding checks
checks-wants c conn Attach = (refl, (refl, tt))
checks-wants c conn Detach = (refl, tt)
checks-wants c conn (OpenRequest mode text) = (refl, (refl, parsed-wants (open_text text) (open_checks c mode) (open-err text) (open-wants c mode)))
checks-wants c conn (Read handle size) = (refl, handle-wants c conn handle (read_checks c size) (λ h. (refl, (refl, (refl, answer-wants c h (read_answer c h size))))))
checks-wants c conn (Write handle bytes) = (refl, handle-wants c conn handle (write_checks c bytes) (λ h. (refl, (refl, (refl, parsed-wants (write_text bytes) (text_checks c h h.kind) (text-err bytes) (text-wants c h h.kind))))))
checks-wants c conn (Close handle) = (refl, handle-wants c conn handle (close_checks c) (λ h. close-wants c h h.kind refl))
checks-wants c conn (Unlink path) = (refl, path-wants path (unlink_checks c) (unlink-wants c))
checks-wants c conn (Mkdir path) = (refl, path-wants path (mkdir_checks c) (λ p. both (refused (new_refusal (at c) p)) _ (refused-wants (new_refusal (at c) p) (new-err (at c) p)) (refl, (refl, tt))))
checks-wants c conn (ListRequest path) = (refl, path-wants path (list_checks c) (λ p. parsed-wants (find_at (at c) p) _ (find-err (at c) p) (λ f. (refl, tt))))
checks-wants c conn (Notify handle action code value) = (refl, handle-wants c conn handle (notify_checks c action code) (λ h. (refl, (refl, either (arms action (news h)) (refused (arm_refusal (outbox_of c h.connection) h.number) ++ Memory ∷ []) [] (both (refused (arm_refusal (outbox_of c h.connection) h.number)) (Memory ∷ []) (refused-wants (arm_refusal (outbox_of c h.connection) h.number) (arm-err (outbox_of c h.connection) h.number)) tt) tt))))
checks-wants c conn Receive = (refl, go (first_of (queue_of c conn)))
  where
    go : (o : Option Item) → WantNothing (receive_checks o)
    go o = either (option_map_or item_has_bytes o false) (Memory ∷ []) [] tt tt

pub checks-want-nothing : ChecksWantNothing
checks-want-nothing c conn request r e = first-wants (checks c conn request) r (checks-wants c conn request) e

-- nor does the check on the last numbers
pub all-want-nothing : (c : Content) (e : Event) (r : Refusal) → first_refusal (all_checks_of c e) ≡ Some r → is_marked (Err r) ≡ false
all-want-nothing c e r is =
    first-wants (all_checks_of c e) r (both (checks c e.conn e.request) (Refuse (passes_last_number (apply_all_seen (effect c e.conn e.request).1 c)) Refusal.TableFull ∷ []) (checks-wants c e.conn e.request) (refl, tt)) is
