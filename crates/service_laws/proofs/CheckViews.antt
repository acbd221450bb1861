-- Which check fails first, as one connection sees it, is read off what it sees; a full queue aside.
use Rattle.std.proofs.Common.{◌≡◌, ℕ, Bool, true, false, cond, not, ◌&&◌, ◌||◌, eqb, eqb-true, eq-eqb, List, [], ◌∷◌, ◌++◌, map, length, Option, Some, None, Result, Ok, Err, refl, sym, ap, ◌∙◌, arith}
use Rattle.std.specs.Prelude.{find, option_map, option_and_then, is_some, is_none, filter, ok_or, nat_le, nat_lt}
use Rattle.std.specs.Option.{option_map_or}
use Rattle.pps_types.specs.declared.event.Request.{Request}
use Rattle.pps_types.specs.declared.event.Request.TheVariants.{Attach, Detach, Open as OpenRequest, Read, Write, Close, Unlink, Mkdir, List as ListRequest, Notify, Receive}
use Rattle.pps_types.specs.declared.event.Mode.{Mode}
use Rattle.pps_types.specs.declared.event.Action.{Action}
use Rattle.pps_types.specs.declared.found.Found.{Found}
use Rattle.pps_types.specs.declared.found.Found.TheVariants.{Object as FoundObject, Directory as FoundDirectory}
use Rattle.pps_types.specs.declared.refusal.Refusal.{Refusal}
use Rattle.pps_types.specs.declared.refusal.Refusal.TheVariants.{NotAttached, AlreadyAttached, BadArgument, NotFound, IsDirectory, NotEmpty, Busy, BadMode, BadText, TooLarge, Gone, Backlogged, NoClient, BadPath, ReadPending, TableFull, NotDirectory}
use Rattle.pps_types.specs.declared.handle_kind.HandleKind.{HandleKind}
use Rattle.pps_types.specs.declared.handle_kind.HandleKind.TheVariants.{Object as ObjectHandle, Directory as DirectoryHandle, Names as NamesHandle, Server as ServerHandle, Client as ClientHandle}
use Rattle.pps_types.specs.Bytes.{is_empty}
use Rattle.pps_types.specs.Text.{WriteText, write_text}
use Rattle.pps_types.specs.Names.{Path, is_directory, is_object, place, find_at}
use Rattle.pps_types.specs.OpenText.{OpenSpec, open_text, path_text}
use Rattle.pps_types.specs.History.{Entry}
use Rattle.pps_types.specs.Reading.{OpenHandle, is_directory_kind, Answer, Everything, Blocks, Needs, TargetGone, Waits, Nothing}
use Rattle.pps_types.specs.Rests.{Progress}
use Rattle.pps_types.specs.Outbox.{arms, arm_refusal, park_refusal, first_of}
use Rattle.pps_types.specs.Content.{Content, LiveObject, object_numbered, handle_numbered, at, is_attached, queue_of, outbox_of, news, read_answer, target_is_dead, members, subdirectories}
use Rattle.pps_types.specs.Checks.{Check, Refuse, Memory, first_refusal, refused, parsed, letters_fit, mode_fits, handle_checks, all_checks, is_used, found_as, object_checks, name_checks, open_checks, on_handle, answer_checks, read_checks, Addressee, Everyone, OneClient, Nobody, addressee, is_client, is_server, clients, meant, is_message_of, is_server_message, count_owed, server_backlog, client_backlog, client_checks, where_lines, text_checks, write_checks, close_checks, unlink_found, unlink_checks, notify_checks, receive_checks, checks}
use Rattle.pps_types.specs.Privacy.{on_kind}
use Rattle.service_laws.proofs.Views.{masked, view, masked-own, masked-other}
use Rattle.service_laws.proofs.Orders.{IsOrdered}
use Rattle.service_laws.proofs.Settlings.{find-map}
use Rattle.service_laws.proofs.Effects.{own-numbered, is-own, find-test, filter-map, handle-seen, attached-seen, queue-seen, outbox-seen, is_unseen}

-- refused for a full queue
abbrev pub blocked : Option Refusal → Bool
blocked (Some (Backlogged n)) = true
blocked _ = false

abbrev pub is_queue_kind : HandleKind → Bool
is_queue_kind k = is_server k || is_client k

-- a write on a server's or client's handle
abbrev pub is_queue_write : Content → Request → Bool
is_queue_write c (Write handle bytes) = on_kind c handle is_queue_kind
is_queue_write c request = false

is_empty-map : {X : Type 0} (see : X → X) (xs : List X) → is_empty (map see xs) ≡ is_empty xs
is_empty-map see [] = refl
is_empty-map see (x ∷ xs) = refl

length-map : {X : Type 0} (see : X → X) (xs : List X) → length (map see xs) ≡ length xs
length-map see [] = refl
length-map see (x ∷ xs) = omega (arith, length-map see xs)

is_some-map : {X : Type 0} (see : X → X) (o : Option X) → is_some (option_map see o) ≡ is_some o
is_some-map see None = refl
is_some-map see (Some x) = refl

-- behind a check that is seen alike
under : {P : Type 0} (b : Bool) (r : Refusal) (x y : Option Refusal) → ((P → blocked x ≡ false) → y ≡ x) → (P → blocked (cond b (Some r) x) ≡ false) → cond b (Some r) y ≡ cond b (Some r) x
under true r x y f q = refl
under false r x y f q = f q

module _ (conn : ℕ) where
  -- ---- backlogs

  limit-seen : (test : Entry → Bool) (h : OpenHandle Progress) → nat_le h.limit (count_owed test h) ≡ false → nat_le (masked conn h).limit (count_owed test (masked conn h)) ≡ false
  limit-seen test h e = by (eqb h.connection conn) refl
    where
      by : (b : Bool) → eqb h.connection conn ≡ b → nat_le (masked conn h).limit (count_owed test (masked conn h)) ≡ false
      by true own = ap (λ g. nat_le g.limit (count_owed test g)) (masked-own conn h own) ∙ e
      by false other = ap (λ g. nat_le g.limit (count_owed test g)) (masked-other conn h other)

  one-seen : (test : Entry → Bool) (h : OpenHandle Progress) (x y : Option Refusal) → (blocked x ≡ false → y ≡ x) → blocked (cond (nat_le h.limit (count_owed test h)) (Some (Backlogged h.number)) x) ≡ false
      → cond (nat_le (masked conn h).limit (count_owed test (masked conn h))) (Some (Backlogged h.number)) y ≡ cond (nat_le h.limit (count_owed test h)) (Some (Backlogged h.number)) x
  one-seen test h x y f q = by (nat_le h.limit (count_owed test h)) refl q
    where
      by : (b : Bool) → nat_le h.limit (count_owed test h) ≡ b → blocked (cond b (Some (Backlogged h.number)) x) ≡ false → cond (nat_le (masked conn h).limit (count_owed test (masked conn h))) (Some (Backlogged h.number)) y ≡ cond b (Some (Backlogged h.number)) x
      by true e q = absurd cc
      by false e q = ap (λ b. cond b (Some (Backlogged h.number)) y) (limit-seen test h e) ∙ f q

  backlog-seen : (hs : List (OpenHandle Progress)) → blocked (first_refusal (client_backlog hs)) ≡ false → first_refusal (client_backlog (map (masked conn) hs)) ≡ first_refusal (client_backlog hs)
  backlog-seen [] q = refl
  backlog-seen (h ∷ hs) q = one-seen is_server_message h (first_refusal (client_backlog hs)) (first_refusal (client_backlog (map (masked conn) hs))) (backlog-seen hs) q

  clients-seen : (c : Content) (object : ℕ) → clients (view conn c) object ≡ map (masked conn) (clients c object)
  clients-seen c object = filter-map (λ h. is_client h.kind && (eqb h.target object)) (masked conn) (λ h. refl) c.handles

  meant-seen : (c : Content) (object : ℕ) (to : Addressee) → meant (view conn c) object to ≡ map (masked conn) (meant c object to)
  meant-seen c object Everyone = clients-seen c object
  meant-seen c object (OneClient id) = ap (filter (λ h. eqb h.number id)) (clients-seen c object) ∙ filter-map (λ h. eqb h.number id) (masked conn) (λ h. refl) (clients c object)
  meant-seen c object Nobody = clients-seen c object

  lines-seen : (text : WriteText) (xs ys : List Check) → (blocked (first_refusal xs) ≡ false → first_refusal ys ≡ first_refusal xs) → blocked (first_refusal (where_lines text xs)) ≡ false → first_refusal (where_lines text ys) ≡ first_refusal (where_lines text xs)
  lines-seen text xs ys f q = by (is_empty text.lines) q
    where
      by : (b : Bool) → blocked (first_refusal (cond b [] xs)) ≡ false → first_refusal (cond b [] ys) ≡ first_refusal (cond b [] xs)
      by true q = refl
      by false q = f q

  clients-backlog : (c : Content) (object : ℕ) (to : Addressee) → blocked (first_refusal (client_backlog (meant c object to))) ≡ false → first_refusal (client_backlog (meant (view conn c) object to)) ≡ first_refusal (client_backlog (meant c object to))
  clients-backlog c object to q = ap (λ hs. first_refusal (client_backlog hs)) (meant-seen c object to) ∙ backlog-seen (meant c object to) q

  server-seen : (c : Content) (h : OpenHandle Progress) → blocked (first_refusal (server_backlog c h)) ≡ false → first_refusal (server_backlog (view conn c) (masked conn h)) ≡ first_refusal (server_backlog c h)
  server-seen c h q =
      ap (λ s. first_refusal (option_map_or (λ s. Refuse (nat_le s.limit (count_owed (is_message_of h.number) s)) (Backlogged s.number) ∷ []) s []))
      (both (view conn c) (object_numbered c h.target) ∙ seen-by (option_and_then (λ o. o.object.server) (object_numbered c h.target)) ∙ ap (option_map (masked conn)) (sym (both c (object_numbered c h.target))))
      ∙ found-by (option_and_then (λ o. option_and_then (handle_numbered c) o.object.server) (object_numbered c h.target)) q
    where
      found-by : (s : Option (OpenHandle Progress)) → blocked (first_refusal (option_map_or (λ s. Refuse (nat_le s.limit (count_owed (is_message_of h.number) s)) (Backlogged s.number) ∷ []) s [])) ≡ false
          → first_refusal (option_map_or (λ s. Refuse (nat_le s.limit (count_owed (is_message_of h.number) s)) (Backlogged s.number) ∷ []) (option_map (masked conn) s) []) ≡ first_refusal (option_map_or (λ s. Refuse (nat_le s.limit (count_owed (is_message_of h.number) s)) (Backlogged s.number) ∷ []) s [])
      found-by None q = refl
      found-by (Some s) q = one-seen (is_message_of h.number) s None None (λ q. refl) q

      both : (d : Content) (o : Option LiveObject) → option_and_then (λ o. option_and_then (handle_numbered d) o.object.server) o ≡ option_and_then (handle_numbered d) (option_and_then (λ o. o.object.server) o)
      both d None = refl
      both d (Some o) = refl

      seen-by : (n : Option ℕ) → option_and_then (handle_numbered (view conn c)) n ≡ option_map (masked conn) (option_and_then (handle_numbered c) n)
      seen-by None = refl
      seen-by (Some n) = handle-seen conn c n

  -- ---- writes

  text-seen : (c : Content) (h : OpenHandle Progress) (k : HandleKind) (text : WriteText) → (is_queue_kind k ≡ true → blocked (first_refusal (text_checks c h k text)) ≡ false) → first_refusal (text_checks (view conn c) (masked conn h) k text) ≡ first_refusal (text_checks c h k text)
  text-seen c h (ObjectHandle delta) text q = refl
  text-seen c h (DirectoryHandle delta) text q = refl
  text-seen c h NamesHandle text q = refl
  text-seen c h ServerHandle text q = by (addressee h.name text.header) (q refl)
    where
      by : (to : Addressee) → blocked (first_refusal (client_checks c h.target to ++ where_lines text (client_backlog (meant c h.target to)))) ≡ false
          → first_refusal (client_checks (view conn c) h.target to ++ where_lines text (client_backlog (meant (view conn c) h.target to))) ≡ first_refusal (client_checks c h.target to ++ where_lines text (client_backlog (meant c h.target to)))
      by Everyone q = lines-seen text (client_backlog (meant c h.target Everyone)) (client_backlog (meant (view conn c) h.target Everyone)) (clients-backlog c h.target Everyone) q
      by (OneClient id) q =
          let rest = where_lines text (client_backlog (meant (view conn c) h.target (OneClient id))) in
          ap (λ b. cond b (Some (NoClient id)) (first_refusal rest)) (ap is_empty (meant-seen c h.target (OneClient id)) ∙ is_empty-map (masked conn) (meant c h.target (OneClient id)))
          ∙ under {P = Unit {0}} (is_empty (meant c h.target (OneClient id))) (NoClient id) (first_refusal (where_lines text (client_backlog (meant c h.target (OneClient id))))) (first_refusal rest)
          (λ q. lines-seen text (client_backlog (meant c h.target (OneClient id))) (client_backlog (meant (view conn c) h.target (OneClient id))) (clients-backlog c h.target (OneClient id)) (q tt)) (λ t. q)
      by Nobody q = refl
  text-seen c h ClientHandle text q =
      under {P = Unit {0}} _ (BadText 1) (first_refusal (where_lines text (server_backlog c h))) (first_refusal (where_lines text (server_backlog (view conn c) (masked conn h))))
      (λ q. lines-seen text (server_backlog c h) (server_backlog (view conn c) (masked conn h)) (server-seen c h) (q tt)) (λ t. q refl)

  write-seen : (c : Content) (bytes : List ℕ) (h : OpenHandle Progress) → (is_queue_kind h.kind ≡ true → blocked (first_refusal (write_checks c bytes h)) ≡ false) → first_refusal (write_checks (view conn c) bytes (masked conn h)) ≡ first_refusal (write_checks c bytes h)
  write-seen c bytes h q = under {P = is_queue_kind h.kind ≡ true} (not h.writes) BadMode _ _ (under {P = is_queue_kind h.kind ≡ true} (nat_lt 65536 (length bytes)) TooLarge _ _ (under {P = is_queue_kind h.kind ≡ true} (target_is_dead c h) Gone _ _ (by (write_text bytes)))) q
    where
      by : (r : Result WriteText Refusal) → (is_queue_kind h.kind ≡ true → blocked (first_refusal (parsed r (text_checks c h h.kind))) ≡ false) → first_refusal (parsed r (text_checks (view conn c) (masked conn h) h.kind)) ≡ first_refusal (parsed r (text_checks c h h.kind))
      by (Err e) q = refl
      by (Ok text) q = text-seen c h h.kind text q

  -- ---- handles

  found-seen : (c : Content) (who number : ℕ) → find (λ h. eqb h.number number && eqb h.connection who) (view conn c).handles ≡ option_map (masked conn) (find (λ h. eqb h.number number && eqb h.connection who) c.handles)
  found-seen c who number = find-map (masked conn) (λ h. eqb h.number number && eqb h.connection who) (λ h. refl) c.handles

  and-second : (a b : Bool) → (a && b) ≡ true → b ≡ true
  and-second true b e = e
  and-second false b e = absurd cc

  on-seen : (c : Content) (who number : ℕ) (k j : OpenHandle Progress → List Check)
      → ((h : OpenHandle Progress) → find (λ h. eqb h.number number && eqb h.connection who) c.handles ≡ Some h → eqb h.connection who ≡ true → first_refusal (j (masked conn h)) ≡ first_refusal (k h))
      → first_refusal (on_handle (view conn c) who number j) ≡ first_refusal (on_handle c who number k)
  on-seen c who number k j f = by (find (λ h. eqb h.number number && eqb h.connection who) c.handles) refl
    where
      by : (o : Option (OpenHandle Progress)) → find (λ h. eqb h.number number && eqb h.connection who) c.handles ≡ o → first_refusal (on_handle (view conn c) who number j) ≡ first_refusal (on_handle c who number k)
      by None e = rw (found-seen c who number, e) refl
      by (Some h) e = rw (found-seen c who number, e) (f h e (and-second (eqb h.number number) (eqb h.connection who) (find-test (λ h. eqb h.number number && eqb h.connection who) c.handles h e)))

  box-seen : (c : Content) (n : ℕ) → n ≡ conn → outbox_of (view conn c) n ≡ outbox_of c n
  box-seen c n e = ap (outbox_of (view conn c)) e ∙ outbox-seen conn c ∙ ap (outbox_of c) (sym e)

  read-seen : (c : Content) (size : ℕ) (h : OpenHandle Progress) → h.connection ≡ conn → read_checks (view conn c) size h ≡ read_checks c size h
  read-seen c size h own = ap (λ xs. Refuse (not h.reads) BadMode ∷ Refuse (not (nat_le 1 size && nat_le size 17000000)) BadArgument ∷ Refuse (is_some h.parked) ReadPending ∷ xs) (by (read_answer c h size))
    where
      by : (a : Answer) → answer_checks (view conn c) h a ≡ answer_checks c h a
      by Waits = ap (λ box. refused (park_refusal box h.number) ++ Memory ∷ []) (box-seen c h.connection own)
      by (Everything text) = refl
      by (Blocks count text) = refl
      by (Needs need) = refl
      by TargetGone = refl
      by Nothing = refl

  notify-seen : (c : Content) (action : Action) (code : ℕ) (h : OpenHandle Progress) → h.connection ≡ conn → notify_checks (view conn c) action code h ≡ notify_checks c action code h
  notify-seen c action code h own = ap (λ box. Refuse (not h.reads) BadMode ∷ Refuse (nat_lt 127 code) BadArgument ∷ cond (arms action (news h)) (refused (arm_refusal box h.number) ++ Memory ∷ []) []) (box-seen c h.connection own)

  close-seen : (c : Content) (h : OpenHandle Progress) → close_checks (view conn c) (masked conn h) ≡ close_checks c h
  close-seen c h = by h.kind refl
    where
      by : (k : HandleKind) → h.kind ≡ k → close_checks (view conn c) (masked conn h) ≡ close_checks c h
      by ServerHandle e = rw e refl
      by ClientHandle e = rw e refl
      by NamesHandle e = rw e refl
      by (ObjectHandle delta) e = rw e refl
      by (DirectoryHandle delta) e = rw e refl

  -- ---- paths

  used-seen : (c : Content) (f : Found) → is_used (view conn c) f ≡ is_used c f
  used-seen c (FoundDirectory n) = refl
  used-seen c (FoundObject n) = ap (λ b. b || option_map_or (λ o. is_some o.object.server) (object_numbered c n) false)
      (ap is_some (find-map (masked conn) (λ h. not (is_directory_kind h.kind) && eqb h.target n) (λ h. refl) c.handles) ∙ is_some-map (masked conn) (find (λ h. not (is_directory_kind h.kind) && eqb h.target n) c.handles))

  found_as-seen : (c : Content) (o : Option Found) → found_as (is_used (view conn c)) o ≡ found_as (is_used c) o
  found_as-seen c None = refl
  found_as-seen c (Some f) = used-seen c f

  more-seen : (c : Content) → handle_checks (view conn c) ≡ handle_checks c
  more-seen c = ap (λ n. Refuse (nat_le 65535 n || nat_lt 4294967295 c.next_handle) TableFull ∷ []) (length-map (masked conn) c.handles)

  name-seen : (c : Content) (mode : Mode) (spec : OpenSpec) (f : Option Found) → name_checks (view conn c) mode spec f ≡ name_checks c mode spec f
  name-seen c mode spec f = λ i. (Refuse (is_none f && not mode.c) NotFound ∷ Refuse (found_as is_directory f) IsDirectory ∷ Refuse (spec.options.server && found_as-seen c f i) Busy ∷ []) ++ more-seen c i ++ cond (is_none f) (object_checks c spec.names) []

  all-seen : (c : Content) (f : Option Found) → all_checks (view conn c) f ≡ all_checks c f
  all-seen c f = ap (λ xs. Refuse (is_none f) NotFound ∷ Refuse (found_as is_object f) NotDirectory ∷ xs) (more-seen c)

  open-seen : (c : Content) (mode : Mode) (r : Result OpenSpec Refusal) → first_refusal (parsed r (open_checks (view conn c) mode)) ≡ first_refusal (parsed r (open_checks c mode))
  open-seen c mode (Err e) = refl
  open-seen c mode (Ok spec) = ap (λ x. cond (not (mode_fits mode spec)) (Some BadMode) x) (by (place (at c) spec.names))
    where
      by : (r : Result (Option Found) Refusal) → first_refusal (parsed r (λ f. cond spec.all (all_checks (view conn c) f) (name_checks (view conn c) mode spec f))) ≡ first_refusal (parsed r (λ f. cond spec.all (all_checks c f) (name_checks c mode spec f)))
      by (Err e) = refl
      by (Ok f) = λ i. first_refusal (cond spec.all (all-seen c f i) (name-seen c mode spec f i))

  unlink-seen : (c : Content) (path : Path) → first_refusal (unlink_checks (view conn c) path) ≡ first_refusal (unlink_checks c path)
  unlink-seen c path = ap (λ x. cond (is_empty path) (Some Busy) x) (by (find_at (at c) path))
    where
      by : (r : Result Found Refusal) → first_refusal (parsed r (unlink_found (view conn c) path)) ≡ first_refusal (parsed r (unlink_found c path))
      by (Err e) = refl
      by (Ok (FoundObject n)) = refl
      by (Ok (FoundDirectory n)) = ap (λ b. first_refusal (Refuse (not (is_empty (members c n)) || not (is_empty (subdirectories c path))) NotEmpty ∷ Refuse b Busy ∷ []))
          (ap is_some (find-map (masked conn) (λ h. is_directory_kind h.kind && eqb h.target n) (λ h. refl) c.handles) ∙ is_some-map (masked conn) (find (λ h. is_directory_kind h.kind && eqb h.target n) c.handles))

  path-seen : (c : Content) (r : Result Path Refusal) → first_refusal (parsed r (unlink_checks (view conn c))) ≡ first_refusal (parsed r (unlink_checks c))
  path-seen c (Err e) = refl
  path-seen c (Ok path) = unlink-seen c path

  -- ---- an event

  attached : (c : Content) (who : ℕ) (x y : Option Refusal) → y ≡ x → cond (not (is_attached (view conn c) who)) (Some NotAttached) y ≡ cond (not (is_attached c who)) (Some NotAttached) x
  attached c who x y e = λ i. cond (not (attached-seen conn c who i)) (Some NotAttached) (e i)

  pub checks-seen : (c : Content) (who : ℕ) (request : Request) → IsOrdered c → is_unseen conn who request ≡ false → (is_queue_write c request ≡ true → blocked (first_refusal (checks c who request)) ≡ false)
      → first_refusal (checks (view conn c) who request) ≡ first_refusal (checks c who request)
  unfolding checks
  checks-seen c who Attach o seen q = ap (λ b. first_refusal (Refuse (not (nat_le 1 who && nat_le who 1024)) BadArgument ∷ Refuse b AlreadyAttached ∷ Memory ∷ [])) (attached-seen conn c who)
  checks-seen c who Detach o seen q = attached c who None None refl
  checks-seen c who (OpenRequest mode text) o seen q = attached c who _ _ (ap (λ x. cond (not (letters_fit mode)) (Some BadMode) x) (open-seen c mode (open_text text)))
  checks-seen c who (Read handle size) o seen q = attached c who _ _ (on-seen c who handle (read_checks c size) (read_checks (view conn c) size) (λ h e is.
      let own : h.connection ≡ conn = eqb-true h.connection who is ∙ is-own conn who seen in
      ap (λ g. first_refusal (read_checks (view conn c) size g)) (masked-own conn h (eq-eqb h.connection conn own)) ∙ ap first_refusal (read-seen c size h own)))
  checks-seen c who (Write handle bytes) o seen q =
      ap (λ b. cond (not b) (Some NotAttached) (first_refusal (on_handle (view conn c) who handle (write_checks (view conn c) bytes)))) (attached-seen conn c who)
      ∙ under {P = is_queue_write c (Write handle bytes) ≡ true} (not (is_attached c who)) NotAttached (first_refusal (on_handle c who handle (write_checks c bytes))) (first_refusal (on_handle (view conn c) who handle (write_checks (view conn c) bytes)))
      (λ p. on-seen c who handle (write_checks c bytes) (write_checks (view conn c) bytes) (λ h e is. write-seen c bytes h (λ queue.
      let there = own-numbered c who handle h o e in
      let free : blocked (first_refusal (on_handle c who handle (write_checks c bytes))) ≡ false = p (ap (λ f. option_map_or (λ h. is_queue_kind h.kind) f false) there ∙ queue) in
      rw e at free))) q
  checks-seen c who (Close handle) o seen q = attached c who _ _ (on-seen c who handle (close_checks c) (close_checks (view conn c)) (λ h e is. ap first_refusal (close-seen c h)))
  checks-seen c who (Unlink path) o seen q = attached c who _ _ (path-seen c (ok_or (path_text path) BadPath))
  checks-seen c who (Mkdir path) o seen q = attached c who _ _ refl
  checks-seen c who (ListRequest path) o seen q = attached c who _ _ refl
  checks-seen c who (Notify handle action code value) o seen q = attached c who _ _ (on-seen c who handle (notify_checks c action code) (notify_checks (view conn c) action code) (λ h e is.
      let own : h.connection ≡ conn = eqb-true h.connection who is ∙ is-own conn who seen in
      ap (λ g. first_refusal (notify_checks (view conn c) action code g)) (masked-own conn h (eq-eqb h.connection conn own)) ∙ ap first_refusal (notify-seen c action code h own)))
  checks-seen c who Receive o seen q = attached c who _ _ (ap (λ items. first_refusal (receive_checks (first_of items))) (ap (queue_of (view conn c)) (is-own conn who seen) ∙ queue-seen conn c ∙ ap (queue_of c) (sym (is-own conn who seen))))
