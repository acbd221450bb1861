-- Who is behind among the handles on a server object.
use Rattle.std.proofs.Common.{◌≡◌, ◌∙◌, ℕ, Bool, true, false, not, cond, eqb, eqb-true, eq-eqb, ne_eqb, List, [], ◌∷◌, map, Option, Some, None, refl, sym, ap, subst, arith}
use Rattle.std.specs.Prelude.{◌&&◌, nat_le, is_some, option_map, option_and_then, filter, find, IfSome}
use Rattle.std.specs.Option.{option_map_or}
use Rattle.pps_types.specs.declared.found.Found.{Found}
use Rattle.pps_types.specs.declared.found.Found.TheVariants.{Object as FoundObject}
use Rattle.pps_types.specs.declared.handle_kind.HandleKind.{HandleKind}
use Rattle.pps_types.specs.declared.handle_kind.HandleKind.TheVariants.{Object as ObjectHandle, Directory as DirectoryHandle, Names as NamesHandle, Server as ServerHandle, Client as ClientHandle}
use Rattle.pps_types.specs.declared.refusal.Refusal.TheVariants.{Backlogged}
use Rattle.pps_types.specs.Bytes.{is_empty}
use Rattle.pps_types.specs.Reading.{OpenHandle, is_directory_kind}
use Rattle.pps_types.specs.Rests.{Progress}
use Rattle.pps_types.specs.Content.{LiveObject, Content, object_numbered, handle_numbered}
use Rattle.pps_types.specs.Checks.{Check, Refuse, first_refusal, client_backlog, clients, meant, OneClient, is_client, is_server, is_message_of, count_owed}
use Rattle.pps_types.specs.WellFormed.{RiseBetween, IsContent, has_server, is_server_of}
use Rattle.service_laws.proofs.Finds.{all-find, find-true}
use Rattle.pps_types.specs.Rising.{IsRising}
use Rattle.service_laws.specs.Concerned.{is_on_object}
use Rattle.sub_reader.specs.Opened.{handle_at, as_opened}
use Rattle.notify_box.proofs.ConnectionLists.{found-more}
use Rattle.open_handles.specs.Whole.{Whole, Site, site_at, handles_in, handles_at, is_on}
use Rattle.open_handles.proofs.Finds.{NoneNumbered, none_above, is_rising, at_number}
use Rattle.service_state.specs.Tables.{Tabled, content_in, AreTied, IsOpenable}
use Rattle.handle_requests.specs.Backlogs.{is_behind, server_in, server_checks}

-- the first client that is behind decides
pub first_behind : (hs : List (OpenHandle Progress)) → first_refusal (client_backlog hs) ≡ option_map (λ h. Backlogged h.number) (find is_behind hs)
first_behind [] = refl
first_behind (h ∷ hs) = by (first_behind hs) (is_behind h)
  where
    by : first_refusal (client_backlog hs) ≡ option_map (λ (x : OpenHandle Progress). Backlogged x.number) (find is_behind hs) → (b : Bool)
        → cond b (Some (Backlogged h.number)) (first_refusal (client_backlog hs)) ≡ option_map (λ (x : OpenHandle Progress). Backlogged x.number) (cond b (Some h) (find is_behind hs))
    by rest true = refl
    by rest false = rest

-- ---- tests one after the other

module _ {X : Type 0} where
  pub find_filter : (q p : X → Bool) (xs : List X) → find p (filter q xs) ≡ find (λ x. q x && p x) xs
  find_filter q p [] = refl
  find_filter q p (x ∷ xs) = by (q x) (find_filter q p xs)
    where
      by : (b : Bool) → find p (filter q xs) ≡ find (λ x. q x && p x) xs → find p (cond b (x ∷ filter q xs) (filter q xs)) ≡ cond (b && p x) (Some x) (find (λ x. q x && p x) xs)
      by true rest = ap (λ o. cond (p x) (Some x) o) rest
      by false rest = rest

  pub find_same : (p q : X → Bool) → ((x : X) → p x ≡ q x) → (xs : List X) → find p xs ≡ find q xs
  find_same p q same [] = refl
  find_same p q same (x ∷ xs) = λ i. cond (same x i) (Some x) (find_same p q same xs i)

  filter_swap : (p q : X → Bool) (xs : List X) → filter p (filter q xs) ≡ filter q (filter p xs)
  filter_swap p q [] = refl
  filter_swap p q (x ∷ xs) = by (p x) (q x) refl refl (filter_swap p q xs)
    where
      by : (a b : Bool) → p x ≡ a → q x ≡ b → filter p (filter q xs) ≡ filter q (filter p xs)
          → filter p (cond b (x ∷ filter q xs) (filter q xs)) ≡ filter q (cond a (x ∷ filter p xs) (filter p xs))
      by true true pa qb rest = ap (λ b. cond b (x ∷ filter p (filter q xs)) (filter p (filter q xs))) pa ∙ ap (λ ys. x ∷ ys) rest ∙ sym (ap (λ b. cond b (x ∷ filter q (filter p xs)) (filter q (filter p xs))) qb)
      by true false pa qb rest = rest ∙ sym (ap (λ b. cond b (x ∷ filter q (filter p xs)) (filter q (filter p xs))) qb)
      by false true pa qb rest = ap (λ b. cond b (x ∷ filter p (filter q xs)) (filter p (filter q xs))) pa ∙ rest
      by false false pa qb rest = rest

and_false : (a : Bool) → (a && false) ≡ false
and_false true = refl
and_false false = refl

and_turned : (a b : Bool) → (a && b) ≡ (b && a)
and_turned true true = refl
and_turned true false = refl
and_turned false true = refl
and_turned false false = refl

eqb_turned : (m n : ℕ) → eqb m n ≡ eqb n m
eqb_turned m n = by (eqb m n) refl
  where
    by : (b : Bool) → eqb m n ≡ b → b ≡ eqb n m
    by true is = sym (eq-eqb n m (sym (eqb-true m n is)))
    by false is = sym (ne_eqb n m (λ same. let bad : true ≡ false = sym (eq-eqb m n (sym same)) ∙ is in cc))

-- ---- clients by where they are

-- a client of an object is on it
on_client : (object target : ℕ) (kind : HandleKind) (b : Bool) → ((not (is_directory_kind kind) && eqb object target) && (is_client kind && b)) ≡ ((is_client kind && eqb target object) && b)
on_client object target (ObjectHandle delta) b = and_false (eqb object target)
on_client object target (DirectoryHandle delta) b = refl
on_client object target NamesHandle b = refl
on_client object target ServerHandle b = and_false (eqb object target)
on_client object target ClientHandle b = ap (λ x. x && b) (eqb_turned object target)

client_there : (object target : ℕ) (kind : HandleKind) → (is_client kind && eqb target object) ≡ true → (not (is_directory_kind kind) && eqb object target) ≡ true
client_there object target ClientHandle is = eqb_turned object target ∙ is
client_there object target (ObjectHandle delta) is = absurd (let bad = is in cc)
client_there object target (DirectoryHandle delta) is = absurd (let bad = is in cc)
client_there object target NamesHandle is = absurd (let bad = is in cc)
client_there object target ServerHandle is = absurd (let bad = is in cc)

server_there : (object target : ℕ) (kind : HandleKind) → (is_server kind && eqb target object) ≡ true → (not (is_directory_kind kind) && eqb object target) ≡ true
server_there object target ServerHandle is = eqb_turned object target ∙ is
server_there object target (ObjectHandle delta) is = absurd (let bad = is in cc)
server_there object target (DirectoryHandle delta) is = absurd (let bad = is in cc)
server_there object target NamesHandle is = absurd (let bad = is in cc)
server_there object target ClientHandle is = absurd (let bad = is in cc)

-- who is behind of all, by the handles on the object
pub all_behind : (c : Content) (object : ℕ) → find (λ (h : OpenHandle Progress). is_client h.kind && is_behind h) (filter (is_on_object object) c.handles) ≡ find is_behind (clients c object)
all_behind c object =
    find_filter (is_on_object object) (λ h. is_client h.kind && is_behind h) c.handles
    ∙ find_same (λ h. is_on_object object h && (is_client h.kind && is_behind h)) (λ h. (is_client h.kind && eqb h.target object) && is_behind h) (λ h. on_client object h.target h.kind (is_behind h)) c.handles
    ∙ sym (find_filter (λ h. is_client h.kind && eqb h.target object) is_behind c.handles)

-- a handle that is found, and is on the object, is found there
pub found_there : (hs : List (OpenHandle Progress)) (object n : ℕ) (h : OpenHandle Progress) → handle_at n hs ≡ Some h → is_on_object object h ≡ true → handle_at n (filter (is_on_object object) hs) ≡ Some h
found_there hs object n h found on =
    find_filter (is_on_object object) (λ (h : OpenHandle Progress). eqb h.number n) hs
    ∙ find_same (λ h. is_on_object object h && eqb h.number n) (λ h. eqb h.number n && is_on_object object h) (λ h. and_turned (is_on_object object h) (eqb h.number n)) hs
    ∙ found-more (λ (h : OpenHandle Progress). eqb h.number n) (is_on_object object) hs h found on

-- ---- one of them

abbrev pub only : Option (OpenHandle Progress) → List (OpenHandle Progress)
only None = []
only (Some h) = h ∷ []

none_left : (n : ℕ) (hs : List (OpenHandle Progress)) → NoneNumbered n hs → filter (λ h. eqb h.number n) hs ≡ []
none_left n [] none = refl
none_left n (h ∷ hs) none = ap (λ b. cond b (h ∷ filter (λ h. eqb h.number n) hs) (filter (λ h. eqb h.number n) hs)) none.0 ∙ none_left n hs none.1

only_one : (n : ℕ) (hs : List (OpenHandle Progress)) → IsRising (λ h. h.number) hs → filter (λ h. eqb h.number n) hs ≡ only (handle_at n hs)
only_one n [] rise = refl
only_one n (h ∷ hs) rise = by (eqb h.number n) refl (only_one n hs rise.1)
  where
    by : (b : Bool) → eqb h.number n ≡ b → filter (λ h. eqb h.number n) hs ≡ only (handle_at n hs)
        → cond b (h ∷ filter (λ h. eqb h.number n) hs) (filter (λ h. eqb h.number n) hs) ≡ only (cond b (Some h) (handle_at n hs))
    by true is rest = ap (λ xs. h ∷ xs) (none_left n hs (none_above h.number n hs (let same = eqb-true h.number n is in omega arith) rise.0))
    by false is rest = rest

abbrev pub is_client_of : ℕ → OpenHandle Progress → Bool
is_client_of object h = is_client h.kind && eqb h.target object

module _ (c : Content) (next : ℕ) (rise : RiseBetween 0 (map (λ h. h.number) c.handles) next) (object n : ℕ) where
  -- the client of that number, where it is the object's
  pub one_meant : meant c object (OneClient n) ≡ filter (is_client_of object) (only (handle_at n c.handles))
  one_meant = filter_swap (λ h. eqb h.number n) (is_client_of object) c.handles ∙ ap (filter (is_client_of object)) (only_one n c.handles (is_rising 0 next c.handles rise))

  pub none_meant : None ≡ option_map as_opened (handle_at n c.handles) → false ≡ not (is_empty (meant c object (OneClient n)))
  none_meant none = by (handle_at n c.handles) none one_meant
    where
      by : (o : Option (OpenHandle Progress)) → None ≡ option_map as_opened o → meant c object (OneClient n) ≡ filter (is_client_of object) (only o) → false ≡ not (is_empty (meant c object (OneClient n)))
      by None none is = sym (ap (λ hs. not (is_empty hs)) is)
      by (Some h) none is = absurd (let bad = none in cc)

  pub some_meant : (x : OpenHandle (Unit {0})) → Some x ≡ option_map as_opened (handle_at n c.handles) → (is_client x.kind && eqb x.target object) ≡ not (is_empty (meant c object (OneClient n)))
  some_meant x some = by (handle_at n c.handles) some one_meant
    where
      kept : (h : OpenHandle Progress) (b : Bool) → b ≡ not (is_empty (cond b (h ∷ []) []))
      kept h true = refl
      kept h false = refl

      by : (o : Option (OpenHandle Progress)) → Some x ≡ option_map as_opened o → meant c object (OneClient n) ≡ filter (is_client_of object) (only o) → (is_client x.kind && eqb x.target object) ≡ not (is_empty (meant c object (OneClient n)))
      by None some is = absurd (let bad = some in cc)
      by (Some h) some is =
          let same : x ≡ as_opened h = cc in
          ap (λ (y : OpenHandle (Unit {0})). is_client y.kind && eqb y.target object) same ∙ kept h (is_client_of object h) ∙ sym (ap (λ hs. not (is_empty hs)) is)

  -- it is behind, or not
  abbrev Behind : Option ℕ → Type 0
  Behind r = r ≡ option_map (λ (h : OpenHandle Progress). h.number) (find is_behind (meant c object (OneClient n)))

  pub no_client : false ≡ not (is_empty (meant c object (OneClient n))) → Behind None
  no_client none = by (meant c object (OneClient n)) none
    where
      by : (hs : List (OpenHandle Progress)) → false ≡ not (is_empty hs) → None ≡ option_map (λ (h : OpenHandle Progress). h.number) (find is_behind hs)
      by [] none = refl
      by (h ∷ hs) none = absurd (let bad = none in cc)

  pub client_behind : true ≡ not (is_empty (meant c object (OneClient n))) → (full : Bool) → full ≡ option_map_or is_behind (handle_at n (filter (is_on_object object) c.handles)) false
      → Behind (cond full (Some n) None)
  client_behind some full full-is = by (handle_at n c.handles) refl one_meant
    where
      numbered : (h : OpenHandle Progress) → h.number ≡ n → (b : Bool) → cond b (Some n) None ≡ option_map (λ (h : OpenHandle Progress). h.number) (cond b (Some h) None)
      numbered h is true = ap Some (sym is)
      numbered h is false = refl

      none_here : (hs : List (OpenHandle Progress)) → hs ≡ [] → true ≡ not (is_empty hs) → Behind (cond full (Some n) None)
      none_here hs is some = let bad : true ≡ false = some ∙ ap (λ hs. not (is_empty hs)) is in absurd (let b = bad in cc)

      here : (h : OpenHandle Progress) → handle_at n c.handles ≡ Some h → (b : Bool) → is_client_of object h ≡ b → meant c object (OneClient n) ≡ cond b (h ∷ []) [] → Behind (cond full (Some n) None)
      here h at false not is = none_here (meant c object (OneClient n)) is some
      here h at true client is =
          ap (λ b. cond b (Some n) None) (full-is ∙ ap (λ o. option_map_or is_behind o false) (found_there c.handles object n h at (client_there object h.target h.kind client)))
          ∙ numbered h (at_number n c.handles h at) (is_behind h)
          ∙ sym (ap (λ hs. option_map (λ (h : OpenHandle Progress). h.number) (find is_behind hs)) is)

      by : (o : Option (OpenHandle Progress)) → handle_at n c.handles ≡ o → meant c object (OneClient n) ≡ filter (is_client_of object) (only o) → Behind (cond full (Some n) None)
      by None at is = none_here (meant c object (OneClient n)) is some
      by (Some h) at is = here h at (is_client_of object h) refl is

-- ---- server objects

module _ (t : Tabled) (tied : AreTied t) (object : ℕ) (served : is_some (server_in (content_in t) object) ≡ true) where
  -- what is said of a server object's place
  served_there : (P : Type 0) → IfSome (site_at (FoundObject object) t.handles) (λ s. s.service ≡ true → P) → P
  served_there P told = by (object_numbered (content_in t) object) refl served
    where
      at : (o : LiveObject) → object_numbered (content_in t) object ≡ Some o → is_some o.object.server ≡ true → P
      at o found owned =
          let open_is : IsOpenable t.handles o = all-find (IsOpenable t.handles) (λ o. eqb o.object.number object) (content_in t).objects o tied.objects found in
          let number : o.object.number ≡ object = eqb-true o.object.number object (find-true (λ (o : LiveObject). eqb o.object.number object) (content_in t).objects o found) in
          let site : site_at (FoundObject object) t.handles ≡ Some (record { name = o.object.name; service = is_some o.object.server }) = ap (λ n. site_at (FoundObject n) t.handles) (sym number) ∙ open_is in
          subst (λ (s : Option Site). IfSome s (λ s. s.service ≡ true → P)) site told owned

      by : (o : Option LiveObject) → object_numbered (content_in t) object ≡ o → is_some (option_and_then (λ (o : LiveObject). o.object.server) o) ≡ true → P
      by None found owned = absurd (let bad = owned in cc)
      by (Some o) found owned = at o found owned

  -- what is said of the handles there is said of those on it
  pub told_there : (w : Whole) → w ≡ t.handles → ((f : Found) → handles_at f w ≡ filter (is_on f) (handles_in w)) → (P : List (OpenHandle Progress) → Type 0)
      → IfSome (site_at (FoundObject object) w) (λ s. s.service ≡ true → P (handles_at (FoundObject object) w)) → P (filter (is_on_object object) (handles_in t.handles))
  told_there w same placed P told =
      subst P (subst (λ (w : Whole). handles_at (FoundObject object) w ≡ filter (is_on_object object) (handles_in w)) same (placed (FoundObject object)))
      (served_there (P (handles_at (FoundObject object) t.handles)) (subst (λ (w : Whole). IfSome (site_at (FoundObject object) w) (λ s. s.service ≡ true → P (handles_at (FoundObject object) w))) same told))

-- a check that passes, and one that fails
pub none_if : {X : Type 0} (b : Bool) (x : X) → true ≡ not b → None ≡ cond b (Some x) None
none_if true x e = absurd (let bad = e in cc)
none_if false x e = refl

pub some_if : {X : Type 0} (b : Bool) (x : X) → false ≡ not b → Some x ≡ cond b (Some x) None
some_if true x e = refl
some_if false x e = absurd (let bad = e in cc)

-- a client's message has nobody to wait for, where its object is no server's
pub no_server : (c : Content) (object client : ℕ) → server_in c object ≡ None → first_refusal (server_checks c object client) ≡ None
no_server c object client none = by (object_numbered c object) none
  where
    by : (o : Option LiveObject) → option_and_then (λ (o : LiveObject). o.object.server) o ≡ None
        → first_refusal (option_map_or (λ s. Refuse (nat_le s.limit (count_owed (is_message_of client) s)) (Backlogged s.number) ∷ []) (option_and_then (λ (o : LiveObject). option_and_then (handle_numbered c) o.object.server) o) []) ≡ None
    by None none = refl
    by (Some o) none = ap (λ s. first_refusal (option_map_or (λ s. Refuse (nat_le s.limit (count_owed (is_message_of client) s)) (Backlogged s.number) ∷ []) (option_and_then (handle_numbered c) s) [])) none

-- it is owed as many messages of that client as its limit
abbrev pub owes : ℕ → OpenHandle Progress → Bool
owes client h = nat_le h.limit (count_owed (is_message_of client) h)

module _ (c : Content) (content : IsContent c) (object client s : ℕ) (server : server_in c object ≡ Some s) where
  abbrev served_by : Option (OpenHandle Progress) → List Check
  served_by h = option_map_or (λ (s : OpenHandle Progress). Refuse (owes client s) (Backlogged s.number) ∷ []) h []

  -- the server's handle is on its object, and refuses what it is owed too much of
  pub server_behind : (full : Bool) → full ≡ option_map_or (owes client) (handle_at s (filter (is_on_object object) c.handles)) false
      → cond full (Some (Backlogged s)) None ≡ first_refusal (server_checks c object client)
  server_behind full full-is = by (object_numbered c object) refl server
    where
      numbered : (h : OpenHandle Progress) → h.number ≡ s → (b : Bool) → cond b (Some (Backlogged s)) None ≡ cond b (Some (Backlogged h.number)) None
      numbered h is b = ap (λ n. cond b (Some (Backlogged n)) None) (sym is)

      here : (h : OpenHandle Progress) → handle_numbered c s ≡ Some h → (is_server h.kind && eqb h.target object) ≡ true → cond full (Some (Backlogged s)) None ≡ first_refusal (served_by (handle_numbered c s))
      here h at on =
          ap (λ b. cond b (Some (Backlogged s)) None) (full-is ∙ ap (λ o. option_map_or (owes client) o false) (found_there c.handles object s h at (server_there object h.target h.kind on)))
          ∙ numbered h (at_number s c.handles h at) (owes client h)
          ∙ sym (ap (λ o. first_refusal (served_by o)) at)

      found : (h : Option (OpenHandle Progress)) → handle_numbered c s ≡ h → option_map_or (λ (h : OpenHandle Progress). is_server h.kind && eqb h.target object) h false ≡ true → cond full (Some (Backlogged s)) None ≡ first_refusal (served_by (handle_numbered c s))
      found None at on = absurd (let bad = on in cc)
      found (Some h) at on = here h at on

      at_object : (o : LiveObject) → object_numbered c object ≡ Some o → o.object.server ≡ Some s → cond full (Some (Backlogged s)) None ≡ first_refusal (server_checks c object client)
      at_object o is owned =
          let number : o.object.number ≡ object = eqb-true o.object.number object (find-true (λ (o : LiveObject). eqb o.object.number object) c.objects o is) in
          let has : has_server c o.object ≡ true = all-find (λ (o : LiveObject). has_server c o.object ≡ true) (λ o. eqb o.object.number object) c.objects o content.served.servers is in
          let stands : is_server_of c object s ≡ true = sym (ap (λ (x : Option ℕ). option_map_or (is_server_of c o.object.number) x true) owned ∙ ap (λ n. is_server_of c n s) number) ∙ has in
          found (handle_numbered c s) refl stands
          ∙ sym (ap (λ (x : Option LiveObject). first_refusal (served_by (option_and_then (λ (o : LiveObject). option_and_then (handle_numbered c) o.object.server) x))) is ∙ ap (λ (x : Option ℕ). first_refusal (served_by (option_and_then (handle_numbered c) x))) owned)

      by : (o : Option LiveObject) → object_numbered c object ≡ o → option_and_then (λ (o : LiveObject). o.object.server) o ≡ Some s → cond full (Some (Backlogged s)) None ≡ first_refusal (server_checks c object client)
      by None is owned = absurd (let bad = owned in cc)
      by (Some o) is owned = at_object o is owned
