-- A server object has its server, and handles are on objects for their kinds.
use Rattle.std.proofs.Common.{◌≡◌, ◌<◌, ℕ, Bool, true, false, cond, ◌&&◌, eqb, eqb-true, eq-eqb, ne_eqb, List, [], ◌∷◌, map, Option, Some, None, refl, sym, ap, subst, ◌∙◌, arith}
use Rattle.std.specs.Prelude.{find, option_map}
use Rattle.std.specs.Option.{option_map_or}
use Rattle.std.specs.List.{AllByRecursion, filter_map, cons_option}
use Rattle.pps_types.specs.declared.record.Kind.{Kind}
use Rattle.pps_types.specs.declared.record.Kind.TheVariants.{Created, Change, Truncated, Dropped, Deleted, Opened, Closed, FromClient, ToClient, ToAll}
use Rattle.pps_types.specs.declared.handle_kind.HandleKind.{HandleKind}
use Rattle.pps_types.specs.declared.handle_kind.HandleKind.TheVariants.{Object as ObjectHandle, Directory as DirectoryHandle, Names as NamesHandle, Server as ServerHandle, Client as ClientHandle}
use Rattle.pps_types.specs.History.{Entry}
use Rattle.pps_types.specs.Reading.{OpenHandle, reseen, style, is_directory_kind}
use Rattle.pps_types.specs.Rests.{Progress}
use Rattle.pps_types.specs.Content.{Object, LiveObject, Content, object_numbered, handle_numbered}
use Rattle.pps_types.specs.Checks.{is_server}
use Rattle.pps_types.specs.Plan.{Creates, AppendsRecord, Opens, apply_seen, touched, still_known, creation, offer, first_seen, on_numbered}
use Rattle.pps_types.specs.WellFormed.{IsTarget, is_server_of, has_server, server_of, may_be_on}
use Rattle.pps_types.proofs.Lists.{all-push, all-on_first}
use Rattle.service_laws.proofs.Settlings.{find-map}
use Rattle.service_laws.proofs.Finds.{all-both, all-imp, all-filter_map, all-none, find-push, find-last}
use Rattle.service_laws.proofs.Rising.{rising-below, none-numbered}
use Rattle.service_laws.proofs.Fits.{Order, Held}
use Rattle.service_laws.proofs.Trees.{touched-of}
use Rattle.service_laws.proofs.Holders.{all-offered}

-- the two facts side by side
abbrev pub Servers : Content → Type 0
Servers c = AllByRecursion (λ (o : LiveObject). has_server c o.object ≡ true) c.objects

abbrev pub MayBe : Content → OpenHandle Progress → Type 0
MayBe c h = may_be_on h.kind h.number (server_of c h.target) ≡ true

abbrev pub Users : Content → Type 0
Users c = AllByRecursion (MayBe c) c.handles

abbrev pub Served : Content → Type 0
Served c = Servers c × Users c

-- ---- servers, where handles change

pub server-mono : (c d : Content) → ((n t : ℕ) → is_server_of c t n ≡ true → is_server_of d t n ≡ true) → (o : Object) → has_server c o ≡ true → has_server d o ≡ true
server-mono c d more o = go o.server
  where
    go : (s : Option ℕ) → option_map_or (is_server_of c o.number) s true ≡ true → option_map_or (is_server_of d o.number) s true ≡ true
    go None e = refl
    go (Some n) e = more n o.number e

serving : ℕ → OpenHandle Progress → Bool
serving t h = is_server h.kind && eqb h.target t

pub server-offered : (c : Content) (e : Entry) (n t : ℕ) → option_map_or (λ h. is_server h.kind && eqb h.target t) (find (λ h. eqb h.number n) (map (offer e) c.handles)) false ≡ is_server_of c t n
server-offered c e n t = ap (λ o. option_map_or (λ h. is_server h.kind && eqb h.target t) o false) (find-map (offer e) (λ h. eqb h.number n) (λ h. refl) c.handles) ∙ go (find (λ h. eqb h.number n) c.handles)
  where
    go : (o : Option (OpenHandle Progress)) → option_map_or (λ h. is_server h.kind && eqb h.target t) (option_map (offer e) o) false ≡ option_map_or (λ h. is_server h.kind && eqb h.target t) o false
    go None = refl
    go (Some h) = refl

-- a change of other fields of a handle
pub record IsLike (f : OpenHandle Progress → OpenHandle Progress) : Type 0 where
  pub number : (h : OpenHandle Progress) → (f h).number ≡ h.number
  pub kind : (h : OpenHandle Progress) → (f h).kind ≡ h.kind
  pub target : (h : OpenHandle Progress) → (f h).target ≡ h.target

server-changed : (f : OpenHandle Progress → OpenHandle Progress) → IsLike f → (k n t : ℕ) (hs : List (OpenHandle Progress)) → option_map_or (λ h. is_server h.kind && eqb h.target t) (find (λ h. eqb h.number n) (on_numbered k f hs)) false ≡ option_map_or (λ h. is_server h.kind && eqb h.target t) (find (λ h. eqb h.number n) hs) false
server-changed f like k n t [] = refl
server-changed f like k n t (h ∷ hs) = go (eqb h.number k) (server-changed f like k n t hs)
  where
    look : Bool → OpenHandle Progress → List (OpenHandle Progress) → Bool
    look b h rest = option_map_or (λ h. is_server h.kind && eqb h.target t) (cond b (Some h) (find (λ h. eqb h.number n) rest)) false

    both : (b : Bool) → look b (f h) hs ≡ look b h hs
    both true = λ i. is_server (like.kind h i) && eqb (like.target h i) t
    both false = refl

    rest : (b : Bool) → look true h [] ≡ look true h [] → option_map_or (λ h. is_server h.kind && eqb h.target t) (find (λ h. eqb h.number n) (on_numbered k f hs)) false ≡ option_map_or (λ h. is_server h.kind && eqb h.target t) (find (λ h. eqb h.number n) hs) false → look b h (on_numbered k f hs) ≡ look b h hs
    rest true u e = refl
    rest false u e = e

    go : (b : Bool) → option_map_or (λ h. is_server h.kind && eqb h.target t) (find (λ h. eqb h.number n) (on_numbered k f hs)) false ≡ option_map_or (λ h. is_server h.kind && eqb h.target t) (find (λ h. eqb h.number n) hs) false
        → option_map_or (λ h. is_server h.kind && eqb h.target t) (find (λ h. eqb h.number n) (cond b (f h ∷ hs) (h ∷ on_numbered k f hs))) false ≡ option_map_or (λ h. is_server h.kind && eqb h.target t) (find (λ h. eqb h.number n) (h ∷ hs)) false
    go true e = ap (λ m. look (eqb m n) (f h) hs) (like.number h) ∙ both (eqb h.number n)
    go false e = rest (eqb h.number n) refl e

-- the handle of a number changes in other fields
pub served-changed : (c : Content) (k : ℕ) (f : OpenHandle Progress → OpenHandle Progress) → IsLike f → Served c → Served (record c { handles = on_numbered k f c.handles })
served-changed c k f like s = (
  all-imp (λ (o : LiveObject). has_server c o.object ≡ true) (λ (o : LiveObject). has_server after o.object ≡ true) (λ o. server-mono c after (λ n t e. server-changed f like k n t c.handles ∙ e) o.object) c.objects s.0,
  all-on_first (MayBe c) (λ h. eqb h.number k) f (λ h p. (λ i. may_be_on (like.kind h i) (like.number h i) (server_of c (like.target h i))) ∙ p) c.handles s.1,
)
  where
    after : Content
    after = record c { handles = on_numbered k f c.handles }

-- ---- a record

abbrev pub is_deletion : Kind → Bool
is_deletion Deleted = true
is_deletion _ = false

-- what a record leaves of an object of number t
pub touched-server : (e : Entry) (t : ℕ) (xs : List LiveObject) → option_map (λ (o : LiveObject). o.object.server) (find (λ o. eqb o.object.number t) (filter_map (touched e) xs))
    ≡ cond (eqb e.record_of.object t && is_deletion e.record_of.kind) None (option_map (λ (o : LiveObject). o.object.server) (find (λ o. eqb o.object.number t) xs))
touched-server e t [] = elim (eqb e.record_of.object t && is_deletion e.record_of.kind) as (λ b. ◌≡◌ {A = Option (Option ℕ)} None (cond b None None)) [ true ↦ refl | false ↦ refl ]
touched-server e t (x ∷ xs) = go (eqb e.record_of.object x.object.number) refl (eqb x.object.number t) refl (touched-server e t xs)
  where
    look : Option LiveObject → Option (Option ℕ)
    look o = option_map (λ (o : LiveObject). o.object.server) o

    Rest : Type 0
    Rest = look (find (λ o. eqb o.object.number t) (filter_map (touched e) xs)) ≡ cond (eqb e.record_of.object t && is_deletion e.record_of.kind) None (look (find (λ o. eqb o.object.number t) xs))

    -- the object stays, as y
    stays : (y : LiveObject) → y.object ≡ x.object → (eqb x.object.number t ≡ true → (eqb e.record_of.object t && is_deletion e.record_of.kind) ≡ false) → (a : Bool) → eqb x.object.number t ≡ a
        → look (find (λ o. eqb o.object.number t) (filter_map (touched e) xs)) ≡ cond (eqb e.record_of.object t && is_deletion e.record_of.kind) None (look (find (λ o. eqb o.object.number t) xs))
        → look (cond (eqb y.object.number t) (Some y) (find (λ o. eqb o.object.number t) (filter_map (touched e) xs))) ≡ cond (eqb e.record_of.object t && is_deletion e.record_of.kind) None (look (cond (eqb x.object.number t) (Some x) (find (λ o. eqb o.object.number t) xs)))
    stays y is kept true own rest =
        ap (λ b. look (cond b (Some y) (find (λ o. eqb o.object.number t) (filter_map (touched e) xs)))) (ap (λ (o : Object). eqb o.number t) is ∙ own)
        ∙ ap (λ (o : Object). Some o.server) is
        ∙ sym (ap (λ b. cond b None (look (cond (eqb x.object.number t) (Some x) (find (λ o. eqb o.object.number t) xs)))) (kept own) ∙ ap (λ b. look (cond b (Some x) (find (λ o. eqb o.object.number t) xs))) own)
    stays y is kept false own rest =
        ap (λ b. look (cond b (Some y) (find (λ o. eqb o.object.number t) (filter_map (touched e) xs)))) (ap (λ (o : Object). eqb o.number t) is ∙ own)
        ∙ rest ∙ sym (ap (λ a. cond (eqb e.record_of.object t && is_deletion e.record_of.kind) None (look (cond a (Some x) (find (λ o. eqb o.object.number t) xs)))) own)

    and-off : (b : Bool) → (b && false) ≡ false
    and-off true = refl
    and-off false = refl

    goes : is_deletion e.record_of.kind ≡ true → eqb e.record_of.object x.object.number ≡ true → (a : Bool) → eqb x.object.number t ≡ a
        → look (find (λ o. eqb o.object.number t) (filter_map (touched e) xs)) ≡ cond (eqb e.record_of.object t && is_deletion e.record_of.kind) None (look (find (λ o. eqb o.object.number t) xs))
        → look (find (λ o. eqb o.object.number t) (filter_map (touched e) xs)) ≡ cond (eqb e.record_of.object t && is_deletion e.record_of.kind) None (look (cond (eqb x.object.number t) (Some x) (find (λ o. eqb o.object.number t) xs)))
    goes d own true is rest =
        let yes : (eqb e.record_of.object t && is_deletion e.record_of.kind) ≡ true = (λ i. eq-eqb e.record_of.object t (eqb-true e.record_of.object x.object.number own ∙ eqb-true x.object.number t is) i && d i) in
        rest ∙ ap (λ b. cond b None (look (find (λ o. eqb o.object.number t) xs))) yes ∙ sym (ap (λ b. cond b None (look (cond (eqb x.object.number t) (Some x) (find (λ o. eqb o.object.number t) xs)))) yes)
    goes d own false is rest = rest ∙ sym (ap (λ a. cond (eqb e.record_of.object t && is_deletion e.record_of.kind) None (look (cond a (Some x) (find (λ o. eqb o.object.number t) xs)))) is)

    by : (k : Kind) → e.record_of.kind ≡ k → eqb e.record_of.object x.object.number ≡ true → (a : Bool) → eqb x.object.number t ≡ a
        → look (find (λ o. eqb o.object.number t) (filter_map (touched e) xs)) ≡ cond (eqb e.record_of.object t && is_deletion e.record_of.kind) None (look (find (λ o. eqb o.object.number t) xs))
        → look (find (λ o. eqb o.object.number t) (cons_option (still_known x k) (filter_map (touched e) xs))) ≡ cond (eqb e.record_of.object t && is_deletion e.record_of.kind) None (look (cond (eqb x.object.number t) (Some x) (find (λ o. eqb o.object.number t) xs)))
    by Deleted is own a same rest = goes (ap is_deletion is) own a same rest
    by Created is own a same rest = stays _ refl (λ f. ap (λ b. eqb e.record_of.object t && b) (ap is_deletion is) ∙ and-off (eqb e.record_of.object t)) a same rest
    by (Change lines) is own a same rest = stays _ refl (λ f. ap (λ b. eqb e.record_of.object t && b) (ap is_deletion is) ∙ and-off (eqb e.record_of.object t)) a same rest
    by Truncated is own a same rest = stays _ refl (λ f. ap (λ b. eqb e.record_of.object t && b) (ap is_deletion is) ∙ and-off (eqb e.record_of.object t)) a same rest
    by Dropped is own a same rest = stays _ refl (λ f. ap (λ b. eqb e.record_of.object t && b) (ap is_deletion is) ∙ and-off (eqb e.record_of.object t)) a same rest
    by (Opened id) is own a same rest = stays _ refl (λ f. ap (λ b. eqb e.record_of.object t && b) (ap is_deletion is) ∙ and-off (eqb e.record_of.object t)) a same rest
    by (Closed id) is own a same rest = stays _ refl (λ f. ap (λ b. eqb e.record_of.object t && b) (ap is_deletion is) ∙ and-off (eqb e.record_of.object t)) a same rest
    by (FromClient id lines) is own a same rest = stays _ refl (λ f. ap (λ b. eqb e.record_of.object t && b) (ap is_deletion is) ∙ and-off (eqb e.record_of.object t)) a same rest
    by (ToClient id lines) is own a same rest = stays _ refl (λ f. ap (λ b. eqb e.record_of.object t && b) (ap is_deletion is) ∙ and-off (eqb e.record_of.object t)) a same rest
    by (ToAll lines) is own a same rest = stays _ refl (λ f. ap (λ b. eqb e.record_of.object t && b) (ap is_deletion is) ∙ and-off (eqb e.record_of.object t)) a same rest

    go : (b : Bool) → eqb e.record_of.object x.object.number ≡ b → (a : Bool) → eqb x.object.number t ≡ a
        → look (find (λ o. eqb o.object.number t) (filter_map (touched e) xs)) ≡ cond (eqb e.record_of.object t && is_deletion e.record_of.kind) None (look (find (λ o. eqb o.object.number t) xs))
        → look (find (λ o. eqb o.object.number t) (cons_option (cond b (still_known x e.record_of.kind) (Some x)) (filter_map (touched e) xs))) ≡ cond (eqb e.record_of.object t && is_deletion e.record_of.kind) None (look (cond (eqb x.object.number t) (Some x) (find (λ o. eqb o.object.number t) xs)))
    go true own a same rest = by e.record_of.kind refl own a same rest
    go false other a same rest = stays x refl (λ f. ap (λ b. b && is_deletion e.record_of.kind) (ap (eqb e.record_of.object) (sym (eqb-true x.object.number t f)) ∙ other)) a same rest

pub users-happens : (c : Content) (e : Entry)
    → AllByRecursion (λ (h : OpenHandle Progress). MayBe c h × ((is_server h.kind && (eqb e.record_of.object h.target && is_deletion e.record_of.kind)) ≡ false)) c.handles → Users (apply_seen (AppendsRecord e) c)
users-happens c e users = all-offered (MayBe (apply_seen (AppendsRecord e) c)) e (λ h q. q) c.handles
    (all-imp (λ (h : OpenHandle Progress). MayBe c h × ((is_server h.kind && (eqb e.record_of.object h.target && is_deletion e.record_of.kind)) ≡ false)) (MayBe (apply_seen (AppendsRecord e) c)) (λ h q. ap (may_be_on h.kind h.number) (touched-server e h.target c.objects) ∙ one h.kind h.number (eqb e.record_of.object h.target && is_deletion e.record_of.kind) (server_of c h.target) q.0 q.1) c.handles users)
  where
    one : (k : HandleKind) (n : ℕ) (b : Bool) (o : Option (Option ℕ)) → may_be_on k n o ≡ true → (is_server k && b) ≡ false → may_be_on k n (cond b None o) ≡ true
    one k n false o p q = p
    one ServerHandle n true o p q = absurd (let h = q in cc)
    one ClientHandle n true o p q = refl
    one (ObjectHandle d) n true o p q = refl
    one (DirectoryHandle d) n true o p q = refl
    one NamesHandle n true o p q = refl

-- a record that takes no server's object
pub served-happens : (c : Content) (e : Entry) → Servers c
    → AllByRecursion (λ (h : OpenHandle Progress). MayBe c h × ((is_server h.kind && (eqb e.record_of.object h.target && is_deletion e.record_of.kind)) ≡ false)) c.handles → Served (apply_seen (AppendsRecord e) c)
served-happens c e s users = (
  all-filter_map (λ (o : LiveObject). has_server (apply_seen (AppendsRecord e) c) o.object ≡ true) (touched e) (λ x. touched-of (λ o. has_server (apply_seen (AppendsRecord e) c) o ≡ true) e x) c.objects
      (all-imp (λ (o : LiveObject). has_server c o.object ≡ true) (λ (o : LiveObject). has_server (apply_seen (AppendsRecord e) c) o.object ≡ true) (λ o. server-mono c (apply_seen (AppendsRecord e) c) (λ n t q. server-offered c e n t ∙ q) o.object) c.objects s),
  users-happens c e users,
)

-- a record that deletes nothing
pub served-stays : (c : Content) (e : Entry) → is_deletion e.record_of.kind ≡ false → Served c → Served (apply_seen (AppendsRecord e) c)
served-stays c e plain s = served-happens c e s.0 (all-imp (MayBe c) (λ (h : OpenHandle Progress). MayBe c h × ((is_server h.kind && (eqb e.record_of.object h.target && is_deletion e.record_of.kind)) ≡ false))
    (λ h p. (p, ap (λ b. is_server h.kind && (eqb e.record_of.object h.target && b)) plain ∙ off (is_server h.kind) (eqb e.record_of.object h.target))) c.handles s.1)
  where
    off : (a b : Bool) → (a && (b && false)) ≡ false
    off true true = refl
    off true false = refl
    off false b = refl

-- ---- a new object

created-server : (c : Content) (o : Object) (t : ℕ) → eqb o.number t ≡ false → server_of (apply_seen (Creates o) c) t ≡ server_of c t
created-server c o t other = go (object_numbered c t) refl
  where
    go : (k : Option LiveObject) → object_numbered c t ≡ k → server_of (apply_seen (Creates o) c) t ≡ server_of c t
    go (Some k) e = ap (option_map (λ (o : LiveObject). o.object.server)) (find-push (λ (x : LiveObject). eqb x.object.number t) c.objects (record { object = o; attributes = [] }) k e ∙ sym e)
    go None e = ap (option_map (λ (o : LiveObject). o.object.server)) (find-last (λ (x : LiveObject). eqb x.object.number t) c.objects (record { object = o; attributes = [] }) e ∙ ap (λ b. cond b (Some (record { object = o; attributes = [] })) None) other ∙ sym e)

-- of handles on objects that were made
users-created : (c : Content) (o : Object) → o.number ≡ c.next_object → Held c → Users c → Users (apply_seen (Creates o) c)
users-created c o is held users = all-offered (MayBe (apply_seen (Creates o) c)) (creation o) (λ h q. q) c.handles
    (all-imp (λ (h : OpenHandle Progress). IsTarget c h.target (is_directory_kind h.kind) × MayBe c h) (MayBe (apply_seen (Creates o) c)) (λ h q. one h h.kind refl q.0 q.1) c.handles (all-both _ _ c.handles held.1 users))
  where
    same : (h : OpenHandle Progress) → h.target < c.next_object → may_be_on h.kind h.number (server_of c h.target) ≡ true → may_be_on h.kind h.number (server_of (apply_seen (Creates o) c) h.target) ≡ true
    same h lt p = ap (may_be_on h.kind h.number) (created-server c o h.target (ne_eqb o.number h.target (λ e. absurd (omega arith)))) ∙ p

    on : (h : OpenHandle Progress) (k : HandleKind) → h.kind ≡ k → is_directory_kind k ≡ false → IsTarget c h.target (is_directory_kind h.kind) → h.target < c.next_object
    on h k e plain p = subst (IsTarget c h.target) (ap is_directory_kind e ∙ plain) p

    one : (h : OpenHandle Progress) (k : HandleKind) → h.kind ≡ k → IsTarget c h.target (is_directory_kind h.kind) → MayBe c h → may_be_on h.kind h.number (server_of (apply_seen (Creates o) c) h.target) ≡ true
    one h ServerHandle e p q = same h (on h ServerHandle e refl p) q
    one h ClientHandle e p q = same h (on h ClientHandle e refl p) q
    one h (ObjectHandle d) e p q = same h (on h (ObjectHandle d) e refl p) q
    one h (DirectoryHandle d) e p q = ap (λ k. may_be_on k h.number (server_of (apply_seen (Creates o) c) h.target)) e
    one h NamesHandle e p q = ap (λ k. may_be_on k h.number (server_of (apply_seen (Creates o) c) h.target)) e

servers-created : (c : Content) (o : Object) → Servers c → AllByRecursion (λ (x : LiveObject). has_server (apply_seen (Creates o) c) x.object ≡ true) c.objects
servers-created c o s = all-imp (λ (x : LiveObject). has_server c x.object ≡ true) (λ (x : LiveObject). has_server (apply_seen (Creates o) c) x.object ≡ true) (λ x. server-mono c (apply_seen (Creates o) c) (λ n t q. server-offered c (creation o) n t ∙ q) x.object) c.objects s

-- one that has no server
pub served-created : (c : Content) (o : Object) → o.number ≡ c.next_object → o.server ≡ None → Held c → Served c → Served (apply_seen (Creates o) c)
served-created c o is none held s = (
  all-push (λ (x : LiveObject). has_server (apply_seen (Creates o) c) x.object ≡ true) c.objects (record { object = o; attributes = [] }) (servers-created c o s.0) (ap (λ f. option_map_or (is_server_of (apply_seen (Creates o) c) o.number) f true) none),
  users-created c o is held s.1,
)

-- ---- a handle opens

server-opened : (c : Content) (h : OpenHandle (Unit {0})) (n t : ℕ) → is_server_of c t n ≡ true → is_server_of (apply_seen (Opens h) c) t n ≡ true
server-opened c h n t e = go (handle_numbered c n) refl e
  where
    go : (o : Option (OpenHandle Progress)) → handle_numbered c n ≡ o → option_map_or (λ h. is_server h.kind && eqb h.target t) o false ≡ true → is_server_of (apply_seen (Opens h) c) t n ≡ true
    go None f e = absurd (let h = e in cc)
    go (Some g) f e = ap (λ o. option_map_or (λ h. is_server h.kind && eqb h.target t) o false) (find-push (λ h. eqb h.number n) c.handles (reseen (λ h. first_seen h (style h.kind)) h) g f) ∙ e

pub served-opened : (c : Content) (h : OpenHandle (Unit {0})) → may_be_on h.kind h.number (server_of c h.target) ≡ true → Served c → Served (apply_seen (Opens h) c)
served-opened c h may s = (
  all-imp (λ (o : LiveObject). has_server c o.object ≡ true) (λ (o : LiveObject). has_server (apply_seen (Opens h) c) o.object ≡ true) (λ o. server-mono c (apply_seen (Opens h) c) (server-opened c h) o.object) c.objects s.0,
  all-push (MayBe c) c.handles (reseen (λ h. first_seen h (style h.kind)) h) s.1 may,
)

-- the object that was created last
pub last-server : (c : Content) → Order c → (o : Object) → o.number ≡ c.next_object → server_of (apply_seen (Creates o) c) o.number ≡ Some o.server
last-server c r o is = ap (option_map (λ (x : LiveObject). x.object.server))
    (find-last (λ (x : LiveObject). eqb x.object.number o.number) c.objects (record { object = o; attributes = [] })
    (all-none (λ (x : LiveObject). eqb x.object.number o.number) c.objects (subst (λ n. AllByRecursion (λ (x : LiveObject). eqb x.object.number n ≡ false) c.objects) (sym is) (none-numbered (λ (x : LiveObject). x.object.number) c.next_object c.objects (rising-below (λ (x : LiveObject). x.object.number) 0 c.next_object c.objects r.1))))
    ∙ ap (λ b. cond b (Some (record { object = o; attributes = [] })) None) (eq-eqb o.number o.number refl))

-- a server opens with its object
pub served-server : (c : Content) → Order c → Held c → Served c → (o : Object) (h : OpenHandle (Unit {0})) → o.number ≡ c.next_object → o.server ≡ Some c.next_handle → h.number ≡ c.next_handle → h.kind ≡ ServerHandle → h.target ≡ o.number
    → Served (apply_seen (Opens h) (apply_seen (Creates o) c))
served-server c r held s o h number server own kind target = (
  all-push (λ (x : LiveObject). has_server after x.object ≡ true) c.objects (record { object = o; attributes = [] })
      (all-imp (λ (x : LiveObject). has_server made x.object ≡ true) (λ (x : LiveObject). has_server after x.object ≡ true) (λ x. server-mono made after (server-opened made h) x.object) c.objects (servers-created c o s.0))
      (ap (λ f. option_map_or (is_server_of after o.number) f true) server ∙ new-server),
  all-push (MayBe made) made.handles new (users-created c o number held s.1) new-user,
)
  where
    made : Content
    made = apply_seen (Creates o) c

    after : Content
    after = apply_seen (Opens h) made

    new : OpenHandle Progress
    new = reseen (λ h. first_seen h (style h.kind)) h

    free : find (λ (g : OpenHandle Progress). eqb g.number c.next_handle) made.handles ≡ None
    free = find-map (offer (creation o)) (λ g. eqb g.number c.next_handle) (λ g. refl) c.handles
        ∙ ap (option_map (offer (creation o))) (all-none (λ (g : OpenHandle Progress). eqb g.number c.next_handle) c.handles (none-numbered (λ (g : OpenHandle Progress). g.number) c.next_handle c.handles (rising-below (λ (g : OpenHandle Progress). g.number) 0 c.next_handle c.handles r.0)))

    new-server : is_server_of after o.number c.next_handle ≡ true
    new-server =
        ap (λ f. option_map_or (λ (g : OpenHandle Progress). is_server g.kind && eqb g.target o.number) f false) (find-last (λ (g : OpenHandle Progress). eqb g.number c.next_handle) made.handles new free ∙ ap (λ b. cond b (Some new) None) (eq-eqb h.number c.next_handle own))
        ∙ (λ i. is_server (kind i) && eq-eqb h.target o.number target i)

    new-user : may_be_on h.kind h.number (server_of made h.target) ≡ true
    new-user = (λ i. may_be_on (kind i) (own i) (server_of made (target i))) ∙ ap (may_be_on ServerHandle c.next_handle) (last-server c r o number ∙ ap Some server) ∙ eq-eqb c.next_handle c.next_handle refl
