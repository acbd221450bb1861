-- What one connection sees of a content: all that stands but what others' handles have seen, park and arm, and what others' queues hold. Moves respect it.
use Rattle.std.proofs.Common.{◌≡◌, ℕ, Bool, true, false, cond, eqb, eqb-true, List, [], ◌∷◌, ◌++◌, map, None, refl, sym, ap, ◌∙◌}
use Rattle.std.specs.Prelude.{nat_lt}
use Rattle.std.specs.List.{flat_map, AllByRecursion}
use Rattle.pps_types.specs.declared.outcome.Item.{Item}
use Rattle.pps_types.specs.History.{Entry}
use Rattle.pps_types.specs.Reading.{OpenHandle, reseen, style}
use Rattle.pps_types.specs.Rests.{Progress, Unread}
use Rattle.pps_types.specs.Outbox.{put_rising, behind_first}
use Rattle.pps_types.specs.Content.{Connection, Content}
use Rattle.pps_types.specs.Plan.{Move, Attaches, Leaves, Creates, AppendsRecord, Opens, Closes, CatchesUp, Advances, Parks, Arms, Queues, Takes, MakesDirectory, RemovesDirectory, on_first, without_first, on_numbered, on_connection, requeued, creation, offer, caught_up, left, first_seen, apply_seen, apply_all_seen}
use Rattle.pps_types.specs.Runs.{queued_by}
use Rattle.pps_types.proofs.Lists.{all-on_first, all-without_first, all-push}

-- ---- lists seen through a mask

cond-twice : {X : Type 0} (b : Bool) (x y : X) → cond b (cond b x y) y ≡ cond b x y
cond-twice true x y = refl
cond-twice false x y = refl

module _ {X : Type 0} (see : X → X) (twice : (x : X) → see (see x) ≡ see x) where
  pub see-twice : (xs : List X) → map see (map see xs) ≡ map see xs
  see-twice [] = refl
  see-twice (x ∷ xs) = λ i. twice x i ∷ see-twice xs i

  pub see-map : (f : X → X) → ((x : X) → see (f (see x)) ≡ see (f x)) → (xs : List X) → map see (map f (map see xs)) ≡ map see (map f xs)
  see-map f keeps [] = refl
  see-map f keeps (x ∷ xs) = λ i. keeps x i ∷ see-map f keeps xs i

  pub see-append : (xs ys : List X) → map see (map see xs ++ ys) ≡ map see (xs ++ ys)
  see-append [] ys = refl
  see-append (x ∷ xs) ys = λ i. twice x i ∷ see-append xs ys i

  pub see-on_first : (test : X → Bool) → ((x : X) → test (see x) ≡ test x) → (f : X → X) → ((x : X) → see (f (see x)) ≡ see (f x)) → (xs : List X) → map see (on_first test f (map see xs)) ≡ map see (on_first test f xs)
  see-on_first test same f keeps [] = refl
  see-on_first test same f keeps (x ∷ xs) = ap (λ b. map see (cond b (f (see x) ∷ map see xs) (see x ∷ on_first test f (map see xs)))) (same x) ∙ by (test x) (see-on_first test same f keeps xs)
    where
      by : (b : Bool) → map see (on_first test f (map see xs)) ≡ map see (on_first test f xs) → map see (cond b (f (see x) ∷ map see xs) (see x ∷ on_first test f (map see xs))) ≡ map see (cond b (f x ∷ xs) (x ∷ on_first test f xs))
      by true rec = λ i. keeps x i ∷ see-twice xs i
      by false rec = λ i. twice x i ∷ rec i

  pub see-without_first : (test : X → Bool) → ((x : X) → test (see x) ≡ test x) → (xs : List X) → map see (without_first test (map see xs)) ≡ map see (without_first test xs)
  see-without_first test same [] = refl
  see-without_first test same (x ∷ xs) = ap (λ b. map see (cond b (map see xs) (see x ∷ without_first test (map see xs)))) (same x) ∙ by (test x) (see-without_first test same xs)
    where
      by : (b : Bool) → map see (without_first test (map see xs)) ≡ map see (without_first test xs) → map see (cond b (map see xs) (see x ∷ without_first test (map see xs))) ≡ map see (cond b xs (x ∷ without_first test xs))
      by true rec = see-twice xs
      by false rec = λ i. twice x i ∷ rec i

  pub see-put_rising : (number : X → ℕ) → ((x : X) → number (see x) ≡ number x) → (y : X) (xs : List X) → map see (put_rising number y (map see xs)) ≡ map see (put_rising number y xs)
  see-put_rising number same y [] = refl
  see-put_rising number same y (x ∷ xs) = ap (λ n. map see (cond (nat_lt (number y) n) (y ∷ see x ∷ map see xs) (see x ∷ put_rising number y (map see xs)))) (same x) ∙ by (nat_lt (number y) (number x)) (see-put_rising number same y xs)
    where
      by : (b : Bool) → map see (put_rising number y (map see xs)) ≡ map see (put_rising number y xs) → map see (cond b (y ∷ see x ∷ map see xs) (see x ∷ put_rising number y (map see xs))) ≡ map see (cond b (y ∷ x ∷ xs) (x ∷ put_rising number y xs))
      by true rec = λ i. see y ∷ twice x i ∷ see-twice xs i
      by false rec = λ i. twice x i ∷ rec i

-- ---- the view

module _ (conn : ℕ) where
  abbrev pub is_own : OpenHandle Progress → Bool
  is_own h = eqb h.connection conn

  -- a handle of another connection, without what only that connection is told
  abbrev pub blank : OpenHandle Progress → OpenHandle Progress
  blank h = record h { limit = 1; seen = Unread; parked = None; armed = None }

  abbrev pub masked : OpenHandle Progress → OpenHandle Progress
  masked h = record h { limit = cond (is_own h) h.limit 1; seen = cond (is_own h) h.seen Unread; parked = cond (is_own h) h.parked None; armed = cond (is_own h) h.armed None }

  abbrev pub masked_queue : Connection → Connection
  masked_queue x = record x { queue = cond (eqb x.number conn) x.queue [] }

  abbrev pub view : Content → Content
  view c = record c { records = 0; handles = map masked c.handles; connections = map masked_queue c.connections }

  pub masked-own : (h : OpenHandle Progress) → is_own h ≡ true → masked h ≡ h
  masked-own h e = ap (λ b. record h { limit = cond b h.limit 1; seen = cond b h.seen Unread; parked = cond b h.parked None; armed = cond b h.armed None }) e

  pub masked-other : (h : OpenHandle Progress) → is_own h ≡ false → masked h ≡ blank h
  masked-other h e = ap (λ b. record h { limit = cond b h.limit 1; seen = cond b h.seen Unread; parked = cond b h.parked None; armed = cond b h.armed None }) e

  -- a change that reads, for others, nothing that is masked, and changes nothing else
  pub masked-change : (f : OpenHandle Progress → OpenHandle Progress) → ((h : OpenHandle Progress) → is_own (f h) ≡ is_own h) → ((h : OpenHandle Progress) → blank (f (masked h)) ≡ blank (f h)) → (h : OpenHandle Progress) → masked (f (masked h)) ≡ masked (f h)
  masked-change f same blanks h = by (is_own h) refl
    where
      by : (b : Bool) → is_own h ≡ b → masked (f (masked h)) ≡ masked (f h)
      by true e = ap (λ g. masked (f g)) (masked-own h e)
      by false e = masked-other (f (masked h)) (same (masked h) ∙ e) ∙ blanks h ∙ sym (masked-other (f h) (same h ∙ e))

  pub masked-twice : (h : OpenHandle Progress) → masked (masked h) ≡ masked h
  masked-twice h = masked-change (λ g. g) (λ g. refl) (λ g. refl) h

  pub queue-change : (f : List Item → List Item) (x : Connection) → masked_queue (requeued f (masked_queue x)) ≡ masked_queue (requeued f x)
  queue-change f x = by (eqb x.number conn)
    where
      by : (b : Bool) → ◌≡◌ {A = Connection} (record x { queue = cond b (f (cond b x.queue [])) [] }) (record x { queue = cond b (f x.queue) [] })
      by true = refl
      by false = refl

  pub queue-twice : (x : Connection) → masked_queue (masked_queue x) ≡ masked_queue x
  queue-twice x = λ i. record x { queue = cond-twice (eqb x.number conn) x.queue [] i }

  pub masked-other-queue : (x : Connection) → eqb x.number conn ≡ false → masked_queue x ≡ record x { queue = [] }
  masked-other-queue x e = ap (λ b. record x { queue = cond b x.queue [] }) e

  -- ---- moves and the view

  handles-on : (f : OpenHandle Progress → OpenHandle Progress) → ((h : OpenHandle Progress) → is_own (f h) ≡ is_own h) → ((h : OpenHandle Progress) → blank (f (masked h)) ≡ blank (f h)) → (n : ℕ) (hs : List (OpenHandle Progress)) → map masked (on_numbered n f (map masked hs)) ≡ map masked (on_numbered n f hs)
  handles-on f same blanks n hs = see-on_first masked masked-twice (λ h. eqb h.number n) (λ h. refl) f (masked-change f same blanks) hs

  handles-offered : (e : Entry) (hs : List (OpenHandle Progress)) → map masked (map (offer e) (map masked hs)) ≡ map masked (map (offer e) hs)
  handles-offered e hs = see-map masked masked-twice (offer e) (masked-change (offer e) (λ h. refl) (λ h. refl)) hs

  queues-twice : (xs : List Connection) → map masked_queue (map masked_queue xs) ≡ map masked_queue xs
  queues-twice xs = see-twice masked_queue queue-twice xs

  view-of : (c : Content) {hs gs : List (OpenHandle Progress)} {xs ys : List Connection} → hs ≡ gs → xs ≡ ys → ◌≡◌ {A = Content} (record c { records = 0; handles = hs; connections = xs }) (record c { records = 0; handles = gs; connections = ys })
  view-of c p q = λ i. record c { records = 0; handles = p i; connections = q i }

  pub view-twice : (c : Content) → view (view c) ≡ view c
  view-twice c = view-of c (see-twice masked masked-twice c.handles) (queues-twice c.connections)

  handles-twice : (hs : List (OpenHandle Progress)) → map masked (map masked hs) ≡ map masked hs
  handles-twice hs = see-twice masked masked-twice hs

  -- a move does the same to what is seen
  pub view-move : (x : Move) (c : Content) → view (apply_seen x (view c)) ≡ view (apply_seen x c)
  view-move (Attaches to) c = view-of (apply_seen (Attaches to) c) (handles-twice c.handles) (see-put_rising masked_queue queue-twice (λ x. x.number) (λ x. refl) (record { number = to; queue = [] }) c.connections)
  view-move (Leaves to) c = view-of (apply_seen (Leaves to) c) (handles-twice c.handles) (see-without_first masked_queue queue-twice (λ x. eqb x.number to) (λ x. refl) c.connections)
  view-move (Creates o) c = view-of (apply_seen (Creates o) c) (handles-offered (creation o) c.handles) (queues-twice c.connections)
  view-move (AppendsRecord e) c = view-of (apply_seen (AppendsRecord e) c) (handles-offered e c.handles) (queues-twice c.connections)
  view-move (Opens h) c = view-of (apply_seen (Opens h) c) (see-append masked masked-twice c.handles (reseen (λ h. first_seen h (style h.kind)) h ∷ [])) (queues-twice c.connections)
  view-move (Closes n) c = view-of (apply_seen (Closes n) c) (see-without_first masked masked-twice (λ h. eqb h.number n) (λ h. refl) c.handles) (queues-twice c.connections)
  view-move (CatchesUp n) c = view-of (apply_seen (CatchesUp n) c) (handles-on (reseen caught_up) (λ h. refl) (λ h. refl) n c.handles) (queues-twice c.connections)
  view-move (Advances n count) c = view-of (apply_seen (Advances n count) c) (handles-on (reseen (λ h. left h count h.seen)) (λ h. refl) (λ h. refl) n c.handles) (queues-twice c.connections)
  view-move (Parks n size) c = view-of (apply_seen (Parks n size) c) (handles-on (λ h. record h { parked = size }) (λ h. refl) (λ h. refl) n c.handles) (queues-twice c.connections)
  view-move (Arms n pulse) c = view-of (apply_seen (Arms n pulse) c) (handles-on (λ h. record h { armed = pulse }) (λ h. refl) (λ h. refl) n c.handles) (queues-twice c.connections)
  view-move (Queues to item) c = view-of (apply_seen (Queues to item) c) (handles-twice c.handles) (see-on_first masked_queue queue-twice (λ x. eqb x.number to) (λ x. refl) (requeued (λ items. items ++ item ∷ [])) (queue-change (λ items. items ++ item ∷ [])) c.connections)
  view-move (Takes to) c = view-of (apply_seen (Takes to) c) (handles-twice c.handles) (see-on_first masked_queue queue-twice (λ x. eqb x.number to) (λ x. refl) (requeued behind_first) (queue-change behind_first) c.connections)
  view-move (MakesDirectory path) c = view-of (apply_seen (MakesDirectory path) c) (handles-twice c.handles) (queues-twice c.connections)
  view-move (RemovesDirectory n) c = view-of (apply_seen (RemovesDirectory n) c) (handles-twice c.handles) (queues-twice c.connections)

  pub view-moves : (xs : List Move) (c : Content) → view (apply_all_seen xs (view c)) ≡ view (apply_all_seen xs c)
  view-moves [] c = view-twice c
  view-moves (x ∷ xs) c = sym (view-moves xs (apply_seen x (view c))) ∙ ap (λ d. view (apply_all_seen xs d)) (view-move x c) ∙ view-moves xs (apply_seen x c)

  -- equal views stay equal
  pub views-moves : (xs : List Move) (c d : Content) → view c ≡ view d → view (apply_all_seen xs c) ≡ view (apply_all_seen xs d)
  views-moves xs c d same = sym (view-moves xs c) ∙ ap (λ v. view (apply_all_seen xs v)) same ∙ view-moves xs d

-- ---- others' moves

module _ (conn : ℕ) (mine : ℕ → Bool) where
  -- mine says which handles are the connection's
  abbrev pub Owns : List (OpenHandle Progress) → Type 0
  Owns hs = AllByRecursion (λ h. eqb h.connection conn ≡ mine h.number) hs

  -- a move of a handle or a queue, of the connection's (b) or not
  abbrev pub MoveOf : Bool → Move → Type 0
  MoveOf b (CatchesUp n) = mine n ≡ b
  MoveOf b (Advances n count) = mine n ≡ b
  MoveOf b (Parks n size) = mine n ≡ b
  MoveOf b (Arms n pulse) = mine n ≡ b
  MoveOf b (Queues to item) = eqb to conn ≡ b
  MoveOf b (Takes to) = eqb to conn ≡ b
  MoveOf b x = ⊥

  -- a new handle is as mine says
  abbrev pub Fits : Move → Type 0
  Fits (Opens h) = eqb h.connection conn ≡ mine h.number
  Fits x = Unit {0}

  pub moves-fit : (b : Bool) (x : Move) → MoveOf b x → Fits x
  moves-fit b (Opens h) m = absurd m
  moves-fit b (Attaches to) m = tt
  moves-fit b (Leaves to) m = tt
  moves-fit b (Creates o) m = tt
  moves-fit b (AppendsRecord e) m = tt
  moves-fit b (Closes n) m = tt
  moves-fit b (CatchesUp n) m = tt
  moves-fit b (Advances n count) m = tt
  moves-fit b (Parks n size) m = tt
  moves-fit b (Arms n pulse) m = tt
  moves-fit b (Queues to item) m = tt
  moves-fit b (Takes to) m = tt
  moves-fit b (MakesDirectory path) m = tt
  moves-fit b (RemovesDirectory n) m = tt

  owns-on : (f : OpenHandle Progress → OpenHandle Progress) → ((h : OpenHandle Progress) → (eqb h.connection conn ≡ mine h.number) → eqb (f h).connection conn ≡ mine (f h).number) → (n : ℕ) (hs : List (OpenHandle Progress)) → Owns hs → Owns (on_numbered n f hs)
  owns-on f keeps n hs owns = all-on_first (λ h. eqb h.connection conn ≡ mine h.number) (λ h. eqb h.number n) f keeps hs owns

  owns-offered : (e : Entry) (hs : List (OpenHandle Progress)) → Owns hs → Owns (map (offer e) hs)
  owns-offered e [] owns = tt
  owns-offered e (h ∷ hs) owns = (owns.0, owns-offered e hs owns.1)

  pub owns-move : (x : Move) (c : Content) → Fits x → Owns c.handles → Owns (apply_seen x c).handles
  owns-move (Attaches to) c fits owns = owns
  owns-move (Leaves to) c fits owns = owns
  owns-move (Creates o) c fits owns = owns-offered (creation o) c.handles owns
  owns-move (AppendsRecord e) c fits owns = owns-offered e c.handles owns
  owns-move (Opens h) c fits owns = all-push (λ h. eqb h.connection conn ≡ mine h.number) c.handles (reseen (λ h. first_seen h (style h.kind)) h) owns fits
  owns-move (Closes n) c fits owns = all-without_first (λ h. eqb h.connection conn ≡ mine h.number) (λ h. eqb h.number n) c.handles owns
  owns-move (CatchesUp n) c fits owns = owns-on (reseen caught_up) (λ h o. o) n c.handles owns
  owns-move (Advances n count) c fits owns = owns-on (reseen (λ h. left h count h.seen)) (λ h o. o) n c.handles owns
  owns-move (Parks n size) c fits owns = owns-on (λ h. record h { parked = size }) (λ h o. o) n c.handles owns
  owns-move (Arms n pulse) c fits owns = owns-on (λ h. record h { armed = pulse }) (λ h o. o) n c.handles owns
  owns-move (Queues to item) c fits owns = owns
  owns-move (Takes to) c fits owns = owns
  owns-move (MakesDirectory path) c fits owns = owns
  owns-move (RemovesDirectory n) c fits owns = owns

  pub owns-moves : (xs : List Move) (c : Content) → AllByRecursion Fits xs → Owns c.handles → Owns (apply_all_seen xs c).handles
  owns-moves [] c fits owns = owns
  owns-moves (x ∷ xs) c fits owns = owns-moves xs (apply_seen x c) fits.1 (owns-move x c fits.0 owns)

  pub owns-masked : (hs : List (OpenHandle Progress)) → Owns hs → Owns (map (masked conn) hs)
  owns-masked [] owns = tt
  owns-masked (h ∷ hs) owns = (owns.0, owns-masked hs owns.1)

  other-on : (f : OpenHandle Progress → OpenHandle Progress) → ((h : OpenHandle Progress) → eqb (f h).connection conn ≡ eqb h.connection conn) → ((h : OpenHandle Progress) → blank conn (f h) ≡ blank conn h) → (n : ℕ) → mine n ≡ false → (hs : List (OpenHandle Progress)) → Owns hs → map (masked conn) (on_numbered n f hs) ≡ map (masked conn) hs
  other-on f same blanks n other [] owns = refl
  other-on f same blanks n other (h ∷ hs) owns = by (eqb h.number n) refl (other-on f same blanks n other hs owns.1)
    where
      by : (b : Bool) → eqb h.number n ≡ b → map (masked conn) (on_numbered n f hs) ≡ map (masked conn) hs → map (masked conn) (cond b (f h ∷ hs) (h ∷ on_numbered n f hs)) ≡ masked conn h ∷ map (masked conn) hs
      by true e rec =
          let is : eqb h.connection conn ≡ false = owns.0 ∙ ap mine (eqb-true h.number n e) ∙ other in
          ap (λ g. g ∷ map (masked conn) hs) (masked-other conn (f h) (same h ∙ is) ∙ blanks h ∙ sym (masked-other conn h is))
      by false e rec = ap (λ gs. masked conn h ∷ gs) rec

  pub other-queue : (f : List Item → List Item) (to : ℕ) → eqb to conn ≡ false → (xs : List Connection) → map (masked_queue conn) (on_connection to f xs) ≡ map (masked_queue conn) xs
  other-queue f to other [] = refl
  other-queue f to other (x ∷ xs) = by (eqb x.number to) refl (other-queue f to other xs)
    where
      by : (b : Bool) → eqb x.number to ≡ b → map (masked_queue conn) (on_connection to f xs) ≡ map (masked_queue conn) xs → map (masked_queue conn) (cond b (requeued f x ∷ xs) (x ∷ on_connection to f xs)) ≡ masked_queue conn x ∷ map (masked_queue conn) xs
      by true e rec =
          let is : eqb x.number conn ≡ false = ap (λ n. eqb n conn) (eqb-true x.number to e) ∙ other in
          ap (λ y. y ∷ map (masked_queue conn) xs) (masked-other-queue conn (requeued f x) is ∙ sym (masked-other-queue conn x is))
      by false e rec = ap (λ ys. masked_queue conn x ∷ ys) rec

  -- others' moves are not seen
  pub other-move : (x : Move) (c : Content) → MoveOf false x → Owns c.handles → view conn (apply_seen x c) ≡ view conn c
  other-move (CatchesUp n) c other owns = ap (λ hs. record (view conn c) { handles = hs }) (other-on (reseen caught_up) (λ h. refl) (λ h. refl) n other c.handles owns)
  other-move (Advances n count) c other owns = ap (λ hs. record (view conn c) { handles = hs }) (other-on (reseen (λ h. left h count h.seen)) (λ h. refl) (λ h. refl) n other c.handles owns)
  other-move (Parks n size) c other owns = ap (λ hs. record (view conn c) { handles = hs }) (other-on (λ h. record h { parked = size }) (λ h. refl) (λ h. refl) n other c.handles owns)
  other-move (Arms n pulse) c other owns = ap (λ hs. record (view conn c) { handles = hs }) (other-on (λ h. record h { armed = pulse }) (λ h. refl) (λ h. refl) n other c.handles owns)
  other-move (Queues to item) c other owns = ap (λ xs. record (view conn c) { connections = xs }) (other-queue (λ items. items ++ item ∷ []) to other c.connections)
  other-move (Takes to) c other owns = ap (λ xs. record (view conn c) { connections = xs }) (other-queue behind_first to other c.connections)
  other-move (Attaches to) c other owns = absurd other
  other-move (Leaves to) c other owns = absurd other
  other-move (Creates o) c other owns = absurd other
  other-move (AppendsRecord e) c other owns = absurd other
  other-move (Opens h) c other owns = absurd other
  other-move (Closes n) c other owns = absurd other
  other-move (MakesDirectory path) c other owns = absurd other
  other-move (RemovesDirectory n) c other owns = absurd other

  all-fit : (b : Bool) (xs : List Move) → AllByRecursion (MoveOf b) xs → AllByRecursion Fits xs
  all-fit b [] all = tt
  all-fit b (x ∷ xs) all = (moves-fit b x all.0, all-fit b xs all.1)

  pub other-moves : (xs : List Move) (c : Content) → AllByRecursion (MoveOf false) xs → Owns c.handles → view conn (apply_all_seen xs c) ≡ view conn c
  other-moves [] c all owns = refl
  other-moves (x ∷ xs) c all owns = other-moves xs (apply_seen x c) all.1 (owns-move x c (moves-fit false x all.0) owns) ∙ other-move x c all.0 owns

  pub owned-moves : (b : Bool) (xs : List Move) (c : Content) → AllByRecursion (MoveOf b) xs → Owns c.handles → Owns (apply_all_seen xs c).handles
  owned-moves b xs c all owns = owns-moves xs c (all-fit b xs all) owns

  other-item : (x : Move) → MoveOf false x → queued_by conn x ≡ []
  other-item (Queues to item) other = ap (λ b. cond b (item ∷ []) []) other
  other-item (Attaches to) other = refl
  other-item (Leaves to) other = refl
  other-item (Creates o) other = refl
  other-item (AppendsRecord e) other = refl
  other-item (Opens h) other = refl
  other-item (Closes n) other = refl
  other-item (CatchesUp n) other = refl
  other-item (Advances n count) other = refl
  other-item (Parks n size) other = refl
  other-item (Arms n pulse) other = refl
  other-item (Takes to) other = refl
  other-item (MakesDirectory path) other = refl
  other-item (RemovesDirectory n) other = refl

  pub other-items : (xs : List Move) → AllByRecursion (MoveOf false) xs → flat_map (queued_by conn) xs ≡ []
  other-items [] all = refl
  other-items (x ∷ xs) all = ap (λ ys. ys ++ flat_map (queued_by conn) xs) (other-item x all.0) ∙ other-items xs all.1
