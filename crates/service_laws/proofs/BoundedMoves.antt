-- Fit moves keep what stands within its bounds.
use Rattle.std.proofs.Common.{arith, ap, sym}
use Rattle.std.specs.Prelude.{◌≡◌, ◌≤◌, ◌<◌, ℕ, ◌+◌, List, [], ◌∷◌, ◌++◌, ◌==◌, Bool, true, false, not, ◌&&◌, cond, nat_lt, Option, Some, None, filter, map, length, refl}
use Rattle.std.proofs.lemmas.Bool.{and_parts, eqb-true}
use Rattle.std.proofs.lemmas.List.{length-append}
use Rattle.std.specs.List.{AllByRecursion, filter_map, cons_option}
use Rattle.pps_types.specs.declared.record.Kind.{Kind}
use Rattle.pps_types.specs.declared.record.Kind.TheVariants.{Created, Change, Truncated, Dropped, Deleted, Opened, Closed, FromClient, ToClient, ToAll}
use Rattle.pps_types.specs.declared.outcome.Item.{Item}
use Rattle.pps_types.specs.Names.{parent, last_name, same_path}
use Rattle.pps_types.specs.History.{Entry, after_kind, text_length}
use Rattle.pps_types.specs.Reading.{OpenHandle, Style, Full, Delta, Queue, style, reseen, visible}
use Rattle.pps_types.specs.Rests.{Progress, News, Unread, Over, Owed, stand, seen_of, keeps, pushed, past, from_first, over_limit}
use Rattle.pps_types.specs.Outbox.{behind_first}
use Rattle.pps_types.specs.Content.{Directory, LiveObject, Connection, Content}
use Rattle.pps_types.specs.Plan.{Move, Attaches, Leaves, Creates, AppendsRecord, Opens, Closes, CatchesUp, Advances, Parks, Arms, Queues, Takes, MakesDirectory, RemovesDirectory, without_first, on_numbered, requeued, creation, offered, offer, still_known, touched, caught_up, left, first_seen, apply_seen, apply_all_seen, with_connection}
use Rattle.pps_types.proofs.Lists.{all-push, all-on_first, all-without_first}
use Rattle.service_laws.proofs.Trees.{touched-of}
use Rattle.service_laws.specs.Bounds.{IsShort, AreShort, IsBoundObject, IsBoundHandle, IsBoundItem, IsBoundConnection, crowd, IsBound}
use Rattle.service_laws.specs.Fit.{IsFit, AreFit}
use Rattle.service_laws.proofs.BoundedLists.{all-from_first, all-past, all-pushed, filter-push}
use Rattle.service_laws.proofs.Finds.{OfSome}

-- ---- handles

short-stand : (s : Style) (reads over : Bool) (rest : List Entry) → AllByRecursion IsShort rest → AreShort (stand s reads over rest)
short-stand Full reads over rest all = tt
short-stand Delta reads true rest all = tt
short-stand Delta reads false rest all = all
short-stand Queue reads over rest all = all

short-seen_of : {S : Type 0} (h : OpenHandle S) (rest : List Entry) → AllByRecursion IsShort rest → AreShort (seen_of h rest)
short-seen_of h rest all = short-stand (style h.kind) h.reads (over_limit h rest) rest all

short-offered : (h : OpenHandle Progress) (e : Entry) → IsShort e → (s : Progress) → AreShort s → AreShort (offered h e s)
short-offered h e short (News b) all = tt
short-offered h e short Unread all = tt
short-offered h e short Over all = tt
short-offered h e short (Owed rest) all =
    short-seen_of h (cond (keeps h e) (pushed (visible h) e rest) rest)
    (elim (keeps h e) as (λ b. AllByRecursion IsShort (cond b (pushed (visible h) e rest) rest)) [ true ↦ all-pushed IsShort (visible h) e rest all short | false ↦ all ])

short-left : (h : OpenHandle Progress) (count : ℕ) (s : Progress) → AreShort s → AreShort (left h count s)
short-left h count (News b) all = tt
short-left h count Unread all = tt
short-left h count Over all = tt
short-left h count (Owed rest) all = short-seen_of h (from_first (visible h) (past (visible h) count rest)) (all-from_first IsShort (visible h) (past (visible h) count rest) (all-past IsShort (visible h) count rest all))

short-first : {S : Type 0} (h : OpenHandle S) (s : Style) → AreShort (first_seen h s)
short-first h Full = tt
short-first h Delta = tt
short-first h Queue = short-seen_of h [] tt

bound-reseen : (see : OpenHandle Progress → Progress) (h : OpenHandle Progress) → AreShort (see h) → IsBoundHandle h → IsBoundHandle (reseen see h)
bound-reseen see h short b = record { name = b.name; parked = b.parked; owed = short; listens = b.listens }

bound-offers : (e : Entry) → IsShort e → (hs : List (OpenHandle Progress)) → AllByRecursion IsBoundHandle hs → AllByRecursion IsBoundHandle (map (offer e) hs)
bound-offers e short [] all = all
bound-offers e short (h ∷ hs) all = (bound-reseen (λ h. offered h e h.seen) h (short-offered h e short h.seen all.0.owed) all.0, bound-offers e short hs all.1)

-- ---- objects

-- its text stays within its bound
abbrev StaysBound : Entry → LiveObject → Type 0
StaysBound e o = o.object.number ≡ e.record_of.object → text_length (after_kind o.attributes e.record_of.kind) ≤ 65536

bound-touched : (e : Entry) (o : LiveObject) → IsBoundObject o → StaysBound e o → OfSome IsBoundObject (touched e o)
bound-touched e o b stays = go (e.record_of.object == o.object.number) refl
  where
    still : (k : Kind) → text_length (after_kind o.attributes k) ≤ 65536 → OfSome IsBoundObject (still_known o k)
    still Created t = (b.0, t)
    still (Change lines) t = (b.0, t)
    still Truncated t = (b.0, t)
    still Dropped t = (b.0, t)
    still Deleted t = tt
    still (Opened id) t = (b.0, t)
    still (Closed id) t = (b.0, t)
    still (FromClient id lines) t = (b.0, t)
    still (ToClient id lines) t = (b.0, t)
    still (ToAll lines) t = (b.0, t)

    go : (is : Bool) → (e.record_of.object == o.object.number) ≡ is → OfSome IsBoundObject (cond is (still_known o e.record_of.kind) (Some o))
    go true own = still e.record_of.kind (stays (sym (eqb-true e.record_of.object o.object.number own)))
    go false own = b

bound-objects : (e : Entry) (os : List LiveObject) → AllByRecursion IsBoundObject os → AllByRecursion (StaysBound e) os → AllByRecursion IsBoundObject (filter_map (touched e) os)
bound-objects e [] all stay = tt
bound-objects e (o ∷ os) all stay = go (touched e o) (bound-touched e o all.0 stay.0) (bound-objects e os all.1 stay.1)
  where
    go : (t : Option LiveObject) → OfSome IsBoundObject t → AllByRecursion IsBoundObject (filter_map (touched e) os) → AllByRecursion IsBoundObject (cons_option t (filter_map (touched e) os))
    go None b rest = rest
    go (Some p) b rest = (b, rest)

pub touched-directory : (e : Entry) (o : LiveObject) → OfSome (λ p. p.object.directory ≡ o.object.directory) (touched e o)
touched-directory e o = touched-of (λ object. object.directory ≡ o.object.directory) e o refl

one-each : {X : Type 0} (p o : X) (a b : Bool) → a ≡ b → (xs ys : List X) → length xs ≤ length ys → length (cond a (p ∷ xs) xs) ≤ length (cond b (o ∷ ys) ys)
one-each p o true true e xs ys le = omega (arith, le)
one-each p o false false e xs ys le = le
one-each p o true false e xs ys le = cc
one-each p o false true e xs ys le = cc

-- a record makes no crowd larger
pub crowd-touched : (e : Entry) (directory : ℕ) (os : List LiveObject) → crowd (filter_map (touched e) os) directory ≤ crowd os directory
crowd-touched e directory [] = omega arith
crowd-touched e directory (o ∷ os) = go (touched e o) (touched-directory e o) (crowd-touched e directory os)
  where
    go : (t : Option LiveObject) → OfSome (λ p. p.object.directory ≡ o.object.directory) t → crowd (filter_map (touched e) os) directory ≤ crowd os directory → crowd (cons_option t (filter_map (touched e) os)) directory ≤ crowd (o ∷ os) directory
    go None same le = elim (o.object.directory == directory) as (λ b. length (filter (λ (o : LiveObject). o.object.directory == directory) (filter_map (touched e) os)) ≤ length (cond b (o ∷ filter (λ (o : LiveObject). o.object.directory == directory) os) (filter (λ (o : LiveObject). o.object.directory == directory) os))) [ true ↦ omega (arith, le) | false ↦ le ]
    go (Some p) same le = one-each p o (p.object.directory == directory) (o.object.directory == directory) (ap (λ n. n == directory) same) (filter (λ (o : LiveObject). o.object.directory == directory) (filter_map (touched e) os)) (filter (λ (o : LiveObject). o.object.directory == directory) os) le

-- ---- all moves

bound-connection : (conn : ℕ) (xs : List Connection) → AllByRecursion IsBoundConnection xs → AllByRecursion IsBoundConnection (with_connection conn xs)
bound-connection conn [] all = (tt, tt)
bound-connection conn (x ∷ xs) all =
    elim (nat_lt conn x.number) as (λ b. AllByRecursion IsBoundConnection (cond b (record { number = conn; queue = [] } ∷ x ∷ xs) (x ∷ with_connection conn xs)))
    [ true ↦ (tt, all) | false ↦ (all.0, bound-connection conn xs all.1) ]

bound-behind : (items : List Item) → AllByRecursion IsBoundItem items → AllByRecursion IsBoundItem (behind_first items)
bound-behind [] all = all
bound-behind (i ∷ is) all = all.1

-- of a part there are no more
fewer-without : {X : Type 0} (p test : X → Bool) (xs : List X) → length (filter p (without_first test xs)) ≤ length (filter p xs)
fewer-without p test [] = omega arith
fewer-without p test (x ∷ xs) = elim (test x) as (λ b. length (filter p (cond b xs (x ∷ without_first test xs))) ≤ length (cond (p x) (x ∷ filter p xs) (filter p xs))) [
  | true ↦ elim (p x) as (λ b. length (filter p xs) ≤ length (cond b (x ∷ filter p xs) (filter p xs))) [ true ↦ omega arith | false ↦ omega arith ]
  | false ↦ one-each x x (p x) (p x) refl (filter p (without_first test xs)) (filter p xs) (fewer-without p test xs)
]

-- one more is at most one more
at-most : {X : Type 0} (p : X → Bool) (y : X) (most : ℕ) (xs : List X) → length (filter p xs) ≤ most → (p y ≡ true → length (filter p xs) < most) → length (filter p (xs ++ y ∷ [])) ≤ most
at-most p y most xs le less = rw (filter-push p xs y, length-append (filter p xs) (cond (p y) (y ∷ []) [])) (go (p y) refl)
  where
    go : (b : Bool) → p y ≡ b → length (filter p xs) + length (cond b (y ∷ []) []) ≤ most
    go true e = omega (arith, less e)
    go false e = omega (arith, le)

-- other handles
with-handles : (c : Content) (handles : List (OpenHandle Progress)) → IsBound c → AllByRecursion IsBoundHandle handles → IsBound (record c { handles = handles })
with-handles c handles s bound = record {
  handles_end = s.handles_end;
  objects = s.objects;
  crowds = s.crowds;
  directories = s.directories;
  branches = s.branches;
  handles = bound;
  queues = s.queues;
}

-- the handle of that number changed
with-handle : (c : Content) (number : ℕ) (change : OpenHandle Progress → OpenHandle Progress) → IsBound c → ((h : OpenHandle Progress) → IsBoundHandle h → IsBoundHandle (change h)) → IsBound (record c { handles = on_numbered number change c.handles })
with-handle c number change s keeps = with-handles c (on_numbered number change c.handles) s (all-on_first IsBoundHandle (λ h. h.number == number) change keeps c.handles s.handles)

-- other queues
with-queues : (c : Content) (queues : List Connection) → IsBound c → AllByRecursion IsBoundConnection queues → IsBound (record c { connections = queues })
with-queues c queues s bound = record {
  handles_end = s.handles_end;
  objects = s.objects;
  crowds = s.crowds;
  directories = s.directories;
  branches = s.branches;
  handles = s.handles;
  queues = bound;
}

pub keeps-bound : (c : Content) (x : Move) → IsBound c → IsFit c x → IsBound (apply_seen x c)
keeps-bound c (Attaches conn) s f = with-queues c _ s (bound-connection conn c.connections s.queues)
keeps-bound c (Leaves conn) s f = with-queues c _ s (all-without_first IsBoundConnection (λ x. x.number == conn) c.connections s.queues)
keeps-bound c (Creates o) s f = record {
  handles_end = s.handles_end;
  objects = all-push IsBoundObject c.objects (record { object = o; attributes = [] }) s.objects (f.0, omega arith);
  crowds = λ directory. at-most (λ (k : LiveObject). k.object.directory == directory) (record { object = o; attributes = [] }) 256 c.objects (s.crowds directory) (λ own. rw (sym (eqb-true o.directory directory own)) f.1);
  directories = s.directories;
  branches = s.branches;
  handles = bound-offers (creation o) (f.0, omega arith, omega arith) c.handles s.handles;
  queues = s.queues;
}
keeps-bound c (AppendsRecord e) s f = record {
  handles_end = s.handles_end;
  objects = bound-objects e c.objects s.objects f.1;
  crowds = λ directory. (let le = crowd-touched e directory c.objects in omega (arith, s.crowds directory));
  directories = s.directories;
  branches = s.branches;
  handles = bound-offers e f.0 c.handles s.handles;
  queues = s.queues;
}
keeps-bound c (Opens h) s f = record {
  handles_end = omega (arith, f.0);
  objects = s.objects;
  crowds = s.crowds;
  directories = s.directories;
  branches = s.branches;
  handles = all-push IsBoundHandle c.handles (reseen (λ h. first_seen h (style h.kind)) h) s.handles (record { name = f.1; parked = rw f.2 tt; owed = short-first h (style h.kind); listens = f.3 });
  queues = s.queues;
}
keeps-bound c (Closes number) s f = with-handles c _ s (all-without_first IsBoundHandle (λ h. h.number == number) c.handles s.handles)
keeps-bound c (CatchesUp number) s f = with-handle c number (reseen caught_up) s (λ h b. bound-reseen caught_up h (short-seen_of h [] tt) b)
keeps-bound c (Advances number count) s f = with-handle c number (reseen (λ h. left h count h.seen)) s (λ h b. bound-reseen (λ h. left h count h.seen) h (short-left h count h.seen b.owed) b)
keeps-bound c (Parks number size) s f = with-handle c number (λ h. record h { parked = size }) s (λ h b. record { name = b.name; parked = f; owed = b.owed; listens = b.listens })
keeps-bound c (Arms number pulse) s f = with-handle c number (λ h. record h { armed = pulse }) s (λ h b. record { name = b.name; parked = b.parked; owed = b.owed; listens = b.listens })
keeps-bound c (Queues conn item) s f = with-queues c _ s (all-on_first IsBoundConnection (λ x. x.number == conn) (requeued (λ items. items ++ item ∷ [])) (λ x b. all-push IsBoundItem x.queue item b f) c.connections s.queues)
keeps-bound c (Takes conn) s f = with-queues c _ s (all-on_first IsBoundConnection (λ x. x.number == conn) (requeued behind_first) (λ x b. bound-behind x.queue b) c.connections s.queues)
keeps-bound c (MakesDirectory path) s f = record {
  handles_end = s.handles_end;
  objects = s.objects;
  crowds = s.crowds;
  directories = all-push (λ (d : Directory). length (last_name d.path) ≤ 255) c.directories (record { number = c.next_directory; path = path }) s.directories f.0;
  branches = λ p. at-most (λ (d : Directory). not (same_path d.path []) && same_path (parent d.path) p) (record { number = c.next_directory; path = path }) 256 c.directories (s.branches p) (λ own. f.1 p (and_parts (not (same_path path [])) (same_path (parent path) p) own).1);
  handles = s.handles;
  queues = s.queues;
}
keeps-bound c (RemovesDirectory number) s f = record {
  handles_end = s.handles_end;
  objects = s.objects;
  crowds = s.crowds;
  directories = all-without_first (λ (d : Directory). length (last_name d.path) ≤ 255) (λ d. d.number == number) c.directories s.directories;
  branches = λ p. (let le = fewer-without (λ (d : Directory). not (same_path d.path []) && same_path (parent d.path) p) (λ d. d.number == number) c.directories in omega (arith, s.branches p));
  handles = s.handles;
  queues = s.queues;
}

pub keeps-all : (xs : List Move) (c : Content) → IsBound c → AreFit c xs → IsBound (apply_all_seen xs c)
keeps-all [] c s f = s
keeps-all (x ∷ xs) c s f = keeps-all xs (apply_seen x c) (keeps-bound c x s f.0) f.1
