-- Room for records, place by place.
use Rattle.std.proofs.Common.{◌≡◌, ◌<◌, ◌≤◌, ℕ, zero, suc, ◌+◌, take, get_or, Bool, true, false, cond, eqb-true, List, [], ◌∷◌, length, Some, refl, sym, ap, ◌∙◌, subst, arith, ◌⊎◌, inl, inr}
use Rattle.std.specs.Prelude.{filter, IfSome}
use Rattle.std.specs.List.{AllByRecursion}
use Rattle.std.proofs.lemmas.List.Sums.{sum_by-cons}
use Rattle.pps_types.specs.declared.found.Found.{Found}
use Rattle.pps_types.specs.declared.found.Found.TheVariants.{Object as FoundObject, Directory as FoundDirectory}
use Rattle.pps_types.specs.History.{Entry}
use Rattle.pps_types.specs.Reading.{OpenHandle, visible}
use Rattle.pps_types.specs.Rests.{Progress}
use Rattle.service_laws.proofs.Finds.{all-imp}
use Rattle.number_table.specs.Numbered.{Numbered}
use Rattle.server_queue.specs.Senders.{client_messages}
use Rattle.topics.specs.Standing.{Spare, HaveRoom, messages_in}
use Rattle.topics.specs.declared.topic.Topic.{Topic}
use Rattle.topics.specs.declared.topic.Topic.TheVariants.{Unused, Readers, Served}
use Rattle.topics.specs.HandlesOf.{handles_of, places_of as places_for, IsReady, IsSameTarget, KeepsRoom}
use Rattle.open_handles.specs.declared.places.Places.{Places}
use Rattle.open_handles.specs.Whole.{IsRight, Whole, IsWhole, place_at, with_place, topic_at, is_told, HasRoom, IsReadyIfUsed, IsReadyAt, IsReadyFor, IsReserved, KeepsTable}
use Rattle.open_handles.proofs.Finds.{found_cases}
use Rattle.open_handles.proofs.Standing.{with_found, with_other}
use Rattle.open_handles.proofs.Turns.{whole_of, same_turned, turn_sites, turn_places, turn_records}
use Rattle.open_handles.proofs.Offers.{if_here}

-- ---- fewer records need no more room

module _ (p q : Entry → Bool) where
  fewer : (es : List Entry) → length (filter p (filter q es)) ≤ length (filter p es)
  fewer [] = omega arith
  fewer (e ∷ es) = by (q e) (p e) refl (fewer es)
    where
      by : (b a : Bool) → p e ≡ a → length (filter p (filter q es)) ≤ length (filter p es) → length (filter p (cond b (e ∷ filter q es) (filter q es))) ≤ length (cond a (e ∷ filter p es) (filter p es))
      by true true is rest = subst (λ a. length (cond a (e ∷ filter p (filter q es)) (filter p (filter q es))) ≤ length (e ∷ filter p es)) (sym is) (omega arith)
      by true false is rest = subst (λ a. length (cond a (e ∷ filter p (filter q es)) (filter p (filter q es))) ≤ length (filter p es)) (sym is) rest
      by false true is rest = omega arith
      by false false is rest = rest

  fewer_messages : (es : List Entry) → messages_in (filter p (filter q es)) ≤ messages_in (filter p es)
  fewer_messages [] = omega arith
  fewer_messages (e ∷ es) = by (q e) (p e) refl (fewer_messages es)
    where
      by : (b a : Bool) → p e ≡ a → messages_in (filter p (filter q es)) ≤ messages_in (filter p es) → messages_in (filter p (cond b (e ∷ filter q es) (filter q es))) ≤ messages_in (cond a (e ∷ filter p es) (filter p es))
      by true true is rest = subst (λ a. messages_in (cond a (e ∷ filter p (filter q es)) (filter p (filter q es))) ≤ messages_in (e ∷ filter p es)) (sym is) (omega (arith, sum_by-cons (λ (e : Entry). client_messages e.record_of.kind) e (filter p es), sum_by-cons (λ (e : Entry). client_messages e.record_of.kind) e (filter p (filter q es))))
      by true false is rest = subst (λ a. messages_in (cond a (e ∷ filter p (filter q es)) (filter p (filter q es))) ≤ messages_in (filter p es)) (sym is) rest
      by false true is rest = omega (arith, sum_by-cons (λ (e : Entry). client_messages e.record_of.kind) e (filter p es))
      by false false is rest = rest

short : (q : Entry → Bool) (es : List Entry) → length (filter q es) ≤ length es
short q [] = omega arith
short q (e ∷ es) = elim (q e) as (λ b. length (cond b (e ∷ filter q es) (filter q es)) ≤ length (e ∷ es)) [ true ↦ omega (arith, short q es) | false ↦ omega (arith, short q es) ]

have_fewer : (q : Entry → Bool) (es : List Entry) (hs : List (OpenHandle Progress)) (ss : List Spare) → HaveRoom es hs ss → HaveRoom (filter q es) hs ss
have_fewer q es [] ss have = tt
have_fewer q es (h ∷ hs) [] have = have
have_fewer q es (h ∷ hs) (s ∷ ss) have = (
  record { records = (let le = fewer (visible h) q es in let most = have.0.records in omega arith); messages = (let le = fewer_messages (visible h) q es in let most = have.0.messages in omega arith) },
  have_fewer q es hs ss have.1,
)

ready_fewer : (q : Entry → Bool) (es : List Entry) (s : Topic) → IsReady es s → IsReady (filter q es) s
ready_fewer q es (Unused u) none = ap (filter q) none
ready_fewer q es (Readers t) ready = let le = short q es in let most : length es ≤ t.value.room = ready in omega arith
ready_fewer q es (Served s) ready = have_fewer q es s.value.handles s.value.spares ready

-- ---- one place

module _ (rows : Numbered Found) (p : Places) (whole : IsWhole (whole_of rows p)) (f : Found) (s t : Topic) (found : place_at f p ≡ Some s) (same : IsSameTarget s t)
    (right : IsRight t) (is : handles_of t ≡ handles_of s) (room : KeepsRoom s t) (places : places_for t ≡ places_for s) where
  pub reserved_here : IsReserved (whole_of rows p) (whole_of rows (with_place p f t))
  reserved_here = record {
    handles = same_turned rows p whole f s t found same right rows refl refl is;
    sites = turn_sites p f s t found same rows rows;
    rows = refl;
    places = turn_places p f s t found same (omega (arith, places)) rows rows;
    records = turn_records p f s t found same room (λ some. subst (λ hs. 0 < length hs) is some) rows rows;
    ready = λ es g ready. by es g ready (found_cases g f);
  }
    where
      by : (es : List Entry) (g : Found) → IfSome (place_at g p) (IsReadyIfUsed es) → (g ≡ f) ⊎ (g ≡ f → ⊥) → IfSome (place_at g (with_place p f t)) (IsReadyIfUsed es)
      by es g ready (inl here) = subst (λ g. IfSome (place_at g (with_place p f t)) (IsReadyIfUsed es)) (sym here)
          (subst (λ o. IfSome o (IsReadyIfUsed es)) (sym (with_found p f s t found))
          (λ used. room es (if_here (place_at f p) s (IsReadyIfUsed es) found (subst (λ g. IfSome (place_at g p) (IsReadyIfUsed es)) here ready) (subst (λ hs. 0 < length hs) is used))))
      by es g ready (inr other) = subst (λ o. IfSome o (IsReadyIfUsed es)) (sym (with_other p g f t other)) ready

pub reserved_same : (w : Whole) → IsReserved w w
reserved_same w = record {
  handles = refl;
  sites = record { sites = λ f. refl; objects = record { next = refl; room = omega arith }; directories = record { next = refl; room = omega arith } };
  rows = refl;
  places = λ f. omega arith;
  records = λ es room. room;
  ready = λ es f ready. ready;
}

keeps_then : {T : Type 0} (a b c : Numbered T) → KeepsTable a b → KeepsTable b c → KeepsTable a c
keeps_then a b c x y = record { next = y.next ∙ x.next; room = omega (arith, x.room, y.room) }

pub reserved_then : (a b c : Whole) → IsReserved a b → IsReserved b c → IsReserved a c
reserved_then a b c x y = record {
  handles = y.handles ∙ x.handles;
  sites = record { sites = λ f. y.sites.sites f ∙ x.sites.sites f; objects = keeps_then a.objects b.objects c.objects x.sites.objects y.sites.objects; directories = keeps_then a.directories b.directories c.directories x.sites.directories y.sites.directories };
  rows = y.rows ∙ x.rows;
  places = λ f. omega (arith, x.places f, y.places f);
  records = λ es room. y.records es (x.records es room);
  ready = λ es f ready. y.ready es f (x.ready es f ready);
}

pub ready_stays : (a b : Whole) (es : List Entry) → IsReserved a b → (xs : List Entry) → AllByRecursion (IsReadyFor es a) xs → AllByRecursion (IsReadyFor es b) xs
ready_stays a b es is xs all = all-imp (IsReadyFor es a) (IsReadyFor es b) (λ e ready. record { object = is.ready es (FoundObject e.record_of.object) ready.object; directory = is.ready es (FoundDirectory e.directory) ready.directory }) xs all

all_next : {X : Type 0} (P : X → Type 0) (xs : List X) (i : ℕ) (x : X) → i < length xs → x ≡ get_or xs i x → AllByRecursion P (take i xs) → P x → AllByRecursion P (take (suc i) xs)
all_next P [] i x lt is all p = absurd (omega arith)
all_next P (y ∷ ys) zero x lt is all p = (subst P is p, tt)
all_next P (y ∷ ys) (suc i) x lt is all p = (all.0, all_next P ys i x (omega arith) is all.1 p)

pub all_more : {X : Type 0} (P : X → Type 0) (xs : List X) (i : ℕ) (x : X) → i < length xs → x ≡ get_or xs i x → AllByRecursion P (take i xs) → P x → AllByRecursion P (take (i + 1) xs)
all_more P xs i x lt is all p = subst (λ n. AllByRecursion P (take n xs)) (let e : suc i ≡ i + 1 = omega arith in e) (all_next P xs i x lt is all p)

-- ---- in all

told_ready : (es : List Entry) (w : Whole) (f : Found) (s : Topic) → topic_at f w ≡ Some s → (xs : List Entry) → AllByRecursion (IsReadyFor es w) xs → 0 < length (filter (is_told f) xs) → IsReadyIfUsed es s
told_ready es w f s at [] all some = absurd (omega arith)
told_ready es w f s at (x ∷ xs) all some = by (is_told f x) refl some (told_ready es w f s at xs all.1)
  where
    here : (f : Found) → topic_at f w ≡ Some s → is_told f x ≡ true → IsReadyIfUsed es s
    here (FoundObject n) at told = if_here (topic_at (FoundObject n) w) s (IsReadyIfUsed es) at (subst (λ n. IsReadyAt es (FoundObject n) w) (eqb-true x.record_of.object n told) all.0.object)
    here (FoundDirectory n) at told = if_here (topic_at (FoundDirectory n) w) s (IsReadyIfUsed es) at (subst (λ n. IsReadyAt es (FoundDirectory n) w) (eqb-true x.directory n told) all.0.directory)

    by : (b : Bool) → is_told f x ≡ b → 0 < length (cond b (x ∷ filter (is_told f) xs) (filter (is_told f) xs)) → (0 < length (filter (is_told f) xs) → IsReadyIfUsed es s) → IsReadyIfUsed es s
    by true told some rest = here f at told
    by false told some rest = rest some

pub room_all : (es : List Entry) (w : Whole) → AllByRecursion (IsReadyFor es w) es → HasRoom es w
room_all es w all f s at some told = ready_fewer (is_told f) es s (told_ready es w f s at es all told some)
