-- A record is offered to all handles.
use Rattle.std.proofs.Common.{◌≡◌, ◌<◌, ◌≤◌, ℕ, Bool, true, false, cond, ◌||◌, eqb, ne_eqb, List, [], ◌∷◌, map, length, Option, Some, None, refl, sym, ap, ◌∙◌, subst, arith, ◌⊎◌, inl, inr}
use Rattle.std.specs.Prelude.{filter, is_some, IfSome, option_map}
use Rattle.std.specs.List.{AllByRecursion, filter_map, list_any}
use Rattle.pps_types.specs.declared.found.Found.{Found}
use Rattle.pps_types.specs.declared.found.Found.TheVariants.{Object as FoundObject, Directory as FoundDirectory}
use Rattle.pps_types.specs.History.{Entry}
use Rattle.pps_types.specs.Reading.{OpenHandle, visible}
use Rattle.pps_types.specs.Rests.{Progress}
use Rattle.pps_types.specs.Plan.{offer}
use Rattle.service_laws.proofs.Finds.{all-imp}
use Rattle.service_laws.specs.Concerned.{is_concerned}
use Rattle.service_laws.proofs.SettlingUntouched.{offer_all-untouched}
use Rattle.number_table.specs.Numbered.{Entry as Numbering, Numbered, value_under}
use Rattle.sub_reader.specs.Opened.{handle_at, is_directory, number_of}
use Rattle.sub_reader.specs.HandlesOf.{AreOn, IsOn}
use Rattle.topics.specs.declared.topic.Topic.{Topic}
use Rattle.topics.specs.declared.topic.Topic.TheVariants.{Unused, Readers, Served}
use Rattle.topics.specs.HandlesOf.{target_of, handles_of, is_service, IsSameTarget, IsEnough, IsReady as IsReadyIn}
use Rattle.open_handles.specs.declared.places.Places.{Places}
use Rattle.open_handles.specs.Whole.{IsRight, Whole, IsWhole, AreRowed, row_handle, place_at, with_place, handles_on, handles_in, handles_at, handles_in_place, topic_at, site_of, Site, IsSharedAt, HasRoom, HasRoomIn, HasRoomAt, is_told}
use Rattle.open_handles.proofs.Finds.{found_cases}
use Rattle.open_handles.proofs.Rows.{mapped}
use Rattle.open_handles.proofs.Standing.{with_found, with_placed, with_handles, old_handles, with_elsewhere, with_handles_on}
use Rattle.open_handles.proofs.Turns.{whole_of}

-- ---- rows see the numbers alone

numbers : List (OpenHandle Progress) → List ℕ
numbers hs = map (λ (h : OpenHandle Progress). h.number) hs

some_any : (n : ℕ) (hs : List (OpenHandle Progress)) → is_some (handle_at n hs) ≡ list_any (λ m. eqb m n) (map (λ (h : OpenHandle Progress). h.number) hs)
some_any n [] = refl
some_any n (h ∷ hs) = by (eqb h.number n) (some_any n hs)
  where
    by : (b : Bool) → is_some (handle_at n hs) ≡ list_any (λ m. eqb m n) (map (λ (h : OpenHandle Progress). h.number) hs) → is_some (cond b (Some h) (handle_at n hs)) ≡ (b || list_any (λ m. eqb m n) (map (λ (h : OpenHandle Progress). h.number) hs))
    by true rest = refl
    by false rest = rest

all_to : (P : ℕ → Type 0) (hs : List (OpenHandle Progress)) → AllByRecursion (λ (h : OpenHandle Progress). P h.number) hs → AllByRecursion P (map (λ (h : OpenHandle Progress). h.number) hs)
all_to P [] all = tt
all_to P (h ∷ hs) all = (all.0, all_to P hs all.1)

all_from : (P : ℕ → Type 0) (hs : List (OpenHandle Progress)) → AllByRecursion P (map (λ (h : OpenHandle Progress). h.number) hs) → AllByRecursion (λ (h : OpenHandle Progress). P h.number) hs
all_from P [] all = tt
all_from P (h ∷ hs) all = (all.0, all_from P hs all.1)

pub numbers_rowed : (on then : Found → List (OpenHandle Progress)) (rows : List (Numbering Found)) (next : ℕ) → ((g : Found) → map (λ (h : OpenHandle Progress). h.number) (then g) ≡ map (λ (h : OpenHandle Progress). h.number) (on g)) → ((g : Found) → AreOn (is_directory g) (number_of g) (then g))
    → AreRowed on rows next → AreRowed then rows next
numbers_rowed on then rows next same on_topic rowed = record {
  rise = rowed.rise;
  on_topic = on_topic;
  each = all-imp (λ (e : Numbering Found). is_some (row_handle on e) ≡ true) (λ (e : Numbering Found). is_some (row_handle then e) ≡ true)
      (λ e some. some_any e.number (then e.value) ∙ ap (list_any (λ m. eqb m e.number)) (same e.value) ∙ sym (some_any e.number (on e.value)) ∙ some) rows rowed.each;
  own = λ g. all_from (λ n. value_under n rows ≡ Some g) (then g) (subst (AllByRecursion (λ n. value_under n rows ≡ Some g)) (sym (same g)) (all_to (λ n. value_under n rows ≡ Some g) (on g) (rowed.own g)));
}

same_numbers : (e : Entry) (hs : List (OpenHandle Progress)) → map (λ (h : OpenHandle Progress). h.number) (map (offer e) hs) ≡ map (λ (h : OpenHandle Progress). h.number) hs
same_numbers e [] = refl
same_numbers e (h ∷ hs) = ap (λ ns. h.number ∷ ns) (same_numbers e hs)

-- ---- in one place

module _ (rows : Numbered Found) (p : Places) (whole : IsWhole (whole_of rows p)) (f : Found) (s t : Topic) (found : place_at f p ≡ Some s) (same : IsSameTarget s t)
    (right : IsRight t) (e : Entry) (is : handles_of t ≡ map (offer e) (handles_of s)) where
  pub offered_here : handles_on (with_place p f t) f ≡ map (offer e) (handles_on p f)
  offered_here = with_handles p f s t whole.placed found same.target ∙ is ∙ ap (map (offer e)) (sym (old_handles p f s t whole.placed found same.target))

  kept_numbers : (g : Found) → map (λ (h : OpenHandle Progress). h.number) (handles_on (with_place p f t) g) ≡ map (λ (h : OpenHandle Progress). h.number) (handles_on p g)
  kept_numbers g = by (found_cases g f)
    where
      by : (g ≡ f) ⊎ (g ≡ f → ⊥) → map (λ (h : OpenHandle Progress). h.number) (handles_on (with_place p f t) g) ≡ map (λ (h : OpenHandle Progress). h.number) (handles_on p g)
      by (inl here) = subst (λ g. map (λ (h : OpenHandle Progress). h.number) (handles_on (with_place p f t) g) ≡ map (λ (h : OpenHandle Progress). h.number) (handles_on p g)) (sym here) (ap (map (λ (h : OpenHandle Progress). h.number)) offered_here ∙ same_numbers e (handles_on p f))
      by (inr other) = ap (map (λ (h : OpenHandle Progress). h.number)) (with_elsewhere p f s t whole.placed found same.target g other)

  pub offered_whole : IsWhole (whole_of rows (with_place p f t))
  offered_whole = record {
    rowed = numbers_rowed (handles_on p) (handles_on (with_place p f t)) rows.entries rows.next kept_numbers (with_handles_on p f s t whole.placed found same.target right whole.rowed.on_topic) whole.rowed;
    placed = with_placed p f s t whole.placed found same.target right.exact;
  }

pub room_after : (p : Places) (f : Found) (s t : Topic) (found : place_at f p ≡ Some s) (P : Topic → Type 0) → P t → IfSome (place_at f (with_place p f t)) P
room_after p f s t found P holds = subst (λ o. IfSome o P) (sym (with_found p f s t found)) holds

pub if_here : {X : Type 0} (o : Option X) (x : X) (P : X → Type 0) → o ≡ Some x → IfSome o P → P x
if_here o x P is holds = subst (λ o. IfSome o P) is holds

pub if_none : {X : Type 0} (o : Option X) (P : X → Type 0) → o ≡ None → IfSome o P
if_none o P is = subst (λ o. IfSome o P) (sym is) tt

-- ---- shares

enough_service : (e : Entry) (count : ℕ) (s : Topic) → (is_service s ≡ true → length (filter (λ (h : OpenHandle Progress). visible h e) (handles_of s)) ≤ count) → IsEnough count e s
enough_service e count (Unused u) is = tt
enough_service e count (Readers t) is = tt
enough_service e count (Served s) is = is refl

service_enough : (e : Entry) (count : ℕ) (s : Topic) → IsEnough count e s → is_service s ≡ true → length (filter (λ (h : OpenHandle Progress). visible h e) (handles_of s)) ≤ count
service_enough e count (Unused u) is same = let le : 0 ≤ count = omega arith in le
service_enough e count (Readers t) is bad = absurd cc
service_enough e count (Served s) is same = is

enough_directory : (e : Entry) (count : ℕ) (s : Topic) (f : Found) → target_of s ≡ f → is_directory f ≡ true → IsEnough count e s
enough_directory e count (Unused u) f on is = tt
enough_directory e count (Readers t) f on is = tt
enough_directory e count (Served s) f on is = absurd (let bad : false ≡ true = ap is_directory on ∙ is in cc)

pub enough_here : (rows : Numbered Found) (p : Places) (whole : IsWhole (whole_of rows p)) (f : Found) (s : Topic) (e : Entry) (count : ℕ) → place_at f p ≡ Some s → (is_directory f ≡ false → IsSharedAt count e f (whole_of rows p)) → IsEnough count e s
enough_here rows p whole f s e count found shared = by (is_directory f) refl
  where
    by : (b : Bool) → is_directory f ≡ b → IsEnough count e s
    by true is = enough_directory e count s f (whole.placed.on f s found) is
    by false is =
        let here : is_service s ≡ true → length (filter (λ (h : OpenHandle Progress). visible h e) (handles_in_place (place_at f p))) ≤ count = subst (λ o. IfSome (option_map site_of o) (λ (x : Site). x.service ≡ true → length (filter (λ (h : OpenHandle Progress). visible h e) (handles_in_place (place_at f p))) ≤ count)) found (shared is) in
        enough_service e count s (λ is. subst (λ o. length (filter (λ (h : OpenHandle Progress). visible h e) (handles_in_place o)) ≤ count) found (here is))

pub shared_here : (rows : Numbered Found) (p : Places) (f : Found) (o : Option Topic) (e : Entry) (count : ℕ) → o ≡ place_at f p → IfSome o (IsEnough count e) → IsSharedAt count e f (whole_of rows p)
shared_here rows p f o e count at enough = subst (λ o. IfSome (option_map site_of o) (λ (x : Site). x.service ≡ true → length (filter (λ (h : OpenHandle Progress). visible h e) (handles_in_place o)) ≤ count)) at (by o enough)
  where
    by : (o : Option Topic) → IfSome o (IsEnough count e) → IfSome (option_map site_of o) (λ (x : Site). x.service ≡ true → length (filter (λ (h : OpenHandle Progress). visible h e) (handles_in_place o)) ≤ count)
    by None enough = tt
    by (Some s) enough = service_enough e count s enough

-- ---- the whole

-- a handle elsewhere is not concerned
not_concerned : (e : Entry) (g : Found) (h : OpenHandle Progress) → IsOn (is_directory g) (number_of g) h → (g ≡ FoundObject e.record_of.object → ⊥) → (g ≡ FoundDirectory e.directory → ⊥) → is_concerned (e ∷ []) h ≡ false
not_concerned e (FoundObject n) h s object directory = (λ i. cond (s.flag i) (eqb e.directory (s.on i)) (eqb e.record_of.object (s.on i)) || false) ∙ ap (λ b. b || false) (ne_eqb e.record_of.object n (λ same. object (ap FoundObject (sym same))))
not_concerned e (FoundDirectory n) h s object directory = (λ i. cond (s.flag i) (eqb e.directory (s.on i)) (eqb e.record_of.object (s.on i)) || false) ∙ ap (λ b. b || false) (ne_eqb e.directory n (λ same. directory (ap FoundDirectory (sym same))))

untouched : (e : Entry) (g : Found) → (g ≡ FoundObject e.record_of.object → ⊥) → (g ≡ FoundDirectory e.directory → ⊥) → (hs : List (OpenHandle Progress)) → AllByRecursion (IsOn (is_directory g) (number_of g)) hs → map (offer e) hs ≡ hs
untouched e g object directory [] all = refl
untouched e g object directory (h ∷ hs) all = λ i. offer_all-untouched (e ∷ []) h all.0.whole (not_concerned e g h all.0 object directory) i ∷ untouched e g object directory hs all.1 i

module _ (old mid new : Whole) (whole : IsWhole old) (e : Entry) (rows : new.rows ≡ old.rows)
    (at_object : handles_at (FoundObject e.record_of.object) mid ≡ map (offer e) (handles_at (FoundObject e.record_of.object) old)) (no_object : (g : Found) → (g ≡ FoundObject e.record_of.object → ⊥) → topic_at g mid ≡ topic_at g old)
    (at_directory : handles_at (FoundDirectory e.directory) new ≡ map (offer e) (handles_at (FoundDirectory e.directory) mid)) (no_directory : (g : Found) → (g ≡ FoundDirectory e.directory → ⊥) → topic_at g new ≡ topic_at g mid) where
  offered_at : (g : Found) → handles_at g new ≡ map (offer e) (handles_at g old)
  offered_at g = by (found_cases g (FoundObject e.record_of.object)) (found_cases g (FoundDirectory e.directory))
    where
      by : (g ≡ FoundObject e.record_of.object) ⊎ (g ≡ FoundObject e.record_of.object → ⊥) → (g ≡ FoundDirectory e.directory) ⊎ (g ≡ FoundDirectory e.directory → ⊥) → handles_at g new ≡ map (offer e) (handles_at g old)
      by (inl here) d = subst (λ g. handles_at g new ≡ map (offer e) (handles_at g old)) (sym here) (ap handles_in_place (no_directory (FoundObject e.record_of.object) (λ bad. cc)) ∙ at_object)
      by (inr other) (inl here) = subst (λ g. handles_at g new ≡ map (offer e) (handles_at g old)) (sym here) (at_directory ∙ ap (λ o. map (offer e) (handles_in_place o)) (no_object (FoundDirectory e.directory) (λ bad. cc)))
      by (inr other) (inr elsewhere) = ap handles_in_place (no_directory g elsewhere ∙ no_object g other) ∙ sym (untouched e g other elsewhere (handles_at g old) (whole.rowed.on_topic g).each)

  pub offered_all : handles_in new ≡ map (offer e) (handles_in old)
  offered_all = ap (λ (t : Numbered Found). filter_map (row_handle (λ f. handles_at f new)) t.entries) rows ∙ mapped (offer e) (λ h. refl) (λ f. handles_at f old) (λ f. handles_at f new) offered_at old.rows.entries

  -- room for the records that come after it
  module _ (room_object : (es : List Entry) → HasRoomIn (e ∷ es) (FoundObject e.record_of.object) old → HasRoomIn es (FoundObject e.record_of.object) mid) (room_directory : (es : List Entry) → HasRoomIn (e ∷ es) (FoundDirectory e.directory) mid → HasRoomIn es (FoundDirectory e.directory) new) where
    room_if : (w : Whole) (es : List Entry) → HasRoom es w → (g : Found) → HasRoomIn es g w
    room_if w es room g = by (topic_at g w) refl
      where
        by : (o : Option Topic) → topic_at g w ≡ o → IfSome o (HasRoomAt es g)
        by None at = tt
        by (Some s) at = room g s at

    not_told : (g : Found) → (g ≡ FoundObject e.record_of.object → ⊥) → (g ≡ FoundDirectory e.directory → ⊥) → is_told g e ≡ false
    not_told (FoundObject n) object directory = ne_eqb e.record_of.object n (λ same. object (ap FoundObject (sym same)))
    not_told (FoundDirectory n) object directory = ne_eqb e.directory n (λ same. directory (ap FoundDirectory (sym same)))

    room_at_each : (es : List Entry) → HasRoom (e ∷ es) old → (g : Found) → HasRoomIn es g new
    room_at_each es room g = by (found_cases g (FoundObject e.record_of.object)) (found_cases g (FoundDirectory e.directory))
      where
        by : (g ≡ FoundObject e.record_of.object) ⊎ (g ≡ FoundObject e.record_of.object → ⊥) → (g ≡ FoundDirectory e.directory) ⊎ (g ≡ FoundDirectory e.directory → ⊥) → HasRoomIn es g new
        by (inl here) d = subst (λ g. HasRoomIn es g new) (sym here) (subst (λ o. IfSome o (HasRoomAt es (FoundObject e.record_of.object))) (sym (no_directory (FoundObject e.record_of.object) (λ bad. cc))) (room_object es (room_if old (e ∷ es) room (FoundObject e.record_of.object))))
        by (inr other) (inl here) = subst (λ g. HasRoomIn es g new) (sym here) (room_directory es (subst (λ o. IfSome o (HasRoomAt (e ∷ es) (FoundDirectory e.directory))) (sym (no_object (FoundDirectory e.directory) (λ bad. cc))) (room_if old (e ∷ es) room (FoundDirectory e.directory))))
        by (inr other) (inr elsewhere) = subst (λ o. IfSome o (HasRoomAt es g)) (sym (no_directory g elsewhere ∙ no_object g other))
            (subst (λ b. IfSome (topic_at g old) (λ s. 0 < length (handles_of s) → 0 < length (cond b (e ∷ filter (is_told g) es) (filter (is_told g) es)) → IsReadyIn (cond b (e ∷ filter (is_told g) es) (filter (is_told g) es)) s)) (not_told g other elsewhere) (room_if old (e ∷ es) room g))

    pub offered_room : (es : List Entry) → HasRoom (e ∷ es) old → HasRoom es new
    offered_room es room g s at = if_here (topic_at g new) s (HasRoomAt es g) at (room_at_each es room g)

-- ---- room for the records behind one, in one place

map_some : (e : Entry) (hs : List (OpenHandle Progress)) → 0 < length (map (offer e) hs) → 0 < length hs
map_some e [] lt = lt
map_some e (h ∷ hs) lt = omega arith

pub room_rest : (f : Found) (s t : Topic) (e : Entry) (es : List Entry) → is_told f e ≡ true → handles_of t ≡ map (offer e) (handles_of s) → ((es : List Entry) → 0 < length (handles_of s) → IsReadyIn (e ∷ es) s → IsReadyIn es t) → HasRoomAt (e ∷ es) f s → HasRoomAt es f t
room_rest f s t e es told is keeps room some there =
    let lived : 0 < length (handles_of s) = map_some e (handles_of s) (subst (λ hs. 0 < length hs) is some) in
    keeps (filter (is_told f) es) lived
    (subst (λ b. 0 < length (cond b (e ∷ filter (is_told f) es) (filter (is_told f) es)) → IsReadyIn (cond b (e ∷ filter (is_told f) es) (filter (is_told f) es)) s) told (room lived) (omega arith))

-- ---- the two places of a record, one after the other

pub room_mid : (old mid : Whole) (e e2 : Entry) (f : Found) → e2 ≡ e → topic_at f mid ≡ topic_at f old → HasRoom (e ∷ []) old → HasRoomIn (e2 ∷ []) f mid
room_mid old mid e e2 f same at room =
    subst (λ x. HasRoomIn (x ∷ []) f mid) (sym same) (subst (λ o. IfSome o (HasRoomAt (e ∷ []) f)) (sym at) (by (topic_at f old) refl))
  where
    by : (o : Option Topic) → topic_at f old ≡ o → IfSome o (HasRoomAt (e ∷ []) f)
    by None at = tt
    by (Some s) at = room f s at

module _ (old mid new : Whole) (whole : IsWhole old) (rows : new.rows ≡ old.rows) (e e1 e2 : Entry) (o d : ℕ) (is1 : e1 ≡ e) (is2 : e2 ≡ e) (is_o : o ≡ e.record_of.object) (is_d : d ≡ e.directory)
    (at1 : handles_at (FoundObject o) mid ≡ map (offer e1) (handles_at (FoundObject o) old)) (no1 : (g : Found) → (g ≡ FoundObject o → ⊥) → topic_at g mid ≡ topic_at g old)
    (at2 : handles_at (FoundDirectory d) new ≡ map (offer e2) (handles_at (FoundDirectory d) mid)) (no2 : (g : Found) → (g ≡ FoundDirectory d → ⊥) → topic_at g new ≡ topic_at g mid) where
  first_at : handles_at (FoundObject e.record_of.object) mid ≡ map (offer e) (handles_at (FoundObject e.record_of.object) old)
  first_at = subst (λ n. handles_at (FoundObject n) mid ≡ map (offer e) (handles_at (FoundObject n) old)) is_o (subst (λ x. handles_at (FoundObject o) mid ≡ map (offer x) (handles_at (FoundObject o) old)) is1 at1)

  first_others : (g : Found) → (g ≡ FoundObject e.record_of.object → ⊥) → topic_at g mid ≡ topic_at g old
  first_others = subst (λ n. (g : Found) → (g ≡ FoundObject n → ⊥) → topic_at g mid ≡ topic_at g old) is_o no1

  second_at : handles_at (FoundDirectory e.directory) new ≡ map (offer e) (handles_at (FoundDirectory e.directory) mid)
  second_at = subst (λ n. handles_at (FoundDirectory n) new ≡ map (offer e) (handles_at (FoundDirectory n) mid)) is_d (subst (λ x. handles_at (FoundDirectory d) new ≡ map (offer x) (handles_at (FoundDirectory d) mid)) is2 at2)

  second_others : (g : Found) → (g ≡ FoundDirectory e.directory → ⊥) → topic_at g new ≡ topic_at g mid
  second_others = subst (λ n. (g : Found) → (g ≡ FoundDirectory n → ⊥) → topic_at g new ≡ topic_at g mid) is_d no2

  pub both_offered : handles_in new ≡ map (offer e) (handles_in old)
  both_offered = offered_all old mid new whole e rows first_at first_others second_at second_others

  pub both_room : ((es : List Entry) → HasRoomIn (e1 ∷ es) (FoundObject o) old → HasRoomIn es (FoundObject o) mid) → ((es : List Entry) → HasRoomIn (e2 ∷ es) (FoundDirectory d) mid → HasRoomIn es (FoundDirectory d) new) → (es : List Entry) → HasRoom (e ∷ es) old → HasRoom es new
  both_room room1 room2 =
      offered_room old mid new whole e rows first_at first_others second_at second_others
      (subst (λ n. (es : List Entry) → HasRoomIn (e ∷ es) (FoundObject n) old → HasRoomIn es (FoundObject n) mid) is_o (subst (λ x. (es : List Entry) → HasRoomIn (x ∷ es) (FoundObject o) old → HasRoomIn es (FoundObject o) mid) is1 room1))
      (subst (λ n. (es : List Entry) → HasRoomIn (e ∷ es) (FoundDirectory n) mid → HasRoomIn es (FoundDirectory n) new) is_d (subst (λ x. (es : List Entry) → HasRoomIn (x ∷ es) (FoundDirectory d) mid → HasRoomIn es (FoundDirectory d) new) is2 room2))

-- ---- where no handle is on its directory

nobody_room : (w : Whole) (f : Found) → handles_at f w ≡ [] → (es : List Entry) → HasRoomIn es f w
nobody_room w f none es = by (topic_at f w) none
  where
    by : (o : Option Topic) → handles_in_place o ≡ [] → IfSome o (HasRoomAt es f)
    by None none = tt
    by (Some s) none = λ some told. absurd (let l : length (handles_of s) ≡ 0 = ap length none in omega arith)

module _ (old mid : Whole) (whole : IsWhole old) (rows : mid.rows ≡ old.rows) (e e1 : Entry) (o : ℕ) (is1 : e1 ≡ e) (is_o : o ≡ e.record_of.object) (none : handles_at (FoundDirectory e.directory) old ≡ [])
    (at1 : handles_at (FoundObject o) mid ≡ map (offer e1) (handles_at (FoundObject o) old)) (no1 : (g : Found) → (g ≡ FoundObject o → ⊥) → topic_at g mid ≡ topic_at g old) where
  still_none : handles_at (FoundDirectory e.directory) mid ≡ []
  still_none = ap handles_in_place (no1 (FoundDirectory e.directory) (λ bad. cc)) ∙ none

  pub one_offered : handles_in mid ≡ map (offer e) (handles_in old)
  one_offered = both_offered old mid mid whole rows e e1 e o e.directory is1 refl is_o refl at1 no1 (still_none ∙ sym (ap (map (offer e)) still_none)) (λ g other. refl)

  pub one_room : ((es : List Entry) → HasRoomIn (e1 ∷ es) (FoundObject o) old → HasRoomIn es (FoundObject o) mid) → (es : List Entry) → HasRoom (e ∷ es) old → HasRoom es mid
  one_room room1 =
      both_room old mid mid whole rows e e1 e o e.directory is1 refl is_o refl at1 no1 (still_none ∙ sym (ap (map (offer e)) still_none)) (λ g other. refl) room1
      (λ es room. nobody_room mid (FoundDirectory e.directory) still_none es)
