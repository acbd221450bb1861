-- What stands says what the plain words say, of whole machines: the objects, the members, everything, the answer, what is owed and what is kept.
use Rattle.std.proofs.Common.{◌≡◌, ℕ, Bool, true, false, cond, not, ◌&&◌, eqb, List, [], ◌∷◌, length, map, drop, Option, Some, None, refl, sym, ap, ◌∙◌}
use Rattle.std.specs.Prelude.{filter, find, nat_lt, is_some, is_none, option_map, option_and_then}
use Rattle.std.specs.Option.{option_map_or}
use Rattle.std.specs.List.{filter_map, cons_option}
use Rattle.std.proofs.lemmas.Bool.{eqb-true}
use Rattle.pps_types.specs.declared.found.Found.{Found}
use Rattle.pps_types.specs.declared.found.Found.TheVariants.{Object as FoundObject, Directory as FoundDirectory}
use Rattle.pps_types.specs.Names.{Path, name_cmp, sorted_by}
use Rattle.pps_types.specs.History.{Entry, Attribute, line_of, state, is_alive}
use Rattle.pps_types.specs.Reading.{OpenHandle, Style, Full, Delta, Queue, style, is_full_style, is_delta_style, is_directory_kind, visible, everything_of}
use Rattle.pps_types.specs.Rests.{Progress, stand, unread, seen_with, rest_of, is_over, owed_in, answer}
use Rattle.pps_types.specs.Content.{Object, LiveObject, at, object_numbered, members, member, target_members, everything, read_answer}
use Rattle.pps_types.specs.Machine.{Machine, known, content_of, shown_handle}
use Rattle.pps_types.specs.Owed.{owed, is_past_limit, answer_of, alive_object, alive_members, members_of_target, is_dead, owed_by, owed_by_seen, owed_in_seen, kept, kept_of, kept_at, kept_seen, longest}
use Rattle.service_laws.proofs.Bridge.{rest-owed, answer-same, none-over}
use Rattle.service_laws.proofs.Kept.{kept-shown}

-- ---- past the limit, and owed

pub over-same : {S : Type 0} (h : OpenHandle S) (H : List Entry) (cursor : Option ℕ) → is_over (seen_with h H cursor) ≡ is_past_limit h (owed h H cursor)
over-same h H None = by (style h.kind)
  where
    by : (s : Style) → is_over (unread s h.reads) ≡ (is_delta_style s && nat_lt h.limit 0)
    by Full = refl
    by Delta = sym (none-over h.limit)
    by Queue = refl
over-same h H (Some cursor) = (λ i. is_over (stand (style h.kind) h.reads (nat_lt h.limit (length (rest-owed h (drop cursor H) i))) (rest_of h (drop cursor H)))) ∙ by (style h.kind) (nat_lt h.limit (length (filter (visible h) (drop cursor H))))
  where
    by : (s : Style) (o : Bool) → is_over (stand s h.reads o (rest_of h (drop cursor H))) ≡ (is_delta_style s && o)
    by Full o = refl
    by Delta true = refl
    by Delta false = refl
    by Queue o = refl

pub owed-same : {S : Type 0} (h : OpenHandle S) (H : List Entry) (cursor : Option ℕ) → is_full_style (style h.kind) ≡ false → is_past_limit h (owed h H cursor) ≡ false → owed_in h (seen_with h H cursor) ≡ owed h H cursor
owed-same h H None full past = by (style h.kind)
  where
    by : (s : Style) → owed_in h (unread s h.reads) ≡ []
    by Full = refl
    by Delta = refl
    by Queue = refl
owed-same h H (Some cursor) full past =
    (λ i. owed_in h (stand (style h.kind) h.reads (nat_lt h.limit (length (rest-owed h (drop cursor H) i))) (rest_of h (drop cursor H))))
    ∙ by (style h.kind) (nat_lt h.limit (length (filter (visible h) (drop cursor H)))) full past
  where
    by : (s : Style) (o : Bool) → is_full_style s ≡ false → (is_delta_style s && o) ≡ false → owed_in h (stand s h.reads o (rest_of h (drop cursor H))) ≡ filter (visible h) (drop cursor H)
    by Full o full past = absurd cc
    by Delta true full past = absurd cc
    by Delta false full past = rest-owed h (drop cursor H)
    by Queue o full past = rest-owed h (drop cursor H)

-- ---- objects

abbrev known_as : Object → Bool → List Attribute → Option LiveObject
known_as o alive attributes = cond alive (Some (record { object = o; attributes = attributes })) None

abbrev has_number : ℕ → LiveObject → Bool
has_number n o = eqb o.object.number n

-- an object of another number is passed over
find-other : (H : List Entry) (n : ℕ) (o : Object) (rest : List LiveObject) → eqb o.number n ≡ false → find (has_number n) (cons_option (known H o) rest) ≡ find (has_number n) rest
find-other H n o rest other = by (is_alive o.number H)
  where
    by : (alive : Bool) → find (has_number n) (cons_option (known_as o alive (state o.number H)) rest) ≡ find (has_number n) rest
    by true = ap (λ b. cond b (Some (record { object = o; attributes = state o.number H })) (find (has_number n) rest)) other
    by false = refl

-- no object of a dead number is found
none-alive : (H : List Entry) (n : ℕ) → is_alive n H ≡ false → (os : List Object) → find (has_number n) (filter_map (known H) os) ≡ None
none-alive H n dead [] = refl
none-alive H n dead (o ∷ os) = by (eqb o.number n) refl (none-alive H n dead os)
  where
    by : (b : Bool) → eqb o.number n ≡ b → find (has_number n) (filter_map (known H) os) ≡ None → find (has_number n) (cons_option (known H o) (filter_map (known H) os)) ≡ None
    by true e none = ap (λ alive. find (has_number n) (cons_option (known_as o alive (state o.number H)) (filter_map (known H) os))) (ap (λ x. is_alive x H) (eqb-true o.number n e) ∙ dead) ∙ none
    by false e none = find-other H n o (filter_map (known H) os) e ∙ none

found-alive : (H : List Entry) (n : ℕ) (os : List Object) → find (has_number n) (filter_map (known H) os) ≡ option_and_then (known H) (find (λ o. eqb o.number n) os)
found-alive H n [] = refl
found-alive H n (o ∷ os) = by (eqb o.number n) refl (found-alive H n os)
  where
    one : (alive : Bool) → is_alive o.number H ≡ alive → eqb o.number n ≡ true → find (has_number n) (cons_option (known_as o alive (state o.number H)) (filter_map (known H) os)) ≡ known_as o alive (state o.number H)
    one true is e = ap (λ b. cond b (Some (record { object = o; attributes = state o.number H })) (find (has_number n) (filter_map (known H) os))) e
    one false is e = none-alive H n (ap (λ x. is_alive x H) (sym (eqb-true o.number n e)) ∙ is) os

    by : (b : Bool) → eqb o.number n ≡ b → find (has_number n) (filter_map (known H) os) ≡ option_and_then (known H) (find (λ o. eqb o.number n) os)
        → find (has_number n) (cons_option (known H o) (filter_map (known H) os)) ≡ option_and_then (known H) (cond b (Some o) (find (λ o. eqb o.number n) os))
    by true e rec = one (is_alive o.number H) refl e
    by false e rec = find-other H n o (filter_map (known H) os) e ∙ rec

pub object_numbered-shown : (m : Machine) (n : ℕ) → object_numbered (content_of m) n ≡ alive_object m n
object_numbered-shown m n = found-alive m.history n m.objects

-- ---- members

members-known : (H : List Entry) (d : ℕ) (os : List Object) → filter (λ (o : LiveObject). eqb o.object.directory d) (filter_map (known H) os) ≡ filter_map (known H) (filter (λ o. eqb o.directory d) os)
members-known H d [] = refl
members-known H d (o ∷ os) = by (eqb o.directory d) refl (is_alive o.number H) refl (members-known H d os)
  where
    in_d : LiveObject → Bool
    in_d k = eqb k.object.directory d

    by : (b : Bool) → eqb o.directory d ≡ b → (alive : Bool) → is_alive o.number H ≡ alive → filter in_d (filter_map (known H) os) ≡ filter_map (known H) (filter (λ o. eqb o.directory d) os)
        → filter in_d (cons_option (known_as o alive (state o.number H)) (filter_map (known H) os)) ≡ filter_map (known H) (cond b (o ∷ filter (λ o. eqb o.directory d) os) (filter (λ o. eqb o.directory d) os))
    by true e true is rec = ap (λ b. cond b (record { object = o; attributes = state o.number H } ∷ filter in_d (filter_map (known H) os)) (filter in_d (filter_map (known H) os))) e ∙ ap (λ rest. record { object = o; attributes = state o.number H } ∷ rest) rec ∙ sym (ap (λ alive. cons_option (known_as o alive (state o.number H)) (filter_map (known H) (filter (λ o. eqb o.directory d) os))) is)
    by true e false is rec = rec ∙ sym (ap (λ alive. cons_option (known_as o alive (state o.number H)) (filter_map (known H) (filter (λ o. eqb o.directory d) os))) is)
    by false e true is rec = ap (λ b. cond b (record { object = o; attributes = state o.number H } ∷ filter in_d (filter_map (known H) os)) (filter in_d (filter_map (known H) os))) e ∙ rec
    by false e false is rec = rec

pub members-shown : (m : Machine) (d : ℕ) → members (content_of m) d ≡ alive_members m d
members-shown m d = ap (sorted_by name_cmp (λ o. o.object.name)) (members-known m.history d m.objects)

-- ---- everything, and the answer

dead-same : {S : Type 0} (m : Machine) (h : OpenHandle S) → (not (is_directory_kind h.kind) && is_none (object_numbered (content_of m) h.target)) ≡ is_dead m h
dead-same m h = ap (λ o. not (is_directory_kind h.kind) && is_none o) (object_numbered-shown m h.target)

members-same : (m : Machine) (h : OpenHandle (Option ℕ)) → target_members (content_of m) (shown_handle m.history h) ≡ members_of_target m h
members-same m h = λ i. cond (is_directory_kind h.kind) (map member (members-shown m h.target i)) (record { name = h.name; lines = map line_of (option_map_or (λ o. o.attributes) (object_numbered-shown m h.target i) []) } ∷ [])

everything-same : (m : Machine) (h : OpenHandle (Option ℕ)) → everything (content_of m) (shown_handle m.history h) ≡ everything_of h.kind h.options.filter (is_past_limit h (owed h m.history h.seen)) (not (is_dead m h)) (members_of_target m h)
everything-same m h = λ i. everything_of h.kind h.options.filter (over-same h m.history h.seen i) (not (dead-same m h i)) (members-same m h i)

pub answer-shown : (m : Machine) (h : OpenHandle (Option ℕ)) (max : ℕ) → h.reads ≡ true → read_answer (content_of m) (shown_handle m.history h) max ≡ answer_of m h max
answer-shown m h max reads =
    (λ i. answer (shown_handle m.history h) (seen_with h m.history h.seen) (everything-same m h i) (dead-same m h i) max)
    ∙ answer-same (shown_handle m.history h) m.history h.seen (everything_of h.kind h.options.filter (is_past_limit h (owed h m.history h.seen)) (not (is_dead m h)) (members_of_target m h)) (is_dead m h) max reads

-- ---- how much a handle is owed

pub find-shown : (H : List Entry) (n : ℕ) (hs : List (OpenHandle (Option ℕ))) → find (λ (h : OpenHandle Progress). eqb h.number n) (map (shown_handle H) hs) ≡ option_map (shown_handle H) (find (λ h. eqb h.number n) hs)
find-shown H n [] = refl
find-shown H n (h ∷ hs) = by (eqb h.number n) (find-shown H n hs)
  where
    by : (b : Bool) → find (λ (h : OpenHandle Progress). eqb h.number n) (map (shown_handle H) hs) ≡ option_map (shown_handle H) (find (λ h. eqb h.number n) hs)
        → cond b (Some (shown_handle H h)) (find (λ (h : OpenHandle Progress). eqb h.number n) (map (shown_handle H) hs)) ≡ option_map (shown_handle H) (cond b (Some h) (find (λ h. eqb h.number n) hs))
    by true rec = refl
    by false rec = rec

owed_in-same : (H : List Entry) (h : OpenHandle (Option ℕ)) (cursor : Option ℕ) → owed_in_seen (shown_handle H h) (seen_with h H cursor) ≡ cond (is_some cursor && not (is_full_style (style h.kind)) && not (is_past_limit h (owed h H cursor))) (Some (length (owed h H cursor))) None
owed_in-same H h None = by (style h.kind)
  where
    by : (s : Style) → owed_in_seen (shown_handle H h) (unread s h.reads) ≡ None
    by Full = refl
    by Delta = refl
    by Queue = refl
owed_in-same H h (Some cursor) =
    (λ i. owed_in_seen (shown_handle H h) (stand (style h.kind) h.reads (nat_lt h.limit (length (rest-owed h (drop cursor H) i))) (rest_of h (drop cursor H))))
    ∙ by (style h.kind) (nat_lt h.limit (length (filter (visible h) (drop cursor H))))
  where
    debt : List Entry
    debt = filter (visible h) (drop cursor H)

    by : (s : Style) (o : Bool) → owed_in_seen (shown_handle H h) (stand s h.reads o (rest_of h (drop cursor H))) ≡ cond (not (is_full_style s) && not (is_delta_style s && o)) (Some (length (filter (visible h) (drop cursor H)))) None
    by Full o = refl
    by Delta true = refl
    by Delta false = ap (λ xs. Some (length xs)) (rest-owed h (drop cursor H))
    by Queue o = ap (λ xs. Some (length xs)) (rest-owed h (drop cursor H))

pub owed_by-shown : (m : Machine) (n : ℕ) → owed_by_seen (content_of m) n ≡ owed_by m n
owed_by-shown m n = ap (option_and_then (λ h. owed_in_seen h h.seen)) (find-shown m.history n m.handles) ∙ by (find (λ h. eqb h.number n) m.handles)
  where
    by : (o : Option (OpenHandle (Option ℕ))) → option_and_then (λ h. owed_in_seen h h.seen) (option_map (shown_handle m.history) o) ≡ option_and_then (λ h. cond (is_some h.seen && not (is_full_style (style h.kind)) && not (is_past_limit h (owed h m.history h.seen))) (Some (length (owed h m.history h.seen))) None) o
    by None = refl
    by (Some h) = owed_in-same m.history h h.seen

-- ---- how much is kept

pub kept-same : (m : Machine) (path : Path) → kept_seen (content_of m) path ≡ kept m path
kept-same m path = by (at (content_of m) path)
  where
    by : (o : Option Found) → option_map (kept_at (λ directory target. longest directory target (content_of m).handles)) o ≡ option_map (kept_at (kept_of m)) o
    by None = refl
    by (Some (FoundObject n)) = ap Some (sym (kept-shown m false n))
    by (Some (FoundDirectory n)) = ap Some (sym (kept-shown m true n))
