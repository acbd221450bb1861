-- What an event leaves of the target of a handle is told by its records.
use Rattle.std.proofs.Common.{◌≡◌, ℕ, Bool, true, false, cond, not, ◌&&◌, List, [], ◌∷◌, map, Option, Some, None, refl, sym, ap, ◌∙◌}
use Rattle.std.specs.Prelude.{◌==◌, fold, is_none, option_map, option_and_then, unwrap_or}
use Rattle.std.specs.Option.{option_map_or, option_or}
use Rattle.std.specs.Ordering.{is_lt}
use Rattle.std.specs.declared.cmp.Ordering.{Ordering}
use Rattle.std.specs.List.{filter_map, cons_option, AllByRecursion}
use Rattle.pps_types.specs.declared.record.Kind.{Kind}
use Rattle.pps_types.specs.declared.record.Kind.TheVariants.{Created, Change, Truncated, Dropped, Deleted, Opened, Closed, FromClient, ToClient, ToAll}
use Rattle.pps_types.specs.Names.{name_cmp, insert_by}
use Rattle.pps_types.specs.History.{Attribute, Entry, line_of}
use Rattle.pps_types.specs.Reading.{OpenHandle, is_directory_kind}
use Rattle.pps_types.specs.Rests.{Progress}
use Rattle.pps_types.specs.Content.{Content, LiveObject, member, members, object_numbered}
use Rattle.pps_types.specs.Plan.{Move, Attaches, Leaves, Creates, AppendsRecord, Opens, Closes, CatchesUp, Advances, Parks, Arms, Queues, Takes, MakesDirectory, RemovesDirectory, still_known, touched}
use Rattle.pps_types.proofs.Lists.{map-then, all-all}
use Rattle.service_laws.specs.Told.{entry_told, entries_told}
use Rattle.service_laws.specs.SettlingTargets.{object_by, object_after, members_by, members_after}
use Rattle.pps_types.specs.SettlingReplies.{pulse_and_reply}
use Rattle.service_laws.specs.SettlingMoves.{follows}
use Rattle.pps_engine.specs.Behind.{state_left, state_by, state_behind, Row, row_of, row_member, row_left, row_by, rows_left, rows_by, rows_behind, follows_behind}
use Rattle.pps_engine.proofs.SettlingTells.{creates, IsPlain}

fold-told : {A : Type 0} (f : A → Entry → A) (a : A) (o : Option Entry) (es : List Entry) → fold f a (cons_option o es) ≡ fold f (option_map_or (f a) o a) es
fold-told f a None es = refl
fold-told f a (Some e) es = refl

-- ---- an object

abbrev state : Option LiveObject → Option (List Attribute)
state k = option_map (λ o. o.attributes) k

state-still : (kind : Kind) → creates kind ≡ false → (k : Option LiveObject) → state (option_and_then (λ o. still_known o kind) k) ≡ state_left kind (state k)
state-still Created p k = absurd (let bad = p in cc)
state-still Deleted p None = refl
state-still Deleted p (Some o) = refl
state-still (Change lines) p None = refl
state-still (Change lines) p (Some o) = refl
state-still Truncated p None = refl
state-still Truncated p (Some o) = refl
state-still Dropped p None = refl
state-still Dropped p (Some o) = refl
state-still (Opened id) p None = refl
state-still (Opened id) p (Some o) = refl
state-still (Closed id) p None = refl
state-still (Closed id) p (Some o) = refl
state-still (FromClient id lines) p None = refl
state-still (FromClient id lines) p (Some o) = refl
state-still (ToClient id lines) p None = refl
state-still (ToClient id lines) p (Some o) = refl
state-still (ToAll lines) p None = refl
state-still (ToAll lines) p (Some o) = refl

state-made : (b : Bool) (k : Option LiveObject) (new : LiveObject) → new.attributes ≡ [] → state (option_or k (cond b (Some new) None)) ≡ cond b (option_or (state k) (Some [])) (state k)
state-made true None new none = ap Some none
state-made true (Some o) new none = refl
state-made false None new none = refl
state-made false (Some o) new none = refl

state-happens : (b : Bool) (kind : Kind) → creates kind ≡ false → (k : Option LiveObject) → state (cond b (option_and_then (λ o. still_known o kind) k) k) ≡ cond b (state_left kind (state k)) (state k)
state-happens true kind p k = state-still kind p k
state-happens false kind p k = refl

state-one : (n : ℕ) (x : Move) → IsPlain x → (k : Option LiveObject) → state (object_by n k x) ≡ option_map_or (state_by n (state k)) (entry_told x) (state k)
state-one n (Creates o) p k = state-made (o.number == n) k (record { object = o; attributes = [] }) refl
state-one n (AppendsRecord e) p k = state-happens (e.record_of.object == n) e.record_of.kind p k
state-one n (Attaches conn) p k = refl
state-one n (Leaves conn) p k = refl
state-one n (Opens h) p k = refl
state-one n (Closes number) p k = refl
state-one n (CatchesUp number) p k = refl
state-one n (Advances number count) p k = refl
state-one n (Parks number size) p k = refl
state-one n (Arms number pulse) p k = refl
state-one n (Queues conn item) p k = refl
state-one n (Takes conn) p k = refl
state-one n (MakesDirectory path) p k = refl
state-one n (RemovesDirectory number) p k = refl

pub state-told : (n : ℕ) (xs : List Move) → AllByRecursion IsPlain xs → (k : Option LiveObject) → state (object_after xs n k) ≡ fold (state_by n) (state k) (entries_told xs)
state-told n [] p k = refl
state-told n (x ∷ xs) p k =
    state-told n xs p.1 (object_by n k x)
    ∙ ap (λ s. fold (state_by n) s (entries_told xs)) (state-one n x p.0 k)
    ∙ sym (fold-told (state_by n) (state k) (entry_told x) (entries_told xs))

-- ---- members

module _ {X Y : Type 0} where
  map-left : (see : X → Y) (f : X → Option X) (g : Y → Option Y) → ((x : X) → option_map see (f x) ≡ g (see x)) → (xs : List X) → map see (filter_map f xs) ≡ filter_map g (map see xs)
  map-left see f g same [] = refl
  map-left see f g same (x ∷ xs) = by (f x) ∙ (λ i. cons_option (same x i) (map-left see f g same xs i))
    where
      by : (o : Option X) → map see (cons_option o (filter_map f xs)) ≡ cons_option (option_map see o) (map see (filter_map f xs))
      by None = refl
      by (Some y) = refl

  map-insert : {K : Type 0} (see : X → Y) (cmp : K → K → Ordering) (key : Y → K) (x : X) (xs : List X) → map see (insert_by cmp (λ x. key (see x)) x xs) ≡ insert_by cmp key (see x) (map see xs)
  map-insert see cmp key x [] = refl
  map-insert see cmp key x (y ∷ ys) = by (is_lt (cmp (key (see x)) (key (see y)))) (map-insert see cmp key x ys)
    where
      by : (b : Bool) → map see (insert_by cmp (λ x. key (see x)) x ys) ≡ insert_by cmp key (see x) (map see ys)
          → map see (cond b (x ∷ y ∷ ys) (y ∷ insert_by cmp (λ x. key (see x)) x ys)) ≡ cond b (see x ∷ see y ∷ map see ys) (see y ∷ insert_by cmp key (see x) (map see ys))
      by true rest = refl
      by false rest = ap (λ zs. see y ∷ zs) rest

row-still : (kind : Kind) (o : LiveObject) → option_map row_of (still_known o kind) ≡ row_left kind (row_of o)
row-still Created o = refl
row-still Deleted o = refl
row-still (Change lines) o = refl
row-still Truncated o = refl
row-still Dropped o = refl
row-still (Opened id) o = refl
row-still (Closed id) o = refl
row-still (FromClient id lines) o = refl
row-still (ToClient id lines) o = refl
row-still (ToAll lines) o = refl

row-touched : (e : Entry) (o : LiveObject) → option_map row_of (touched e o) ≡ row_by e (row_of o)
row-touched e o = by (e.record_of.object == o.object.number)
  where
    by : (b : Bool) → option_map row_of (cond b (still_known o e.record_of.kind) (Some o)) ≡ cond b (row_left e.record_of.kind (row_of o)) (Some (row_of o))
    by true = row-still e.record_of.kind o
    by false = refl

pub rows-plain : (kind : Kind) → creates kind ≡ false → (directory : ℕ) (rows : List Row) (e : Entry) → rows_left kind directory rows e ≡ filter_map (row_by e) rows
rows-plain Created p directory rows e = absurd (let bad = p in cc)
rows-plain Deleted p directory rows e = refl
rows-plain (Change lines) p directory rows e = refl
rows-plain Truncated p directory rows e = refl
rows-plain Dropped p directory rows e = refl
rows-plain (Opened id) p directory rows e = refl
rows-plain (Closed id) p directory rows e = refl
rows-plain (FromClient id lines) p directory rows e = refl
rows-plain (ToClient id lines) p directory rows e = refl
rows-plain (ToAll lines) p directory rows e = refl

rows-made : (b : Bool) (new : LiveObject) (os : List LiveObject) → map row_of (cond b (insert_by name_cmp (λ (k : LiveObject). k.object.name) new os) os) ≡ cond b (insert_by name_cmp (λ r. r.name) (row_of new) (map row_of os)) (map row_of os)
rows-made true new os = map-insert row_of name_cmp (λ r. r.name) new os
rows-made false new os = refl

rows-one : (d : ℕ) (x : Move) → IsPlain x → (os : List LiveObject) → map row_of (members_by d os x) ≡ option_map_or (rows_by d (map row_of os)) (entry_told x) (map row_of os)
rows-one d (Creates o) p os = rows-made (o.directory == d) (record { object = o; attributes = [] }) os
rows-one d (AppendsRecord e) p os = map-left row_of (touched e) (row_by e) (row-touched e) os ∙ sym (rows-plain e.record_of.kind p d (map row_of os) e)
rows-one d (Attaches conn) p os = refl
rows-one d (Leaves conn) p os = refl
rows-one d (Opens h) p os = refl
rows-one d (Closes number) p os = refl
rows-one d (CatchesUp number) p os = refl
rows-one d (Advances number count) p os = refl
rows-one d (Parks number size) p os = refl
rows-one d (Arms number pulse) p os = refl
rows-one d (Queues conn item) p os = refl
rows-one d (Takes conn) p os = refl
rows-one d (MakesDirectory path) p os = refl
rows-one d (RemovesDirectory number) p os = refl

pub rows-told : (d : ℕ) (xs : List Move) → AllByRecursion IsPlain xs → (os : List LiveObject) → map row_of (members_after xs d os) ≡ fold (rows_by d) (map row_of os) (entries_told xs)
rows-told d [] p os = refl
rows-told d (x ∷ xs) p os =
    rows-told d xs p.1 (members_by d os x)
    ∙ ap (λ rs. fold (rows_by d) rs (entries_told xs)) (rows-one d x p.0 os)
    ∙ sym (fold-told (rows_by d) (map row_of os) (entry_told x) (entries_told xs))

-- ---- what follows

none-state : (k : Option LiveObject) → is_none k ≡ is_none (state k)
none-state None = refl
none-state (Some o) = refl

lines-state : (k : Option LiveObject) → option_map_or (λ (o : LiveObject). o.attributes) k [] ≡ unwrap_or (state k) []
lines-state None = refl
lines-state (Some o) = refl

-- what follows for a handle, by the records
pub follows-told : (c : Content) (xs : List Move) → AllByRecursion IsPlain xs → (h : OpenHandle Progress) → follows c xs h ≡ follows_behind c (entries_told xs) h
follows-told c xs p h = λ i. pulse_and_reply h (entries_told xs)
    (not (is_directory_kind h.kind) && dead i)
    (cond (is_directory_kind h.kind) (listed i) (record { name = h.name; lines = map line_of (lines i) } ∷ []))
  where
    dead : is_none (object_after xs h.target (object_numbered c h.target)) ≡ is_none (state_behind c (entries_told xs) h.target)
    dead = none-state (object_after xs h.target (object_numbered c h.target)) ∙ ap is_none (state-told h.target xs p (object_numbered c h.target))

    lines : option_map_or (λ (o : LiveObject). o.attributes) (object_after xs h.target (object_numbered c h.target)) [] ≡ unwrap_or (state_behind c (entries_told xs) h.target) []
    lines = lines-state (object_after xs h.target (object_numbered c h.target)) ∙ ap (λ s. unwrap_or s []) (state-told h.target xs p (object_numbered c h.target))

    listed : map member (members_after xs h.target (members c h.target)) ≡ map row_member (rows_behind c (entries_told xs) h.target)
    listed = map-then row_of row_member member (members_after xs h.target (members c h.target)) (all-all {P = λ o. member o ≡ row_member (row_of o)} (λ o. refl) (members_after xs h.target (members c h.target)))
        ∙ ap (map row_member) (rows-told h.target xs p (members c h.target))
