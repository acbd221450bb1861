-- What moves leave of the objects.
use Rattle.std.proofs.Common.{◌≡◌, ℕ, Bool, true, false, cond, List, [], ◌∷◌, ◌++◌, Option, Some, None, refl, sym, ap, ◌∙◌}
use Rattle.std.specs.Prelude.{◌==◌, find, option_and_then}
use Rattle.std.proofs.lemmas.Bool.{eq-eqb, eqb-true}
use Rattle.std.specs.Option.{option_or}
use Rattle.std.specs.List.{filter_map, cons_option}
use Rattle.pps_types.specs.declared.record.Kind.{Kind}
use Rattle.pps_types.specs.declared.record.Kind.TheVariants.{Created, Change, Truncated, Dropped, Deleted, Opened, Closed, FromClient, ToClient, ToAll}
use Rattle.pps_types.specs.History.{Entry, after_kind}
use Rattle.pps_types.specs.Content.{LiveObject, Content, object_numbered}
use Rattle.pps_types.specs.Plan.{Move, Attaches, Leaves, Creates, AppendsRecord, Opens, Closes, CatchesUp, Advances, Parks, Arms, Queues, Takes, MakesDirectory, RemovesDirectory, apply_seen, apply_all_seen, still_known, touched}
use Rattle.service_laws.specs.Told.{entry_told, entries_told}
use Rattle.service_laws.specs.SettlingTargets.{object_by, object_after, objects_by, objects_after}

-- ---- all of them

objects-by : (c : Content) (x : Move) → (apply_seen x c).objects ≡ objects_by c.objects x
objects-by c (Attaches conn) = refl
objects-by c (Leaves conn) = refl
objects-by c (Creates o) = refl
objects-by c (AppendsRecord e) = refl
objects-by c (Opens h) = refl
objects-by c (Closes number) = refl
objects-by c (CatchesUp number) = refl
objects-by c (Advances number count) = refl
objects-by c (Parks number size) = refl
objects-by c (Arms number pulse) = refl
objects-by c (Queues conn item) = refl
objects-by c (Takes conn) = refl
objects-by c (MakesDirectory path) = refl
objects-by c (RemovesDirectory number) = refl

pub objects-after : (xs : List Move) (c : Content) → (apply_all_seen xs c).objects ≡ objects_after xs c.objects
objects-after [] c = refl
objects-after (x ∷ xs) c = objects-after xs (apply_seen x c) ∙ ap (objects_after xs) (objects-by c x)

-- moves that tell nothing leave them
silent-by : (x : Move) (os : List LiveObject) → entry_told x ≡ None → objects_by os x ≡ os
silent-by (Attaches conn) os e = refl
silent-by (Leaves conn) os e = refl
silent-by (Creates o) os e = absurd (let no = e in cc)
silent-by (AppendsRecord x) os e = absurd (let no = e in cc)
silent-by (Opens h) os e = refl
silent-by (Closes number) os e = refl
silent-by (CatchesUp number) os e = refl
silent-by (Advances number count) os e = refl
silent-by (Parks number size) os e = refl
silent-by (Arms number pulse) os e = refl
silent-by (Queues conn item) os e = refl
silent-by (Takes conn) os e = refl
silent-by (MakesDirectory path) os e = refl
silent-by (RemovesDirectory number) os e = refl

silent-parts : (o : Option Entry) (es : List Entry) → cons_option o es ≡ [] → (o ≡ None) × (es ≡ [])
silent-parts None es e = (refl, e)
silent-parts (Some x) es e = absurd (let no = e in cc)

pub silent-objects : (xs : List Move) (os : List LiveObject) → entries_told xs ≡ [] → objects_after xs os ≡ os
silent-objects [] os e = refl
silent-objects (x ∷ xs) os e =
    let parts = silent-parts (entry_told x) (entries_told xs) e in
    ap (objects_after xs) (silent-by x os parts.0) ∙ silent-objects xs os parts.1

-- ---- one of them

find-push : {X : Type 0} (test : X → Bool) (xs : List X) (y : X) → find test (xs ++ y ∷ []) ≡ option_or (find test xs) (cond (test y) (Some y) None)
find-push test [] y = refl
find-push test (x ∷ xs) y = by (test x) (find-push test xs y)
  where
    by : (b : Bool) → find test (xs ++ y ∷ []) ≡ option_or (find test xs) (cond (test y) (Some y) None) → cond b (Some x) (find test (xs ++ y ∷ [])) ≡ option_or (cond b (Some x) (find test xs)) (cond (test y) (Some y) None)
    by true rest = refl
    by false rest = rest

abbrev still : Kind → Option LiveObject → Option LiveObject
still kind k = option_and_then (λ (o : LiveObject). still_known o kind) k

gone : (k : Option LiveObject) → still Deleted k ≡ None
gone None = refl
gone (Some o) = refl

-- by what is left of the first: it keeps its number, or it is gone and so are all of its number
found-still : (n : ℕ) (kind : Kind) (o : LiveObject) (os : List LiveObject) (rest : List LiveObject) → find (λ (x : LiveObject). x.object.number == n) rest ≡ still kind (find (λ x. x.object.number == n) os)
    → (o.object.number == n) ≡ true → find (λ x. x.object.number == n) (cons_option (still_known o kind) rest) ≡ still_known o kind
found-still n Created o os rest e own = ap (λ b. cond b (Some (record o { attributes = after_kind o.attributes Created })) (find (λ x. x.object.number == n) rest)) own
found-still n (Change lines) o os rest e own = ap (λ b. cond b (Some (record o { attributes = after_kind o.attributes (Change lines) })) (find (λ x. x.object.number == n) rest)) own
found-still n Truncated o os rest e own = ap (λ b. cond b (Some (record o { attributes = after_kind o.attributes Truncated })) (find (λ x. x.object.number == n) rest)) own
found-still n Dropped o os rest e own = ap (λ b. cond b (Some (record o { attributes = after_kind o.attributes Dropped })) (find (λ x. x.object.number == n) rest)) own
found-still n Deleted o os rest e own = e ∙ gone (find (λ x. x.object.number == n) os)
found-still n (Opened id) o os rest e own = ap (λ b. cond b (Some (record o { attributes = after_kind o.attributes (Opened id) })) (find (λ x. x.object.number == n) rest)) own
found-still n (Closed id) o os rest e own = ap (λ b. cond b (Some (record o { attributes = after_kind o.attributes (Closed id) })) (find (λ x. x.object.number == n) rest)) own
found-still n (FromClient id lines) o os rest e own = ap (λ b. cond b (Some (record o { attributes = after_kind o.attributes (FromClient id lines) })) (find (λ x. x.object.number == n) rest)) own
found-still n (ToClient id lines) o os rest e own = ap (λ b. cond b (Some (record o { attributes = after_kind o.attributes (ToClient id lines) })) (find (λ x. x.object.number == n) rest)) own
found-still n (ToAll lines) o os rest e own = ap (λ b. cond b (Some (record o { attributes = after_kind o.attributes (ToAll lines) })) (find (λ x. x.object.number == n) rest)) own

passed-still : (n : ℕ) (kind : Kind) (o : LiveObject) (rest : List LiveObject) → (o.object.number == n) ≡ false → find (λ (x : LiveObject). x.object.number == n) (cons_option (still_known o kind) rest) ≡ find (λ x. x.object.number == n) rest
passed-still n Created o rest other = ap (λ b. cond b (Some (record o { attributes = after_kind o.attributes Created })) (find (λ x. x.object.number == n) rest)) other
passed-still n (Change lines) o rest other = ap (λ b. cond b (Some (record o { attributes = after_kind o.attributes (Change lines) })) (find (λ x. x.object.number == n) rest)) other
passed-still n Truncated o rest other = ap (λ b. cond b (Some (record o { attributes = after_kind o.attributes Truncated })) (find (λ x. x.object.number == n) rest)) other
passed-still n Dropped o rest other = ap (λ b. cond b (Some (record o { attributes = after_kind o.attributes Dropped })) (find (λ x. x.object.number == n) rest)) other
passed-still n Deleted o rest other = refl
passed-still n (Opened id) o rest other = ap (λ b. cond b (Some (record o { attributes = after_kind o.attributes (Opened id) })) (find (λ x. x.object.number == n) rest)) other
passed-still n (Closed id) o rest other = ap (λ b. cond b (Some (record o { attributes = after_kind o.attributes (Closed id) })) (find (λ x. x.object.number == n) rest)) other
passed-still n (FromClient id lines) o rest other = ap (λ b. cond b (Some (record o { attributes = after_kind o.attributes (FromClient id lines) })) (find (λ x. x.object.number == n) rest)) other
passed-still n (ToClient id lines) o rest other = ap (λ b. cond b (Some (record o { attributes = after_kind o.attributes (ToClient id lines) })) (find (λ x. x.object.number == n) rest)) other
passed-still n (ToAll lines) o rest other = ap (λ b. cond b (Some (record o { attributes = after_kind o.attributes (ToAll lines) })) (find (λ x. x.object.number == n) rest)) other

found-touched : (n : ℕ) (e : Entry) (os : List LiveObject) → find (λ (o : LiveObject). o.object.number == n) (filter_map (touched e) os) ≡ cond (e.record_of.object == n) (still e.record_of.kind (find (λ o. o.object.number == n) os)) (find (λ o. o.object.number == n) os)
found-touched n e [] = elim (e.record_of.object == n) as (λ b. None ≡ cond {A = Option LiveObject} b None None) [ true ↦ refl | false ↦ refl ]
found-touched n e (o ∷ os) = by (e.record_of.object == o.object.number) refl (o.object.number == n) refl (e.record_of.object == n) refl (found-touched n e os)
  where
    test : LiveObject → Bool
    test o = o.object.number == n

    by : (hit : Bool) → (e.record_of.object == o.object.number) ≡ hit → (own : Bool) → (o.object.number == n) ≡ own → (same : Bool) → (e.record_of.object == n) ≡ same
        → find (λ (o : LiveObject). o.object.number == n) (filter_map (touched e) os) ≡ cond (e.record_of.object == n) (still e.record_of.kind (find (λ o. o.object.number == n) os)) (find (λ o. o.object.number == n) os)
        → find (λ (o : LiveObject). o.object.number == n) (cons_option (cond hit (still_known o e.record_of.kind) (Some o)) (filter_map (touched e) os)) ≡ cond same (still e.record_of.kind (cond own (Some o) (find (λ o. o.object.number == n) os))) (cond own (Some o) (find (λ o. o.object.number == n) os))
    by true h true o_is true s rest = found-still n e.record_of.kind o os (filter_map (touched e) os) (rest ∙ ap (λ b. cond b (still e.record_of.kind (find (λ o. o.object.number == n) os)) (find (λ o. o.object.number == n) os)) s) o_is
    by true h true o_is false s rest = absurd (let a : e.record_of.object ≡ o.object.number = eqb-true e.record_of.object o.object.number h in let b : o.object.number ≡ n = eqb-true o.object.number n o_is in let yes : (e.record_of.object == n) ≡ true = eq-eqb e.record_of.object n (a ∙ b) in cc)
    by true h false o_is true s rest = absurd (let a : e.record_of.object ≡ o.object.number = eqb-true e.record_of.object o.object.number h in let b : e.record_of.object ≡ n = eqb-true e.record_of.object n s in let yes : (o.object.number == n) ≡ true = eq-eqb o.object.number n (sym a ∙ b) in cc)
    by true h false o_is false s rest = passed-still n e.record_of.kind o (filter_map (touched e) os) o_is ∙ rest ∙ ap (λ b. cond b (still e.record_of.kind (find (λ o. o.object.number == n) os)) (find (λ o. o.object.number == n) os)) s
    by false h true o_is true s rest = absurd (let a : e.record_of.object ≡ n = eqb-true e.record_of.object n s in let b : o.object.number ≡ n = eqb-true o.object.number n o_is in let yes : (e.record_of.object == o.object.number) ≡ true = eq-eqb e.record_of.object o.object.number (a ∙ sym b) in cc)
    by false h true o_is false s rest = ap (λ b. cond b (Some o) (find (λ x. x.object.number == n) (filter_map (touched e) os))) o_is
    by false h false o_is same s rest = ap (λ b. cond b (Some o) (find (λ x. x.object.number == n) (filter_map (touched e) os))) o_is ∙ rest ∙ ap (λ b. cond b (still e.record_of.kind (find (λ o. o.object.number == n) os)) (find (λ o. o.object.number == n) os)) s

found-by : (c : Content) (x : Move) (n : ℕ) → object_numbered (apply_seen x c) n ≡ object_by n (object_numbered c n) x
found-by c (Attaches conn) n = refl
found-by c (Leaves conn) n = refl
found-by c (Creates o) n = find-push (λ (o : LiveObject). o.object.number == n) c.objects (record { object = o; attributes = [] })
found-by c (AppendsRecord e) n = found-touched n e c.objects
found-by c (Opens h) n = refl
found-by c (Closes number) n = refl
found-by c (CatchesUp number) n = refl
found-by c (Advances number count) n = refl
found-by c (Parks number size) n = refl
found-by c (Arms number pulse) n = refl
found-by c (Queues conn item) n = refl
found-by c (Takes conn) n = refl
found-by c (MakesDirectory path) n = refl
found-by c (RemovesDirectory number) n = refl

-- The object of a number after moves, by what it was before them.
pub found-all : (xs : List Move) (c : Content) (n : ℕ) → object_numbered (apply_all_seen xs c) n ≡ object_after xs n (object_numbered c n)
found-all [] c n = refl
found-all (x ∷ xs) c n = found-all xs (apply_seen x c) n ∙ ap (object_after xs n) (found-by c x n)
