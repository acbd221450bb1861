-- What one more record does to the objects.
use Rattle.std.proofs.Common.{◌≡◌, ◌≢◌, ◌<◌, Bool, true, false, cond, eqb, eq-eqb, List, [], ◌∷◌, ◌++◌, Option, Some, None, refl, ap, ◌∙◌, arith}
use Rattle.std.specs.Prelude.{option_and_then}
use Rattle.std.specs.List.{filter_map, AllByRecursion}
use Rattle.std.proofs.lemmas.Bool.{ne_eqb}
use Rattle.std.proofs.lemmas.List.Elements.{filter_map-append}
use Rattle.pps_types.specs.declared.record.Kind.{Kind}
use Rattle.pps_types.specs.declared.record.Kind.TheVariants.{Created, Change, Truncated, Dropped, Deleted, Opened, Closed, FromClient, ToClient, ToAll}
use Rattle.pps_types.specs.History.{Attribute, Entry, state, is_alive, after_kind, alive_after_kind, after_entry, alive_after}
use Rattle.pps_types.specs.Content.{Object, LiveObject}
use Rattle.pps_types.specs.Plan.{touched, still_known, creation}
use Rattle.pps_types.specs.Machine.{known, is_creation}
use Rattle.pps_types.proofs.Lists.{fold-push, filter_map-then, filter_map-same, all-all, all-weaken}

abbrev known_by : Object → Bool → List Attribute → Option LiveObject
known_by o alive a = cond alive (Some (record { object = o; attributes = a })) None

-- the object after a record: the record is of it (b) or not
known-more : (o : Object) (a : List Attribute) (k : Kind) (b alive : Bool) → is_creation k ≡ false → known_by o (cond b (alive_after_kind alive k) alive) (cond b (after_kind a k) a) ≡ option_and_then (λ x. cond b (still_known x k) (Some x)) (known_by o alive a)
known-more o a k false true e = refl
known-more o a k false false e = refl
known-more o a Created true alive e = absurd cc
known-more o a Deleted true true e = refl
known-more o a Deleted true false e = refl
known-more o a (Change lines) true true e = refl
known-more o a (Change lines) true false e = refl
known-more o a Truncated true true e = refl
known-more o a Truncated true false e = refl
known-more o a Dropped true true e = refl
known-more o a Dropped true false e = refl
known-more o a (Opened id) true true e = refl
known-more o a (Opened id) true false e = refl
known-more o a (Closed id) true true e = refl
known-more o a (Closed id) true false e = refl
known-more o a (FromClient id lines) true true e = refl
known-more o a (FromClient id lines) true false e = refl
known-more o a (ToClient id lines) true true e = refl
known-more o a (ToClient id lines) true false e = refl
known-more o a (ToAll lines) true true e = refl
known-more o a (ToAll lines) true false e = refl

known-fold : (H : List Entry) (e : Entry) (o : Object) → known (H ++ e ∷ []) o ≡ known_by o (alive_after o.number (is_alive o.number H) e) (after_entry o.number (state o.number H) e)
known-fold H e o = λ i. known_by o (fold-push (alive_after o.number) false H e i) (fold-push (after_entry o.number) [] H e i)

known-push : (H : List Entry) (e : Entry) → is_creation e.record_of.kind ≡ false → (o : Object) → known (H ++ e ∷ []) o ≡ option_and_then (touched e) (known H o)
known-push H e plain o = known-fold H e o ∙ known-more o (state o.number H) e.record_of.kind (eqb e.record_of.object o.number) (is_alive o.number H) plain ∙ by (is_alive o.number H)
  where
    by : (alive : Bool) → option_and_then (λ x. cond (eqb e.record_of.object o.number) (still_known x e.record_of.kind) (Some x)) (known_by o alive (state o.number H)) ≡ option_and_then (touched e) (known_by o alive (state o.number H))
    by true = refl
    by false = refl

-- what happens to the objects
pub objects-push : (H : List Entry) (e : Entry) → is_creation e.record_of.kind ≡ false → (os : List Object) → filter_map (known (H ++ e ∷ [])) os ≡ filter_map (touched e) (filter_map (known H) os)
objects-push H e plain os = filter_map-then (known H) (touched e) (known (H ++ e ∷ [])) os (all-all {P = λ o. known (H ++ e ∷ []) o ≡ option_and_then (touched e) (known H o)} (known-push H e plain) os)

known-other : (H : List Entry) (e : Entry) (o : Object) → e.record_of.object ≢ o.number → known (H ++ e ∷ []) o ≡ known H o
known-other H e o other = known-fold H e o ∙ ap (λ b. known_by o (cond b (alive_after_kind (is_alive o.number H) e.record_of.kind) (is_alive o.number H)) (cond b (after_kind (state o.number H) e.record_of.kind) (state o.number H))) (ne_eqb e.record_of.object o.number other)

known-made : (H : List Entry) (o : Object) → known (H ++ creation o ∷ []) o ≡ Some (record { object = o; attributes = [] })
known-made H o = known-fold H (creation o) o ∙ ap (λ b. known_by o (cond b true (is_alive o.number H)) (cond b [] (state o.number H))) (eq-eqb o.number o.number refl)

-- a new object, of a number that no other has
pub objects-made : (H : List Entry) (o : Object) (os : List Object) → AllByRecursion (λ x. x.number < o.number) os → filter_map (known (H ++ creation o ∷ [])) (os ++ o ∷ []) ≡ filter_map (known H) os ++ record { object = o; attributes = [] } ∷ []
objects-made H o os all =
    filter_map-append (known (H ++ creation o ∷ [])) os (o ∷ [])
    ∙ (λ i. filter_map-same (known (H ++ creation o ∷ [])) (known H) os (all-weaken {P = λ x. x.number < o.number} {Q = λ x. known (H ++ creation o ∷ []) x ≡ known H x} (λ x lt. known-other H (creation o) x (λ e. omega arith)) os all) i ++ one (known (H ++ creation o ∷ []) o) (known-made H o) i)
  where
    one : (r : Option LiveObject) → r ≡ Some (record { object = o; attributes = [] }) → filter_map (λ (x : Option LiveObject). x) (r ∷ []) ≡ record { object = o; attributes = [] } ∷ []
    one r e = ap (λ (r : Option LiveObject). filter_map (λ (x : Option LiveObject). x) (r ∷ [])) e
