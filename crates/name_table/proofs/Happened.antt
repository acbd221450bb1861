-- Names agree with what stands after a record that leaves its object alive.
use Rattle.std.proofs.Common.{◌≡◌, ℕ, ◌+◌, ◌<◌, Bool, true, false, ◌&&◌, cond, eqb, eqb-true, eq-eqb, List, [], ◌∷◌, map, find, Option, Some, None, refl, ap, sym, subst, ◌∙◌, arith}
use Rattle.std.specs.Prelude.{is_some, option_map, option_and_then}
use Rattle.std.specs.Option.{option_or}
use Rattle.std.specs.List.{AllByRecursion, filter_map, cons_option}
use Rattle.pps_types.specs.declared.found.Found.TheVariants.{Object as FoundObject, Directory as FoundDirectory}
use Rattle.pps_types.specs.declared.record.Kind.{Kind}
use Rattle.pps_types.specs.Bytes.{same, is_empty}
use Rattle.pps_types.specs.Names.{Map, Path, last_name}
use Rattle.pps_types.specs.Content.{Object, Directory, LiveObject, Content, at, parent_number, directory_at, object_in}
use Rattle.pps_types.specs.Plan.{AppendsRecord, apply_seen, touched, still_known}
use Rattle.pps_types.specs.WellFormed.{RiseBetween}
use Rattle.service_laws.proofs.Fits.{Tree, order-in, tree-in, tree-out}
use Rattle.service_laws.proofs.Trees.{tree-kept, touched-object, touched-of}
use Rattle.service_laws.proofs.Rising.{rising-filter_map}
use Rattle.service_laws.proofs.Finds.{OfSome, all-imp}
use Rattle.number_table.specs.Numbered.{Entry, AllTell, has_number, on_first, value_under}
use Rattle.number_table.proofs.Told.{changed_told}
use Rattle.name_table.specs.Standing.{Placed, Standing, known_of, standing_by, content_of, bare_entry}
use Rattle.name_table.specs.Agrees.{IsNamed, HasPath}
use Rattle.name_table.proofs.Alone.{at_alone, tree_alone}

pub flip : (a b : ℕ) (r : Bool) → eqb a b ≡ r → eqb b a ≡ r
flip a b true e = eq-eqb b a (sym (eqb-true a b e))
flip a b false e = go (eqb b a) refl
  where
    go : (s : Bool) → eqb b a ≡ s → s ≡ false
    go true f = absurd (let no = sym (eq-eqb a b (sym (eqb-true b a f))) ∙ e in cc)
    go false f = refl

pub apart : (a b : ℕ) → a < b → eqb a b ≡ false
apart a b lt = go (eqb a b) refl
  where
    go : (s : Bool) → eqb a b ≡ s → s ≡ false
    go true f = let is = eqb-true a b f in absurd (omega arith)
    go false f = refl

abbrev pub knowns : List (Entry Placed) → List LiveObject
knowns es = map (λ (e : Entry Placed). known_of e.value) es

abbrev pub number_in : LiveObject → ℕ
number_in x = x.object.number

module _ (n : ℕ) (kind : Kind) where
  -- nothing above is touched
  pub untouched : (low high : ℕ) (xs : List LiveObject) → n < low → RiseBetween low (map number_in xs) high → filter_map (touched (bare_entry n kind)) xs ≡ xs
  untouched low high [] above r = refl
  untouched low high (x ∷ xs) above r =
      let other : eqb n x.object.number ≡ false = apart n x.object.number (omega (arith, r.0)) in
      (λ i. cons_option (cond (other i) (still_known x kind) (Some x)) (untouched (x.object.number + 1) high xs (omega (arith, r.0)) r.1 i))

  module _ (w : Placed) where
    -- the object of that number is another, and no other is
    pub touched_set : (es : List (Entry Placed)) (low high : ℕ) → AllTell (λ (x : Placed). x.object.number) es → RiseBetween low (map number_in (knowns es)) high
        → ((x : Placed) → value_under n es ≡ Some x → still_known (known_of x) kind ≡ Some (known_of w))
        → knowns (on_first (has_number n) (λ e. record e { value = w }) es) ≡ filter_map (touched (bare_entry n kind)) (knowns es)
    touched_set [] low high told r still = refl
    touched_set (e ∷ es) low high told r still = by (eqb e.number n) refl (λ s. touched_set es (e.value.object.number + 1) high told.1 r.1 s) still
      where
        by : (b : Bool) → eqb e.number n ≡ b
            → (((x : Placed) → value_under n es ≡ Some x → still_known (known_of x) kind ≡ Some (known_of w)) → knowns (on_first (has_number n) (λ e. record e { value = w }) es) ≡ filter_map (touched (bare_entry n kind)) (knowns es))
            → ((x : Placed) → option_map (λ (e : Entry Placed). e.value) (cond b (Some e) (find (has_number n) es)) ≡ Some x → still_known (known_of x) kind ≡ Some (known_of w))
            → knowns (cond b (record { number = e.number; value = w } ∷ es) (e ∷ on_first (has_number n) (λ e. record e { value = w }) es)) ≡ cons_option (touched (bare_entry n kind) (known_of e.value)) (filter_map (touched (bare_entry n kind)) (knowns es))
        by true is rest still =
            let own : e.value.object.number ≡ n = told.0 ∙ eqb-true e.number n is in
            let passes : eqb n e.value.object.number ≡ true = eq-eqb n e.value.object.number (sym own) in
            sym (λ i. cons_option ((ap (λ b. cond b (still_known (known_of e.value) kind) (Some (known_of e.value))) passes ∙ still e.value refl) i) (untouched (e.value.object.number + 1) high (knowns es) (omega (arith, own)) r.1 i))
        by false is rest still =
            let fails : eqb n e.value.object.number ≡ false = flip e.value.object.number n false (ap (λ k. eqb k n) told.0 ∙ is) in
            sym (λ i. cons_option (cond (fails i) (still_known (known_of e.value) kind) (Some (known_of e.value))) (sym (rest still) i))

    -- what holds of each value holds where the other came
    pub each_set : (P : Placed → Type 0) (es : List (Entry Placed)) → AllByRecursion (λ (e : Entry Placed). P e.value) es → ((x : Placed) → value_under n es ≡ Some x → P x → P w)
        → AllByRecursion (λ (e : Entry Placed). P e.value) (on_first (has_number n) (λ e. record e { value = w }) es)
    each_set P [] all keeps = tt
    each_set P (e ∷ es) all keeps = by (eqb e.number n) (λ k. each_set P es all.1 k) keeps
      where
        by : (b : Bool) → (((x : Placed) → value_under n es ≡ Some x → P x → P w) → AllByRecursion (λ (e : Entry Placed). P e.value) (on_first (has_number n) (λ e. record e { value = w }) es))
            → ((x : Placed) → option_map (λ (e : Entry Placed). e.value) (cond b (Some e) (find (has_number n) es)) ≡ Some x → P x → P w)
            → AllByRecursion (λ (e : Entry Placed). P e.value) (cond b (record { number = e.number; value = w } ∷ es) (e ∷ on_first (has_number n) (λ e. record e { value = w }) es))
        by true rest keeps = (keeps e.value refl all.0, all.1)
        by false rest keeps = (all.0, rest keeps)

  -- where none has that number, none is touched
  pub touched_none : (es : List (Entry Placed)) → AllTell (λ (x : Placed). x.object.number) es → value_under n es ≡ None → knowns es ≡ filter_map (touched (bare_entry n kind)) (knowns es)
  touched_none [] told none = refl
  touched_none (e ∷ es) told none = by (eqb e.number n) refl (λ h. touched_none es told.1 h) none
    where
      by : (b : Bool) → eqb e.number n ≡ b → (value_under n es ≡ None → knowns es ≡ filter_map (touched (bare_entry n kind)) (knowns es))
          → option_map (λ (e : Entry Placed). e.value) (cond b (Some e) (find (has_number n) es)) ≡ None → knowns (e ∷ es) ≡ cons_option (touched (bare_entry n kind) (known_of e.value)) (filter_map (touched (bare_entry n kind)) (knowns es))
      by true is rest none = absurd (let no = none in cc)
      by false is rest none =
          let fails : eqb n e.value.object.number ≡ false = flip e.value.object.number n false (ap (λ k. eqb k n) told.0 ∙ is) in
          (λ i. cons_option (cond (sym fails i) (still_known (known_of e.value) kind) (Some (known_of e.value))) (rest none i))

  -- ---- what stands at paths

  module _ (kept : (o : LiveObject) → is_some (still_known o kind) ≡ true) where
    objects_same : (xs : List LiveObject) → map (λ (x : LiveObject). x.object) (filter_map (touched (bare_entry n kind)) xs) ≡ map (λ (x : LiveObject). x.object) xs
    objects_same [] = refl
    objects_same (x ∷ xs) = go (touched (bare_entry n kind) x) (touched-object (bare_entry n kind) x) (lives (eqb n x.object.number)) (objects_same xs)
      where
        lives : (b : Bool) → is_some (cond b (still_known x kind) (Some x)) ≡ true
        lives true = kept x
        lives false = refl

        go : (t : Option LiveObject) → OfSome (λ (p : LiveObject). p.object ≡ x.object) t → is_some t ≡ true → map (λ (x : LiveObject). x.object) (filter_map (touched (bare_entry n kind)) xs) ≡ map (λ (x : LiveObject). x.object) xs → map (λ (x : LiveObject). x.object) (cons_option t (filter_map (touched (bare_entry n kind)) xs)) ≡ x.object ∷ map (λ (x : LiveObject). x.object) xs
        go None own some rest = absurd (let no = some in cc)
        go (Some p) own some rest = (λ i. own i ∷ rest i)

    find_step : (b : Bool) (x : LiveObject) (r : Option LiveObject) (s : Option Object) → option_map (λ (o : LiveObject). FoundObject o.object.number) r ≡ option_map (λ (o : Object). FoundObject o.number) s
        → option_map (λ (o : LiveObject). FoundObject o.object.number) (cond b (Some x) r) ≡ option_map (λ (o : Object). FoundObject o.number) (cond b (Some x.object) s)
    find_step true x r s h = refl
    find_step false x r s h = h

    find_objects : (test : Object → Bool) (xs : List LiveObject) → option_map (λ (o : LiveObject). FoundObject o.object.number) (find (λ (x : LiveObject). test x.object) xs) ≡ option_map (λ (o : Object). FoundObject o.number) (find test (map (λ (x : LiveObject). x.object) xs))
    find_objects test [] = refl
    find_objects test (x ∷ xs) = find_step (test x.object) x (find (λ (x : LiveObject). test x.object) xs) (find test (map (λ (x : LiveObject). x.object) xs)) (find_objects test xs)

    pub at_happened : (c : Content) (p : Path) → at (apply_seen (AppendsRecord (bare_entry n kind)) c) p ≡ at c p
    at_happened c [] = refl
    at_happened c (m ∷ ms) = ap (λ x. option_or (option_map (λ (d : Directory). FoundDirectory d.number) (directory_at c (m ∷ ms))) x) (by (parent_number c (m ∷ ms)))
      where
        by : (k : Option ℕ) → option_map (λ (o : LiveObject). FoundObject o.object.number) (option_and_then (object_in (apply_seen (AppendsRecord (bare_entry n kind)) c) (last_name (m ∷ ms))) k) ≡ option_map (λ (o : LiveObject). FoundObject o.object.number) (option_and_then (object_in c (last_name (m ∷ ms))) k)
        by None = refl
        by (Some k) =
            let test = λ (o : Object). eqb o.directory k && same o.name (last_name (m ∷ ms)) in
            find_objects test (filter_map (touched (bare_entry n kind)) c.objects) ∙ ap (λ os. option_map (λ (o : Object). FoundObject o.number) (find test os)) (objects_same c.objects) ∙ sym (find_objects test c.objects)

module _ (m : Map) (es fs : List (Entry Placed)) (k : ℕ) (ds : List (Entry Directory)) (j : ℕ) (named : IsNamed m es k ds j) (n : ℕ) (kind : Kind) (kept : (o : LiveObject) → is_some (still_known o kind) ≡ true)
    (are : knowns fs ≡ filter_map (touched (bare_entry n kind)) (knowns es)) where
  abbrev before : Content
  before = content_of (standing_by es k ds j)

  abbrev then : Content
  then = apply_seen (AppendsRecord (bare_entry n kind)) before

  abbrev with_objects : List LiveObject → Content
  with_objects objects = content_of (record { objects = objects; next_object = k; directories = map (λ (e : Entry Directory). e.value) ds; next_directory = j })

  pub happened_named : AllByRecursion (λ (e : Entry Placed). HasPath before e.value) fs → AllTell (λ (x : Placed). x.object.number) fs → IsNamed m fs k ds j
  happened_named paths told = record {
    order = record {
      handles_rise = named.order.handles_rise;
      objects_rise = subst (λ xs. RiseBetween 0 (map number_in xs) k) (sym are) (rising-filter_map number_in (touched (bare_entry n kind)) (λ x. touched-of (λ o. o.number ≡ x.object.number) (bare_entry n kind) x refl) 0 k (knowns es) named.order.objects_rise);
      directories_rise = named.order.directories_rise;
      connections_rise = named.order.connections_rise;
    };
    tree = tree-out _ (subst (λ objects. Tree (with_objects objects)) (sym are) (tree_alone then (tree-kept (AppendsRecord (bare_entry n kind)) before (order-in before named.order) (tree-in before named.tree) tt)));
    paths = all-imp (λ (e : Entry Placed). HasPath before e.value) (λ (e : Entry Placed). HasPath (with_objects (knowns fs)) e.value) (λ e h. record { above = h.above; name = h.name; below_root = h.below_root }) fs paths;
    names = λ p. named.names p ∙ sym (at_happened n kind kept before p) ∙ sym (at_alone then p) ∙ ap (λ objects. at (with_objects objects) p) (sym are);
    objects_told = told;
    directories_told = named.directories_told;
  }

some_is : {X : Type 0} (x y : X) → Some x ≡ Some y → x ≡ y
some_is x y h = cc

module _ (m : Map) (es : List (Entry Placed)) (k : ℕ) (ds : List (Entry Directory)) (j : ℕ) (named : IsNamed m es k ds j) (n : ℕ) (kind : Kind)
    (x w : Placed) (found : value_under n es ≡ Some x) (object : w.object ≡ x.object) (path : w.path ≡ x.path) (still : still_known (known_of x) kind ≡ Some (known_of w)) where
  -- what stands where one object is another
  pub set_knowns : knowns (on_first (has_number n) (λ e. record e { value = w }) es) ≡ filter_map (touched (bare_entry n kind)) (knowns es)
  set_knowns = touched_set n kind w es 0 k named.objects_told named.order.objects_rise (λ y h. ap (λ (z : Placed). still_known (known_of z) kind) (some_is y x (sym h ∙ found)) ∙ still)

  pub set_named : ((o : LiveObject) → is_some (still_known o kind) ≡ true) → IsNamed m (on_first (has_number n) (λ e. record e { value = w }) es) k ds j
  set_named kept = happened_named m es _ k ds j named n kind kept set_knowns
      (each_set n kind w (HasPath (content_of (standing_by es k ds j))) es named.paths (λ y h p. moved (subst (HasPath (content_of (standing_by es k ds j))) (some_is y x (sym h ∙ found)) p)))
      (changed_told (λ (x : Placed). x.object.number) n x w (record { entries = es; next = k; taken = 0; room = 0 }) named.objects_told found (ap (λ (o : Object). o.number) object))
    where
      moved : HasPath (content_of (standing_by es k ds j)) x → HasPath (content_of (standing_by es k ds j)) w
      moved p = record {
        above = ap (parent_number (content_of (standing_by es k ds j))) path ∙ p.above ∙ ap (λ (o : Object). Some o.directory) (sym object);
        name = ap (λ (o : Object). o.name) object ∙ p.name ∙ ap last_name (sym path);
        below_root = ap is_empty path ∙ p.below_root;
      }

-- what stands, by the objects
abbrev pub standing_with : ℕ → List (Entry Directory) → ℕ → List LiveObject → Standing
standing_with k ds j objects = record { objects = objects; next_object = k; directories = map (λ (e : Entry Directory). e.value) ds; next_directory = j }
