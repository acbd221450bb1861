-- Fit moves keep the tree of directories and objects.
use Rattle.std.proofs.Common.{◌≡◌, ℕ, Bool, true, false, cond, not, ◌&&◌, eqb, eqb-true, eq-eqb, List, [], ◌∷◌, ◌++◌, Option, Some, None, refl, sym, ap, subst, ◌∙◌}
use Rattle.std.specs.Prelude.{find, is_some, option_map, option_and_then}
use Rattle.std.specs.List.{AllByRecursion, filter_map, cons_option}
use Rattle.std.specs.Cmp.Lexicographic.{same_text}
use Rattle.pps_types.specs.declared.record.Kind.{Kind}
use Rattle.pps_types.specs.declared.record.Kind.TheVariants.{Created, Change, Truncated, Dropped, Deleted, Opened, Closed, FromClient, ToClient, ToAll}
use Rattle.pps_types.specs.Bytes.{same, is_empty}
use Rattle.pps_types.specs.Names.{Name, Path, same_path, parent, last_name}
use Rattle.pps_types.specs.History.{Entry}
use Rattle.pps_types.specs.Content.{Object, Directory, LiveObject, Content, directory_at, parent_number, object_at, object_in}
use Rattle.pps_types.specs.Plan.{Move, Attaches, Leaves, Creates, AppendsRecord, Opens, Closes, CatchesUp, Advances, Parks, Arms, Queues, Takes, MakesDirectory, RemovesDirectory, apply_seen, touched, still_known, without_first}
use Rattle.pps_types.specs.WellFormed.{directory_numbered}
use Rattle.pps_types.proofs.Lists.{all-push, all-without_first}
use Rattle.service_laws.proofs.Finds.{OfSome, some-of, is-some, and-both, all-both, all-imp, all-filter_map, find-true, find-push, find-last, some-push, find-without, none-all, all-none, find-other}
use Rattle.service_laws.proofs.Rising.{one-number, none-left}
use Rattle.service_laws.proofs.Fits.{IsFree, IsPlaced, IsEmptied, Fits, Order, Tree}

-- ---- paths

pub same_path-is : (p q : Path) → same_path p q ≡ true → p ≡ q
same_path-is [] [] e = refl
same_path-is [] (n ∷ q) e = absurd (let h = e in cc)
same_path-is (m ∷ p) [] e = absurd (let h = e in cc)
same_path-is (m ∷ p) (n ∷ q) e =
    let both = and-both (same m n) (same_path p q) e in
    λ i. same_text m n (sym both.0) i ∷ same_path-is p q both.1 i

pub same-itself : (name : Name) → same name name ≡ true
same-itself [] = refl
same-itself (b ∷ bs) = ap (λ k. k && same bs bs) (eq-eqb b b refl) ∙ same-itself bs

pub path-itself : (p : Path) → same_path p p ≡ true
path-itself [] = refl
path-itself (n ∷ p) = ap (λ k. k && same_path p p) (same-itself n) ∙ path-itself p

path-whole : (n : Name) (ns : Path) → parent (n ∷ ns) ++ last_name (n ∷ ns) ∷ [] ≡ n ∷ ns
path-whole n [] = refl
path-whole n (m ∷ ms) = ap (λ p. n ∷ p) (path-whole m ms)

-- ---- what stands at a path

-- the directory above a path, where it has a number
pub above-of : (c : Content) (p : Path) (k : ℕ) → parent_number c p ≡ Some k → (d : Directory) × (directory_at c (parent p) ≡ Some d) × (d.number ≡ k)
above-of c p k e = go (directory_at c (parent p)) refl e
  where
    go : (o : Option Directory) → directory_at c (parent p) ≡ o → option_map (λ (d : Directory). d.number) o ≡ Some k → (d : Directory) × (directory_at c (parent p) ≡ Some d) × (d.number ≡ k)
    go None f e = absurd (let h = e in cc)
    go (Some d) f e = (d, f, (let is : d.number ≡ k = cc in is))

pub path-of : (c : Content) (p : Path) (d : Directory) → directory_at c p ≡ Some d → d.path ≡ p
path-of c p d e = same_path-is d.path p (find-true (λ (d : Directory). same_path d.path p) c.directories d e)

-- directories of one number are one
pub one-directory : (c : Content) → Order c → (test other : Directory → Bool) (d r : Directory) → find test c.directories ≡ Some d → find other c.directories ≡ Some r → r.number ≡ d.number → r ≡ d
one-directory c o test other d r e f same = one-number (λ (d : Directory). d.number) test other 0 c.next_directory c.directories o.2 d r e f same

-- one number above two paths: one directory is above both
one-above : (c : Content) → Order c → (p q : Path) (k : ℕ) → parent_number c p ≡ Some k → parent_number c q ≡ Some k → parent p ≡ parent q
one-above c o p q k e f =
    let a = above-of c p k e in
    let b = above-of c q k f in
    sym (path-of c (parent p) a.0 a.1) ∙ ap (λ (d : Directory). d.path) (sym (one-directory c o (λ d. same_path d.path (parent p)) (λ d. same_path d.path (parent q)) a.0 b.0 a.1 b.1 (b.2 ∙ sym a.2))) ∙ path-of c (parent q) b.0 b.1

abbrev pub of_name : Name → ℕ → LiveObject → Bool
of_name name directory x = eqb x.object.directory directory && same x.object.name name

pub object-at : (c : Content) (n : Name) (ns : Path) (k : ℕ) → parent_number c (n ∷ ns) ≡ Some k → object_at c (n ∷ ns) ≡ object_in c (last_name (n ∷ ns)) k
object-at c n ns k e = ap (λ o. option_and_then (object_in c (last_name (n ∷ ns))) o) e

-- ---- a new object

-- a path of the object's place is the object's
pub same-place : (c : Content) → Order c → Tree c → (o : Object) → (placed : IsPlaced c o) → (n : Name) (ns : Path) → parent_number c (n ∷ ns) ≡ Some o.directory → o.name ≡ last_name (n ∷ ns) → n ∷ ns ≡ placed.path
same-place c r t o placed n ns number name = go placed.path refl
  where
    go : (q : Path) → placed.path ≡ q → n ∷ ns ≡ placed.path
    go [] e = let none : directory_at c [] ≡ None = ap (directory_at c) (sym e) ∙ placed.at_free.directory in absurd (let no = sym none ∙ t.0 in cc)
    go (m ∷ ms) e =
        let other : parent_number c (m ∷ ms) ≡ Some o.directory = ap (parent_number c) (sym e) ∙ placed.number in
        let above : parent (n ∷ ns) ≡ parent (m ∷ ms) = one-above c r (n ∷ ns) (m ∷ ms) o.directory number other in
        let last : last_name (n ∷ ns) ≡ last_name (m ∷ ms) = sym name ∙ placed.name ∙ ap last_name e in
        sym (path-whole n ns) ∙ (λ i. above i ++ last i ∷ []) ∙ path-whole m ms ∙ sym e

abbrev made_known : Object → LiveObject
made_known o = record { object = o; attributes = [] }

-- at other paths than its own it isn't
pub other-created : (c : Content) → Order c → Tree c → (o : Object) → (placed : IsPlaced c o) → (p : Path) → (p ≡ placed.path → ⊥) → object_at c p ≡ None → object_at (apply_seen (Creates o) c) p ≡ None
other-created c r t o placed [] other none = refl
other-created c r t o placed (n ∷ ns) other none = by (parent_number c (n ∷ ns)) refl
  where
    by : (k : Option ℕ) → parent_number c (n ∷ ns) ≡ k → option_and_then (object_in (apply_seen (Creates o) c) (last_name (n ∷ ns))) k ≡ None
    by None e = refl
    by (Some k) e = find-last (of_name (last_name (n ∷ ns)) k) c.objects (made_known o) (sym (object-at c n ns k e) ∙ none) ∙ test (of_name (last_name (n ∷ ns)) k (made_known o)) refl
      where
        test : (b : Bool) → of_name (last_name (n ∷ ns)) k (made_known o) ≡ b → cond b (Some (made_known o)) None ≡ None
        test false e = refl
        test true pass =
            let both = and-both (eqb o.directory k) (same o.name (last_name (n ∷ ns))) pass in
            absurd (other (same-place c r t o placed n ns (e ∙ ap Some (sym (eqb-true o.directory k both.0))) (same_text o.name (last_name (n ∷ ns)) (sym both.1))))

free-created : (c : Content) → Order c → Tree c → (o : Object) → IsPlaced c o → (d : Directory) → (directory_at c d.path ≡ Some d) × (object_at c d.path ≡ None) → object_at (apply_seen (Creates o) c) d.path ≡ None
free-created c r t o placed d f = other-created c r t o placed d.path (λ is. let none : directory_at c d.path ≡ None = ap (directory_at c) is ∙ placed.at_free.directory in let no = sym none ∙ f.0 in cc) f.1

-- its name is free
pub name-free : (c : Content) → Tree c → (o : Object) → IsPlaced c o → object_in c o.name o.directory ≡ None
name-free c t o placed = go placed.path refl
  where
    go : (p : Path) → placed.path ≡ p → object_in c o.name o.directory ≡ None
    go [] e = absurd (let none : directory_at c [] ≡ None = ap (directory_at c) (sym e) ∙ placed.at_free.directory in let no = sym none ∙ t.0 in cc)
    go (n ∷ ns) e =
        ap (λ name. object_in c name o.directory) (placed.name ∙ ap last_name e)
        ∙ sym (object-at c n ns o.directory (ap (parent_number c) (sym e) ∙ placed.number))
        ∙ ap (object_at c) (sym e) ∙ placed.at_free.object

own-name : (o : LiveObject) → of_name o.object.name o.object.directory o ≡ true
own-name o = (λ i. eq-eqb o.object.directory o.object.directory refl i && same-itself o.object.name i)

pub place-stands : (c : Content) (o : Object) → IsPlaced c o → is_some (directory_numbered c o.directory) ≡ true
place-stands c o placed =
    let a = above-of c placed.path o.directory placed.number in
    find-other (λ (d : Directory). same_path d.path (parent placed.path)) (λ d. eqb d.number o.directory) c.directories a.0 a.1 (eq-eqb a.0.number o.directory a.2)

tree-created : (c : Content) → Order c → Tree c → (o : Object) → IsPlaced c o → Tree (apply_seen (Creates o) c)
tree-created c r t o placed = (
  t.0,
  t.1,
  t.2,
  all-imp (λ (d : Directory). (directory_at c d.path ≡ Some d) × (object_at c d.path ≡ None)) (λ d. object_at (apply_seen (Creates o) c) d.path ≡ None) (free-created c r t o placed) c.directories (all-both _ _ c.directories t.2 t.3),
  all-push (λ (x : LiveObject). object_in (apply_seen (Creates o) c) x.object.name x.object.directory ≡ Some x) c.objects (made_known o)
      (all-imp (λ (x : LiveObject). object_in c x.object.name x.object.directory ≡ Some x) (λ x. object_in (apply_seen (Creates o) c) x.object.name x.object.directory ≡ Some x) (λ x is. find-push (of_name x.object.name x.object.directory) c.objects (made_known o) x is) c.objects t.4)
      (find-last (of_name o.name o.directory) c.objects (made_known o) (name-free c t o placed) ∙ ap (λ b. cond b (Some (made_known o)) None) (own-name (made_known o))),
  all-push (λ (x : LiveObject). is_some (directory_numbered c x.object.directory) ≡ true) c.objects (made_known o) t.5 (place-stands c o placed),
)

-- ---- a record

pub touched-object : (e : Entry) (o : LiveObject) → OfSome (λ p. p.object ≡ o.object) (touched e o)
touched-object e o = elim (eqb e.record_of.object o.object.number) as (λ b. OfSome (λ (p : LiveObject). p.object ≡ o.object) (cond b (still_known o e.record_of.kind) (Some o))) [ true ↦ still e.record_of.kind | false ↦ refl ]
  where
    still : (k : Kind) → OfSome (λ (p : LiveObject). p.object ≡ o.object) (still_known o k)
    still Created = refl
    still (Change lines) = refl
    still Truncated = refl
    still Dropped = refl
    still Deleted = tt
    still (Opened id) = refl
    still (Closed id) = refl
    still (FromClient id lines) = refl
    still (ToClient id lines) = refl
    still (ToAll lines) = refl

pub touched-of : (P : Object → Type 0) (e : Entry) (o : LiveObject) → P o.object → OfSome (λ p. P p.object) (touched e o)
touched-of P e o p = go (touched e o) (touched-object e o)
  where
    go : (t : Option LiveObject) → OfSome (λ (p : LiveObject). p.object ≡ o.object) t → OfSome (λ (p : LiveObject). P p.object) t
    go None is = tt
    go (Some q) is = subst P (sym is) p

pub find-left : (test : LiveObject → Bool) (e : Entry) (x y : LiveObject) → ((a b : LiveObject) → a.object ≡ b.object → test a ≡ test b) → touched e x ≡ Some y → (xs : List LiveObject) → find test xs ≡ Some x → find test (filter_map (touched e) xs) ≡ Some y
find-left test e x y same is [] found = absurd (let bad = found in cc)
find-left test e x y same is (z ∷ zs) found = by (test z) refl found (find-left test e x y same is zs)
  where
    skip : test z ≡ false → (t : Option LiveObject) → OfSome (λ p. p.object ≡ z.object) t → find test (filter_map (touched e) zs) ≡ Some y → find test (cons_option t (filter_map (touched e) zs)) ≡ Some y
    skip fails None k rest = rest
    skip fails (Some p) k rest = ap (λ b. cond b (Some p) (find test (filter_map (touched e) zs))) (same p z k ∙ fails) ∙ rest

    hit : test z ≡ true → z ≡ x → find test (cons_option (touched e z) (filter_map (touched e) zs)) ≡ Some y
    hit passes own =
        let t : touched e z ≡ Some y = ap (touched e) own ∙ is in
        let k : y.object ≡ z.object = subst (OfSome (λ p. p.object ≡ z.object)) t (touched-object e z) in
        ap (λ o. find test (cons_option o (filter_map (touched e) zs))) t ∙ ap (λ b. cond b (Some y) (find test (filter_map (touched e) zs))) (same y z k ∙ passes)

    by : (b : Bool) → test z ≡ b → cond b (Some z) (find test zs) ≡ Some x → (find test zs ≡ Some x → find test (filter_map (touched e) zs) ≡ Some y) → find test (cons_option (touched e z) (filter_map (touched e) zs)) ≡ Some y
    by true passes f rest = hit passes (let own : z ≡ x = cc in own)
    by false fails f rest = skip fails (touched e z) (touched-object e z) (rest f)

abbrev IsOwn : List LiveObject → LiveObject → Type 0
IsOwn all o = find (of_name o.object.name o.object.directory) all ≡ Some o

own-left : (e : Entry) (all : List LiveObject) (xs : List LiveObject) → AllByRecursion (IsOwn all) xs → AllByRecursion (IsOwn (filter_map (touched e) all)) (filter_map (touched e) xs)
own-left e all [] own = tt
own-left e all (x ∷ xs) own = go (touched e x) refl (touched-object e x) (own-left e all xs own.1)
  where
    go : (t : Option LiveObject) → touched e x ≡ t → OfSome (λ p. p.object ≡ x.object) t → AllByRecursion (IsOwn (filter_map (touched e) all)) (filter_map (touched e) xs) → AllByRecursion (IsOwn (filter_map (touched e) all)) (cons_option t (filter_map (touched e) xs))
    go None is k rest = rest
    go (Some y) is k rest =
        (find-left (of_name y.object.name y.object.directory) e x y (λ a b s. ap (λ (ob : Object). eqb ob.directory y.object.directory && same ob.name y.object.name) s) is all (ap (λ (ob : Object). find (of_name ob.name ob.directory) all) k ∙ own.0), rest)

-- what was not there is not there
pub none-touched : (e : Entry) (test : Object → Bool) (xs : List LiveObject) → find (λ (x : LiveObject). test x.object) xs ≡ None → find (λ (x : LiveObject). test x.object) (filter_map (touched e) xs) ≡ None
none-touched e test xs none = all-none (λ (x : LiveObject). test x.object) (filter_map (touched e) xs)
    (all-filter_map (λ (x : LiveObject). test x.object ≡ false) (touched e) (λ x. touched-of (λ o. test o ≡ false) e x) xs (none-all (λ (x : LiveObject). test x.object) xs none))

pub object-touched : (c : Content) (e : Entry) (p : Path) → object_at c p ≡ None → object_at (apply_seen (AppendsRecord e) c) p ≡ None
object-touched c e [] none = refl
object-touched c e (n ∷ ns) none = by (parent_number c (n ∷ ns)) none
  where
    by : (k : Option ℕ) → option_and_then (object_in c (last_name (n ∷ ns))) k ≡ None → option_and_then (object_in (apply_seen (AppendsRecord e) c) (last_name (n ∷ ns))) k ≡ None
    by None none = refl
    by (Some k) none = none-touched e (λ o. eqb o.directory k && same o.name (last_name (n ∷ ns))) c.objects none

tree-happens : (c : Content) → Tree c → (e : Entry) → Tree (apply_seen (AppendsRecord e) c)
tree-happens c t e = (
  t.0,
  t.1,
  t.2,
  all-imp (λ (d : Directory). object_at c d.path ≡ None) (λ d. object_at (apply_seen (AppendsRecord e) c) d.path ≡ None) (λ d. object-touched c e d.path) c.directories t.3,
  own-left e c.objects c.objects t.4,
  all-filter_map (λ (o : LiveObject). is_some (directory_numbered c o.object.directory) ≡ true) (touched e) (λ x. touched-of (λ o. is_some (directory_numbered c o.directory) ≡ true) e x) c.objects t.5,
)

-- ---- a new directory

pub object-pushed : (c : Content) (path p : Path) → is_some (directory_at c (parent p)) ≡ true → object_at c p ≡ None → object_at (apply_seen (MakesDirectory path) c) p ≡ None
object-pushed c path [] above none = refl
object-pushed c path (n ∷ ns) above none =
    let d = some-of (directory_at c (parent (n ∷ ns))) above in
    let now : parent_number (apply_seen (MakesDirectory path) c) (n ∷ ns) ≡ Some d.0.number = ap (option_map (λ (d : Directory). d.number)) (find-push (λ (d : Directory). same_path d.path (parent (n ∷ ns))) c.directories (record { number = c.next_directory; path = path }) d.0 d.1) in
    let was : parent_number c (n ∷ ns) ≡ Some d.0.number = ap (option_map (λ (d : Directory). d.number)) d.1 in
    object-at (apply_seen (MakesDirectory path) c) n ns d.0.number now ∙ sym (object-at c n ns d.0.number was) ∙ none

tree-made : (c : Content) → Tree c → (path : Path) → IsFree c path → Tree (apply_seen (MakesDirectory path) c)
tree-made c t path f = (
  find-push (λ (d : Directory). same_path d.path []) c.directories new (record { number = 0; path = [] }) t.0,
  all-push (λ (d : Directory). is_some (directory_at after (parent d.path)) ≡ true) c.directories new
      (all-imp (λ (d : Directory). is_some (directory_at c (parent d.path)) ≡ true) (λ d. is_some (directory_at after (parent d.path)) ≡ true) (λ d. some-push (λ (r : Directory). same_path r.path (parent d.path)) c.directories new) c.directories t.1)
      (some-push (λ (r : Directory). same_path r.path (parent path)) c.directories new f.above),
  all-push (λ (d : Directory). directory_at after d.path ≡ Some d) c.directories new
      (all-imp (λ (d : Directory). directory_at c d.path ≡ Some d) (λ d. directory_at after d.path ≡ Some d) (λ d is. find-push (λ (r : Directory). same_path r.path d.path) c.directories new d is) c.directories t.2)
      (find-last (λ (r : Directory). same_path r.path path) c.directories new f.directory ∙ ap (λ b. cond b (Some new) None) (path-itself path)),
  all-push (λ (d : Directory). object_at after d.path ≡ None) c.directories new
      (all-imp (λ (d : Directory). (is_some (directory_at c (parent d.path)) ≡ true) × (object_at c d.path ≡ None)) (λ d. object_at after d.path ≡ None) (λ d p. object-pushed c path d.path p.0 p.1) c.directories (all-both _ _ c.directories t.1 t.3))
      (object-pushed c path path f.above f.object),
  t.4,
  all-imp (λ (o : LiveObject). is_some (directory_numbered c o.object.directory) ≡ true) (λ o. is_some (directory_numbered after o.object.directory) ≡ true) (λ o. some-push (λ (d : Directory). eqb d.number o.object.directory) c.directories new) c.objects t.5,
)
  where
    new : Directory
    new = record { number = c.next_directory; path = path }

    after : Content
    after = apply_seen (MakesDirectory path) c

-- ---- a directory that goes

module _ (c : Content) (r : Order c) (t : Tree c) (number : ℕ) (f : IsEmptied c number) where
  abbrev gone : Directory → Bool
  gone d = eqb d.number number

  abbrev after_gone : Content
  after_gone = apply_seen (RemovesDirectory number) c

  is-gone : (test : Directory → Bool) (d : Directory) → find test c.directories ≡ Some d → gone d ≡ true → d.path ≡ f.path
  is-gone test d e g = ap (λ (d : Directory). d.path) (one-directory c r (λ d. same_path d.path f.path) test f.directory d f.found e (eqb-true d.number number g ∙ sym f.own)) ∙ path-of c f.path f.directory f.found

  stays-at : (test : Directory → Bool) (p : Path) (d : Directory) → find test c.directories ≡ Some d → (d.path ≡ f.path → ⊥) → gone d ≡ false
  stays-at test p d e other = go (gone d) refl
    where
      go : (b : Bool) → gone d ≡ b → b ≡ false
      go true g = absurd (other (is-gone test d e g))
      go false g = refl

  root-stays : gone (record { number = 0; path = [] }) ≡ false
  root-stays = stays-at (λ d. same_path d.path []) [] (record { number = 0; path = [] }) t.0 (λ e. let no = ap is_empty e ∙ f.not_root in cc)

  abbrev Parent : Directory → Type 0
  Parent d = (is_some (directory_at c (parent d.path)) ≡ true) × ((not (same_path d.path []) && same_path (parent d.path) f.path) ≡ false)

  parent-stays : (d : Directory) → Parent d → (q : Directory) × (directory_at c (parent d.path) ≡ Some q) × (directory_at after_gone (parent d.path) ≡ Some q)
  parent-stays d p =
      let q = some-of (directory_at c (parent d.path)) p.0 in
      let stays = stays-at (λ r. same_path r.path (parent d.path)) (parent d.path) q.0 q.1 (λ e. not-above (sym (path-of c (parent d.path) q.0 q.1) ∙ e) (same_path d.path []) refl p.1) in
      (q.0, q.1, find-without (λ (r : Directory). same_path r.path (parent d.path)) gone c.directories q.0 q.1 stays)
    where
      not-above : parent d.path ≡ f.path → (b : Bool) → same_path d.path [] ≡ b → (not b && same_path (parent d.path) f.path) ≡ false → ⊥
      not-above e false root none = let yes : same_path (parent d.path) f.path ≡ true = ap (λ p. same_path p f.path) e ∙ path-itself f.path in let no = none in cc
      not-above e true root none = let no : true ≡ false = ap is_empty (sym (ap parent (same_path-is d.path [] root)) ∙ e) ∙ f.not_root in cc

  object-stays : (p : Path) (d : Directory) → d.path ≡ p → Parent d → object_at c p ≡ None → object_at after_gone p ≡ None
  object-stays [] d is up none = refl
  object-stays (n ∷ ns) d is up none =
      let q = parent-stays d up in
      let was : parent_number c (n ∷ ns) ≡ Some q.0.number = ap (parent_number c) (sym is) ∙ ap (option_map (λ (d : Directory). d.number)) q.1 in
      let now : parent_number after_gone (n ∷ ns) ≡ Some q.0.number = ap (parent_number after_gone) (sym is) ∙ ap (option_map (λ (d : Directory). d.number)) q.2 in
      object-at after_gone n ns q.0.number now ∙ sym (object-at c n ns q.0.number was) ∙ none

  place-stays : (o : LiveObject) → (is_some (directory_numbered c o.object.directory) ≡ true) × (eqb o.object.directory number ≡ false) → is_some (directory_numbered after_gone o.object.directory) ≡ true
  place-stays o p =
      let d = some-of (directory_numbered c o.object.directory) p.0 in
      let own : d.0.number ≡ o.object.directory = eqb-true d.0.number o.object.directory (find-true (λ (d : Directory). eqb d.number o.object.directory) c.directories d.0 d.1) in
      is-some (directory_numbered after_gone o.object.directory) d.0 (find-without (λ (d : Directory). eqb d.number o.object.directory) gone c.directories d.0 d.1 (ap (λ n. eqb n number) own ∙ p.1))

  tree-removed : Tree after_gone
  tree-removed = (
    find-without (λ (d : Directory). same_path d.path []) gone c.directories (record { number = 0; path = [] }) t.0 root-stays,
    all-without_first (λ (d : Directory). is_some (directory_at after_gone (parent d.path)) ≡ true) gone c.directories
        (all-imp Parent (λ d. is_some (directory_at after_gone (parent d.path)) ≡ true) (λ d p. let q = parent-stays d p in is-some (directory_at after_gone (parent d.path)) q.0 q.2) c.directories ups),
    all-imp (λ (d : Directory). (gone d ≡ false) × (directory_at c d.path ≡ Some d)) (λ d. directory_at after_gone d.path ≡ Some d) (λ d p. find-without (λ (r : Directory). same_path r.path d.path) gone c.directories d p.1 p.0) (without_first gone c.directories)
        (all-both _ _ (without_first gone c.directories) (none-left (λ (d : Directory). d.number) number 0 c.next_directory c.directories r.2) (all-without_first (λ (d : Directory). directory_at c d.path ≡ Some d) gone c.directories t.2)),
    all-without_first (λ (d : Directory). object_at after_gone d.path ≡ None) gone c.directories
        (all-imp (λ (d : Directory). Parent d × (object_at c d.path ≡ None)) (λ d. object_at after_gone d.path ≡ None) (λ d p. object-stays d.path d refl p.0 p.1) c.directories (all-both _ _ c.directories ups t.3)),
    t.4,
    all-imp (λ (o : LiveObject). (is_some (directory_numbered c o.object.directory) ≡ true) × (eqb o.object.directory number ≡ false)) (λ o. is_some (directory_numbered after_gone o.object.directory) ≡ true) place-stays c.objects (all-both _ _ c.objects t.5 f.no_objects),
  )
    where
      ups : AllByRecursion Parent c.directories
      ups = all-both _ _ c.directories t.1 f.no_directories

-- ---- each move

pub tree-kept : (x : Move) (c : Content) → Order c → Tree c → Fits c x → Tree (apply_seen x c)
tree-kept (Creates o) c r t f = tree-created c r t o f.1
tree-kept (AppendsRecord e) c r t f = tree-happens c t e
tree-kept (MakesDirectory path) c r t f = tree-made c t path f
tree-kept (RemovesDirectory number) c r t f = tree-removed c r t number f
tree-kept (Attaches conn) c r t f = t
tree-kept (Leaves conn) c r t f = t
tree-kept (Opens h) c r t f = t
tree-kept (Closes number) c r t f = t
tree-kept (CatchesUp number) c r t f = t
tree-kept (Advances number count) c r t f = t
tree-kept (Parks number size) c r t f = t
tree-kept (Arms number pulse) c r t f = t
tree-kept (Queues conn item) c r t f = t
tree-kept (Takes conn) c r t f = t
