-- Moves that leave what can be saved so.
use Rattle.std.proofs.Common.{◌≡◌, ◌≤◌, ◌<◌, ℕ, Bool, true, false, cond, eqb, eqb-true, List, [], ◌∷◌, ◌++◌, length, Option, Some, None, refl, sym, ap, subst, ◌∙◌, length-append, arith}
use Rattle.std.specs.Prelude.{is_some, fold}
use Rattle.std.specs.List.{AllByRecursion, filter_map, cons_option}
use Rattle.pps_types.specs.declared.record.Kind.{Kind}
use Rattle.pps_types.specs.declared.record.Kind.TheVariants.{Created, Change, Truncated, Dropped, Deleted, Opened, Closed, FromClient, ToClient, ToAll}
use Rattle.pps_types.specs.Names.{Path}
use Rattle.pps_types.specs.History.{Entry, apply_line, after_kind}
use Rattle.pps_types.specs.Content.{Object, Directory, LiveObject, Content}
use Rattle.pps_types.specs.WellFormed.{directory_numbered}
use Rattle.pps_types.specs.Plan.{Move, Attaches, Leaves, Creates, AppendsRecord, Opens, Closes, CatchesUp, Advances, Parks, Arms, Queues, Takes, MakesDirectory, RemovesDirectory, apply_seen, apply_all_seen, touched, still_known, without_first}
use Rattle.pps_types.specs.Image.{directory_path}
use Rattle.pps_types.proofs.Lists.{all-push, all-without_first}
use Rattle.service_laws.proofs.Finds.{OfSome, some-of, all-both, all-imp, all-left, all-filter_map, find-true, find-push, find-without}
use Rattle.service_laws.proofs.Fits.{IsEmptied, Fits, AreFit, Tree}
use Rattle.service_laws.proofs.Trees.{touched-of}
use Rattle.service_laws.proofs.Holders.{Basis, basis-kept}
use Rattle.image_laws.specs.Images.{IsSavedPath}
use Rattle.image_laws.specs.Savable.{object_path, AreSavable, CanBeSaved}
use Rattle.image_laws.proofs.Places.{home-path}
use Rattle.image_laws.proofs.Attributes.{savable-fewer}

-- ---- the moves

-- the record leaves the object few attributes, each with a printing; only a change has to be asked for
abbrev pub LeavesSavable : Content → ℕ → Kind → Type 0
LeavesSavable c number (Change lines) = AllByRecursion (λ (o : LiveObject). o.object.number ≡ number → AreSavable (fold apply_line o.attributes lines)) c.objects
LeavesSavable c number kind = Unit {0}

abbrev pub Saves : Content → Move → Type 0
Saves c (Creates o) = IsSavedPath (directory_path c o.directory ++ o.name ∷ []) × (length c.objects < 65535)
Saves c (AppendsRecord e) = LeavesSavable c e.record_of.object e.record_of.kind
Saves c (MakesDirectory path) = IsSavedPath path × (length c.directories < 65536)
Saves c _ = Unit {0}

-- each in turn
abbrev pub AreSaving : Content → List Move → Type 0
AreSaving c [] = Unit {0}
AreSaving c (x ∷ xs) = Saves c x × AreSaving (apply_seen x c) xs

pub saving-append : (xs ys : List Move) (c : Content) → AreSaving c xs → AreSaving (apply_all_seen xs c) ys → AreSaving c (xs ++ ys)
saving-append [] ys c f g = g
saving-append (x ∷ xs) ys c f g = (f.0, saving-append xs ys (apply_seen x c) f.1 g)

-- wherever it is made
abbrev pub IsQuiet : Move → Type 0
IsQuiet x = (c : Content) → Saves c x

abbrev pub AreQuiet : List Move → Type 0
AreQuiet xs = AllByRecursion IsQuiet xs

pub quiet-saving : (xs : List Move) (c : Content) → AreQuiet xs → AreSaving c xs
quiet-saving [] c quiet = tt
quiet-saving (x ∷ xs) c quiet = (quiet.0 c, quiet-saving xs (apply_seen x c) quiet.1)

-- ---- the facts side by side, so that a move that leaves what they speak of leaves them

abbrev Can : Content → Type 0
Can c = (1 ≤ c.default_limit) × (c.default_limit ≤ 65535) × AllByRecursion (λ (d : Directory). IsSavedPath d.path) c.directories × AllByRecursion (λ (o : LiveObject). IsSavedPath (object_path c o)) c.objects
    × AllByRecursion (λ (o : LiveObject). AreSavable o.attributes) c.objects × (length c.directories ≤ 65536) × (length c.objects ≤ 65535)

can-in : (c : Content) → CanBeSaved c → Can c
can-in c s = (s.least, s.most, s.paths, s.object_paths, s.attributes, s.directories, s.objects)

can-out : (c : Content) → Can c → CanBeSaved c
can-out c s = record { least = s.0; most = s.1; paths = s.2; object_paths = s.3; attributes = s.4; directories = s.5; objects = s.6 }

-- ---- a new object

longer : {X : Type 0} (xs : List X) (x : X) (n : ℕ) → length xs < n → length (xs ++ x ∷ []) ≤ n
longer xs x n lt = omega (arith, length-append xs (x ∷ []), lt)

can-created : (c : Content) (o : Object) → Can c → Saves c (Creates o) → Can (apply_seen (Creates o) c)
can-created c o s f = (
  s.0,
  s.1,
  s.2,
  all-push (λ (x : LiveObject). IsSavedPath (object_path c x)) c.objects made s.3 f.0,
  all-push (λ (x : LiveObject). AreSavable x.attributes) c.objects made s.4 (tt, omega arith),
  s.5,
  longer c.objects made 65535 f.1,
)
  where
    made : LiveObject
    made = record { object = o; attributes = [] }

-- ---- a record

-- no object more
pub fewer-objects : (f : LiveObject → Option LiveObject) (os : List LiveObject) → length (filter_map f os) ≤ length os
fewer-objects f [] = omega arith
fewer-objects f (o ∷ os) = by (f o) (fewer-objects f os)
  where
    by : (t : Option LiveObject) → length (filter_map f os) ≤ length os → length (cons_option t (filter_map f os)) ≤ length (o ∷ os)
    by None le = omega (arith, le)
    by (Some p) le = omega (arith, le)

-- an object that keeps few attributes, its own or another's record being made
abbrev StaysSavable : Entry → LiveObject → Type 0
StaysSavable e o = AreSavable o.attributes × (o.object.number ≡ e.record_of.object → AreSavable (after_kind o.attributes e.record_of.kind))

savable-touched : (e : Entry) (o : LiveObject) → StaysSavable e o → OfSome (λ (p : LiveObject). AreSavable p.attributes) (touched e o)
savable-touched e o h = by (eqb e.record_of.object o.object.number) refl
  where
    still : (k : Kind) → AreSavable (after_kind o.attributes k) → OfSome (λ (p : LiveObject). AreSavable p.attributes) (still_known o k)
    still Created few = few
    still (Change lines) few = few
    still Truncated few = few
    still Dropped few = few
    still Deleted few = tt
    still (Opened id) few = few
    still (Closed id) few = few
    still (FromClient id lines) few = few
    still (ToClient id lines) few = few
    still (ToAll lines) few = few

    by : (t : Bool) → eqb e.record_of.object o.object.number ≡ t → OfSome (λ (p : LiveObject). AreSavable p.attributes) (cond t (still_known o e.record_of.kind) (Some o))
    by true is = still e.record_of.kind (h.1 (sym (eqb-true e.record_of.object o.object.number is)))
    by false is = h.0

savable-stay : (c : Content) (number : ℕ) (kind : Kind) → AllByRecursion (λ (o : LiveObject). AreSavable o.attributes) c.objects → LeavesSavable c number kind → AllByRecursion (λ (o : LiveObject). o.object.number ≡ number → AreSavable (after_kind o.attributes kind)) c.objects
savable-stay c number (Change lines) all f = f
savable-stay c number Created all f = all-imp (λ (o : LiveObject). AreSavable o.attributes) (λ o. o.object.number ≡ number → AreSavable []) (λ o few own. (tt, omega arith)) c.objects all
savable-stay c number Truncated all f = all-imp (λ (o : LiveObject). AreSavable o.attributes) (λ o. o.object.number ≡ number → AreSavable []) (λ o few own. (tt, omega arith)) c.objects all
savable-stay c number Deleted all f = all-imp (λ (o : LiveObject). AreSavable o.attributes) (λ o. o.object.number ≡ number → AreSavable []) (λ o few own. (tt, omega arith)) c.objects all
savable-stay c number Dropped all f = all-imp (λ (o : LiveObject). AreSavable o.attributes) (λ o. o.object.number ≡ number → AreSavable (after_kind o.attributes Dropped)) (λ o few own. savable-fewer _ o.attributes few) c.objects all
savable-stay c number (Opened id) all f = all-imp (λ (o : LiveObject). AreSavable o.attributes) (λ o. o.object.number ≡ number → AreSavable o.attributes) (λ o few own. few) c.objects all
savable-stay c number (Closed id) all f = all-imp (λ (o : LiveObject). AreSavable o.attributes) (λ o. o.object.number ≡ number → AreSavable o.attributes) (λ o few own. few) c.objects all
savable-stay c number (FromClient id lines) all f = all-imp (λ (o : LiveObject). AreSavable o.attributes) (λ o. o.object.number ≡ number → AreSavable o.attributes) (λ o few own. few) c.objects all
savable-stay c number (ToClient id lines) all f = all-imp (λ (o : LiveObject). AreSavable o.attributes) (λ o. o.object.number ≡ number → AreSavable o.attributes) (λ o few own. few) c.objects all
savable-stay c number (ToAll lines) all f = all-imp (λ (o : LiveObject). AreSavable o.attributes) (λ o. o.object.number ≡ number → AreSavable o.attributes) (λ o few own. few) c.objects all

can-happens : (c : Content) (e : Entry) → Can c → Saves c (AppendsRecord e) → Can (apply_seen (AppendsRecord e) c)
can-happens c e s f = (
  s.0,
  s.1,
  s.2,
  all-filter_map (λ (o : LiveObject). IsSavedPath (object_path c o)) (touched e) (λ o. touched-of (λ o. IsSavedPath (directory_path c o.directory ++ o.name ∷ [])) e o) c.objects s.3,
  all-left (StaysSavable e) (λ (o : LiveObject). AreSavable o.attributes) (touched e) (savable-touched e) c.objects (all-both _ _ c.objects s.4 (savable-stay c e.record_of.object e.record_of.kind s.4 f)),
  s.5,
  (let le = fewer-objects (touched e) c.objects in omega (arith, s.6)),
)

-- ---- directories

-- objects keep their paths where their directories stay
paths-stay : (c d : Content) (os : List LiveObject) → AllByRecursion (λ (o : LiveObject). (r : Directory) × (directory_numbered c o.object.directory ≡ Some r) × (directory_numbered d o.object.directory ≡ Some r)) os
    → AllByRecursion (λ (o : LiveObject). IsSavedPath (object_path c o)) os → AllByRecursion (λ (o : LiveObject). IsSavedPath (object_path d o)) os
paths-stay c d [] homes paths = tt
paths-stay c d (o ∷ os) homes paths = (
  (let r = homes.0 in subst (λ p. IsSavedPath (p ++ o.object.name ∷ [])) (home-path c o.object.directory r.0 r.1 ∙ sym (home-path d o.object.directory r.0 r.2)) paths.0),
  paths-stay c d os homes.1 paths.1,
)

can-made : (c : Content) (path : Path) → Tree c → Can c → Saves c (MakesDirectory path) → Can (apply_seen (MakesDirectory path) c)
can-made c path t s f = (
  s.0,
  s.1,
  all-push (λ (d : Directory). IsSavedPath d.path) c.directories new s.2 f.0,
  paths-stay c (apply_seen (MakesDirectory path) c) c.objects
      (all-imp (λ (o : LiveObject). is_some (directory_numbered c o.object.directory) ≡ true)
      (λ o. (r : Directory) × (directory_numbered c o.object.directory ≡ Some r) × (directory_numbered (apply_seen (MakesDirectory path) c) o.object.directory ≡ Some r)) home c.objects t.5) s.3,
  s.4,
  longer c.directories new 65536 f.1,
  s.6,
)
  where
    new : Directory
    new = record { number = c.next_directory; path = path }

    home : (o : LiveObject) → is_some (directory_numbered c o.object.directory) ≡ true → (r : Directory) × (directory_numbered c o.object.directory ≡ Some r) × (directory_numbered (apply_seen (MakesDirectory path) c) o.object.directory ≡ Some r)
    home o h = let r = some-of (directory_numbered c o.object.directory) h in (r.0, r.1, find-push (λ (d : Directory). eqb d.number o.object.directory) c.directories new r.0 r.1)

fewer-left : {X : Type 0} (test : X → Bool) (xs : List X) → length (without_first test xs) ≤ length xs
fewer-left test [] = omega arith
fewer-left test (x ∷ xs) = elim (test x) as (λ t. length (cond t xs (x ∷ without_first test xs)) ≤ length (x ∷ xs)) [ true ↦ omega arith | false ↦ omega (arith, fewer-left test xs) ]

can-removed : (c : Content) (number : ℕ) → Tree c → IsEmptied c number → Can c → Can (apply_seen (RemovesDirectory number) c)
can-removed c number t f s = (
  s.0,
  s.1,
  all-without_first (λ (d : Directory). IsSavedPath d.path) (λ d. eqb d.number number) c.directories s.2,
  paths-stay c (apply_seen (RemovesDirectory number) c) c.objects
      (all-imp (λ (o : LiveObject). (is_some (directory_numbered c o.object.directory) ≡ true) × (eqb o.object.directory number ≡ false))
      (λ o. (r : Directory) × (directory_numbered c o.object.directory ≡ Some r) × (directory_numbered (apply_seen (RemovesDirectory number) c) o.object.directory ≡ Some r)) home c.objects (all-both _ _ c.objects t.5 f.no_objects)) s.3,
  s.4,
  (let le = fewer-left (λ (d : Directory). eqb d.number number) c.directories in omega (arith, s.5)),
  s.6,
)
  where
    home : (o : LiveObject) → (is_some (directory_numbered c o.object.directory) ≡ true) × (eqb o.object.directory number ≡ false)
        → (r : Directory) × (directory_numbered c o.object.directory ≡ Some r) × (directory_numbered (apply_seen (RemovesDirectory number) c) o.object.directory ≡ Some r)
    home o h =
        let r = some-of (directory_numbered c o.object.directory) h.0 in
        let own : r.0.number ≡ o.object.directory = eqb-true r.0.number o.object.directory (find-true (λ (d : Directory). eqb d.number o.object.directory) c.directories r.0 r.1) in
        (r.0, r.1, find-without (λ (d : Directory). eqb d.number o.object.directory) (λ d. eqb d.number number) c.directories r.0 r.1 (ap (λ n. eqb n number) own ∙ h.1))

-- ---- each move

can-kept : (x : Move) (c : Content) → Tree c → Fits c x → Saves c x → Can c → Can (apply_seen x c)
can-kept (Creates o) c t f p s = can-created c o s p
can-kept (AppendsRecord e) c t f p s = can-happens c e s p
can-kept (MakesDirectory path) c t f p s = can-made c path t s p
can-kept (RemovesDirectory number) c t f p s = can-removed c number t f s
can-kept (Attaches conn) c t f p s = s
can-kept (Leaves conn) c t f p s = s
can-kept (Opens h) c t f p s = s
can-kept (Closes number) c t f p s = s
can-kept (CatchesUp number) c t f p s = s
can-kept (Advances number count) c t f p s = s
can-kept (Parks number size) c t f p s = s
can-kept (Arms number pulse) c t f p s = s
can-kept (Queues conn item) c t f p s = s
can-kept (Takes conn) c t f p s = s

-- a list of moves that are fit, each in turn, leaves what can be saved so
pub saved-after : (xs : List Move) (c : Content) → Basis c → AreFit c xs → AreSaving c xs → CanBeSaved c → CanBeSaved (apply_all_seen xs c)
saved-after [] c b f p s = s
saved-after (x ∷ xs) c b f p s = saved-after xs (apply_seen x c) (basis-kept x c b f.0) f.1 p.1 (can-out (apply_seen x c) (can-kept x c b.tree f.0 p.0 (can-in c s)))
