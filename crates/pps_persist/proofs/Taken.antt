-- Where a line leads.
use Rattle.std.proofs.Common.{◌≡◌, ℕ, zero, suc, ◌^◌, ◌≤◌, ◌<◌, Bool, true, false, not, ◌&&◌, cond, eqb, List, [], ◌∷◌, ◌++◌, length, Option, Some, None, Ok, Err, refl, sym, ap, subst, ◌∙◌, ⊎_elim, arith}
use Rattle.std.specs.Prelude.{nat_le, codes, option_and_then, option_map}
use Rattle.std.specs.Ordering.{is_lt}
use Rattle.std.proofs.lemmas.Bool.Decides.{nat_tests}
use Rattle.pps_types.specs.Bytes.{is_empty, same, after_prefix, number_up_to}
use Rattle.pps_types.specs.Names.{Path, path_cmp}
use Rattle.pps_types.specs.Machine.{start}
use Rattle.pps_types.specs.Content.{Content}
use Rattle.pps_types.specs.Stands.{Stands}
use Rattle.pps_types.specs.Image as image
use Rattle.pps_types.specs.Image.{Image, Saved, SavedDirectory, SavedObject, Position, First, Between, Within, Behind, may_follow, with_entry, in_object, loaded_with, first_line, entry_line, attribute_line, line_read, IsImage}
use Rattle.image_text.specs.declared.reading.EntryLine.{EntryLine}
use Rattle.image_text.specs.declared.reading.EntryLine.TheVariants.{Directory, Object as ObjectLine, End}
use Rattle.image_text.specs.Lines.{position_after}
use Rattle.image_laws.specs.Images.{read_all, IsPrintable}
use Rattle.image_laws.proofs.Good.{good}
use Rattle.image_laws.proofs.Lines.{read_all-append}
use Rattle.image_laws.proofs.Options.{map-some, or-some, if-some}
use Rattle.image_laws.proofs.Printed.{few-entries}
use Rattle.image_laws.proofs.Proved.{starts-stand}
use Rattle.pps_engine.specs.Serving.{Serving}
use Rattle.pps_persist.specs.declared.errors.Fault.{Fault}
use Rattle.pps_persist.specs.declared.errors.Fault.TheVariants as faults
use Rattle.pps_persist.specs.declared.place.Loaded.{Loaded}
use Rattle.pps_persist.specs.declared.place.Object.{Object}
use Rattle.pps_persist.specs.declared.place.Place.TheVariants as places
use Rattle.pps_persist.specs.Held.{image_of, IsBetween, IsWithin, IsBehind, IsPlace, IsLoaded, IsLoadedObject, AddsDirectory, AddsObject, AddsLine, Takes}

-- ---- one line more

pub next : (lines : List (List ℕ)) (l : List ℕ) (p : Position) → read_all First lines ≡ Some p → read_all First (lines ++ l ∷ []) ≡ line_read p l
next lines l p reads = read_all-append First p lines (l ∷ []) reads ∙ by (line_read p l)
  where
    by : (o : Option Position) → option_and_then (λ q. Some q) o ≡ o
    by None = refl
    by (Some q) = refl

-- ---- the first line

most-of : (l : List ℕ) (longest d : ℕ) → first_line l ≡ Some (loaded_with longest d) → longest ≤ 65536
most-of l longest d h =
    ⊎_elim
    (λ e.
    let two = if-some (same l (codes "PPSIMAGE 1")) (loaded_with 32768 256) (loaded_with longest d) e in
    let is = ap longest_of two.1 in
    omega (arith, is))
    (λ e.
    let two = map-some (loaded_with 65536) (option_and_then (number_up_to 5 65535) (after_prefix (codes "PPSIMAGE 2 ") l)) (loaded_with longest d) e in
    let is = ap longest_of two.2 in
    omega (arith, is))
    (or-some (cond (same l (codes "PPSIMAGE 1")) (Some (loaded_with 32768 256)) None) (option_map (loaded_with 65536) (option_and_then (number_up_to 5 65535) (after_prefix (codes "PPSIMAGE 2 ") l))) (loaded_with longest d) h)
  where
    longest_of : Position → ℕ
    longest_of (Between r) = r.longest
    longest_of p = 0

root-first : (p : Path) → is_empty p ≡ false → true ≡ is_lt (path_cmp [] p)
root-first [] h = absurd cc
root-first (n ∷ ns) h = refl

pub begins : (l : List ℕ) (d : ℕ) (new : Loaded) → first_line l ≡ Some (loaded_with new.longest d) → 1 ≤ d → d ≤ 65535 → Stands new.engine.content (start 1 d) → new.count ≡ 0 → new.last.items ≡ []
    → (lines : List (List ℕ)) → lines ≡ [] → IsBetween (lines ++ l ∷ []) new
begins l d new says least most stands count last lines none = record {
  r = record { default_limit = d; longest = new.longest; entries = [] };
  reads = ap (λ (ls : List (List ℕ)). read_all First (ls ++ l ∷ [])) none ∙ next [] l First refl ∙ says;
  holds = record {
    follow = tt;
    printable = record { least = least; most = most; entries = tt };
    content = stands.same;
    unused = ap (λ (c : Content). c.handles) stands.same;
    longest = refl;
    most = most-of l new.longest d says;
    count = count;
    last = λ p some. root-first p some ∙ ap (λ (x : Path). is_lt (path_cmp x p)) (sym last);
  };
}

pub begins-not : (l : List ℕ) → first_line l ≡ None → (lines : List (List ℕ)) → lines ≡ [] → read_all First (lines ++ l ∷ []) ≡ None
begins-not l says lines none = ap (λ (ls : List (List ℕ)). read_all First (ls ++ l ∷ [])) none ∙ next [] l First refl ∙ says

-- ---- what is asked

few : (r : image.Loaded) → IsImage (image_of r) → IsPrintable (image_of r) → length r.entries ≤ 131070
few r follow text = few-entries 65536 [] r.entries (good (image_of r) follow text).entries (omega arith) (omega arith)

pub loaded-is : (l : Loaded) → IsPlace (places.Between l) → IsLoaded l
loaded-is l place =
    let h = place.at.holds in
    record { unused = h.unused; few = omega (arith, h.count, few place.at.r h.follow h.printable); most = h.most }

pub object-is : (l : Loaded) (o : Object) → IsPlace (places.Within l o) → IsLoadedObject l o
object-is l o place =
    let h = place.at.0.holds in
    record { unused = h.holds.unused; most = h.holds.most; short = h.short; some = place.at.1 }

-- ---- an object, whole or not

pub object-whole : (lines : List (List ℕ)) (l : Loaded) (o : Object) → o.to_come ≡ 0 → IsWithin lines l o → IsBetween lines l
object-whole lines l o none w = record {
  r = with_entry w.r (SavedObject w.path w.before);
  reads = w.reads ∙ ap (λ (k : ℕ). Some (in_object w.r w.path w.before k)) none;
  holds = w.holds.holds;
}

-- ---- between entries

-- what an entry's line says
abbrev pub Says : List ℕ → Option EntryLine → Type 0
Says l read = (r : image.Loaded) → length r.entries < 2 ^ 32 → entry_line r l ≡ option_and_then (position_after r) read

module _ (l : List ℕ) (read : Option EntryLine) (says : Says l read) (lines : List (List ℕ)) (old : Loaded) (b : IsBetween lines old) where
  leads : read_all First (lines ++ l ∷ []) ≡ option_and_then (position_after b.r) read
  leads = next lines l (Between b.r) b.reads ∙ says b.r (omega (arith, few b.r b.holds.follow b.holds.printable))

  pub leads-nowhere : read ≡ None → read_all First (lines ++ l ∷ []) ≡ None
  leads-nowhere none = leads ∙ ap (option_and_then (position_after b.r)) none

  pub leads-behind-directory : (path : Path) (new : Loaded) → read ≡ Some (Directory path) → AddsDirectory old path (Ok new) → IsBetween (lines ++ l ∷ []) new
  leads-behind-directory path new is adds =
      let both = adds b.r b.holds in
      record {
        r = with_entry b.r (SavedDirectory path);
        reads = leads ∙ ap (option_and_then (position_after b.r)) is ∙ ap (λ (t : Bool). cond t (Some (Between (with_entry b.r (SavedDirectory path)))) None) both.0;
        holds = both.1;
      }

  pub leads-into-object : (path : Path) (count : ℕ) (new : Loaded) (o : Object) → o ≡ record { to_come = count; text = 0 } → read ≡ Some (ObjectLine path count) → AddsObject old path count (Ok new) → IsWithin (lines ++ l ∷ []) new o
  leads-into-object path count new o same is adds =
      let both = adds b.r b.holds in
      subst (IsWithin (lines ++ l ∷ []) new) (sym same)
      (record {
        r = b.r;
        path = path;
        before = [];
        reads = leads ∙ ap (option_and_then (position_after b.r)) is ∙ ap (λ (t : Bool). cond t (Some (in_object b.r path [] count)) None) both.0;
        holds = both.1;
      })

  pub leads-to-end : (count : ℕ) → read ≡ Some (End count) → count ≡ old.count → IsBehind (lines ++ l ∷ []) old.engine
  leads-to-end count is whole =
      let i = image_of b.r in
      record {
        image = i;
        reads = leads ∙ ap (option_and_then (position_after b.r)) is ∙ ap (λ (t : Bool). cond t (Some (Behind i)) None) (equal count (length b.r.entries) (whole ∙ b.holds.count));
        stands = starts-stand i b.holds.follow old.engine.content b.holds.content;
      }
    where
      equal : (x y : ℕ) → x ≡ y → eqb x y ≡ true
      equal x y e = grind (arith, nat_tests)

  pub leads-to-no-end : (count : ℕ) → read ≡ Some (End count) → (count ≡ old.count → ⊥) → read_all First (lines ++ l ∷ []) ≡ None
  leads-to-no-end count is other =
      leads ∙ ap (option_and_then (position_after b.r)) is ∙ ap (λ (t : Bool). cond t (Some (Behind (image_of b.r))) None) (differ count (length b.r.entries) (λ e. other (e ∙ sym b.holds.count)))
    where
      differ : (x y : ℕ) → (x ≡ y → ⊥) → eqb x y ≡ false
      differ x y e = grind (arith, nat_tests)

  leads-to-no-directory : (path : Path) → read ≡ Some (Directory path) → may_follow b.r.entries (SavedDirectory path) ≡ false → read_all First (lines ++ l ∷ []) ≡ None
  leads-to-no-directory path is not = leads ∙ ap (option_and_then (position_after b.r)) is ∙ ap (λ (t : Bool). cond t (Some (Between (with_entry b.r (SavedDirectory path)))) None) not

  leads-to-no-object : (path : Path) (count : ℕ) → read ≡ Some (ObjectLine path count) → (may_follow b.r.entries (SavedObject path []) && nat_le count 1024) ≡ false → read_all First (lines ++ l ∷ []) ≡ None
  leads-to-no-object path count is not = leads ∙ ap (option_and_then (position_after b.r)) is ∙ ap (λ (t : Bool). cond t (Some (in_object b.r path [] count)) None) not

pub directory-fault : (l : List ℕ) (read : Option EntryLine) (says : Says l read) (old : Loaded) (path : Path) (fault : Fault) → read ≡ Some (Directory path) → AddsDirectory old path (Err fault) → Takes (places.Between old) l (Err fault)
directory-fault l read says old path faults.OutOfMemory is adds = tt
directory-fault l read says old path faults.Refused is adds = λ lines b. leads-to-no-directory l read says lines old b path is (adds b.r b.holds)

pub object-fault : (l : List ℕ) (read : Option EntryLine) (says : Says l read) (old : Loaded) (path : Path) (count : ℕ) (fault : Fault) → read ≡ Some (ObjectLine path count) → AddsObject old path count (Err fault)
    → Takes (places.Between old) l (Err fault)
object-fault l read says old path count faults.OutOfMemory is adds = tt
object-fault l read says old path count faults.Refused is adds = λ lines b. leads-to-no-object l read says lines old b path count is (adds b.r b.holds)

-- ---- within an object

module _ (l : List ℕ) (old : Loaded) (o : Object) where
  goes-on : (lines : List (List ℕ)) (w : IsWithin lines old o) → 0 < o.to_come → read_all First (lines ++ l ∷ []) ≡ attribute_line w.r w.path w.before o.to_come l
  goes-on lines w some = by o.to_come w.reads some
    where
      by : (k : ℕ) → read_all First lines ≡ Some (in_object w.r w.path w.before k) → 0 < k → read_all First (lines ++ l ∷ []) ≡ attribute_line w.r w.path w.before k l
      by zero reads some = absurd (omega arith)
      by (suc k) reads some = next lines l (Within w.r w.path w.before (suc k)) reads

  pub adds-within : (new : Loaded) (after : Object) → AddsLine old o l (Ok (new, after)) → (lines : List (List ℕ)) → IsWithin lines old o → 0 < o.to_come → IsWithin (lines ++ l ∷ []) new after
  adds-within new after adds lines w some =
      let both = adds w.r w.path w.before w.holds in
      record {
        r = w.r;
        path = w.path;
        before = w.before ++ both.0 ∷ [];
        reads = goes-on lines w some ∙ both.1;
        holds = both.2;
      }

  pub line-fault : (fault : Fault) → AddsLine old o l (Err fault) → Takes (places.Within old o) l (Err fault)
  line-fault faults.OutOfMemory adds = tt
  line-fault faults.Refused adds = λ lines w. goes-on lines w.0 w.1 ∙ adds w.0.r w.0.path w.0.before w.0.holds

-- ---- behind the end

pub nothing-behind : (l : List ℕ) (engine : Serving) (lines : List (List ℕ)) → IsBehind lines engine → read_all First (lines ++ l ∷ []) ≡ None
nothing-behind l engine lines b = next lines l (Behind b.image) b.reads
