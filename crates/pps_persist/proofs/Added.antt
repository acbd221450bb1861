-- What a line more of an object makes of what is held.
use Rattle.std.proofs.Common.{◌≡◌, ℕ, ◌+◌, ◌-◌, ◌≤◌, ◌<◌, Bool, true, false, ◌&&◌, cond, List, [], ◌∷◌, ◌++◌, length, map, Option, Some, None, Result, Ok, Err, refl, sym, ap, subst, ◌∙◌, append_assoc, length-append, arith}
use Rattle.std.specs.Prelude.{nat_le, option_and_then}
use Rattle.std.specs.List.{list_all}
use Rattle.std.specs.Ordering.{is_lt}
use Rattle.std.specs.Result.{is_ok}
use Rattle.std.proofs.lemmas.Bool.{and_parts, and_from, leb-true}
use Rattle.std.proofs.lemmas.Bool.Decides.{nat_tests}
use Rattle.std.proofs.lemmas.List.Folds.{list_all-append}
use Rattle.pps_types.specs.declared.line.Mark.TheVariants.{Keep}
use Rattle.pps_types.specs.declared.refusal.Refusal.{Refusal}
use Rattle.pps_types.specs.Bytes.{◌>>=◌}
use Rattle.pps_types.specs.Text.{print_lines, set_line}
use Rattle.pps_types.specs.Names.{Path, path_cmp}
use Rattle.pps_types.specs.Content.{Content}
use Rattle.pps_types.specs.Machine.{content_of}
use Rattle.pps_types.specs.Image as image
use Rattle.pps_types.specs.Image.{SavedObject, SavedLine, path_of, as_line, set_of, text_line, with_entry, in_object, attribute_line, started}
use Rattle.pps_types.specs.Restore.{restore_object, restore_line, restore_lines, restore_entry}
use Rattle.pps_types.proofs.Lists.{append-nil}
use Rattle.image_laws.specs.Images.{is_plain, is_saved_line, is_new, AreLines, HasText}
use Rattle.image_laws.proofs.Entries.{line_body}
use Rattle.image_laws.proofs.Only.{print-push}
use Rattle.image_laws.proofs.Options.{and-then-some}
use Rattle.image_laws.proofs.Proved.{calls-decide}
use Rattle.image_laws.proofs.Said.{IsLineOf, set_line-only}
use Rattle.pps_persist.specs.declared.place.Loaded.{Loaded}
use Rattle.pps_persist.specs.declared.place.Object.{Object}
use Rattle.pps_persist.specs.Held.{image_of, Holds, HoldsObject}
use Rattle.pps_persist.proofs.Restored.{image-push, printable-push, entry-restored}

-- ---- what is read of a line

abbrev pub read_line : List ℕ → Option SavedLine
read_line l = option_and_then set_of (set_line Keep l)

pub line-of : (l : List ℕ) (a : SavedLine) → list_all is_plain l ≡ true → read_line l ≡ Some a → IsLineOf l a
line-of l a plain read =
    let two = and-then-some set_of (set_line Keep l) a read in
    set_line-only l two.0 a plain two.1 two.2

-- how long an object's text becomes
pub text-push : (before : List SavedLine) (l : List ℕ) (a : SavedLine) → l ≡ line_body a
    → length (print_lines (map as_line (before ++ a ∷ []))) ≡ length (print_lines (map as_line before)) + length l + 1
text-push before l a is =
    let push = ap length (print-push before a) in
    let whole = length-append (print_lines (map as_line before)) (text_line (line_body a)) in
    let line = length-append (line_body a) (10 ∷ []) in
    let same = ap length is in
    omega arith

pub attribute-none : (r : image.Loaded) (path : Path) (before : List SavedLine) (k : ℕ) (l : List ℕ)
    → ((a : SavedLine) → read_line l ≡ Some a → (is_new before a && nat_le (length (print_lines (map as_line (before ++ a ∷ [])))) r.longest) ≡ false)
    → attribute_line r path before k l ≡ None
attribute-none r path before k l h = by (read_line l) refl
  where
    by : (o : Option SavedLine) → read_line l ≡ o
        → option_and_then (λ a. cond (is_new before a && nat_le (length (print_lines (map as_line (before ++ a ∷ [])))) r.longest) (Some (in_object r path (before ++ a ∷ []) (k - 1))) None) o ≡ None
    by None e = refl
    by (Some a) e = ap (λ (b : Bool). cond b (Some (in_object r path (before ++ a ∷ []) (k - 1))) None) (h a e)

lines-push : (longest : ℕ) (before ls : List SavedLine) (l : SavedLine) → AreLines longest before ls → is_saved_line l ≡ true → is_new (before ++ ls) l ≡ true
    → length (print_lines (map as_line ((before ++ ls) ++ l ∷ []))) ≤ longest → AreLines longest before (ls ++ l ∷ [])
lines-push longest before [] l h is new fits = (
  is,
  subst (λ (ls : List SavedLine). is_new ls l ≡ true) (append-nil before) new,
  subst (λ (ls : List SavedLine). length (print_lines (map as_line (ls ++ l ∷ []))) ≤ longest) (append-nil before) fits,
  tt,
)
lines-push longest before (x ∷ ls) l h is new fits = (
  h.0,
  h.1,
  h.2,
  lines-push longest (before ++ x ∷ []) ls l h.3 is
      (subst (λ (ls : List SavedLine). is_new ls l ≡ true) (sym (append_assoc before (x ∷ []) ls)) new)
      (subst (λ (ls : List SavedLine). length (print_lines (map as_line (ls ++ l ∷ []))) ≤ longest) (sym (append_assoc before (x ∷ []) ls)) fits),
)

lines-then : (c d : Content) (path : Path) (ls : List SavedLine) (a : SavedLine) → restore_lines c path ls ≡ Ok d
    → restore_lines c path (ls ++ a ∷ []) ≡ (restore_line d path (as_line a) >>= (λ c. Ok c))
lines-then c d path [] a h = let is : c ≡ d = cc in ap (λ (x : Content). restore_line x path (as_line a) >>= (λ c. Ok c)) is
lines-then c d path (x ∷ ls) a h = by (restore_line c path (as_line x)) (λ c. lines-then c d path ls a) h
  where
    by : (o : Result Content Refusal) → ((c : Content) → restore_lines c path ls ≡ Ok d → restore_lines c path (ls ++ a ∷ []) ≡ (restore_line d path (as_line a) >>= (λ c. Ok c)))
        → (o >>= (λ c. restore_lines c path ls)) ≡ Ok d → (o >>= (λ c. restore_lines c path (ls ++ a ∷ []))) ≡ (restore_line d path (as_line a) >>= (λ c. Ok c))
    by (Ok c) rec h = rec c h
    by (Err r) rec h = absurd cc

-- the calls of an object with a line more are those of the object, and that of the line
entry-then : (c d : Content) (path : Path) (ls : List SavedLine) (a : SavedLine) → restore_entry c (SavedObject path ls) ≡ Ok d
    → restore_entry c (SavedObject path (ls ++ a ∷ [])) ≡ (restore_line d path (as_line a) >>= (λ c. Ok c))
entry-then c d path ls a h = by (restore_object c path) h
  where
    by : (o : Result Content Refusal) → (o >>= (λ c. restore_lines c path ls)) ≡ Ok d → (o >>= (λ c. restore_lines c path (ls ++ a ∷ []))) ≡ (restore_line d path (as_line a) >>= (λ c. Ok c))
    by (Ok c) h = lines-then c d path ls a h
    by (Err r) h = absurd cc

-- ---- a line

module _ (r : image.Loaded) (path : Path) (before : List SavedLine) (old : Loaded) (o : Object) (h : HoldsObject r path before old o) (l : List ℕ) (plain : list_all is_plain l ≡ true) where
  -- a text that would become too long
  pub too-long : old.longest < o.text + length l + 1 → attribute_line r path before o.to_come l ≡ None
  too-long long = attribute-none r path before o.to_come l
      (λ a read.
      let longer = text-push before l a (line-of l a plain read).text in
      no (is_new before a) (length (print_lines (map as_line (before ++ a ∷ [])))) r.longest (omega (arith, h.text, h.holds.longest)))
    where
      no : (new : Bool) (size most : ℕ) → most < size → (new && nat_le size most) ≡ false
      no new size most gt = grind (arith, nat_tests)

  -- no line of an attribute
  pub no-line : read_line l ≡ None → attribute_line r path before o.to_come l ≡ None
  no-line none = attribute-none r path before o.to_come l (λ a read. absurd (let both : Some a ≡ None = sym read ∙ none in cc))

  module _ (a : SavedLine) (read : read_line l ≡ Some a) (some : 0 < o.to_come) where
    decides : (is_new before a && nat_le (length (print_lines (map as_line (before ++ a ∷ [])))) 65536) ≡ is_ok (restore_line old.engine.content old.last.items (as_line a))
    decides =
        let few : length before < 1024 = omega (arith, h.few) in
        calls-decide.line (image_of r) h.follow h.printable path before a h.follows h.has (line-of l a plain read).line few
        ∙ (λ i. is_ok (restore_line (sym h.holds.content i) (sym h.last i) (as_line a)))

    -- the engine refuses it
    pub no-more : is_ok (restore_line old.engine.content old.last.items (as_line a)) ≡ false → attribute_line r path before o.to_come l ≡ None
    no-more refused = attribute-none r path before o.to_come l
        (λ b again.
        let same : a ≡ b = (let both : Some a ≡ Some b = sym read ∙ again in cc) in
        subst (λ (b : SavedLine). (is_new before b && nat_le (length (print_lines (map as_line (before ++ b ∷ [])))) r.longest) ≡ false) same
        (no (is_new before a) (length (print_lines (map as_line (before ++ a ∷ [])))) r.longest (omega (arith, h.holds.longest, h.holds.most)) (decides ∙ refused)))
      where
        no : (new : Bool) (size most : ℕ) → most ≤ 65536 → (new && nat_le size 65536) ≡ false → (new && nat_le size most) ≡ false
        no new size most le not = grind (arith, nat_tests)

    module _ (new : Loaded) (text : ℕ) (longer : text ≡ o.text + length l + 1) (fits : text ≤ old.longest) (restored : restore_line old.engine.content old.last.items (as_line a) ≡ Ok new.engine.content)
        (unused : new.engine.content.handles ≡ []) (longest : new.longest ≡ old.longest) (count : new.count ≡ old.count) (last : new.last.items ≡ old.last.items) where
      taken : (is_new before a ≡ true) × (length (print_lines (map as_line (before ++ a ∷ []))) ≤ 65536)
      taken =
          let parts = and_parts (is_new before a) (nat_le (length (print_lines (map as_line (before ++ a ∷ [])))) 65536) (decides ∙ ap is_ok restored) in
          (parts.0, leb-true _ _ parts.1)

      size : length (print_lines (map as_line (before ++ a ∷ []))) ≡ text
      size = let push = text-push before l a (line-of l a plain read).text in omega (arith, h.text, longer, push)

      has : HasText 65536 (SavedObject path (before ++ a ∷ []))
      has = (
        h.has.0,
        omega (arith, h.few, length-append before (a ∷ [])),
        lines-push 65536 [] before a h.has.2 (line-of l a plain read).line taken.0 taken.1,
      )

      -- what the calls of the longer object leave
      content : new.engine.content ≡ content_of (started (image_of (with_entry r (SavedObject path (before ++ a ∷ [])))))
      content =
          let start = content_of (started (image_of r)) in
          let first = entry-restored (image_of r) (SavedObject path before) h.follow h.printable h.follows h.has in
          let then = entry-then start (content_of (started (image_of (with_entry r (SavedObject path before))))) path before a first in
          let whole = entry-restored (image_of r) (SavedObject path (before ++ a ∷ [])) h.follow h.printable h.follows has in
          let step : restore_line (content_of (started (image_of (with_entry r (SavedObject path before))))) path (as_line a) ≡ Ok new.engine.content =
          (λ i. restore_line (sym h.holds.content i) (sym h.last i) (as_line a)) ∙ restored in
          let both : Ok new.engine.content ≡ Ok (content_of (started (image_of (with_entry r (SavedObject path (before ++ a ∷ [])))))) =
          sym (then ∙ ap (λ (o : Result Content Refusal). o >>= (λ c. Ok c)) step) ∙ whole in
          cc

      holds : Holds (with_entry r (SavedObject path (before ++ a ∷ []))) new
      holds = record {
        follow = image-push (image_of r) (SavedObject path (before ++ a ∷ [])) h.follow h.follows;
        printable = printable-push (image_of r) (SavedObject path (before ++ a ∷ [])) h.printable has;
        content = content;
        unused = unused;
        longest = h.holds.longest ∙ sym longest;
        most = omega (arith, longest, h.holds.most);
        count = omega (arith, count, h.holds.count, length-append r.entries (SavedObject path before ∷ []), length-append r.entries (SavedObject path (before ++ a ∷ []) ∷ []));
        last = λ p some.
            list_all-append (λ x. is_lt (path_cmp (path_of x) p)) r.entries (SavedObject path (before ++ a ∷ []) ∷ [])
            ∙ sym (list_all-append (λ x. is_lt (path_cmp (path_of x) p)) r.entries (SavedObject path before ∷ []))
            ∙ h.holds.last p some ∙ ap (λ (x : Path). is_lt (path_cmp x p)) (sym last);
      }

      pub adds-line : (attribute_line r path before o.to_come l ≡ Some (in_object r path (before ++ a ∷ []) (o.to_come - 1))) × HoldsObject r path (before ++ a ∷ []) new (record { to_come = o.to_come - 1; text = text })
      adds-line =
          let inside : nat_le (length (print_lines (map as_line (before ++ a ∷ [])))) r.longest ≡ true = within _ _ (omega (arith, size, fits, h.holds.longest)) in
          let passes = and_from _ _ taken.0 inside in (
            ap (option_and_then (λ b. cond (is_new before b && nat_le (length (print_lines (map as_line (before ++ b ∷ [])))) r.longest) (Some (in_object r path (before ++ b ∷ []) (o.to_come - 1))) None)) read
                ∙ ap (λ (b : Bool). cond b (Some (in_object r path (before ++ a ∷ []) (o.to_come - 1))) None) passes,
            record {
              follow = h.follow;
              printable = h.printable;
              follows = h.follows;
              has = has;
              few = omega (arith, h.few, length-append before (a ∷ []));
              text = sym size;
              short = omega (arith, fits, h.holds.most);
              last = last ∙ h.last;
              holds = holds;
            },
          )
        where
          within : (a b : ℕ) → a ≤ b → nat_le a b ≡ true
          within a b le = grind (arith, nat_tests)
