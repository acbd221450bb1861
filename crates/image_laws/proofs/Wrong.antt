-- The line at which a text is refused is the first that is wrong.
use Rattle.std.proofs.Common.{◌≡◌, ◌⊎◌, inl, inr, ℕ, zero, suc, ◌+◌, ◌≤◌, Bool, true, false, List, [], ◌∷◌, ◌++◌, length, map, Option, Some, None, Ok, Err, refl, sym, ap, subst, ◌∙◌, append_assoc, length-append, append-nil, ⊎_elim, arith}
use Rattle.std.specs.Prelude.{option_and_then}
use Rattle.std.specs.Option.{option_map_or}
use Rattle.std.specs.List.{list_all, flat_map}
use Rattle.std.proofs.lemmas.Bool.{and_parts, and_from}
use Rattle.std.proofs.lemmas.List.{length-map}
use Rattle.std.proofs.lemmas.List.Folds.{list_all-append}
use Rattle.pps_types.specs.Bytes.{is_empty, pieces}
use Rattle.pps_types.specs.Text.{print_lines}
use Rattle.pps_types.specs.Names.{Path}
use Rattle.pps_types.specs.Image.{SavedLine, Saved, SavedObject, as_line, print_saved, text_line, Image, Loaded, Position, First, Between, Within, Behind, first_line, line_read, at_end, read_lines, read_image}
use Rattle.image_laws.specs.Images.{is_plain, are_plain, joined, read_all, Version, Older, Newer, beginning_of, limit_of, longest_of, object_head, ending, IsImageText, LackTheEnd, BeginAnImage, IsFirstWrong}
use Rattle.image_laws.proofs.Good.{AreEntries, following-of, texts-of}
use Rattle.image_laws.proofs.Lines.{unpieces, unpieces-pieces, pieces-some, pieces-plain, pieces-joined, joined-append, read_all-append}
use Rattle.image_laws.proofs.Options.{and-then-some}
use Rattle.image_laws.proofs.Entries.{line_body, lines_of, joined-bodies, head-plain, bodies-plain}
use Rattle.image_laws.proofs.Printed.{joined-entries, entries-plain, are-plain-append, beginning-plain}
use Rattle.image_laws.proofs.Only.{IsOlder, IsNewer, Stands, IsBetween, IsWithin, IsRead, entries-push, flat-push, first-line, after-lines, read_image-only}
use Rattle.image_laws.proofs.Streams.{read-on, line-refused, line-ended}
use Rattle.image_laws.proofs.Lowered.{begun-read}

-- ---- versions

record HasVersion (head : List ℕ) (longest d : ℕ) : Type 0 where
  version : Version
  head_is : head ≡ beginning_of version
  longest_is : longest ≡ longest_of version
  limit_is : d ≡ limit_of version
  least : 1 ≤ limit_of version
  most : limit_of version ≤ 65535

version-of : (head : List ℕ) (longest d : ℕ) → IsOlder head longest d ⊎ IsNewer head longest d → HasVersion head longest d
version-of head longest d h = ⊎_elim
    (λ v. record { version = Older; head_is = v.0; longest_is = v.1; limit_is = v.2; least = omega arith; most = omega arith })
    (λ v. record { version = Newer d; head_is = v.0; longest_is = v.1; limit_is = refl; least = v.2; most = v.3 }) h

module _ (v : Version) (least : 1 ≤ limit_of v) (most : limit_of v ≤ 65535) where
  image-of : (es : List Saved) → AreEntries (longest_of v) [] es → (bytes : List ℕ) → bytes ≡ text_line (beginning_of v) ++ flat_map print_saved es ++ text_line (ending (length es)) → IsImageText bytes
  image-of es all bytes is = record {
    version = v;
    entries = es;
    least = least;
    most = most;
    follow = following-of (longest_of v) [] es all;
    texts = texts-of (longest_of v) [] es all;
    is = is;
  }

-- what is read is an image
pub read-image : (bytes : List ℕ) (i : Image) → read_image bytes ≡ Ok i → IsImageText bytes
read-image bytes i e = of (read_image-only bytes i e)
  where
    of : IsRead bytes i → IsImageText bytes
    of h =
        let v = version-of h.head h.longest i.default_limit h.version in
        image-of v.version v.least v.most i.entries (subst (λ n. AreEntries n [] i.entries) v.longest_is h.entries) bytes
        (h.text ∙ ap (λ l. text_line l ++ flat_map print_saved i.entries ++ text_line (ending (length i.entries))) v.head_is)

-- ---- lines that a reader took

end-same : (xs ys : List (List ℕ)) → xs ++ [] ∷ [] ≡ ys ++ [] ∷ [] → xs ≡ ys
end-same [] [] e = refl
end-same [] (y ∷ ys) e = absurd (let h = ap length e in let f = length-append ys ([] ∷ []) in omega arith)
end-same (x ∷ xs) [] e = absurd (let h = ap length e in let f = length-append xs ([] ∷ []) in omega arith)
end-same (x ∷ xs) (y ∷ ys) e =
    let first : x ≡ y = cc in
    let rest = end-same xs ys (let h : xs ++ [] ∷ [] ≡ ys ++ [] ∷ [] = cc in h) in
    λ i. first i ∷ rest i

joined-same : (xs ys : List (List ℕ)) → are_plain xs ≡ true → are_plain ys ≡ true → joined xs ≡ joined ys → xs ≡ ys
joined-same xs ys a b e = end-same xs ys (sym (pieces-joined xs a) ∙ ap (pieces 10) e ∙ pieces-joined ys b)

module _ (v : Version) (least : 1 ≤ limit_of v) (most : limit_of v ≤ 65535) (lines : List (List ℕ)) (plain : are_plain lines ≡ true) where
  -- the first line and entries
  front : List Saved → List (List ℕ)
  front es = beginning_of v ∷ flat_map lines_of es

  between : (r : Loaded) → IsBetween (beginning_of v) (longest_of v) (limit_of v) (joined lines) r → LackTheEnd lines
  between r w = record {
    lowered = lines;
    are = inl refl;
    count = length r.entries;
    image = image-of v least most r.entries w.entries (joined lines ++ text_line (ending (length r.entries))) (ap (λ b. b ++ text_line (ending (length r.entries))) w.text);
  }

  joined-object : (es : List Saved) (path : Path) (count : ℕ) (ls : List SavedLine)
      → joined ((beginning_of v ∷ flat_map lines_of es) ++ object_head path count ∷ map line_body ls) ≡ text_line (beginning_of v) ++ flat_map print_saved es ++ text_line (object_head path count) ++ print_lines (map as_line ls)
  joined-object es path count ls =
      joined-append (beginning_of v ∷ flat_map lines_of es) (object_head path count ∷ map line_body ls)
      ∙ (λ i. (text_line (beginning_of v) ++ joined-entries es i) ++ (text_line (object_head path count) ++ joined-bodies ls i))
      ∙ sym (append_assoc (text_line (beginning_of v) ++ flat_map print_saved es) (text_line (object_head path count)) (print_lines (map as_line ls)))

  within : (r : Loaded) (path : Path) (ls : List SavedLine) (k : ℕ) → IsWithin (beginning_of v) (longest_of v) (limit_of v) (joined lines) r path ls k → LackTheEnd lines
  within r path ls k w =
      let few = w.few in
      let count = length ls + k in
      let came = map line_body ls in
      let many : length came ≡ length ls = length-map ls line_body in
      let e = SavedObject path ls in
      let es = r.entries ++ e ∷ [] in
      let front = beginning_of v ∷ flat_map lines_of r.entries in
      let fine : are_plain (front ++ object_head path count ∷ came) ≡ true =
      are-plain-append front (object_head path count ∷ came) (and_from _ _ (beginning-plain v most) (entries-plain (longest_of v) [] r.entries w.entries))
      (and_from _ _ (head-plain path count w.path_is (omega arith)) (bodies-plain (longest_of v) [] ls w.lines_are)) in
      let whole = front ++ object_head path (length came) ∷ came in
      record {
        lowered = whole;
        are = inr (record {
          before = front;
          path = path;
          count = count;
          came = came;
          fewer = omega arith;
          most = few;
          lines_are = joined-same lines (front ++ object_head path count ∷ came) plain fine (w.text ∙ sym (joined-object r.entries path count ls));
          lowered_are = refl;
        });
        count = length es;
        image = image-of v least most es (entries-push (longest_of v) [] r.entries e w.entries (w.path_is, w.follows, (let all : length ls ≤ 1024 = omega arith in all), w.lines_are)) (joined whole ++ text_line (ending (length es)))
            (ap (λ b. b ++ text_line (ending (length es)))
            (joined-object r.entries path (length came) ls
            ∙ ap (λ n. text_line (beginning_of v) ++ flat_map print_saved r.entries ++ text_line (object_head path n) ++ print_lines (map as_line ls)) many
            ∙ append_assoc (text_line (beginning_of v) ++ flat_map print_saved r.entries) (text_line (object_head path (length ls))) (print_lines (map as_line ls))
            ∙ append_assoc (text_line (beginning_of v)) (flat_map print_saved r.entries) (print_saved e)
            ∙ ap (λ rest. text_line (beginning_of v) ++ rest) (sym (flat-push r.entries e))));
      }

  fine-at : (p : Position) → Stands (beginning_of v) (longest_of v) (limit_of v) (joined lines) p → IsImageText (joined lines) ⊎ LackTheEnd lines
  fine-at First w = absurd w
  fine-at (Between r) w = inr (between r w)
  fine-at (Within r path ls zero) w = absurd w
  fine-at (Within r path ls (suc k)) w = inr (within r path ls (suc k) w)
  fine-at (Behind i) w = inl (image-of v least most i.entries w.entries (joined lines) w.text)

fine : (lines : List (List ℕ)) (p : Position) → are_plain lines ≡ true → read_all First lines ≡ Some p → (lines ≡ []) ⊎ (IsImageText (joined lines) ⊎ LackTheEnd lines)
fine [] p plain e = inl refl
fine (l ∷ ls) p plain e =
    let one = and-then-some (λ q. read_all q ls) (first_line l) p e in
    let first = first-line l one.0 one.1 in
    let v = version-of l first.0 first.1 first.2 in
    let stands = after-lines l first.0 first.1 (text_line l) one.0 p ls (and_parts (list_all is_plain l) (are_plain ls) plain).1 first.3 one.2 in
    let all = joined (l ∷ ls) in
    let text = subst (λ head. Stands head first.0 first.1 all p) v.head_is stands in
    let bounded = subst (λ longest. Stands (beginning_of v.version) longest first.1 all p) v.longest_is text in
    inr (fine-at v.version v.least v.most (l ∷ ls) plain p (subst (λ d. Stands (beginning_of v.version) (longest_of v.version) d all p) v.limit_is bounded))

-- ---- where a reader stops

record IsStopped (n m : ℕ) (p : Position) (ls : List (List ℕ)) : Type 0 where
  before : List (List ℕ)
  line : List ℕ
  after : List (List ℕ)
  at : Position
  is : ls ≡ before ++ line ∷ after
  reads : read_all p before ≡ Some at
  number : m ≡ n + length before
  stops : (after ≡ []) ⊎ ((next : List ℕ) × (rest : List (List ℕ)) × (after ≡ next ∷ rest) × (line_read at line ≡ None))

stopped : (n m : ℕ) (p : Position) (l : List ℕ) (ls : List (List ℕ)) → read_lines n p (l ∷ ls) ≡ Err m → IsStopped n m p (l ∷ ls)
stopped n m p l [] e = record { before = []; line = l; after = []; at = p; is = refl; reads = refl; number = (let h = ended p (is_empty l) e in omega arith); stops = inl refl }
  where
    ended : (p : Position) (b : Bool) → at_end n p b ≡ Err m → n ≡ m
    ended First true e = cc
    ended First false e = cc
    ended (Between r) true e = cc
    ended (Between r) false e = cc
    ended (Within r path lines k) true e = cc
    ended (Within r path lines k) false e = cc
    ended (Behind i) true e = absurd (let h = e in cc)
    ended (Behind i) false e = cc
stopped n m p l (k ∷ ks) e = by (λ q. stopped (n + 1) m q k ks) (line_read p l) refl e
  where
    by : ((q : Position) → read_lines (n + 1) q (k ∷ ks) ≡ Err m → IsStopped (n + 1) m q (k ∷ ks)) → (o : Option Position) → line_read p l ≡ o → option_map_or (λ q. read_lines (n + 1) q (k ∷ ks)) o (Err n) ≡ Err m → IsStopped n m p (l ∷ k ∷ ks)
    by rec None is h = record { before = []; line = l; after = k ∷ ks; at = p; is = refl; reads = refl; number = (let f : n ≡ m = cc in omega arith); stops = inr (k, ks, refl, is) }
    by rec (Some q) is h =
        let s = rec q h in
        record {
          before = l ∷ s.before;
          line = s.line;
          after = s.after;
          at = s.at;
          is = ap (λ rest. l ∷ rest) s.is;
          reads = ap (option_and_then (λ q. read_all q s.before)) is ∙ s.reads;
          number = (let f = s.number in omega arith);
          stops = s.stops;
        }

unpieces-front : (before : List (List ℕ)) (l : List ℕ) (ls : List (List ℕ)) → unpieces 10 (before ++ l ∷ ls) ≡ joined before ++ unpieces 10 (l ∷ ls)
unpieces-front [] l ls = refl
unpieces-front (b ∷ []) l ls = sym (simp append_assoc)
unpieces-front (b ∷ c ∷ cs) l ls =
    ap (λ rest. b ++ (10 ∷ rest)) (unpieces-front (c ∷ cs) l ls)
    ∙ sym (append_assoc b (10 ∷ []) (joined (c ∷ cs) ++ unpieces 10 (l ∷ ls)))
    ∙ sym (append_assoc (text_line b) (joined (c ∷ cs)) (unpieces 10 (l ∷ ls)))

pub first-wrong : (bytes : List ℕ) (n : ℕ) → read_image bytes ≡ Err n → IsFirstWrong bytes n
first-wrong bytes n e = of some.0 some.1 some.2
  where
    some : (p : List ℕ) × (ps : List (List ℕ)) × (pieces 10 bytes ≡ p ∷ ps)
    some = pieces-some 10 bytes

    of : (l : List ℕ) (ls : List (List ℕ)) → pieces 10 bytes ≡ l ∷ ls → IsFirstWrong bytes n
    of l ls cut =
        let s = stopped 1 n First l ls (sym (ap (read_lines 1 First) cut) ∙ e) in
        let all : pieces 10 bytes ≡ s.before ++ s.line ∷ s.after = cut ∙ s.is in
        let text : bytes ≡ unpieces 10 (s.before ++ s.line ∷ s.after) = sym (unpieces-pieces 10 bytes) ∙ ap (unpieces 10) all in
        let whole = and_parts (are_plain s.before) (are_plain (s.line ∷ s.after)) (sym (list_all-append (λ l. list_all is_plain l) s.before (s.line ∷ s.after)) ∙ sym (ap are_plain all) ∙ pieces-plain bytes) in
        let line = (and_parts (list_all is_plain s.line) (are_plain s.after) whole.1).0 in
        let plain : are_plain (s.before ++ s.line ∷ []) ≡ true = are-plain-append s.before (s.line ∷ []) whole.0 (and_from _ _ line refl) in
        record {
          before = s.before;
          line = s.line;
          plain = plain;
          number = s.number;
          fine = fine s.before s.at whole.0 s.reads;
          wrong = ⊎_elim
              (λ none. inl (text ∙ ap (λ rest. unpieces 10 (s.before ++ s.line ∷ rest)) none ∙ unpieces-front s.before s.line []))
              (λ more. inr (
                unpieces 10 (more.0 ∷ more.1),
                text ∙ ap (λ rest. unpieces 10 (s.before ++ s.line ∷ rest)) more.2 ∙ unpieces-front s.before s.line (more.0 ∷ more.1) ∙ at-line s.before s.line (unpieces 10 (more.0 ∷ more.1)),
                (λ begins. refused s.before s.line s.at s.reads more.3 (begun-read (s.before ++ s.line ∷ []) plain begins)),
              )) s.stops;
        }
      where
        at-line : (before : List (List ℕ)) (line rest : List ℕ) → joined before ++ (line ++ (10 ∷ rest)) ≡ joined (before ++ line ∷ []) ++ rest
        at-line before line rest = sym (rw (joined-append before (line ∷ [])) (simp append_assoc))

        refused : (before : List (List ℕ)) (line : List ℕ) (p : Position) → read_all First before ≡ Some p → line_read p line ≡ None → (q : Position) × (read_all First (before ++ line ∷ []) ≡ Some q) → ⊥
        refused before line p reads none found =
            let h = sym (read_all-append First p before (line ∷ []) reads) ∙ found.1 in
            let f : option_and_then (λ q. read_all q []) (line_read p line) ≡ Some found.0 = h in
            let g = ap (option_and_then (λ q. read_all q [])) none in
            absurd cc

-- ---- and no other line is

-- what may begin an image
begins-of : (lines : List (List ℕ)) → IsImageText (joined lines) ⊎ LackTheEnd lines → BeginAnImage lines
begins-of lines h = ⊎_elim
    (λ image. record { lowered = lines; are = inl refl; rest = []; image = subst IsImageText (sym (append-nil (joined lines))) image })
    (λ lack. record { lowered = lack.lowered; are = lack.are; rest = text_line (ending lack.count); image = lack.image }) h

fine-read : (lines : List (List ℕ)) → are_plain lines ≡ true → (lines ≡ []) ⊎ (IsImageText (joined lines) ⊎ LackTheEnd lines) → (p : Position) × (read_all First lines ≡ Some p)
fine-read lines plain h = ⊎_elim (λ none. (First, ap (read_all First) none)) (λ some. begun-read lines plain (begins-of lines some)) h

no-end : (xs : List (List ℕ)) (x : List ℕ) → xs ++ x ∷ [] ≡ [] → ⊥
no-end [] x e = absurd (let h = e in cc)
no-end (y ∷ xs) x e = absurd (let h = e in cc)

-- lines that a reader took, and what came of the next
module _ (bytes : List ℕ) (no_image : ¬ IsImageText bytes) (before : List (List ℕ)) (line : List ℕ) (plain : are_plain before ≡ true) (line_plain : list_all is_plain line ≡ true) (p : Position) (reads : read_all First before ≡ Some p) where
  ends-there : bytes ≡ joined before ++ line → read_image bytes ≡ Err (1 + length before)
  ends-there is = by p (is_empty line) (ap read_image is ∙ read-on 1 First p before line plain reads ∙ line-ended (1 + length before) p line line_plain)
    where
      by : (p : Position) (b : Bool) → read_image bytes ≡ at_end (1 + length before) p b → read_image bytes ≡ Err (1 + length before)
      by First b e = e
      by (Between r) b e = e
      by (Within r path lines k) b e = e
      by (Behind i) true e = absurd (no_image (read-image bytes i e))
      by (Behind i) false e = e

  wrong-there : (rest : List ℕ) → bytes ≡ joined (before ++ line ∷ []) ++ rest → ¬ BeginAnImage (before ++ line ∷ []) → read_image bytes ≡ Err (1 + length before)
  wrong-there rest is none = by (line_read p line) refl
    where
      text : bytes ≡ joined before ++ (text_line line ++ rest)
      text = is ∙ rw (joined-append before (line ∷ [])) (simp append_assoc)

      by : (o : Option Position) → line_read p line ≡ o → read_image bytes ≡ Err (1 + length before)
      by None e = ap read_image text ∙ read-on 1 First p before (text_line line ++ rest) plain reads ∙ line-refused (1 + length before) p line rest line_plain e
      by (Some q) e =
          let taken : read_all First (before ++ line ∷ []) ≡ Some q = read_all-append First p before (line ∷ []) reads ∙ ap (option_and_then (λ q. read_all q [])) e in
          let all = are-plain-append before (line ∷ []) plain (and_from _ _ line_plain refl) in
          absurd (⊎_elim (no-end before line) (λ some. none (begins-of (before ++ line ∷ []) some)) (fine (before ++ line ∷ []) q all taken))

pub wrong-first : (bytes : List ℕ) (n : ℕ) → IsFirstWrong bytes n → ¬ IsImageText bytes → read_image bytes ≡ Err n
wrong-first bytes n h no_image =
    let whole = and_parts (are_plain h.before) (are_plain (h.line ∷ [])) (sym (list_all-append (λ l. list_all is_plain l) h.before (h.line ∷ [])) ∙ h.plain) in
    let line = (and_parts (list_all is_plain h.line) true whole.1).0 in
    let at = fine-read h.before whole.0 h.fine in
    ⊎_elim (ends-there bytes no_image h.before h.line whole.0 line at.0 at.1) (λ w. wrong-there bytes no_image h.before h.line whole.0 line at.0 at.1 w.0 w.1 w.2) h.wrong
    ∙ ap Err (sym h.number)
