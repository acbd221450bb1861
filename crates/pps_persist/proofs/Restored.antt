-- What an entry more, or a line more of the last one, makes of what is held.
use Rattle.std.proofs.Common.{◌≡◌, ℕ, ◌+◌, ◌≤◌, ◌<◌, Bool, true, false, ◌&&◌, List, [], ◌∷◌, ◌++◌, Result, Ok, Err, refl, sym, ap, subst, ◌∙◌, append_assoc, length-append, arith}
use Rattle.std.specs.Prelude.{nat_le}
use Rattle.std.specs.List.{list_all}
use Rattle.std.specs.Ordering.{is_lt}
use Rattle.std.specs.Result.{is_ok}
use Rattle.std.specs.declared.cmp.Ordering.{Ordering}
use Rattle.std.specs.declared.cmp.Ordering.TheVariants.{Less, Equal, Greater}
use Rattle.std.proofs.lemmas.Bool.{and_from}
use Rattle.std.proofs.lemmas.Bool.Decides.{nat_tests}
use Rattle.std.proofs.lemmas.List.Folds.{list_all-append}
use Rattle.pps_types.specs.declared.refusal.Refusal.{Refusal}
use Rattle.pps_types.specs.Bytes.{is_empty, ◌>>=◌}
use Rattle.pps_types.specs.Names.{Path, path_cmp}
use Rattle.pps_types.specs.Content.{Content}
use Rattle.pps_types.specs.Machine.{start, content_of}
use Rattle.pps_types.specs.Image as image
use Rattle.pps_types.specs.Image.{Image, Saved, SavedDirectory, SavedObject, path_of, may_follow, with_entry, AreFollowing, IsImage, started}
use Rattle.pps_types.specs.Restore.{restore_directory, restore_object, restore_entry, restore_entries}
use Rattle.pps_types.proofs.Lists.{all-push, append-nil}
use Rattle.image_laws.specs.Images.{IsSavedPath, HasText, IsPrintable}
use Rattle.image_laws.proofs.Entries.{follow-parts}
use Rattle.image_laws.proofs.Proved.{calls-start-it, calls-decide}
use Rattle.image_laws.proofs.Sorting.{paths_total}
use Rattle.pps_persist.specs.declared.place.Loaded.{Loaded}
use Rattle.pps_persist.specs.Held.{image_of, Holds, HoldsObject}

-- ---- an entry more

following-push : (before es : List Saved) (e : Saved) → AreFollowing before es → may_follow (before ++ es) e ≡ true → AreFollowing before (es ++ e ∷ [])
following-push before [] e all h = (subst (λ (b : List Saved). may_follow b e ≡ true) (append-nil before) h, tt)
following-push before (x ∷ es) e all h =
    (all.0, following-push (before ++ x ∷ []) es e all.1 (subst (λ (b : List Saved). may_follow b e ≡ true) (sym (append_assoc before (x ∷ []) es)) h))

abbrev one_more : Image → Saved → Image
one_more i e = record { default_limit = i.default_limit; entries = i.entries ++ e ∷ [] }

pub image-push : (i : Image) (e : Saved) → IsImage i → may_follow i.entries e ≡ true → IsImage (one_more i e)
image-push i e all h = following-push [] i.entries e all h

pub printable-push : (i : Image) (e : Saved) → IsPrintable i → HasText 65536 e → IsPrintable (one_more i e)
printable-push i e p h = record { least = p.least; most = p.most; entries = all-push (HasText 65536) i.entries e p.entries h }

entries-then : (c d : Content) (es : List Saved) (e : Saved) → restore_entries c es ≡ Ok d → restore_entries c (es ++ e ∷ []) ≡ (restore_entry d e >>= (λ c. Ok c))
entries-then c d [] e h = let is : c ≡ d = cc in ap (λ (x : Content). restore_entry x e >>= (λ c. Ok c)) is
entries-then c d (x ∷ es) e h = by (restore_entry c x) (λ c. entries-then c d es e) h
  where
    by : (o : Result Content Refusal) → ((c : Content) → restore_entries c es ≡ Ok d → restore_entries c (es ++ e ∷ []) ≡ (restore_entry d e >>= (λ c. Ok c)))
        → (o >>= (λ c. restore_entries c es)) ≡ Ok d → (o >>= (λ c. restore_entries c (es ++ e ∷ []))) ≡ (restore_entry d e >>= (λ c. Ok c))
    by (Ok c) rec h = rec c h
    by (Err r) rec h = absurd cc

same-then : (o : Result Content Refusal) (d : Content) → (o >>= (λ c. Ok c)) ≡ Ok d → o ≡ Ok d
same-then (Ok c) d h = h
same-then (Err r) d h = h

-- the calls of one entry lead from what the entries before it start to what they start with it
pub entry-restored : (i : Image) (e : Saved) → IsImage i → IsPrintable i → may_follow i.entries e ≡ true → HasText 65536 e
    → restore_entry (content_of (started i)) e ≡ Ok (content_of (started (one_more i e)))
entry-restored i e all text follows has =
    same-then (restore_entry (content_of (started i)) e) (content_of (started (one_more i e)))
    (sym (entries-then (content_of (start 1 i.default_limit)) (content_of (started i)) i.entries e (calls-start-it i all text))
    ∙ calls-start-it (one_more i e) (image-push i e all follows) (printable-push i e text has))

-- ---- behind all others

less-is : (o : Ordering) → is_lt o ≡ true → o ≡ Less
less-is Less h = refl
less-is Equal h = absurd cc
less-is Greater h = absurd cc

-- what comes behind the last path comes behind all
pub last-push : (es : List Saved) (e : Saved) (last : Path) → ((p : Path) → is_empty p ≡ false → list_all (λ x. is_lt (path_cmp (path_of x) p)) es ≡ is_lt (path_cmp last p))
    → is_lt (path_cmp last (path_of e)) ≡ true → (p : Path) → is_empty p ≡ false → list_all (λ x. is_lt (path_cmp (path_of x) p)) (es ++ e ∷ []) ≡ is_lt (path_cmp (path_of e) p)
last-push es e last all less p some =
    list_all-append (λ x. is_lt (path_cmp (path_of x) p)) es (e ∷ []) ∙ ap (λ (b : Bool). b && (is_lt (path_cmp (path_of e) p) && true)) (all p some) ∙ by (is_lt (path_cmp (path_of e) p)) refl
  where
    by : (b : Bool) → is_lt (path_cmp (path_of e) p) ≡ b → (is_lt (path_cmp last p) && (b && true)) ≡ b
    by true h = ap (λ (o : Ordering). is_lt o && true) (paths_total.trans last (path_of e) p (less-is (path_cmp last (path_of e)) less) (less-is (path_cmp (path_of e) p) h))
    by false h = grind arith

pub not-root : (last path : Path) → is_lt (path_cmp last path) ≡ true → is_empty path ≡ false
not-root [] [] h = absurd cc
not-root (n ∷ ns) [] h = absurd cc
not-root last (n ∷ ns) h = refl

-- ---- what is held of it

module _ (r : image.Loaded) (old : Loaded) (held : Holds r old) where
  -- an entry more, in the place of the last path and the count
  holds-push : (new : Loaded) (e : Saved) → may_follow r.entries e ≡ true → HasText 65536 e → is_lt (path_cmp old.last.items (path_of e)) ≡ true
      → restore_entry old.engine.content e ≡ Ok new.engine.content → new.engine.content.handles ≡ [] → new.longest ≡ old.longest → new.count ≡ old.count + 1 → new.last.items ≡ path_of e
      → Holds (with_entry r e) new
  holds-push new e follows has behind restored unused longest count last =
      let steps = sym (ap (λ (c : Content). restore_entry c e) held.content) ∙ restored in
      let leads = entry-restored (image_of r) e held.follow held.printable follows has in
      let same : new.engine.content ≡ content_of (started (one_more (image_of r) e)) = (let both = sym steps ∙ leads in cc) in
      record {
        follow = image-push (image_of r) e held.follow follows;
        printable = printable-push (image_of r) e held.printable has;
        content = same;
        unused = unused;
        longest = held.longest ∙ sym longest;
        most = omega (arith, longest, held.most);
        count = omega (arith, count, held.count, length-append r.entries (e ∷ []));
        last = λ p some. last-push r.entries e old.last.items held.last behind p some ∙ ap (λ (x : Path). is_lt (path_cmp x p)) (sym last);
      }

  -- what does not come behind the last path may not follow
  not-behind : (e : Saved) → is_lt (path_cmp old.last.items (path_of e)) ≡ false → may_follow r.entries e ≡ false
  not-behind e h = by (may_follow r.entries e) refl
    where
      by : (b : Bool) → may_follow r.entries e ≡ b → b ≡ false
      by false f = refl
      by true f =
          let parts = follow-parts r.entries e f in
          absurd (let no : true ≡ false = sym parts.behind ∙ held.last (path_of e) parts.some ∙ h in cc)

  all-behind : (path : Path) → is_lt (path_cmp old.last.items path) ≡ true → list_all (λ x. is_lt (path_cmp (path_of x) path)) r.entries ≡ true
  all-behind path h = held.last path (not-root old.last.items path h) ∙ h

  pub directory-decides : (path : Path) → IsSavedPath path → is_lt (path_cmp old.last.items path) ≡ true → may_follow r.entries (SavedDirectory path) ≡ is_ok (restore_directory old.engine.content path)
  directory-decides path is h =
      calls-decide.directory (image_of r) held.follow held.printable path is (not-root old.last.items path h)
      ∙ ap (λ (b : Bool). b && is_ok (restore_directory (content_of (started (image_of r))) path)) (all-behind path h)
      ∙ ap (λ (c : Content). is_ok (restore_directory c path)) (sym held.content)

  pub object-decides : (path : Path) → IsSavedPath path → is_lt (path_cmp old.last.items path) ≡ true → may_follow r.entries (SavedObject path []) ≡ is_ok (restore_object old.engine.content path)
  object-decides path is h =
      calls-decide.object (image_of r) held.follow held.printable path is (not-root old.last.items path h)
      ∙ ap (λ (b : Bool). b && is_ok (restore_object (content_of (started (image_of r))) path)) (all-behind path h)
      ∙ ap (λ (c : Content). is_ok (restore_object c path)) (sym held.content)

  -- ---- a directory

  pub adds-directory : (new : Loaded) (path : Path) → IsSavedPath path → is_lt (path_cmp old.last.items path) ≡ true → restore_directory old.engine.content path ≡ Ok new.engine.content
      → new.engine.content.handles ≡ [] → new.longest ≡ old.longest → new.count ≡ old.count + 1 → new.last.items ≡ path
      → (may_follow r.entries (SavedDirectory path) ≡ true) × Holds (with_entry r (SavedDirectory path)) new
  adds-directory new path is behind restored unused longest count last =
      let follows = directory-decides path is behind ∙ ap is_ok restored in
      (follows, holds-push new (SavedDirectory path) follows is behind restored unused longest count last)

  pub no-directory-before : (path : Path) → is_lt (path_cmp old.last.items path) ≡ false → may_follow r.entries (SavedDirectory path) ≡ false
  no-directory-before path h = not-behind (SavedDirectory path) h

  pub no-directory : (path : Path) → IsSavedPath path → is_lt (path_cmp old.last.items path) ≡ true → is_ok (restore_directory old.engine.content path) ≡ false → may_follow r.entries (SavedDirectory path) ≡ false
  no-directory path is behind refused = directory-decides path is behind ∙ refused

  -- ---- an object

  pub adds-object : (new : Loaded) (path : Path) (to_come : ℕ) → IsSavedPath path → to_come ≤ 1024 → is_lt (path_cmp old.last.items path) ≡ true → restore_object old.engine.content path ≡ Ok new.engine.content
      → new.engine.content.handles ≡ [] → new.longest ≡ old.longest → new.count ≡ old.count + 1 → new.last.items ≡ path
      → ((may_follow r.entries (SavedObject path []) && nat_le to_come 1024) ≡ true) × HoldsObject r path [] new (record { to_come = to_come; text = 0 })
  adds-object new path to_come is few behind restored unused longest count last =
      let follows = object-decides path is behind ∙ ap is_ok restored in
      let fits : nat_le to_come 1024 ≡ true = grind (arith, nat_tests) in
      let has : HasText 65536 (SavedObject path []) = (is, omega arith, tt) in
      let whole : restore_entry old.engine.content (SavedObject path []) ≡ Ok new.engine.content = ap (λ (o : Result Content Refusal). o >>= (λ c. Ok c)) restored in (
        and_from _ _ follows fits,
        record {
          follow = held.follow;
          printable = held.printable;
          follows = follows;
          has = has;
          few = omega arith;
          text = refl;
          short = omega arith;
          last = last;
          holds = holds-push new (SavedObject path []) follows has behind whole unused longest count last;
        },
      )

  pub no-object-before : (path : Path) (to_come : ℕ) → is_lt (path_cmp old.last.items path) ≡ false → (may_follow r.entries (SavedObject path []) && nat_le to_come 1024) ≡ false
  no-object-before path to_come h = ap (λ (b : Bool). b && nat_le to_come 1024) (not-behind (SavedObject path []) h)

  pub no-object : (path : Path) (to_come : ℕ) → IsSavedPath path → is_lt (path_cmp old.last.items path) ≡ true → is_ok (restore_object old.engine.content path) ≡ false
      → (may_follow r.entries (SavedObject path []) && nat_le to_come 1024) ≡ false
  no-object path to_come is behind refused = ap (λ (b : Bool). b && nat_le to_come 1024) (object-decides path is behind ∙ refused)

pub too-many : (follows : Bool) (to_come : ℕ) → 1024 < to_come → (follows && nat_le to_come 1024) ≡ false
too-many follows to_come many = grind (arith, nat_tests)
