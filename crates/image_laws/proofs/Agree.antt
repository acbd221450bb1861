-- An entry may follow exactly where it comes behind all others and the call that restores it is not refused.
use Rattle.std.proofs.Common.{◌≡◌, ℕ, ◌≤◌, ◌<◌, Bool, true, false, cond, not, ◌&&◌, ◌||◌, eqb, List, [], ◌∷◌, ◌++◌, length, map, Option, Some, None, Result, Ok, Err, refl, sym, ap, subst, ◌∙◌, append_assoc, arith}
use Rattle.std.specs.Prelude.{filter, find, is_some, unwrap_or, nat_le, nat_lt}
use Rattle.std.specs.Option.{option_map_or}
use Rattle.std.specs.Result.{is_ok}
use Rattle.std.specs.List.{list_all, list_any, AllByRecursion}
use Rattle.std.specs.Ordering.{is_lt}
use Rattle.std.proofs.lemmas.Bool.{and_parts, and_from}
use Rattle.std.proofs.lemmas.Bool.Decides.{nat_tests}
use Rattle.pps_types.specs.declared.found.Found.{Found}
use Rattle.pps_types.specs.declared.found.Found.TheVariants.{Object as FoundObject, Directory as FoundDirectory}
use Rattle.pps_types.specs.declared.refusal.Refusal.{Refusal}
use Rattle.pps_types.specs.Bytes.{is_empty, ◌>>=◌}
use Rattle.pps_types.specs.Text.{print_lines}
use Rattle.pps_types.specs.Names.{Path, same_path, parent, last_name, path_cmp, name_cmp, beyond, place, new_refusal, refusal_of}
use Rattle.pps_types.specs.Content.{Directory, LiveObject, Content, at, directory_at, object_at, members, subdirectories}
use Rattle.pps_types.specs.Checks.{Check, Refuse, Memory, first_refusal, refused, object_checks, objects_beside, mkdir_checks}
use Rattle.pps_types.specs.Plan.{Move, MakesDirectory, Creates, apply_all_seen, passes_last_number}
use Rattle.pps_types.specs.Machine.{start, content_of}
use Rattle.pps_types.specs.Image.{directory_path, saved_object, Image, Saved, SavedDirectory, SavedObject, SavedLine, path_of, same_sort, are_beside, has_parent, may_follow, saved, restored_object, started_seen, is_directory_entry, is_kept, as_line, restored_seen}
use Rattle.pps_types.specs.Restore.{decided, with_numbers, restore_directory, restore_object, restore_line}
use Rattle.pps_types.proofs.Lists.{fold-push}
use Rattle.image_laws.specs.Images.{is_new, is_saved_line, IsSavedPath}
use Rattle.image_laws.proofs.Good.{IsEntry, AreEntries, IsGood}
use Rattle.image_laws.proofs.Entries.{follow-parts}
use Rattle.image_laws.proofs.Sorting.{any-sorted}
use Rattle.image_laws.proofs.Started.{Held, held_content, nothing, restored_held, held_by, directories_of, objects_of, home-of, parent-last, restored-one, started-held}
use Rattle.service_laws.proofs.Passes.{behind as first-passes}
use Rattle.image_laws.proofs.Saving.{parent-among, none-objects, none-directories, count-directories, count-objects, any-objects, all-pass, root-is, beside-home}
use Rattle.image_laws.proofs.Restoring.{IsFine, fine-content, started-fine, count-saved}
use Rattle.image_laws.proofs.Calls.{Leads, IsSmall, small-next, call-directory, call-creation, object-line-decides, length-sorted}

-- ---- none of the checks refuses

front-passes : (checks more : List Check) → first_refusal (checks ++ more) ≡ None → first_refusal checks ≡ None
front-passes [] more h = refl
front-passes (Refuse true r ∷ checks) more h = absurd cc
front-passes (Refuse false r ∷ checks) more h = front-passes checks more h
front-passes (Memory ∷ checks) more h = front-passes checks more h

known-passes : (o : Option Refusal) (checks : List Check) → first_refusal (refused o ++ checks) ≡ None → (o ≡ None) × (first_refusal checks ≡ None)
known-passes None checks h = (refl, h)
known-passes (Some r) checks h = absurd cc

decided-ok : (c : Content) (moves : List Move) (o : Option Refusal) → is_ok (decided c moves o) ≡ true → o ≡ None
decided-ok c moves None h = refl
decided-ok c moves (Some r) h = absurd cc

-- ---- a path that has a place has a parent

at-directory : (c : Content) (p : Path) (n : ℕ) → at c p ≡ Some (FoundDirectory n) → Leads c p
at-directory c p n e = by (directory_at c p) refl (object_at c p) e
  where
    found-any : (ds : List Directory) → is_some (find (λ d. same_path d.path p) ds) ≡ true → list_any (λ d. same_path d.path p) ds ≡ true
    found-any [] h = absurd cc
    found-any (d ∷ ds) h = go (same_path d.path p) h (found-any ds)
      where
        go : (t : Bool) → is_some (cond t (Some d) (find (λ d. same_path d.path p) ds)) ≡ true → (is_some (find (λ d. same_path d.path p) ds) ≡ true → list_any (λ d. same_path d.path p) ds ≡ true) → (t || list_any (λ d. same_path d.path p) ds) ≡ true
        go true h rec = refl
        go false h rec = rec h

    by : (o : Option Directory) → directory_at c p ≡ o → (k : Option LiveObject) → Rattle.std.specs.Option.option_or (Rattle.std.specs.Prelude.option_map (λ (d : Directory). FoundDirectory d.number) o) (Rattle.std.specs.Prelude.option_map (λ (k : LiveObject). FoundObject k.object.number) k) ≡ Some (FoundDirectory n) → Leads c p
    by None is None e = absurd cc
    by None is (Some k) e = absurd cc
    by (Some d) is k e = found-any c.directories (ap is_some is)

beyond-ok : {X : Type 0} (found : Option Found) (r : Result X Refusal) (x : X) → beyond found r ≡ Ok x → (n : ℕ) × (found ≡ Some (FoundDirectory n)) × (r ≡ Ok x)
beyond-ok None r x e = absurd cc
beyond-ok (Some (FoundObject n)) r x e = absurd cc
beyond-ok (Some (FoundDirectory n)) r x e = (n, refl, e)

place-leads : (c : Content) (a : Path) (n : List ℕ) (ns : Path) (x : Option Found) → place (λ p. at c (a ++ p)) (n ∷ ns) ≡ Ok x → Leads c (a ++ parent (n ∷ ns))
place-leads c a n [] x e = let b = beyond-ok (at c (a ++ [])) (Ok (at c (a ++ n ∷ []))) x e in at-directory c (a ++ []) b.0 b.1
place-leads c a n (m ∷ ms) x e =
    let b = beyond-ok (at c (a ++ [])) (place (λ p. at c (a ++ (n ∷ p))) (m ∷ ms)) x e in
    subst (Leads c) (append_assoc a (n ∷ []) (parent (m ∷ ms)))
    (place-leads c (a ++ n ∷ []) m ms x ((λ i. place (λ p. at c (append_assoc a (n ∷ []) p i)) (m ∷ ms)) ∙ b.2))

new-leads : (c : Content) (n : List ℕ) (ns : Path) → new_refusal (at c) (n ∷ ns) ≡ None → Leads c (parent (n ∷ ns))
new-leads c n ns h = by (place (at c) (n ∷ ns)) refl h
  where
    by : (r : Result (Option Found) Refusal) → place (at c) (n ∷ ns) ≡ r → refusal_of (r >>= (λ found. cond (is_some found) (Err Refusal.Exists) (Ok found))) ≡ None → Leads c (parent (n ∷ ns))
    by (Err r) e h = absurd cc
    by (Ok x) e h = place-leads c [] n ns x e

-- ---- the parts of may_follow

parent-in : (d : ℕ) (h : Held) (before : List Saved) (e : Saved) → saved (held_content d h) ≡ before → Leads (held_content d h) (parent (path_of e)) → has_parent before e ≡ true
parent-in d h before e is leads =
    let c = held_content d h in
    let test = λ (x : Saved). is_directory_entry x && same_path (path_of x) (parent (path_of e)) in
    ap (λ es. is_empty (parent (path_of e)) || list_any test es) (sym is)
    ∙ ap (λ t. is_empty (parent (path_of e)) || t) (any-sorted path_cmp path_of test (directories_of h.directories ++ objects_of c))
    ∙ parent-among c e leads

less-true : (a b : ℕ) → a < b → nat_lt a b ≡ true
less-true a b h = grind (arith, nat_tests)

less-of : (a b : ℕ) → nat_le a b ≡ false → b < a
less-of a b h = grind (arith, nat_tests)

most-of : (a b : ℕ) → nat_lt a b ≡ false → b ≤ a
most-of a b h = grind (arith, nat_tests)

together : (before : List Saved) (e : Saved) → is_empty (path_of e) ≡ false → list_all (λ x. is_lt (path_cmp (path_of x) (path_of e))) before ≡ true → has_parent before e ≡ true
    → length (filter (are_beside e) before) < 256 → length (filter (same_sort e) before) < 65535 → may_follow before e ≡ true
together before e some behind has beside all =
    and_from _ _ (and_from _ _ (and_from _ _ (and_from _ _ (ap not some) behind) has) (less-true _ 256 beside)) (less-true _ 65535 all)

follows-directory : (d : ℕ) (h : Held) (before : List Saved) (n : List ℕ) (ns : Path) → IsFine d h before → list_all (λ x. is_lt (path_cmp (path_of x) (n ∷ ns))) before ≡ true
    → is_ok (restore_directory (held_content d h) (n ∷ ns)) ≡ true → may_follow before (SavedDirectory (n ∷ ns)) ≡ true
follows-directory d h before n ns fine behind ok =
    let path = n ∷ ns in
    let e = SavedDirectory path in
    let c = held_content d h in
    let none = front-passes (mkdir_checks c path) (Refuse (passes_last_number (apply_all_seen (MakesDirectory path ∷ []) c)) Refusal.TableFull ∷ []) (decided-ok c (MakesDirectory path ∷ []) (first_refusal (with_numbers c (MakesDirectory path ∷ []) (mkdir_checks c path))) ok) in
    let one = known-passes (new_refusal (at c) path) (Refuse (nat_le 256 (length (subdirectories c (parent path)))) Refusal.TableFull ∷ Refuse (nat_lt 65535 (length h.directories)) Refusal.TableFull ∷ []) none in
    let two = first-passes (nat_le 256 (length (subdirectories c (parent path)))) Refusal.TableFull (Refuse (nat_lt 65535 (length h.directories)) Refusal.TableFull ∷ []) one.1 in
    let three = first-passes (nat_lt 65535 (length h.directories)) Refusal.TableFull [] two.1 in
    let room = less-of 256 (length (subdirectories c (parent path))) two.0 in
    let few = most-of 65535 (length h.directories) three.0 in
    let counted = fine.counted in
    let beside_total = count-saved c before (are_beside e) fine.saves in
    let beside_none = ap length (none-objects (are_beside e) c (λ path lines. refl) (filter is_kept h.objects)) in
    let beside_few = count-directories (are_beside e) (λ x. not (same_path x.path []) && same_path (parent x.path) (parent path)) (λ x t some. and_from _ _ (root-is x.path some) t) h.directories in
    let all_total = count-saved c before (same_sort e) fine.saves in
    let all_none = ap length (none-objects (same_sort e) c (λ path lines. refl) (filter is_kept h.objects)) in
    let all_few = count-directories (same_sort e) (λ x. not (is_empty x.path)) (λ x t some. ap not some) h.directories in
    together before e refl behind (parent-in d h before e fine.saves (new-leads c n ns one.0)) (omega arith) (omega arith)

follows-object : (d : ℕ) (h : Held) (before : List Saved) (n : List ℕ) (ns : Path) → IsFine d h before → list_all (λ x. is_lt (path_cmp (path_of x) (n ∷ ns))) before ≡ true
    → is_ok (restore_object (held_content d h) (n ∷ ns)) ≡ true → may_follow before (SavedObject (n ∷ ns) []) ≡ true
follows-object d h before n ns fine behind ok =
    let path = n ∷ ns in
    let e = SavedObject path [] in
    let c = held_content d h in
    let o = restored_object c path in
    let k : LiveObject = record { object = o; attributes = [] } in
    let none = front-passes (refused (new_refusal (at c) path) ++ object_checks c path) (Refuse (passes_last_number (apply_all_seen (Creates o ∷ []) c)) Refusal.TableFull ∷ []) (decided-ok c (Creates o ∷ []) (first_refusal (with_numbers c (Creates o ∷ []) (refused (new_refusal (at c) path) ++ object_checks c path))) ok) in
    let one = known-passes (new_refusal (at c) path) (object_checks c path) none in
    let two = first-passes (nat_le 256 (objects_beside c path)) Refusal.TableFull (Refuse (nat_le 65535 (length h.objects)) Refusal.TableFull ∷ []) one.1 in
    let three = first-passes (nat_le 65535 (length h.objects)) Refusal.TableFull [] two.1 in
    let leads = new-leads c n ns one.0 in
    let content = fine-content d h before fine in
    let home = home-of d h path fine.held leads in
    let where_is : o.directory ≡ home.number = ap (λ n. unwrap_or n 0) home.is in
    let objects : objects_beside c path ≡ length (members c home.number) = ap (λ n. option_map_or (λ d. length (members c d)) n 0) home.is in
    let crowd_is = length-sorted name_cmp (λ (k : LiveObject). k.object.name) (filter (λ k. eqb k.object.directory home.number) h.objects) in
    let room : length (filter (λ k. eqb k.object.directory home.number) h.objects) < 256 = (let r = less-of 256 (objects_beside c path) two.0 in omega arith) in
    let few = less-of 65535 (length h.objects) three.0 in
    let is : saved_object c k ≡ e = (λ i. SavedObject (directory_path c (where_is i) ++ last_name path ∷ []) []) ∙ ap (λ p. SavedObject (p ++ last_name path ∷ []) []) home.path_is ∙ ap (λ p. SavedObject p []) (parent-last n ns) in
    let there : is_some (find (λ x. eqb x.number o.directory) h.directories) ≡ true = subst (λ n. is_some (find (λ x. eqb x.number n) h.directories) ≡ true) (sym where_is) home.there in
    let beside_home : AllByRecursion (λ x. are_beside e (saved_object c x) ≡ true → eqb x.object.directory home.number ≡ true) h.objects =
    subst (λ n. AllByRecursion (λ x. are_beside e (saved_object c x) ≡ true → eqb x.object.directory n ≡ true) h.objects) where_is
    (subst (λ s. AllByRecursion (λ x. are_beside s (saved_object c x) ≡ true → eqb x.object.directory o.directory ≡ true) h.objects) is
    (beside-home c content k there h.objects content.tree.places)) in
    let beside_total = count-saved c before (are_beside e) fine.saves in
    let beside_none = ap length (none-directories (are_beside e) (λ path. refl) (filter (λ d. not (is_empty d.path)) h.directories)) in
    let beside_few = count-objects c (are_beside e) (λ x. eqb x.object.directory home.number) h.objects beside_home in
    let all_total = count-saved c before (same_sort e) fine.saves in
    let all_none = ap length (none-directories (same_sort e) (λ path. refl) (filter (λ d. not (is_empty d.path)) h.directories)) in
    let all_few = count-objects c (same_sort e) (λ x. true) h.objects (any-objects c (same_sort e) h.objects) in
    let all_objects = all-pass h.objects in
    together before e refl behind (parent-in d h before e fine.saves leads) (omega arith) (omega arith)

-- ---- both ways

both-ways : (a b : Bool) → (a ≡ true → b ≡ true) → (b ≡ true → a ≡ true) → a ≡ b
both-ways true true f g = refl
both-ways false false f g = refl
both-ways true false f g = sym (f refl)
both-ways false true f g = g refl

small-all : (d : ℕ) (h : Held) (before es : List Saved) → IsSmall h → AreEntries 65536 before es → IsSmall (held_by d h es)
small-all d h before [] small all = small
small-all d h before (e ∷ es) small all = small-all d (restored_held d h e) (before ++ e ∷ []) es (small-next d h before e small all.0) all.1

module _ (i : Image) (is : IsGood i) where
  stands : started_seen i ≡ held_content i.default_limit (held_by i.default_limit nothing i.entries)
  stands = (started-held 65536 i is.entries).is

  small : IsSmall (held_by i.default_limit nothing i.entries)
  small = small-all i.default_limit nothing [] i.entries (record { objects = refl; directories = refl; records = omega arith }) is.entries

  pub agree-directory : (path : Path) → IsSavedPath path → is_empty path ≡ false → may_follow i.entries (SavedDirectory path) ≡ (list_all (λ x. is_lt (path_cmp (path_of x) path)) i.entries && is_ok (restore_directory (started_seen i) path))
  agree-directory [] named some = absurd cc
  agree-directory (n ∷ ns) named some =
      let fine = started-fine i is in
      let h = held_by i.default_limit nothing i.entries in
      both-ways _ _
      (λ f. and_from _ _ (follow-parts i.entries (SavedDirectory (n ∷ ns)) f).behind
      (ap (λ c. is_ok (restore_directory c (n ∷ ns))) stands ∙ ap is_ok (call-directory i.default_limit h i.entries (n ∷ ns) fine small (named, f))))
      (λ b. let parts = and_parts (list_all (λ x. is_lt (path_cmp (path_of x) (n ∷ ns))) i.entries) (is_ok (restore_directory (started_seen i) (n ∷ ns))) b in
      follows-directory i.default_limit h i.entries n ns fine parts.0 (ap (λ c. is_ok (restore_directory c (n ∷ ns))) (sym stands) ∙ parts.1))

  pub agree-object : (path : Path) → IsSavedPath path → is_empty path ≡ false → may_follow i.entries (SavedObject path []) ≡ (list_all (λ x. is_lt (path_cmp (path_of x) path)) i.entries && is_ok (restore_object (started_seen i) path))
  agree-object [] named some = absurd cc
  agree-object (n ∷ ns) named some =
      let fine = started-fine i is in
      let h = held_by i.default_limit nothing i.entries in
      both-ways _ _
      (λ f. and_from _ _ (follow-parts i.entries (SavedObject (n ∷ ns) []) f).behind
      (ap (λ c. is_ok (restore_object c (n ∷ ns))) stands ∙ ap is_ok (call-creation i.default_limit h i.entries n ns [] fine small (named, f, omega arith, tt))))
      (λ b. let parts = and_parts (list_all (λ x. is_lt (path_cmp (path_of x) (n ∷ ns))) i.entries) (is_ok (restore_object (started_seen i) (n ∷ ns))) b in
      follows-object i.default_limit h i.entries n ns fine parts.0 (ap (λ c. is_ok (restore_object c (n ∷ ns))) (sym stands) ∙ parts.1))

  pub agree-line : (path : Path) (lines : List SavedLine) (l : SavedLine) → IsEntry 65536 i.entries (SavedObject path lines) → is_saved_line l ≡ true → length lines < 1024
      → (is_new lines l && nat_le (length (print_lines (map as_line (lines ++ l ∷ [])))) 65536) ≡ is_ok (restore_line (started_seen (record { default_limit = i.default_limit; entries = i.entries ++ SavedObject path lines ∷ [] })) path (as_line l))
  agree-line [] lines l e named few = absurd (let f = (follow-parts i.entries (SavedObject [] []) e.1).some in cc)
  agree-line (n ∷ ns) lines l e named few =
      let d = i.default_limit in
      let fine = started-fine i is in
      let h = held_by d nothing i.entries in
      let more : started_seen (record { default_limit = d; entries = i.entries ++ SavedObject (n ∷ ns) lines ∷ [] }) ≡ held_content d (restored_held d h (SavedObject (n ∷ ns) lines)) =
      fold-push restored_seen (content_of (start 1 d)) i.entries (SavedObject (n ∷ ns) lines)
      ∙ ap (λ c. restored_seen c (SavedObject (n ∷ ns) lines)) stands
      ∙ restored-one d 65536 h i.entries (SavedObject (n ∷ ns) lines) fine.held e in
      sym (ap (λ c. is_ok (restore_line c (n ∷ ns) (as_line l))) more ∙ object-line-decides d h i.entries n ns lines l fine small e named few)
