-- The objects of a directory, as they are lent.
use Rattle.std.proofs.Common.{◌≡◌, ℕ, List, [], ◌∷◌, map, Option, Some, None, cond, refl, ap, sym, ◌∙◌, eqb}
use Rattle.std.specs.Prelude.{option_and_then, option_map, slice_get, filter, Ok, Err}
use Rattle.std.specs.Option.{option_or}
use Rattle.std.proofs.lemmas.Option.{slice_get-map}
use Rattle.std.specs.List.{AllByRecursion, filter_map, cons_option}
use Rattle.pps_types.specs.declared.found.Found.{Found}
use Rattle.pps_types.specs.declared.found.Found.TheVariants.{Object as FoundObject, Directory as FoundDirectory}
use Rattle.pps_types.specs.declared.refusal.Refusal.{Refusal}
use Rattle.pps_types.specs.Bytes.{◌>>=◌}
use Rattle.pps_types.specs.Names.{Map, Name, name_cmp, find_at, is_object, refusal_of, list_refusal}
use Rattle.pps_types.specs.Content.{Directory, LiveObject, Content, at, object_at, object_numbered, directory_at, members}
use Rattle.service_laws.proofs.Fits.{Order, order-in, tree-in}
use Rattle.service_laws.proofs.Finds.{all-filter, all-find}
use Rattle.number_table.specs.Numbered.{Entry, value_under}
use Rattle.number_table.proofs.Told.{find_told}
use Rattle.service_laws.proofs.Rising.{found-each}
use Rattle.name_table.specs.Standing.{Placed, standing_by, content_of}
use Rattle.name_table.specs.Agrees.{IsNamed}
use Rattle.name_table.specs.Listed.{object_number}
use Rattle.name_table.proofs.Deleted.{find_found, at_closed}
use Rattle.name_table.proofs.Numbers.{none_of}
use Rattle.name_table.proofs.Sorting.{all_sorted}

module _ {A B : Type 0} (f : A → Option B) where
  -- what is there of a list, one after the other
  lent_map : (xs : List A) → filter_map (λ (o : Option B). o) (map f xs) ≡ filter_map f xs
  lent_map [] = refl
  lent_map (x ∷ xs) = ap (cons_option (f x)) (lent_map xs)

module _ (c : Content) where
  by_numbers : (ms : List (Name × Found)) → filter_map (λ (m : Name × Found). option_and_then (object_numbered c) (object_number m.1)) ms ≡ filter_map (object_numbered c) (filter_map (λ (m : Name × Found). object_number m.1) ms)
  by_numbers [] = refl
  by_numbers (m ∷ ms) = go (object_number m.1) (by_numbers ms)
    where
      go : (o : Option ℕ) → filter_map (λ (m : Name × Found). option_and_then (object_numbered c) (object_number m.1)) ms ≡ filter_map (object_numbered c) (filter_map (λ (m : Name × Found). object_number m.1) ms)
          → cons_option (option_and_then (object_numbered c) o) (filter_map (λ (m : Name × Found). option_and_then (object_numbered c) (object_number m.1)) ms)
          ≡ filter_map (object_numbered c) (cons_option o (filter_map (λ (m : Name × Found). object_number m.1) ms))
      go None rest = rest
      go (Some n) rest = ap (cons_option (object_numbered c n)) rest

  own_again : (os : List LiveObject) → AllByRecursion (λ (o : LiveObject). object_numbered c o.object.number ≡ Some o) os → filter_map (object_numbered c) (map (λ (o : LiveObject). o.object.number) os) ≡ os
  own_again [] all = refl
  own_again (o ∷ os) all = ap (λ x. cons_option x (filter_map (object_numbered c) (map (λ (o : LiveObject). o.object.number) os))) all.0 ∙ ap (λ l. o ∷ l) (own_again os all.1)

  module _ (order : Order c) (d : ℕ) where
    members_own : AllByRecursion (λ (o : LiveObject). object_numbered c o.object.number ≡ Some o) (members c d)
    members_own = all_sorted name_cmp (λ (o : LiveObject). o.object.name) (λ (o : LiveObject). object_numbered c o.object.number ≡ Some o) (filter (λ o. eqb o.object.directory d) c.objects)
        (all-filter (λ (o : LiveObject). object_numbered c o.object.number ≡ Some o) (λ o. eqb o.object.directory d) c.objects (found-each (λ (x : LiveObject). x.object.number) 0 c.next_object c.objects order.1))

    -- names that lead to the numbers of a directory's members lend these
    pub lent_members : (ms : List (Name × Found)) → filter_map (λ (m : Name × Found). object_number m.1) ms ≡ map (λ (o : LiveObject). o.object.number) (members c d)
        → filter_map (λ (o : Option LiveObject). o) (map (λ (m : Name × Found). option_and_then (object_numbered c) (object_number m.1)) ms) ≡ members c d
    lent_members ms numbers =
        lent_map (λ (m : Name × Found). option_and_then (object_numbered c) (object_number m.1)) ms ∙ by_numbers ms ∙ ap (filter_map (object_numbered c)) numbers ∙ own_again (members c d) members_own

-- what stands in each place
pub lent_at : (c : Content) (ms : List (Name × Found)) (i : ℕ) (f : Found) → slice_get (map (λ (m : Name × Found). m.1) ms) i ≡ Some f
    → slice_get (map (λ (m : Name × Found). option_and_then (object_numbered c) (object_number m.1)) ms) i ≡ Some (option_and_then (object_numbered c) (object_number f))
lent_at c ms i f is =
    slice_get-map (λ (m : Name × Found). option_and_then (object_numbered c) (object_number m.1)) ms i
    ∙ by (slice_get ms i) (sym (slice_get-map (λ (m : Name × Found). m.1) ms i) ∙ is)
  where
    by : (o : Option (Name × Found)) → option_map (λ (m : Name × Found). m.1) o ≡ Some f
        → option_map (λ (m : Name × Found). option_and_then (object_numbered c) (object_number m.1)) o ≡ Some (option_and_then (object_numbered c) (object_number f))
    by None e = absurd (let no = e in cc)
    by (Some m) e = let is : m.1 ≡ f = cc in ap (λ f. Some (option_and_then (object_numbered c) (object_number f))) is

module _ (m : Map) (es : List (Entry Placed)) (k : ℕ) (ds : List (Entry Directory)) (j : ℕ) (named : IsNamed m es k ds j) (n : ℕ) where
  abbrev old : Content
  old = content_of (standing_by es k ds j)

  -- a directory that does not stand lends none
  pub none_lent : value_under n ds ≡ None → [] ≡ members old n
  none_lent none = lent_members old (order-in old named.order) n [] (none_of m es k ds j named n none)

  module _ (d : Directory) (found : value_under n ds ≡ Some d) where
    -- a directory lends its members
    pub lent_of : (ms : List (Name × Found)) → filter_map (λ (m : Name × Found). object_number m.1) ms ≡ map (λ (o : LiveObject). o.object.number) (members old n)
        → filter_map (λ (o : Option LiveObject). o) (map (λ (m : Name × Found). option_and_then (object_numbered old) (object_number m.1)) ms) ≡ members old n
    lent_of ms numbers = lent_members old (order-in old named.order) n ms numbers

    own_path : directory_at old d.path ≡ Some d
    own_path = all-find (λ (d : Directory). directory_at old d.path ≡ Some d) (λ (d : Directory). eqb d.number n) old.directories d (tree-in old named.tree).2
        (sym (find_told (λ (d : Directory). d.number) n ds named.directories_told) ∙ found)

    at_itself : at old d.path ≡ Some (FoundDirectory d.number)
    at_itself = ap (λ o. option_or (option_map (λ (d : Directory). FoundDirectory d.number) o) (option_map (λ (o : LiveObject). FoundObject o.object.number) (object_at old d.path))) own_path

    -- nothing refuses that it is listed
    pub can_list : list_refusal m d.path ≡ None
    can_list =
        (λ i. refusal_of (find_at (λ p. named.names p i) d.path >>= (λ found. cond (is_object found) (Err Refusal.NotDirectory) (Ok found))))
        ∙ ap (λ r. refusal_of (r >>= (λ found. cond (is_object found) (Err Refusal.NotDirectory) (Ok found)))) (find_found (at old) (at_closed old (tree-in old named.tree)) d.path (FoundDirectory d.number) at_itself)
