-- Everything of a directory, by the parts of its objects.
use Rattle.std.proofs.Common.{◌≡◌, ℕ, suc, zero, ◌+◌, Bool, true, false, List, [], ◌∷◌, ◌++◌, map, drop, length, Option, Some, None, refl, ap, sym, ◌∙◌, append-nil, add-one, length-append}
use Rattle.std.specs.Prelude.{slice_get}
use Rattle.std.specs.List.{concat, filter_map}
use Rattle.pps_types.specs.declared.handle_kind.HandleKind.{HandleKind}
use Rattle.pps_types.specs.declared.handle_kind.HandleKind.TheVariants.{Object as ObjectHandle, Directory as DirectoryHandle, Names as NamesHandle, Server as ServerHandle, Client as ClientHandle}
use Rattle.pps_types.specs.Filter.{Part}
use Rattle.pps_types.specs.Reading.{Member, is_directory_kind}
use Rattle.pps_types.specs.Content.{LiveObject, member}
use Rattle.pps_types.proofs.Places.{from_place}
use Rattle.whole_texts.specs.Whole.{everything, print_one, print_opening}
use Rattle.handle_requests.specs.Directories.{parts_of, directory_source}

-- of one member alone, with nothing before it
pub one_part : (kind : HandleKind) → is_directory_kind kind ≡ true → (parts : Option (List Part)) (m : Member)
    → everything (record { kind = kind; parts = parts; over = false; alive = true; members = m ∷ [] }) ≡ print_one kind parts false true m
one_part (ObjectHandle delta) is parts m = absurd (let no = is in cc)
one_part (DirectoryHandle delta) is parts m = append-nil (print_one (DirectoryHandle delta) parts false true m)
one_part NamesHandle is parts m = append-nil (print_one NamesHandle parts false true m)
one_part ServerHandle is parts m = absurd (let no = is in cc)
one_part ClientHandle is parts m = absurd (let no = is in cc)

-- of none
pub no_part : (kind : HandleKind) → is_directory_kind kind ≡ true → (parts : Option (List Part)) (over : Bool)
    → everything (record { kind = kind; parts = parts; over = over; alive = true; members = [] }) ≡ print_opening kind over
no_part (ObjectHandle delta) is parts over = absurd (let no = is in cc)
no_part (DirectoryHandle delta) is parts over = append-nil (print_opening (DirectoryHandle delta) over)
no_part NamesHandle is parts over = append-nil (print_opening NamesHandle over)
no_part ServerHandle is parts over = absurd (let no = is in cc)
no_part ClientHandle is parts over = absurd (let no = is in cc)

printed : (kind : HandleKind) (parts : Option (List Part)) (os : List (Option LiveObject)) → concat (map (print_one kind parts false true) (map member (filter_map (λ o. o) os))) ≡ parts_of kind parts os
printed kind parts [] = refl
printed kind parts (None ∷ os) = printed kind parts os
printed kind parts (Some o ∷ os) = ap (λ text. print_one kind parts false true (member o) ++ text) (printed kind parts os)

-- of all
pub all_parts : (kind : HandleKind) → is_directory_kind kind ≡ true → (parts : Option (List Part)) (over : Bool) (os : List (Option LiveObject))
    → everything (directory_source kind parts over os) ≡ print_opening kind over ++ parts_of kind parts os
all_parts (ObjectHandle delta) is parts over os = absurd (let no = is in cc)
all_parts (DirectoryHandle delta) is parts over os = ap (λ text. print_opening (DirectoryHandle delta) over ++ text) (printed (DirectoryHandle delta) parts os)
all_parts NamesHandle is parts over os = ap (λ text. print_opening NamesHandle over ++ text) (printed NamesHandle parts os)
all_parts ServerHandle is parts over os = absurd (let no = is in cc)
all_parts ClientHandle is parts over os = absurd (let no = is in cc)

-- how long that is
pub all_length : (kind : HandleKind) → is_directory_kind kind ≡ true → (parts : Option (List Part)) (over : Bool) (os : List (Option LiveObject))
    → length (everything (directory_source kind parts over os)) ≡ length (print_opening kind over) + length (parts_of kind parts os)
all_length kind is parts over os = ap length (all_parts kind is parts over os) ∙ length-append (print_opening kind over) (parts_of kind parts os)

module _ (kind : HandleKind) (parts : Option (List Part)) (os : List (Option LiveObject)) (i : ℕ) where
  -- what stands from a place on has the part of the object there
  pub part_some : (o : LiveObject) → slice_get os i ≡ Some (Some o)
      → length (parts_of kind parts (drop i os)) ≡ length (print_one kind parts false true (member o)) + length (parts_of kind parts (drop (i + 1) os))
  part_some o e = ap (λ l. length (parts_of kind parts l)) (from_place os i (Some o) e) ∙ length-append (print_one kind parts false true (member o)) (parts_of kind parts (drop (i + 1) os))

  pub part_none : slice_get os i ≡ Some None → length (parts_of kind parts (drop i os)) ≡ length (parts_of kind parts (drop (i + 1) os))
  part_none e = ap (λ l. length (parts_of kind parts l)) (from_place os i None e)

module _ (os : List (Option LiveObject)) (i : ℕ) where
  -- and the object there as a member
  pub member_some : (o : LiveObject) → slice_get os i ≡ Some (Some o) → map member (filter_map (λ o. o) (drop i os)) ≡ member o ∷ map member (filter_map (λ o. o) (drop (i + 1) os))
  member_some o e = ap (λ l. map member (filter_map (λ o. o) l)) (from_place os i (Some o) e)

  pub member_none : slice_get os i ≡ Some None → map member (filter_map (λ o. o) (drop i os)) ≡ map member (filter_map (λ o. o) (drop (i + 1) os))
  member_none e = ap (λ l. map member (filter_map (λ o. o) l)) (from_place os i None e)
