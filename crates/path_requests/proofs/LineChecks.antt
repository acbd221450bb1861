-- What the call that adds a line comes to, where its path leads to an object.
use Rattle.std.specs.Prelude.{◌≡◌, ◌||◌, ◌++◌, ◌∷◌, [], ℕ, List, Bool, true, false, nat_lt, Option, Some, None, Result, Ok, Err, ok_or, length, fold, IfSome, IsSome, ◌⊎◌}
use Rattle.std.specs.Option.{option_map_or}
use Rattle.std.specs.List.{list_any}
use Rattle.std.proofs.Common.{refl, sym, ◌∙◌, ap, subst, cond, inl, inr}
use Rattle.pps_types.specs.declared.line.Line.{Line}
use Rattle.pps_types.specs.declared.record.Kind.TheVariants.{Change}
use Rattle.pps_types.specs.declared.refusal.Refusal.{Refusal}
use Rattle.pps_types.specs.declared.refusal.Refusal.TheVariants.{OutOfMemory, TableFull, TooLarge, Exists, NotFound, IsDirectory}
use Rattle.pps_types.specs.declared.found.Found.{Found}
use Rattle.pps_types.specs.declared.found.Found.TheVariants.{Object as FoundObject, Directory as FoundDirectory}
use Rattle.pps_types.specs.Bytes.{same, ◌>>=◌}
use Rattle.pps_types.specs.Names.{Path, place, find_at, is_directory}
use Rattle.pps_types.specs.History.{Attribute, Entry, apply_line, text_length}
use Rattle.pps_types.specs.Content.{Content, LiveObject, at, object_numbered}
use Rattle.pps_types.specs.WellFormed.{IsContent}
use Rattle.pps_types.specs.Checks.{Refuse, first_refusal, parsed, limit_checks}
use Rattle.pps_types.specs.Plan.{AppendsRecord, entry_of, apply_all_seen, passes_last_number}
use Rattle.pps_types.specs.Restore.{decided, restore_line, line_checks, line_moves, attributes_at, name_of}
use Rattle.service_laws.specs.SettlingTargets.{last_number_passed}
use Rattle.path_requests.proofs.Places.{IsAlive, alive}
use Rattle.path_requests.proofs.RestoreChecked.{record_number}

pub place_found : (c : Content) (path : Path) (n : ℕ) → find_at (at c) path ≡ Ok (FoundObject n) → place (at c) path ≡ Ok (Some (FoundObject n))
place_found c path n found = by (place (at c) path) refl found
  where
    by : (r : Result (Option Found) Refusal) → place (at c) path ≡ r → r >>= (λ (f : Option Found). ok_or f NotFound) ≡ Ok (FoundObject n) → place (at c) path ≡ Ok (Some (FoundObject n))
    by (Err r) e h = absurd (let no = h in cc)
    by (Ok None) e h = absurd (let no = h in cc)
    by (Ok (Some f)) e h = let is : f ≡ FoundObject n = cc in e ∙ ap (λ (f : Found). let r : Result (Option Found) Refusal = Ok (Some f) in r) is

abbrev pub has : List Attribute → Line → Bool
has attributes line = list_any (λ (a : Attribute). same a.name (name_of line)) attributes

module _ (c : Content) (w : IsContent c) (path : Path) (line : Line) (n : ℕ) (found : find_at (at c) path ≡ Ok (FoundObject n)) where
  pub there : IsAlive c path n
  there = alive c w path n (place_found c path n found)

  held : attributes_at c path ≡ there.o.attributes
  held = ap (λ o. option_map_or (λ (o : LiveObject). o.attributes) o []) there.here

  pub moves : line_moves c path line ≡ AppendsRecord (entry_of there.o.object (Change (line ∷ [])) None) ∷ []
  moves = ap (λ o. option_map_or (λ (o : LiveObject). AppendsRecord (entry_of o.object (Change (line ∷ [])) None) ∷ []) o []) there.here

  checks : line_checks c path line ≡ Refuse false IsDirectory ∷ Refuse (has there.o.attributes line) Exists ∷ limit_checks (apply_line there.o.attributes line)
  checks =
      ap (λ r. parsed r (λ f. Refuse (is_directory f) IsDirectory ∷ Refuse (has (attributes_at c path) line) Exists ∷ limit_checks (apply_line (attributes_at c path) line))) found
      ∙ ap (λ set. Refuse false IsDirectory ∷ Refuse (has set line) Exists ∷ limit_checks (apply_line set line)) held

  -- by each answer in turn
  by_tests : (exists over past : Bool) → exists ≡ has there.o.attributes line → Refuse over TooLarge ∷ [] ≡ limit_checks (apply_line there.o.attributes line) → past ≡ passes_last_number (apply_all_seen (line_moves c path line) c)
      → restore_line c path line ≡ decided c (line_moves c path line) (cond exists (Some Exists) (cond over (Some TooLarge) (cond past (Some TableFull) None)))
  by_tests exists over past e o p =
      ap (λ cs. decided c (line_moves c path line) (first_refusal (cs ++ Refuse (passes_last_number (apply_all_seen (line_moves c path line) c)) TableFull ∷ []))) checks
      ∙ sym (λ i. decided c (line_moves c path line) (first_refusal (Refuse false IsDirectory ∷ Refuse (e i) Exists ∷ (o i ++ Refuse (p i) TableFull ∷ []))))

  abbrev over : Bool
  over = nat_lt 1024 (length (apply_line there.o.attributes line)) || nat_lt 65536 (text_length (apply_line there.o.attributes line))

  abbrev past : Bool
  past = passes_last_number (apply_all_seen (line_moves c path line) c)

  pub line_exists : true ≡ has there.o.attributes line → restore_line c path line ≡ Err Exists
  line_exists e = by_tests true over past e refl refl

  pub line_limited : (r : Refusal) → false ≡ has there.o.attributes line → first_refusal (limit_checks (apply_line there.o.attributes line)) ≡ Some r → restore_line c path line ≡ Err r
  line_limited r e limit = by over refl limit
    where
      by : (b : Bool) → over ≡ b → cond b (Some TooLarge) None ≡ Some r → restore_line c path line ≡ Err r
      by true is h = let same : TooLarge ≡ r = cc in by_tests false over past e refl refl ∙ ap (λ b. decided c (line_moves c path line) (cond b (Some TooLarge) (cond past (Some TableFull) None))) is ∙ ap Err same
      by false is h = absurd (let no = h in cc)

  -- no check refuses it but perhaps the last number
  pub line_last : (last : Bool) → false ≡ has there.o.attributes line → first_refusal (limit_checks (apply_line there.o.attributes line)) ≡ None → last ≡ past → restore_line c path line ≡ decided c (line_moves c path line) (cond last (Some TableFull) None)
  line_last last e limit is = by over refl limit
    where
      by : (b : Bool) → over ≡ b → cond b (Some TooLarge) None ≡ None → restore_line c path line ≡ decided c (line_moves c path line) (cond last (Some TableFull) None)
      by true o h = absurd (let no = h in cc)
      by false o h = by_tests false over last e refl is ∙ ap (λ b. decided c (line_moves c path line) (cond b (Some TooLarge) (cond last (Some TableFull) None))) o

  pub has_told : (result : Bool) (name : List ℕ) → name ≡ name_of line → IfSome (object_numbered c n) (λ o. result ≡ list_any (λ (a : Attribute). same a.name name) o.attributes) → result ≡ has there.o.attributes line
  has_told result name is told =
      subst (λ o. IfSome o (λ (o : LiveObject). result ≡ list_any (λ (a : Attribute). same a.name name) o.attributes)) there.numbered told
      ∙ ap (λ m. list_any (λ (a : Attribute). same a.name m) there.o.attributes) is

  pub alive_there : IsSome (object_numbered c n)
  alive_there = subst IsSome (sym there.numbered) refl

  pub limit_told : (r : Option Refusal) → IfSome (object_numbered c n) (λ o. first_refusal (limit_checks (apply_line o.attributes line)) ≡ r) → first_refusal (limit_checks (apply_line there.o.attributes line)) ≡ r
  limit_told r told = subst (λ o. IfSome o (λ (o : LiveObject). first_refusal (limit_checks (apply_line o.attributes line)) ≡ r)) there.numbered told

  pub limited_or : (ls : List Line) (r : Refusal) → ls ≡ line ∷ [] → false ≡ has there.o.attributes line → IfSome (object_numbered c n) (λ o. first_refusal (limit_checks (fold apply_line o.attributes ls)) ≡ Some r) ⊎ (r ≡ OutOfMemory)
      → (restore_line c path line ≡ Err r) ⊎ (r ≡ OutOfMemory)
  limited_or ls r is e (inl told) = inl (line_limited r e (limit_told (Some r) (subst (λ ls. IfSome (object_numbered c n) (λ (o : LiveObject). first_refusal (limit_checks (fold apply_line o.attributes ls)) ≡ Some r)) is told)))
  limited_or ls r is e (inr memory) = inr memory

  pub passes_told : (ls : List Line) → ls ≡ line ∷ [] → IfSome (object_numbered c n) (λ o. first_refusal (limit_checks (fold apply_line o.attributes ls)) ≡ None) → first_refusal (limit_checks (apply_line there.o.attributes line)) ≡ None
  passes_told ls is told = limit_told None (subst (λ ls. IfSome (object_numbered c n) (λ (o : LiveObject). first_refusal (limit_checks (fold apply_line o.attributes ls)) ≡ None)) is told)

  pub past_told : (d : Content) (result : Bool) → d ≡ c → result ≡ last_number_passed d 1 0 0 → result ≡ past
  past_told d result same is =
      is ∙ ap (λ d. last_number_passed d 1 0 0) same ∙ record_number c (entry_of there.o.object (Change (line ∷ [])) None) ∙ ap (λ ms. passes_last_number (apply_all_seen ms c)) (sym moves)

  pub done_told : (ls : List Line) (e : Entry) (before d : Content) → ls ≡ line ∷ [] → before ≡ c → IfSome (object_numbered c n) (λ o. e ≡ entry_of o.object (Change ls) None) → d ≡ apply_all_seen (AppendsRecord e ∷ []) before → d ≡ apply_all_seen (line_moves c path line) c
  done_told ls e before d is same told left =
      let entry : e ≡ entry_of there.o.object (Change ls) None = subst (λ o. IfSome o (λ (o : LiveObject). e ≡ entry_of o.object (Change ls) None)) there.numbered told in
      left ∙ ap (apply_all_seen (AppendsRecord e ∷ [])) same ∙ ap (λ e. apply_all_seen (AppendsRecord e ∷ []) c) (entry ∙ ap (λ ls. entry_of there.o.object (Change ls) None) is) ∙ ap (λ ms. apply_all_seen ms c) (sym moves)

-- ---- no object there

pub lost : (c : Content) (path : Path) (r : Refusal) → find_at (at c) path ≡ Err r → (line : Line) → first_refusal (line_checks c path line) ≡ Some r
lost c path r e line = ap (λ x. first_refusal (parsed x (λ f. Refuse (is_directory f) IsDirectory ∷ Refuse (has (attributes_at c path) line) Exists ∷ limit_checks (apply_line (attributes_at c path) line)))) e

pub directory_lost : (c : Content) (path : Path) (n : ℕ) → find_at (at c) path ≡ Ok (FoundDirectory n) → (line : Line) → first_refusal (line_checks c path line) ≡ Some IsDirectory
directory_lost c path n e line = ap (λ x. first_refusal (parsed x (λ f. Refuse (is_directory f) IsDirectory ∷ Refuse (has (attributes_at c path) line) Exists ∷ limit_checks (apply_line (attributes_at c path) line)))) e
