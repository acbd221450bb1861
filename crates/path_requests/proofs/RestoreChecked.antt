-- Places that are free.
use Rattle.std.specs.Prelude.{◌≡◌, ◌+◌, ◌-◌, ◌^◌, ◌||◌, ◌++◌, ◌∷◌, [], List, Bool, true, false, nat_lt, Option, Some, None, is_some, Result, Ok, Err}
use Rattle.std.proofs.Common.{refl, ap, cond, arith}
use Rattle.pps_types.specs.declared.refusal.Refusal.{Refusal}
use Rattle.pps_types.specs.declared.refusal.Refusal.TheVariants.{Exists, TableFull}
use Rattle.pps_types.specs.declared.found.Found.{Found}
use Rattle.pps_types.specs.Bytes.{◌>>=◌}
use Rattle.pps_types.specs.Names.{Path, place, new_refusal, refusal_of}
use Rattle.pps_types.specs.Content.{Content, at}
use Rattle.pps_types.specs.History.{Entry}
use Rattle.pps_types.specs.Checks.{Check, Refuse, Memory, first_refusal}
use Rattle.pps_types.specs.Plan.{Move, AppendsRecord, apply_all_seen, passes_last_number}
use Rattle.pps_types.specs.Restore.{decided, restored_by}
use Rattle.service_laws.specs.SettlingTargets.{last_number_passed}

pub place_free : (c : Content) (path : Path) → new_refusal (at c) path ≡ None → place (at c) path ≡ Ok None
place_free c path none = by (place (at c) path) refl none
  where
    by : (r : Result (Option Found) Refusal) → place (at c) path ≡ r → refusal_of (r >>= (λ (found : Option Found). cond (is_some found) (Err Exists) (Ok found))) ≡ None → place (at c) path ≡ Ok None
    by (Err r) e h = absurd (let no = h in cc)
    by (Ok None) e h = e
    by (Ok (Some found)) e h = absurd (let no = h in cc)

-- ---- refused by a check

behind_some : (xs ys : List Check) (r : Refusal) → first_refusal xs ≡ Some r → first_refusal (xs ++ ys) ≡ Some r
behind_some [] ys r e = absurd (let bad = e in cc)
behind_some (Memory ∷ xs) ys r e = behind_some xs ys r e
behind_some (Refuse b s ∷ xs) ys r e = by b e (behind_some xs ys r)
  where
    by : (b : Bool) → cond b (Some s) (first_refusal xs) ≡ Some r → (first_refusal xs ≡ Some r → first_refusal (xs ++ ys) ≡ Some r) → cond b (Some s) (first_refusal (xs ++ ys)) ≡ Some r
    by true e rest = e
    by false e rest = rest e

pub refused_by : (c : Content) (moves : List Move) (checks : List Check) (r : Refusal) → first_refusal checks ≡ Some r → restored_by c moves checks ≡ Err r
refused_by c moves checks r e = ap (decided c moves) (behind_some checks (Refuse (passes_last_number (apply_all_seen moves c)) TableFull ∷ []) r e)

pub record_number : (c : Content) (e : Entry) → last_number_passed c 1 0 0 ≡ passes_last_number (apply_all_seen (AppendsRecord e ∷ []) c)
record_number c e =
    let objects : c.next_object + 0 ≡ c.next_object = omega arith in
    let directories : c.next_directory + 0 ≡ c.next_directory = omega arith in
    λ i. nat_lt (2 ^ 64 - 1) (c.records + 1) || nat_lt (2 ^ 64 - 1) (objects i) || nat_lt (2 ^ 64 - 1) (directories i)
