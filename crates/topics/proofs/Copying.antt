-- Copies of handles: what stands of each, and what a handle is.
use Rattle.std.proofs.Common.{◌≡◌, ℕ, Bool, List, [], ◌∷◌, map, refl, sym, ap, subst, ◌∙◌, None}
use Rattle.std.specs.List.{AllByRecursion, AllZip}
use Rattle.pps_types.specs.History.{Entry}
use Rattle.pps_types.specs.Reading.{OpenHandle, reseen, style}
use Rattle.pps_types.specs.Rests.{Progress, Owed}
use Rattle.sub_reader.specs.declared.opening.Opening.{Opening}
use Rattle.sub_reader.specs.Opened.{opened, armed_pulse}
use Rattle.sub_reader.proofs.Alike.{armed-is, opening-is}
use Rattle.sub_reader.specs.Alike.{queue_from, row_told}
use Rattle.topics.specs.QueueRows.{QueueRow, handle_of, IsFor, IsRowOn, IsService}
use Rattle.topics.proofs.Openings.{service-is}

-- what stands of a handle
abbrev held_of : QueueRow → QueueRow
held_of x = row_told queue_from 0 x

cons_first : {X : Type 0} (x y : X) (xs ys : List X) → x ∷ xs ≡ y ∷ ys → x ≡ y
cons_first x y xs ys same = cc

cons_rest : {X : Type 0} (x y : X) (xs ys : List X) → x ∷ xs ≡ y ∷ ys → xs ≡ ys
cons_rest x y xs ys same = cc

same_head : (x y : QueueRow) (xs ys : List QueueRow) → map held_of (x ∷ xs) ≡ map held_of (y ∷ ys) → held_of x ≡ held_of y
same_head x y xs ys same = cons_first (held_of x) (held_of y) (map held_of xs) (map held_of ys) same

same_tail : (x y : QueueRow) (xs ys : List QueueRow) → map held_of (x ∷ xs) ≡ map held_of (y ∷ ys) → map held_of xs ≡ map held_of ys
same_tail x y xs ys same = cons_rest (held_of x) (held_of y) (map held_of xs) (map held_of ys) same

-- ---- what stands makes the handle

held_handle : (object : ℕ) (name : List ℕ) (x y : QueueRow) → held_of x ≡ held_of y → handle_of object name x ≡ handle_of object name y
held_handle object name x y same = ap (λ (s : QueueRow). record (reseen (λ h. Owed s.progress.owed) (opened object name s.opening)) { parked = s.parked; armed = armed_pulse s.armed }) same

pub held_handles : (object : ℕ) (name : List ℕ) (xs ys : List QueueRow) → map held_of xs ≡ map held_of ys → map (handle_of object name) xs ≡ map (handle_of object name) ys
held_handles object name [] [] same = refl
held_handles object name [] (y ∷ ys) same = cc
held_handles object name (x ∷ xs) [] same = cc
held_handles object name (x ∷ xs) (y ∷ ys) same = λ i. held_handle object name x y (same_head x y xs ys same) i ∷ held_handles object name xs ys (same_tail x y xs ys same) i

-- ---- the handle tells what stands

owed_is : (xs ys : List Entry) → Owed xs ≡ Owed ys → xs ≡ ys
owed_is xs ys same = cc

handle_held : (object : ℕ) (name : List ℕ) (x y : QueueRow) → IsRowOn object x → IsRowOn object y → handle_of object name x ≡ handle_of object name y → held_of x ≡ held_of y
handle_held object name x y is be same =
    let opening = opening-is x.opening y.opening object name (ap (λ (h : OpenHandle Progress). record (reseen (λ s. tt) h) { parked = None; armed = None }) same) in
    let limit = is.limit ∙ ap (λ (o : Opening). o.limit) opening ∙ sym be.limit in
    let owed = owed_is x.progress.owed y.progress.owed (ap (λ (h : OpenHandle Progress). h.seen) same) in
    let parked = ap (λ (h : OpenHandle Progress). h.parked) same in
    let armed = armed-is x.armed y.armed (ap (λ (h : OpenHandle Progress). h.armed) same) in
    λ i. record { opening = opening i; progress = record { limit = limit i; owed = owed i; room = 0; counters = 0 }; parked = parked i; armed = armed i }

pub handles_held : (object : ℕ) (name : List ℕ) (xs ys : List QueueRow) → AllByRecursion (IsRowOn object) xs → AllByRecursion (IsRowOn object) ys → map (handle_of object name) xs ≡ map (handle_of object name) ys → map held_of xs ≡ map held_of ys
handles_held object name [] [] all every same = refl
handles_held object name [] (y ∷ ys) all every same = cc
handles_held object name (x ∷ xs) [] all every same = cc
handles_held object name (x ∷ xs) (y ∷ ys) all every same =
    let head = handle_held object name x y all.0 every.0 (cons_first (handle_of object name x) (handle_of object name y) (map (handle_of object name) xs) (map (handle_of object name) ys) same) in
    let rest = handles_held object name xs ys all.1 every.1 (cons_rest (handle_of object name x) (handle_of object name y) (map (handle_of object name) xs) (map (handle_of object name) ys) same) in
    λ i. head i ∷ rest i

-- ---- the handles stay right

row_held : (object : ℕ) (x y : QueueRow) → held_of y ≡ held_of x → IsRowOn object x → IsRowOn object y
row_held object x y same is = record {
  kind = ap (λ (s : QueueRow). style s.opening.kind) same ∙ is.kind;
  limit = ap (λ (s : QueueRow). s.progress.limit) same ∙ is.limit ∙ sym (ap (λ (s : QueueRow). s.opening.limit) same);
  owed = subst (λ (s : QueueRow). IsFor object s.opening s.progress.owed) (sym same) is.owed;
}

held_each : (xs ys : List QueueRow) → map held_of ys ≡ map held_of xs → AllZip (λ x y. held_of y ≡ held_of x) xs ys
held_each [] [] same = tt
held_each [] (y ∷ ys) same = cc
held_each (x ∷ xs) [] same = cc
held_each (x ∷ xs) (y ∷ ys) same = (same_head y x ys xs same, held_each xs ys (same_tail y x ys xs same))

pub service_held : (object : ℕ) (led : Bool) (xs ys : List QueueRow) → map held_of ys ≡ map held_of xs → IsService object led xs → IsService object led ys
service_held object led xs ys same is =
    service-is object (λ x y. held_of y ≡ held_of x) (λ x y alike. ap (λ (s : QueueRow). s.opening) alike) (λ x y right alike. row_held object x y alike right) led xs ys is (held_each xs ys same)

pub renamed : (o p : ℕ) (n m : List ℕ) (xs : List QueueRow) (hs : List (OpenHandle Progress)) → o ≡ p → n ≡ m → map (handle_of p m) xs ≡ hs → map (handle_of o n) xs ≡ hs
renamed o p n m xs hs number name same = (λ i. map (handle_of (number i) (name i)) xs) ∙ same

-- for two of the same number and name, what stands of the handles is the same just where the handles are
pub same_services : (o p : ℕ) (n m : List ℕ) (xs ys : List QueueRow) (hs gs : List (OpenHandle Progress)) → o ≡ p → n ≡ m → AllByRecursion (IsRowOn o) xs → AllByRecursion (IsRowOn p) ys → map (handle_of o n) xs ≡ hs → map (handle_of p m) ys ≡ gs → (hs ≡ gs → map held_of xs ≡ map held_of ys) × (map held_of xs ≡ map held_of ys → hs ≡ gs)
same_services o p n m xs ys hs gs number name all every left right =
    let those : map (handle_of o n) ys ≡ gs = renamed o p n m ys gs number name right in (
      λ same. handles_held o n xs ys all (subst (λ q. AllByRecursion (IsRowOn q) ys) (sym number) every) (left ∙ same ∙ sym those),
      λ same. sym left ∙ held_handles o n xs ys same ∙ those,
    )
