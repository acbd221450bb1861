-- Shares of a record for its object and its directory.
use Rattle.std.proofs.Common.{◌≡◌, ◌≢◌, ◌↔◌, ◌+◌, ◌-◌, ◌<◌, ℕ, Bool, true, List, [], ◌∷◌, length, Some, None, Result, Ok, Err, IsTrue, refl, sym, ap, ◌∙◌, subst, arith}
use Rattle.std.specs.Prelude.{Option, IfOk}
use Rattle.pps_types.specs.declared.found.Found.TheVariants.{Object as FoundObject, Directory as FoundDirectory}
use Rattle.pps_types.specs.History.{Entry}
use Rattle.server_queue.specs.Shared.{Shared}
use Rattle.open_handles.specs.Whole.{Whole, handles_at, share_count, AreOfOneRecord, IsShared, IsSharedAt}

-- all but the directory's are the object's
pub shares_left : (shares : Shared) (above : Option Entry) → AreOfOneRecord shares above → shares.count + share_count above - 1 ≡ shares.count
shares_left shares None one = let none : shares.count ≡ 0 = one.none in omega arith
shares_left shares (Some e) one = omega arith

-- no handle is where no share is
pub nobody : {X : Type 0} (hs : List X) (n : ℕ) → (0 < length hs → 0 < n) → n ≡ 0 → hs ≡ []
nobody [] n some none = refl
nobody (h ∷ hs) n some none = absurd (let lt = some (omega arith) in omega arith)

-- handles are there, where they are among all
pub used_there : {X : Type 0} (used : Bool) (on there : List X) → there ≡ on → (IsTrue used ↔ (on ≢ [])) → 0 < length there → used ≡ true
used_there used on there same is some = is.1 (λ none. absurd (let l : length there ≡ 0 = ap length (same ∙ none) in omega arith))

-- enough for both
pub shared_if_ok : {E : Type 0} (w : Whole) (shares : Shared) (entry : Entry) (used : Bool) → (0 < length (handles_at (FoundDirectory entry.directory) w) → used ≡ true) → shares.entry ≡ entry
    → IsSharedAt shares.count shares.entry (FoundObject shares.entry.record_of.object) w
    → (r : Result Shared E) → IfOk r (λ told. told.entry ≡ shares.entry) → IfOk r (λ told. told.count - 1 ≡ shares.count) → IfOk r (λ told. used ≡ true → 0 < told.count) → IfOk r (λ told. IsShared told.count told.entry w)
shared_if_ok w shares entry used there entry_is enough (Err error) same count some = tt
shared_if_ok w shares entry used there entry_is enough (Ok told) same count some = record {
  directory = subst (λ (e : Entry). 0 < length (handles_at (FoundDirectory e.directory) w) → 0 < told.count) (sym (same ∙ entry_is)) (λ handles. some (there handles));
  object = subst (λ n. IsSharedAt n told.entry (FoundObject told.entry.record_of.object) w) (sym count)
      (subst (λ (e : Entry). IsSharedAt shares.count e (FoundObject e.record_of.object) w) (sym same) enough);
}

-- ---- a record that is told

-- where the directory has none, none were made
pub none_made : (told shares : Shared) (above : Option Entry) → shares.count + share_count above ≡ told.count → AreOfOneRecord shares above → above ≡ None → told.count ≡ 0
none_made told shares above is one none =
    let both : AreOfOneRecord shares None = subst (AreOfOneRecord shares) none one in
    let object : shares.count ≡ 0 = both.none in
    let directory : share_count above ≡ 0 = ap share_count none in
    omega arith

-- the object's are enough for the object
pub shared_object : (w : Whole) (told shares : Shared) (object : ℕ) → shares.entry ≡ told.entry → shares.count ≡ told.count - 1 → object ≡ told.entry.record_of.object → IsShared told.count told.entry w → IsSharedAt shares.count shares.entry (FoundObject object) w
shared_object w told shares object same count at shared =
    subst (λ n. IsSharedAt shares.count shares.entry (FoundObject n) w) (sym at)
    (subst (λ (e : Entry). IsSharedAt shares.count e (FoundObject told.entry.record_of.object) w) (sym same)
    (subst (λ n. IsSharedAt n told.entry (FoundObject told.entry.record_of.object) w) (sym count) shared.object))

-- the directory's is of the record
pub same_above : (shares : Shared) (above : Option Entry) (e : Entry) → AreOfOneRecord shares above → above ≡ Some e → e ≡ shares.entry
same_above shares above e one is = let both : AreOfOneRecord shares (Some e) = subst (AreOfOneRecord shares) is one in both.same
