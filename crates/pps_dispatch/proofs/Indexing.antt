-- What an index of connections finds.
use Rattle.std.proofs.Common.{◌≡◌, ℕ, suc, ◌<◌, ◌==◌, true, false, List, [], ◌∷◌, length, sym, ap, ◌∙◌, subst, arith, inl, inr}
use Rattle.std.specs.Prelude.{◌||◌, slice_index_or, Option, Some, None, IsSome, IfSome, IfNone}
use Rattle.std.specs.Ordering.{nat_cmp}
use Rattle.std.specs.BTreeMap.{BTreeMap, get}
use Rattle.std.proofs.lemmas.Bool.{cases_Bool, true≢false}
use Rattle.std.proofs.lemmas.Bool.Decides.{nat_tests}
use Rattle.pps_dispatch.specs.Sessions.{Conversation, is_known}
use Rattle.pps_dispatch.specs.Search.{Knows}

-- a known connection is that of a session
known_place : (sessions : List Conversation) (c : ℕ) → is_known sessions c ≡ true → (k : ℕ) × (k < length sessions) × ((d : Conversation) → (slice_index_or sessions k d).connection ≡ c)
known_place [] c known = absurd (true≢false (sym known))
known_place (s ∷ ss) c known = elim (cases_Bool (s.connection == c)) [
  | inl here ↦ (0, omega arith, λ d. grind (arith, nat_tests, here))
  | inr later ↦ let rest = known_place ss c (sym (ap (λ b. b || is_known ss c) later) ∙ known) in (suc rest.0, omega (arith, rest.1), rest.2)
]

-- what is found under a connection
pub record FoundAt (sessions : List Conversation) (c : ℕ) (found : Option ℕ) : Type 0 where
  pub bound : IfSome found (λ k. k < length sessions)
  pub own : IfSome found (λ k. (d : Conversation) → (slice_index_or sessions k d).connection ≡ c)
  pub none : IfNone found (is_known sessions c ≡ false)

pub finds_session : (numbers : BTreeMap ℕ ℕ) (sessions : List Conversation) (c : ℕ) (found : Option ℕ) → Knows numbers sessions (length sessions) → found ≡ get nat_cmp numbers c
    → FoundAt sessions c found
finds_session numbers sessions c (Some k) knows is = record { bound = knows.bound c k (sym is); own = λ d. knows.own c k d (sym is); none = tt }
finds_session numbers sessions c None knows is = record {
  bound = tt;
  own = tt;
  none = elim (cases_Bool (is_known sessions c)) [
    | inl known ↦
        let at = known_place sessions c known in
        let d : Conversation = record { connection = 0; events = []; replies = []; receipts = [] } in
        absurd (true≢false (sym (subst (λ (o : Option ℕ). IsSome o) (ap (get nat_cmp numbers) (at.2 d) ∙ sym is) (knows.each at.0 d at.1))))
    | inr unknown ↦ unknown
  ];
}
