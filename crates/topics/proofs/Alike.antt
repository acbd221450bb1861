-- Handles tell what they are on.
use Rattle.std.proofs.Common.{◌≡◌, ℕ, Bool, List, [], ◌∷◌, refl, sym, ◌∙◌, subst}
use Rattle.std.specs.List.{AllByRecursion}
use Rattle.pps_types.specs.declared.found.Found.{Found}
use Rattle.pps_types.specs.declared.found.Found.TheVariants.{Object as FoundObject, Directory as FoundDirectory}
use Rattle.pps_types.specs.Reading.{OpenHandle, style}
use Rattle.pps_types.specs.Rests.{Progress}
use Rattle.sub_reader.specs.Opened.{is_directory, number_of, is_queue_style}
use Rattle.sub_reader.specs.HandlesOf.{AreOn}

found_is : (f g : Found) → is_directory f ≡ is_directory g → number_of f ≡ number_of g → f ≡ g
found_is (FoundObject m) (FoundObject n) flag number = λ i. FoundObject (number i)
found_is (FoundObject m) (FoundDirectory n) flag number = absurd cc
found_is (FoundDirectory m) (FoundObject n) flag number = absurd cc
found_is (FoundDirectory m) (FoundDirectory n) flag number = λ i. FoundDirectory (number i)

-- where a handle is on both, both are the same
module _ (f g : Found) (a b : Bool) (m n : List ℕ) where
  same_on : (hs : List (OpenHandle Progress)) → (hs ≡ [] → ⊥) → AreOn (is_directory f) (number_of f) hs → AreOn (is_directory g) (number_of g) hs
      → AllByRecursion (λ (h : OpenHandle Progress). is_queue_style (style h.kind) ≡ a) hs → AllByRecursion (λ (h : OpenHandle Progress). is_queue_style (style h.kind) ≡ b) hs
      → AllByRecursion (λ (h : OpenHandle Progress). h.name ≡ m) hs → AllByRecursion (λ (h : OpenHandle Progress). h.name ≡ n) hs
      → (f ≡ g) × (a ≡ b) × (m ≡ n)
  same_on [] some one other suits_one suits_other named_one named_other = absurd (some refl)
  same_on (h ∷ hs) some one other suits_one suits_other named_one named_other = (
    found_is f g (sym one.each.0.flag ∙ other.each.0.flag) (sym one.each.0.on ∙ other.each.0.on),
    sym suits_one.0 ∙ suits_other.0,
    sym named_one.0 ∙ named_other.0,
  )

  pub same_topic : (hs ks : List (OpenHandle Progress)) → (hs ≡ [] → ⊥) → AreOn (is_directory f) (number_of f) hs → AreOn (is_directory g) (number_of g) ks
      → AllByRecursion (λ (h : OpenHandle Progress). is_queue_style (style h.kind) ≡ a) hs → AllByRecursion (λ (h : OpenHandle Progress). is_queue_style (style h.kind) ≡ b) ks
      → AllByRecursion (λ (h : OpenHandle Progress). h.name ≡ m) hs → AllByRecursion (λ (h : OpenHandle Progress). h.name ≡ n) ks
      → hs ≡ ks → (f ≡ g) × (a ≡ b) × (m ≡ n) × (hs ≡ ks)
  same_topic hs ks some one other suits_one suits_other named_one named_other same =
      let both = same_on hs some one (subst (AreOn (is_directory g) (number_of g)) (sym same) other)
      suits_one (subst (AllByRecursion (λ (h : OpenHandle Progress). is_queue_style (style h.kind) ≡ b)) (sym same) suits_other)
      named_one (subst (AllByRecursion (λ (h : OpenHandle Progress). h.name ≡ n)) (sym same) named_other) in
      (both.0, both.1, both.2, same)
