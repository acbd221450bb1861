-- Who writes, as it is found.
use Rattle.std.proofs.Common.{◌≡◌, ◌∙◌, ◌<◌, ◌≤◌, ℕ, Bool, true, false, not, List, Option, Some, None, refl, sym, ap, subst, arith, eqb, eqb-true}
use Rattle.std.specs.Prelude.{◌&&◌, ◌==◌, nat_lt, is_none, length, option_map, IsSomeAnd}
use Rattle.std.proofs.lemmas.Bool.Decides.{nat_tests}
use Rattle.pps_types.specs.declared.event.Request.TheVariants.{Write}
use Rattle.pps_types.specs.declared.refusal.Refusal.TheVariants.{BadHandle, BadMode, TooLarge, Gone}
use Rattle.pps_types.specs.Reading.{OpenHandle, is_directory_kind}
use Rattle.pps_types.specs.Rests.{Progress}
use Rattle.pps_types.specs.Content.{LiveObject, own_handle, object_numbered, target_is_dead}
use Rattle.pps_types.specs.Checks.{first_refusal, request_checks}
use Rattle.service_laws.proofs.Finds.{find-true}
use Rattle.service_laws.specs.Bounds.{IsBound}
use Rattle.service_laws.proofs.BoundedEffects.{bound-handle}
use Rattle.name_table.specs.Standing.{known_of}
use Rattle.sub_reader.specs.Opened.{as_opened, number_of}
use Rattle.open_handles.specs.Whole.{name_at}
use Rattle.service_state.specs.Tables.{Tabled, content_in}
use Rattle.handle_requests.specs.declared.own.Own.{Own}
use Rattle.handle_requests.specs.Own.{opened_as, IsOwn}
use Rattle.handle_requests.proofs.Owns.{own_is, own_known, own_unknown}
use Rattle.handle_requests.specs.declared.writer.Writer.{Writer}
use Rattle.handle_requests.specs.Writes.{IsWriter}
use Rattle.handle_requests.proofs.Refusals.{unknown_first, early_first, mode_early, long_early, dead_early, none_early}

pub long_test : (n : ℕ) → 65536 < n → nat_lt 65536 n ≡ true
long_test n lt = grind (arith, nat_tests, lt)

pub short_test : (n : ℕ) → n ≤ 65536 → nat_lt 65536 n ≡ false
short_test n le = grind (arith, nat_tests, le)

pub within_limit : (n : ℕ) → nat_lt 65536 n ≡ false → n ≤ 65536
within_limit n short = grind (arith, nat_tests, short)

pub no_own : (t : Tabled) (conn n : ℕ) (bytes : List ℕ) → None ≡ option_map as_opened (own_handle (content_in t) conn n) → first_refusal (request_checks (content_in t) conn (Write n bytes)) ≡ Some BadHandle
no_own t conn n bytes none = unknown_first (content_in t) conn n bytes (own_unknown (own_handle (content_in t) conn n) none)

module _ (t : Tabled) (conn n : ℕ) (bytes : List ℕ) (own : Own) (is : IsOwn t conn n own) where
  abbrev found : (h : OpenHandle Progress) × ((own_handle (content_in t) conn n ≡ Some h) × (as_opened h ≡ opened_as t own))
  found = own_known (own_handle (content_in t) conn n) (opened_as t own) is

  writes_is : (b : Bool) → own.opening.now.writes ≡ b → found.0.writes ≡ b
  writes_is b mode = ap (λ (x : OpenHandle (Unit {0})). x.writes) found.1.1 ∙ mode

  target_is : found.0.target ≡ number_of own.found
  target_is = ap (λ (x : OpenHandle (Unit {0})). x.target) found.1.1

  pub mode_refused : own.opening.now.writes ≡ false → first_refusal (request_checks (content_in t) conn (Write n bytes)) ≡ Some BadMode
  mode_refused mode = early_first (content_in t) conn n bytes found.0 found.1.0 BadMode (mode_early (content_in t) bytes found.0 (writes_is false mode))

  module _ (mode : own.opening.now.writes ≡ true) where
    pub long_refused : 65536 < length bytes → first_refusal (request_checks (content_in t) conn (Write n bytes)) ≡ Some TooLarge
    long_refused lt = early_first (content_in t) conn n bytes found.0 found.1.0 TooLarge (long_early (content_in t) bytes found.0 (writes_is true mode) (long_test (length bytes) lt))

    module _ (le : length bytes ≤ 65536) (bound : IsBound (content_in t)) where
      is_plain : is_directory_kind found.0.kind ≡ false
      is_plain = by (is_directory_kind found.0.kind) (bound-handle (content_in t) found.0 (λ h. (h.number == n) && (h.connection == conn)) bound found.1.0).listens
        where
          by : (b : Bool) → (b ≡ true → found.0.writes ≡ false) → b ≡ false
          by true listens = let no : false ≡ true = sym (listens refl) ∙ writes_is true mode in absurd (let bad = no in cc)
          by false listens = refl

      dead_is : (o : Option LiveObject) → object_numbered (content_in t) (number_of own.found) ≡ o → target_is_dead (content_in t) found.0 ≡ is_none o
      dead_is o is = ap (λ b. not b && is_none (object_numbered (content_in t) found.0.target)) is_plain ∙ ap (λ m. is_none (object_numbered (content_in t) m)) target_is ∙ ap is_none is

      pub gone_refused : object_numbered (content_in t) (number_of own.found) ≡ None → first_refusal (request_checks (content_in t) conn (Write n bytes)) ≡ Some Gone
      gone_refused none = early_first (content_in t) conn n bytes found.0 found.1.0 Gone (dead_early (content_in t) bytes found.0 (writes_is true mode) (short_test (length bytes) le) (dead_is None none))

      pub writer_is : (w : Writer) → w.handle ≡ n → w.kind ≡ own.opening.now.kind → w.found ≡ own.found → object_numbered (content_in t) (number_of own.found) ≡ Some (known_of w.object.now)
          → IsSomeAnd (own_handle (content_in t) conn n) (IsWriter (content_in t) t.handles bytes w)
      writer_is w handle kind on known =
          let there : object_numbered (content_in t) found.0.target ≡ Some (known_of w.object.now) = ap (object_numbered (content_in t)) target_is ∙ known in
          let number : w.object.now.object.number ≡ found.0.target = eqb-true w.object.now.object.number found.0.target (find-true (λ (o : LiveObject). eqb o.object.number found.0.target) (content_in t).objects (known_of w.object.now) there) in
          let named : name_at w.found t.handles ≡ found.0.name = ap (λ f. name_at f t.handles) on ∙ sym (ap (λ (x : OpenHandle (Unit {0})). x.name) found.1.1) in
          let numbered : w.handle ≡ found.0.number = handle ∙ sym (own_is (content_in t).handles conn n found.0 found.1.0).0 in
          subst (λ (o : Option (OpenHandle Progress)). IsSomeAnd o (IsWriter (content_in t) t.handles bytes w)) (sym found.1.0)
          (record {
            early = none_early (content_in t) bytes found.0 (writes_is true mode) (short_test (length bytes) le) (dead_is (Some (known_of w.object.now)) known);
            author_is = λ i. record { handle = numbered i; name = named i; object = number i };
            kind = kind ∙ sym (ap (λ (x : OpenHandle (Unit {0})). x.kind) found.1.1);
            known = there;
            plain = is_plain;
          })
