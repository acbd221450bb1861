-- Taking the backslashes out of a value.
use Rattle.std.proofs.Common.{◌≡◌, ℕ, ◌+◌, ◌<◌, ◌≤◌, Bool, true, false, List, [], ◌∷◌, length, get_or, drop, Option, Some, None, refl, sym, ap, ◌∙◌}
use Rattle.std.specs.Prelude.{◌==◌, not, ◌&&◌, is_none, option_map}
use Rattle.std.proofs.lemmas.List.{append-nil, at_drop_more, at_drop_all}
use Rattle.pps_types.specs.Bytes.{unescaped}
use Rattle.pps_filter.proofs.Before.{before}

unescaped-backslash : (escaped : Bool) (b : ℕ) (bs : List ℕ) → (not escaped && b == 92) ≡ true → unescaped escaped (b ∷ bs) ≡ unescaped true bs
unescaped-backslash true b bs h = absurd (cc)
unescaped-backslash false b bs h = rw h

unescaped-byte : (escaped : Bool) (b : ℕ) (bs : List ℕ) → (not escaped && b == 92) ≡ false → unescaped escaped (b ∷ bs) ≡ option_map (λ rest. b ∷ rest) (unescaped false bs)
unescaped-byte true b bs h = refl
unescaped-byte false b bs h = rw h

is_none-map : (b : ℕ) (o : Option (List ℕ)) → is_none (option_map (λ rest. b ∷ rest) o) ≡ is_none o
is_none-map b None = refl
is_none-map b (Some x) = refl

is_none-unescaped : (escaped next : Bool) (b : ℕ) (bs : List ℕ) → (not escaped && b == 92) ≡ next → is_none (unescaped escaped (b ∷ bs)) ≡ is_none (unescaped next bs)
is_none-unescaped escaped true b bs h = ap is_none (unescaped-backslash escaped b bs h)
is_none-unescaped escaped false b bs h = ap is_none (unescaped-byte escaped b bs h) ∙ is_none-map b (unescaped false bs)

-- one byte on, where only the end is asked for
pub open-step : (escaped next : Bool) (bs : List ℕ) (i : ℕ) → i < length bs → next ≡ (not escaped && get_or bs i 0 == 92) → is_none (unescaped escaped (drop i bs)) ≡ is_none (unescaped next (drop (i + 1) bs))
open-step escaped next bs i within is =
    at_drop_more (λ rest. is_none (unescaped escaped rest)) bs i 0 within
    ∙ is_none-unescaped escaped next (get_or bs i 0) (drop (i + 1) bs) (sym is)

value-end : (escaped : Bool) (xs : List ℕ) (o : Option (List ℕ)) → before xs (unescaped escaped []) ≡ o → is_none o ≡ false → o ≡ Some xs
value-end true xs o e some = let none : is_none o ≡ true = sym (ap is_none e) in absurd (cc)
value-end false xs o e some = sym e ∙ ap Some (append-nil xs)

-- behind all bytes of a value that does not end open
pub value-all : (escaped : Bool) (xs bs : List ℕ) (i : ℕ) → length bs ≤ i → before xs (unescaped escaped (drop i bs)) ≡ unescaped false bs → is_none (unescaped false bs) ≡ false → unescaped false bs ≡ Some xs
value-all escaped xs bs i past rest closed =
    value-end escaped xs (unescaped false bs) (sym (at_drop_all (λ left. before xs (unescaped escaped left)) bs i past) ∙ rest) closed
