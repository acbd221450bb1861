use Rattle.std.proofs.Common.{ℕ, Result, Ok, Err, IfOk, IfErr, List, ◌≡◌, ◌==◌, sym, ◌∙◌}
use Rattle.std.specs.Result.{is_ok}
use Rattle.std.specs.List.{list_any}
use Rattle.pps_types.specs.Rising.{IsPlaceOf, IsGapFor}
use Rattle.pps_types.proofs.RisingEdits.{any_gap, any_place}
use Rattle.notify_box.proofs.rising.has.Goals as goal

told : {X : Type 0} (number : X → ℕ) (n : ℕ) (xs : List X) (r : Result ℕ ℕ) → IfOk r (IsPlaceOf number xs n) → IfErr r (IsGapFor number xs n) → is_ok r ≡ list_any (λ e. number e == n) xs
told number n xs (Ok i) place _ = sym (any_place number n xs i place)
told number n xs (Err i) _ gap = sym (any_gap number n xs i gap)

pub returns : goal.returns
returns g c = c.is_ok.ensures.value ∙ told g.T.Numbered.number_of _ _ c.search.result c.search.ensures.found c.search.ensures.absent
