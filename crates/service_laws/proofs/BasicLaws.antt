-- The basic laws: events are decided by their checks, and debts grow with the history.
use Rattle.std.proofs.Common.{◌≡◌, ◌-◌, [], ◌∷◌, drop, Option, Some, None, Err, refl, ap, ◌∙◌}
use Rattle.std.specs.Prelude.{filter}
use Rattle.std.proofs.lemmas.List.{drop-append-le}
use Rattle.std.proofs.lemmas.List.Elements.{filter-append}
use Rattle.pps_types.specs.declared.refusal.Refusal.{Refusal}
use Rattle.pps_types.specs.Reading.{visible}
use Rattle.pps_types.specs.Checks.{first_refusal}
use Rattle.pps_types.specs.Plan.{all_checks_of, effect, plan, decided}
use Rattle.pps_types.specs.Machine.{content_of, step, apply_all}
use Rattle.service_laws.specs.Laws.{StepsAreDecided, RefusalsKeep, DebtsGrow}

pub steps-decided : StepsAreDecided
unfolding step plan
steps-decided = record {
  refused = λ m e r is. ap (λ o. let p = decided (content_of m) (effect (content_of m) e.conn e.request) o in (p.0, apply_all p.1 m)) is;
  accepted = λ m e is. ap (λ o. let p = decided (content_of m) (effect (content_of m) e.conn e.request) o in (p.0, apply_all p.1 m)) is;
}

pub refusals-keep : RefusalsKeep
unfolding step plan
refusals-keep m e r = by (first_refusal (all_checks_of (content_of m) e))
  where
    by : (o : Option Refusal) → (decided (content_of m) (effect (content_of m) e.conn e.request) o).0 ≡ Err r → apply_all (decided (content_of m) (effect (content_of m) e.conn e.request) o).1 m ≡ m
    by (Some s) is = refl
    by None is = absurd cc

pub debts-grow : DebtsGrow
debts-grow = record {
  record_more = λ h history e cursor within. ap (filter (visible h)) (drop-append-le cursor history (e ∷ []) within) ∙ filter-append (visible h) (drop cursor history) (e ∷ []);
  no_cursor = λ h history. refl;
}
