use Rattle.std.proofs.Common.{◌≡◌, ◌<◌, ◌∙◌, List, true, length, sym, ap, subst}
use Rattle.std.specs.Prelude.{filter}
use Rattle.pps_types.specs.declared.found.Found.TheVariants.{Directory as FoundDirectory}
use Rattle.pps_types.specs.Reading.{OpenHandle}
use Rattle.pps_types.specs.Rests.{Progress}
use Rattle.open_handles.specs.Whole.{handles_at, is_on}
use Rattle.open_handles.proofs.Shares.{shared_if_ok}
use Rattle.open_handles.proofs.handles.Handles.tell_ready.Goals as goal

pub returns-clause-enough : goal.returns-clause-enough
returns-clause-enough c =
    shared_if_ok c.shares_ready.new.self c.in_ok-for_object.for_object c.args.entry c.in_ok-is_used.is_used
    (subst (λ n. 0 < length (handles_at (FoundDirectory n) c.shares_ready.new.self) → c.in_ok-is_used.is_used ≡ true) (c.new.ensures ∙ c.directory.ensures)
    (λ some. c.in_ok-is_used.ensures.used.1 (subst (λ (hs : List (OpenHandle Progress)). 0 < length hs) (c.handles_are_placed-2.ensures.placed (FoundDirectory c.new.result) ∙ ap (filter (is_on (FoundDirectory c.new.result))) c.shares_ready.ensures.reserved.handles ∙ sym (c.handles_are_placed.ensures.placed (FoundDirectory c.new.result))) some)))
    c.in_ok-for_object.ensures.entry c.in_ok-for_object.ensures.enough c.new-2.result c.new-2.ensures.entry c.new-2.ensures.object c.new-2.ensures.directory
