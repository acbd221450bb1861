use Rattle.std.proofs.Common.{◌≡◌, ◌<◌, ◌∙◌, true, length, subst}
use Rattle.std.specs.Prelude.{filter}
use Rattle.pps_types.specs.declared.found.Found.TheVariants.{Directory as FoundDirectory}
use Rattle.open_handles.specs.Whole.{handles_at, handles_in, is_on}
use Rattle.open_handles.proofs.Shares.{shared_if_ok, used_there}
use Rattle.open_handles.proofs.handles.Handles.shares.Goals as goal

pub returns-clause-enough : goal.returns-clause-enough
returns-clause-enough c =
    shared_if_ok c.args.self.now c.in_ok-for_object.for_object c.args.entry c.has_handles-is_used.result
    (subst (λ n. 0 < length (handles_at (FoundDirectory n) c.args.self.now) → c.has_handles-is_used.result ≡ true) (c.new.ensures ∙ c.directory.ensures)
    (used_there c.has_handles-is_used.result (filter (is_on (FoundDirectory c.new.result)) (handles_in c.args.self.now)) (handles_at (FoundDirectory c.new.result) c.args.self.now) (c.handles_are_placed.ensures.placed (FoundDirectory c.new.result)) c.has_handles-is_used.ensures))
    c.in_ok-for_object.ensures.entry c.in_ok-for_object.ensures.enough c.new-2.result c.new-2.ensures.entry c.new-2.ensures.object c.new-2.ensures.directory
