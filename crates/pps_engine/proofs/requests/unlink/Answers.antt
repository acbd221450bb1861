use Rattle.std.proofs.Common.{map, refl, sym, ap, subst, ◌∙◌}
use Rattle.pps_types.specs.declared.outcome.Outcome.TheVariants.{Done}
use Rattle.pps_types.specs.Content.{Content, Directory}
use Rattle.pps_types.specs.WellFormed.{RiseBetween}
use Rattle.path_requests.specs.Removed as removed
use Rattle.pps_engine.proofs.requests.unlink.Goals.{in-Object, in-Directory}
use Rattle.pps_engine.proofs.requests.unlink.Goals as goal

pub returns-clause-ok : goal.returns-clause-ok
returns-clause-ok c = elim c.match-branch-2.branch [
  | in-Object w ↦ rw w.doing-is (record {
    passes = c.in_ok-beginning.ensures.passes;
    does = c.in_ok-beginning.ensures.does ∙ ap (λ u. (Done, removed.moves_in u)) w.in-Object.is;
    ready = subst (λ u. removed.IsReady u c.unlink.new.tables) w.in-Object.is c.in_ok-beginning.ensures.ready;
    wants = λ e. refl;
  })
  | in-Directory w ↦ rw w.doing-is (record {
    passes = c.in_ok-beginning.ensures.passes;
    does = c.in_ok-beginning.ensures.does ∙ ap (λ u. (Done, removed.moves_in u)) w.in-Directory.is;
    ready = record {
      order = subst (λ (k : Content). RiseBetween 0 (map (λ (d : Directory). d.number) k.directories) k.next_directory) (sym c.in_ok-beginning.ensures.content) c.requires.order.directories_rise;
      bare = subst (λ u. removed.IsReady u c.unlink.new.tables) w.in-Directory.is c.in_ok-beginning.ensures.ready;
    };
    wants = λ e. absurd (let bad = e in cc);
  })
]
