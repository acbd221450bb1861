use Rattle.std.proofs.Common.{ap, subst, ◌∙◌}
use Rattle.pps_types.specs.declared.found.Found.TheVariants.{Object as FoundObject, Directory as FoundDirectory}
use Rattle.pps_types.specs.declared.record.Record.{Record}
use Rattle.open_handles.specs.Whole.{IsReadyAt}
use Rattle.open_handles.proofs.Reserves.{reserved_then}
use Rattle.open_handles.proofs.handles.Handles.reserve_for.Goals as goal

pub returns-clause-reserved : goal.returns-clause-reserved
returns-clause-reserved c = reserved_then c.args.self.now c.reserve_at.new.self c.reserve_at-2.new.self c.reserve_at.ensures.reserved c.reserve_at-2.ensures.reserved

pub returns-clause-ready : goal.returns-clause-ready
returns-clause-ready c = record {
  object = subst (λ n. IsReadyAt c.args.entries.now (FoundObject n) c.reserve_at-2.new.self) (ap (λ (r : Record). r.object) c.record.ensures)
      (c.reserve_at-2.ensures.reserved.ready c.args.entries.now (FoundObject c.record.result.now.object) c.in_ok-reserve_at.ensures.ready);
  directory = subst (λ n. IsReadyAt c.args.entries.now (FoundDirectory n) c.reserve_at-2.new.self) (c.new.ensures ∙ c.directory.ensures) c.in_ok-reserve_at-2.ensures.ready;
}

pub returns-in_err-reserve_at-2-clause-reserved : goal.returns-in_err-reserve_at-2-clause-reserved
returns-in_err-reserve_at-2-clause-reserved c = reserved_then c.args.self.now c.reserve_at.new.self c.reserve_at-2.new.self c.reserve_at.ensures.reserved c.reserve_at-2.ensures.reserved
