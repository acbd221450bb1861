use Rattle.std.proofs.Common.{◌≡◌, true}
use Rattle.std.specs.List.{flat_map, list_all}
use Rattle.pps_types.specs.Plan as planning
use Rattle.pps_types.specs.declared.found.Found.{Found}
use Rattle.sub_reader.specs.declared.opening.Opening.{Opening}
use Rattle.open_handles.specs.Whole.{KeepsSites}
use Rattle.service_state.specs.Beginning.{moves_of, AreReady, is_keeping}
use Rattle.service_state.specs.Tables.{content_in}
use Rattle.service_state.specs.Tied.{CanOpen}
use Rattle.service_state.proofs.tables.Tables.begin_all.Given as goal

abbrev pub invariant-beginning : goal.invariant-beginning
invariant-beginning l = record {
  moved : planning.apply_all_seen (flat_map moves_of l.each-iterator.rest.items) (content_in l.self) ≡ planning.apply_all_seen (flat_map moves_of l.fn.beginning.items) (content_in l.initial.self);
  ready : AreReady l.each-iterator.rest.items l.self;
  opens : (f : Found) (o : Opening) → list_all is_keeping l.fn.beginning.items ≡ true → CanOpen f o l.initial.self → CanOpen f o l.self × (list_all is_keeping l.each-iterator.rest.items ≡ true);
  sites : list_all is_keeping l.fn.beginning.items ≡ true → KeepsSites l.initial.self.handles l.self.handles × (list_all is_keeping l.each-iterator.rest.items ≡ true);
}
