use Rattle.std.proofs.Common.{◌≡◌}
use Rattle.std.specs.List.{flat_map}
use Rattle.pps_types.specs.Plan as planning
use Rattle.whole_texts.specs.Followed.{moves_of}
use Rattle.service_state.specs.Tables.{content_in}
use Rattle.service_state.specs.Following.{CanFollowAll}
use Rattle.service_state.proofs.tables.Tables.follow_all.Given as goal

abbrev pub invariant-following : goal.invariant-following
invariant-following l = record {
  moved : planning.apply_all_seen (flat_map moves_of l.each-iterator.rest.items) (content_in l.self) ≡ planning.apply_all_seen (flat_map moves_of l.fn.following.items) (content_in l.initial.self);
  able : CanFollowAll (content_in l.self) l.each-iterator.rest.items;
}
