use Rattle.std.proofs.Common.{◌≡◌, ◌≤◌, length, drop}
use Rattle.std.specs.Prelude.{All, vec_len, vec_capacity}
use Rattle.pps_types.specs.Outcome.{IsSendable}
use Rattle.pps_engine.specs.Serving.{IsExact}
use Rattle.pps_engine.proofs.Lists.{RunsOn}
use Rattle.pps_engine.proofs.engine.Engine.run_reserved.Given as goal

abbrev pub invariant-events : goal.invariant-events
invariant-events l = record {
  runs : RunsOn l.initial.self.content l.self.content l.events (drop l.event-index l.events) l.replies.items;
  sends : All IsSendable l.replies.items;
  count : vec_len l.replies ≡ l.event-index;
  cut : IsExact l.self;
  room : length l.events ≤ vec_capacity l.replies;
}
