use Rattle.std.proofs.Common.{◌≡◌, ◌≤◌, ◌-◌, length, drop}
use Rattle.std.specs.List.{All}
use Rattle.pps_types.specs.Frame.{HasFrame, stream_of}
use Rattle.frame_codec.proofs.decoder.take_frames.Given as goal

abbrev pub invariant-frames : goal.invariant-frames
invariant-frames l = record {
  within : l.used ≤ length l.bytes;
  stream : stream_of l.initial.events.items l.bytes ≡ stream_of l.events.items (drop l.used l.bytes);
  each : All HasFrame l.initial.events.items → All HasFrame l.events.items;
}

abbrev pub decreases-frames : goal.decreases-frames
decreases-frames l = length l.bytes - l.used
