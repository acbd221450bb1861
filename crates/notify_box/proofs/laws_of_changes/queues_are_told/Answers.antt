use Rattle.std.proofs.Common.{[]}
use Rattle.pps_types.specs.Outbox.{empty_outbox}
use Rattle.notify_box.proofs.QueuesTold.{put_told, left_told, requeue_told, kept_told}
use Rattle.notify_box.proofs.laws_of_changes.queues_are_told.Goals as goal

pub returns : goal.returns
returns c = record {
  attached = λ conn xs. put_told (record { number = conn; outbox = empty_outbox; handles = [] }) xs;
  left = left_told;
  requeued = requeue_told;
  kept = kept_told;
}
