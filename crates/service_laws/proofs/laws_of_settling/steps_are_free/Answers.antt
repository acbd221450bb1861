use Rattle.service_laws.proofs.SettlingSteps.{answer-stays, in-turn, others-left}
use Rattle.service_laws.proofs.SettlingQueues.{queue-after, follows-keeps, follows-counts, follows-elsewhere}
use Rattle.service_laws.proofs.SettlingLookups.{woken-among, concerned-merged, one-record, two-records}
use Rattle.service_laws.proofs.laws_of_settling.steps_are_free.Goals as goal

pub returns : goal.returns
returns c = record {
  answers = answer-stays;
  in_turn = in-turn;
  others = others-left;
  queues = queue-after;
  keeps = follows-keeps;
  counts = follows-counts;
  elsewhere = follows-elsewhere;
  among = woken-among;
  looked_up = λ es c r. concerned-merged es 0 c.next_handle c.handles r;
  one_record = one-record;
  two_records = two-records;
}
