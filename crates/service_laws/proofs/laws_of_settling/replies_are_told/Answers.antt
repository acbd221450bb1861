use Rattle.service_laws.proofs.SettlingObjects.{objects-after, found-all}
use Rattle.service_laws.proofs.SettlingReplies.{late-answer, one-within}
use Rattle.service_laws.proofs.SettlingTargets.{members-all, target-all, dead-all, follows-before}
use Rattle.service_laws.proofs.laws_of_settling.replies_are_told.Goals as goal

pub returns : goal.returns
returns c = record {
  answer = late-answer;
  within = one-within;
  objects = objects-after;
  object = found-all;
  members = members-all;
  target = target-all;
  dead = dead-all;
  before = follows-before;
}
