use Rattle.service_laws.proofs.SettlingEvents.{effect-quiet}
use Rattle.service_laws.proofs.SettlingFew.{effect-few}
use Rattle.service_laws.proofs.SettlingLookups.{first-record}
use Rattle.service_laws.proofs.SettlingPlans.{effect-numbered, effect-free, event-settled, event-planned, event-silent, last-number, step-handles}
use Rattle.service_laws.proofs.laws_of_settling.events_are_settled.Goals as goal

pub returns : goal.returns
returns c = record {
  numbered = effect-numbered;
  quiet = effect-quiet;
  free = effect-free;
  few = effect-few;
  settled = event-settled;
  planned = event-planned;
  silent = event-silent;
  looked_up = first-record;
  numbers = last-number;
  handles = step-handles;
}
