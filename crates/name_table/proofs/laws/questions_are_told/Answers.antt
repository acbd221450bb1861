use Rattle.name_table.proofs.Alone.{at_alone, object_alone}
use Rattle.name_table.proofs.laws.questions_are_told.Goals as goal

pub returns : goal.returns
returns c = record {
  at = λ c i p. at_alone c p i;
  object_at = λ c i p. object_alone c p i;
}
