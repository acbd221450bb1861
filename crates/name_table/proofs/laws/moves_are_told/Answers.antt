use Rattle.std.proofs.Common.{refl}
use Rattle.name_table.proofs.laws.moves_are_told.Goals as goal

pub returns : goal.returns
returns c = record {
  created = λ o c. refl;
  happened = λ e c. refl;
  made = λ p c. refl;
  removed = λ n c. refl;
  put = λ s c. refl;
  kept = λ c. refl;
}
