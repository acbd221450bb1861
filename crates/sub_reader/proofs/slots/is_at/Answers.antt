use Rattle.std.proofs.Common.{sym, ◌∙◌}
use Rattle.std.proofs.lemmas.Bool.{eqb-true}
use Rattle.sub_reader.specs.Rows.{number_at}
use Rattle.sub_reader.proofs.Guesses.{place-at}
use Rattle.sub_reader.proofs.slots.is_at.Goals as goal

pub returns-clause-found : goal.returns-clause-found
returns-clause-found g c is =
    place-at number_at c.args.slots.now c.args.number c.args.place c.index-slots-place.result c.requires c.if-place-slots.false (sym c.index-slots-place.is) (sym c.number_at.ensures ∙ eqb-true c.number_at.result c.args.number is)
