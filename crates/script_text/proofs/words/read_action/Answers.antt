use Rattle.std.proofs.Common.{◌≡◌, rules, arith}
use Rattle.std.specs.Prelude.{codes}
use Rattle.std.proofs.lemmas.Slice.Eq.{text_from_reads}
use Rattle.script_text.proofs.words.read_action.Goals as goal

pub returns-in-pollarm : goal.returns-in-pollarm
returns-in-pollarm c = let is : c.args.word.now ≡ codes "pollarm" = text_from_reads c.args.word.now (codes "pollarm") (omega arith) (search rules) in rw is

pub returns-in-tranarm : goal.returns-in-tranarm
returns-in-tranarm c = let is : c.args.word.now ≡ codes "tranarm" = text_from_reads c.args.word.now (codes "tranarm") (omega arith) (search rules) in rw is
