use Rattle.std.proofs.Common.{◌≡◌, rules, arith}
use Rattle.std.specs.Prelude.{codes}
use Rattle.std.proofs.lemmas.Slice.Eq.{text_from_reads}
use Rattle.script_text.proofs.commands.read_word.Goals as goal

pub returns-in-unlink : goal.returns-in-unlink
returns-in-unlink c = let is : c.args.word.now ≡ codes "unlink" = text_from_reads c.args.word.now (codes "unlink") (omega arith) (search rules) in rw is

pub returns-in-notify : goal.returns-in-notify
returns-in-notify c = let is : c.args.word.now ≡ codes "notify" = text_from_reads c.args.word.now (codes "notify") (omega arith) (search rules) in rw is
