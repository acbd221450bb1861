use Rattle.std.proofs.Common.{◌≡◌, rules, arith}
use Rattle.std.specs.Prelude.{codes}
use Rattle.std.proofs.lemmas.Slice.Eq.{text_from_reads}
use Rattle.script_text.proofs.commands.read_alone.Goals as goal

pub returns-in-attach-clause-reads : goal.returns-in-attach-clause-reads
returns-in-attach-clause-reads c = let is : c.args.word.now ≡ codes "attach" = text_from_reads c.args.word.now (codes "attach") (omega arith) (search rules) in rw is

pub returns-in-detach-clause-reads : goal.returns-in-detach-clause-reads
returns-in-detach-clause-reads c = let is : c.args.word.now ≡ codes "detach" = text_from_reads c.args.word.now (codes "detach") (omega arith) (search rules) in rw is

pub returns-in-receive-clause-reads : goal.returns-in-receive-clause-reads
returns-in-receive-clause-reads c = let is : c.args.word.now ≡ codes "receive" = text_from_reads c.args.word.now (codes "receive") (omega arith) (search rules) in rw is
