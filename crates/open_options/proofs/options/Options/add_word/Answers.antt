use Rattle.std.proofs.Common.{◌≡◌, rules, arith}
use Rattle.std.specs.Prelude.{codes}
use Rattle.std.proofs.lemmas.Slice.Eq.{text_from_reads}
use Rattle.open_options.proofs.options.Options.add_word.Goals as goal

pub returns-in-delta : goal.returns-in-delta
returns-in-delta c = let is : c.args.text.now ≡ codes "delta" = text_from_reads c.args.text.now (codes "delta") (omega arith) (search rules) in rw is

pub returns-in-deltadir : goal.returns-in-deltadir
returns-in-deltadir c = let is : c.args.text.now ≡ codes "deltadir" = text_from_reads c.args.text.now (codes "deltadir") (omega arith) (search rules) in rw is

pub returns-in-nopersist : goal.returns-in-nopersist
returns-in-nopersist c = let is : c.args.text.now ≡ codes "nopersist" = text_from_reads c.args.text.now (codes "nopersist") (omega arith) (search rules) in rw is

pub returns-in-reflect : goal.returns-in-reflect
returns-in-reflect c = let is : c.args.text.now ≡ codes "reflect" = text_from_reads c.args.text.now (codes "reflect") (omega arith) (search rules) in rw is

pub returns-in-server : goal.returns-in-server
returns-in-server c = let is : c.args.text.now ≡ codes "server" = text_from_reads c.args.text.now (codes "server") (omega arith) (search rules) in rw is

pub returns-in-critical : goal.returns-in-critical
returns-in-critical c = let is : c.args.text.now ≡ codes "critical" = text_from_reads c.args.text.now (codes "critical") (omega arith) (search rules) in rw is
