use Rattle.script_text.proofs.Escaping.{put-front}
use Rattle.script_text.proofs.chunks.put_front.Goals as goal

pub returns-clause-text : goal.returns-clause-text
returns-clause-text c = put-front c.args.text.now c.args.bytes.now c.args.at c.args.count c.requires.room c.requires.chunk c.requires.count
