use Rattle.service_laws.proofs.Bridge.{news-same}
use Rattle.service_laws.proofs.PlainWords.{over-same, owed-same, owed_by-shown}
use Rattle.service_laws.proofs.laws.handles_are_told.Goals as goal

pub returns : goal.returns
returns c = record { news = λ h history. news-same h history h.seen; over = λ h history. over-same h history h.seen; owes = λ h history. owed-same h history h.seen; count = owed_by-shown }
