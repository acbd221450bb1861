use Rattle.service_laws.proofs.SettlingSight.{seen_after-news, seen_after-caught_up, quiet-caught_up, news-given}
use Rattle.service_laws.proofs.laws_of_settling.seen_is_told.Goals as goal

pub returns : goal.returns
returns c = record { full = seen_after-news; caught_up = seen_after-caught_up; no_news = quiet-caught_up; wakes = news-given }
