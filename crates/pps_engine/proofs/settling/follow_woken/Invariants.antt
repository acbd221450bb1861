use Rattle.std.proofs.Common.{◌≡◌, take}
use Rattle.std.specs.List.{flat_map}
use Rattle.whole_texts.specs.Followed.{moves_of}
use Rattle.service_state.specs.Tables.{content_in}
use Rattle.pps_engine.specs.Behind.{follows_numbered}
use Rattle.pps_engine.proofs.settling.follow_woken.Given as goal

abbrev pub invariant-woken : goal.invariant-woken
invariant-woken l = flat_map moves_of l.following.items ≡ flat_map (follows_numbered (content_in l.tables) l.entries l.closing) (take l.handle-index l.woken)
