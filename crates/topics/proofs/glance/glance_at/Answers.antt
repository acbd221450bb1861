use Rattle.std.proofs.Common.{◌∙◌, sym, ap, length, Some, false}
use Rattle.pps_types.specs.Reading.{visible}
use Rattle.sub_reader.specs.Opened.{opened}
use Rattle.topics.specs.QueueRows.{handle_of}
use Rattle.topics.proofs.Seen.{all-kept}
use Rattle.topics.proofs.glance.glance_at.Goals as goal

pub returns : goal.returns
returns c object name right =
    let x = c.args.row.now in
    let owed = ap Some (c.owed_count-owed.ensures ∙ ap length (sym (all-kept (visible (handle_of object name x)) x.progress.owed right.owed))) in
    λ i. record { opening = opened object name x.opening; parked = x.parked; armed = c.is_armed.ensures i; news = c.news.ensures i; over = false; owed = owed i }
