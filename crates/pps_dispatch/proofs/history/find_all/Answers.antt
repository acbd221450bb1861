use Rattle.pps_dispatch.proofs.Searching.{named_of, merge_of}
use Rattle.pps_dispatch.proofs.history.find_all.Goals as goal

pub returns : goal.returns
returns c =
    let finds = c.in_ok-find_segments.ensures in
    let named = named_of c.args.asked.now c.args.answered.now c.args.found.now c.find_segments.new.found c.args.segments.now finds c.requires.found c.requires.answered
    (c.are_all.ensures c.if-not-are_all.false) in
    record { merge = merge_of c.args.asked.now c.args.answered.now c.args.segments.now finds.known named; named = named }
