-- Segments that join are one trace.
use Rattle.std.proofs.Common.{ℕ, ◌+◌, List, [], ◌∷◌, ◌++◌, sym, subst}
use Rattle.std.proofs.lemmas.List.Elements.{All-nil, All-append}
use Rattle.pps_types.specs.Content.{Content}
use Rattle.pps_types.specs.Outcome.{IsSendable}
use Rattle.pps_types.specs.Runs.{Answered}
use Rattle.pps_engine.proofs.Runs.{runs-append}
use Rattle.pps_lock.specs.Trace.{Piece, Replays}
use Rattle.pps_dispatch.specs.History.{joined, Joins}

replays-append : (b c d : Content) (xs ys : List Answered) → Replays b xs c → Replays c ys d → Replays b (xs ++ ys) d
replays-append b c d xs ys first second = record {
  seen = runs-append b c d xs ys first.seen second.seen;
  sends = All-append (λ (x : Answered). IsSendable x.reply) xs ys first.sends second.sends;
}

pub joins-replay : (n : ℕ) (c d : Content) (ps : List Piece) → Joins n c ps d → Replays c (joined ps) d
joins-replay n c d [] same = record { seen = sym same; sends = All-nil (λ (x : Answered). IsSendable x.reply) }
joins-replay n c d (p ∷ ps) joins =
    let first = subst (λ (b : Content). Replays b p.entries p.end) joins.1 joins.2 in
    replays-append c p.end d p.entries (joined ps) first (joins-replay (n + 1) p.end d ps joins.3)
