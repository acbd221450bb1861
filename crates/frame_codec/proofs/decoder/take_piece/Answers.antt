use Rattle.std.proofs.Common.{ℕ, ◌+◌, List, [], ◌++◌, drop, refl, ap, sym, ◌∙◌}
use Rattle.std.proofs.lemmas.List.{take_rest, drop-drop}
use Rattle.frame_codec.proofs.Pieces.{fails_front, fails_behind, goes_on, takes_of}
use Rattle.frame_codec.proofs.decoder.take_piece.Goals as goal

pub returns-then-front-clause-ok : goal.returns-then-front-clause-ok
returns-then-front-clause-ok c =
    let held = c.gather.new.held.items in
    let front = takes_of held c.deref.result.now [] c.new-events.result.items c.take_frames.new.events.items c.in_ok-front.front
    c.deref.ensures.value c.new-events.ensures.items c.in_ok-front.ensures in
    fails_front c.args.held.now.items c.args.piece.now c.in_ok-cut.cut held c.clear.new.self.items c.take_frames.new.events.items c.in_ok-front.front
    c.in_ok-cut.ensures.ok front c.if-front.true c.clear.ensures.items

pub returns-then-behind-clause-ok : goal.returns-then-behind-clause-ok
returns-then-behind-clause-ok c =
    let held = c.gather.new.held.items in
    let front = takes_of held c.deref.result.now [] c.new-events.result.items c.take_frames.new.events.items c.in_ok-front.front
    c.deref.ensures.value c.new-events.ensures.items c.in_ok-front.ensures in
    let behind = takes_of (drop c.in_ok-cut.cut c.args.piece.now) _ c.take_frames.new.events.items c.take_frames.new.events.items
    c.take_frames-2.new.events.items c.in_ok-behind.behind (take_rest c.args.piece.now c.in_ok-cut.cut) refl c.in_ok-behind.ensures in
    fails_behind c.args.held.now.items c.args.piece.now c.in_ok-cut.cut held c.clear-then-behind.new.self.items
    c.take_frames.new.events.items c.take_frames-2.new.events.items c.in_ok-front.front c.in_ok-behind.behind
    c.in_ok-cut.ensures.ok front c.if-front.false behind c.if-behind.true c.clear-then-behind.ensures.items

pub returns-clause-ok : goal.returns-clause-ok
returns-clause-ok c =
    let held = c.gather.new.held.items in
    let piece = c.args.piece.now in
    let front = takes_of held c.deref.result.now [] c.new-events.result.items c.take_frames.new.events.items c.in_ok-front.front
    c.deref.ensures.value c.new-events.ensures.items c.in_ok-front.ensures in
    let behind = takes_of (drop c.in_ok-cut.cut piece) _ c.take_frames.new.events.items c.take_frames.new.events.items
    c.take_frames-2.new.events.items c.in_ok-behind.behind (take_rest piece c.in_ok-cut.cut) refl c.in_ok-behind.ensures in
    let at : ℕ = c.in_ok-cut.cut + c.in_ok-behind.behind.used in
    let rest = take_rest piece at ∙ sym (drop-drop c.in_ok-behind.behind.used c.in_ok-cut.cut piece) in
    let kept = c.drop_front.ensures.items
    ∙ ap (drop c.in_ok-front.front.used) (c.in_ok-extend_from_slice.ensures.items ∙ ap (λ (x : List ℕ). held ++ x) rest) in
    goes_on c.args.held.now.items piece c.in_ok-cut.cut held c.drop_front.new.items.items
    c.take_frames.new.events.items c.take_frames-2.new.events.items c.in_ok-front.front c.in_ok-behind.behind
    c.in_ok-cut.ensures.ok front c.if-front.false behind c.if-behind.false kept
