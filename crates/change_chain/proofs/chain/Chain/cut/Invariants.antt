use Rattle.std.proofs.Common.{◌-◌, ◌+◌, ◌≡◌, ◌≤◌, drop}
use Rattle.std.specs.VecDeque.{deque_capacity, deque_len}
use Rattle.change_chain.proofs.chain.Chain.cut.Given as goal

-- what is left is what was there from the position reached on, and room grew by what is dropped
abbrev pub invariant-loop-self : goal.invariant-loop-self
invariant-loop-self g l =
    (l.fn.self.start ≤ l.self-inside.start)
    × (l.self-inside.start ≤ l.to)
    × (l.self-inside.items.items ≡ drop (l.self-inside.start - l.fn.self.start) l.fn.self.items)
    × (deque_capacity l.self-inside.items - deque_len l.self-inside.items ≡ l.fn.self.room + (l.self-inside.start - l.fn.self.start))

abbrev pub decreases-loop-self : goal.decreases-loop-self
decreases-loop-self g l = l.to - l.self-inside.start
