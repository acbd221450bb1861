-- Sessions that are given the frames of their answers, one by one.
use Rattle.std.proofs.Common.{◌≡◌, ℕ, suc, ◌+◌, ◌<◌, ◌≤◌, List, ◌∷◌, ◌++◌, take, drop, length, map, Some, append_assoc, append-nil, add-one, refl, sym, ap, subst, ◌∙◌, arith, inl, inr}
use Rattle.std.specs.Prelude.{All, slice_index_or, slice_set}
use Rattle.std.proofs.Math.Seq.{take-length}
use Rattle.std.proofs.lemmas.Bool.{cases_eq}
use Rattle.std.proofs.lemmas.List.{drop_all, length-map, length-set, get_or-set_same, get_or-set_other, get_or_default}
use Rattle.pps_types.specs.Frame.{answer_frame}
use Rattle.pps_types.specs.Runs.{Answered}
use Rattle.pps_lock.specs.declared.book.Receipt.{Receipt}
use Rattle.pps_lock.specs.Trace.{Piece}
use Rattle.pps_dispatch.specs.Sessions.{Conversation}
use Rattle.pps_dispatch.specs.Named.{entry_named, Names}
use Rattle.pps_dispatch.specs.History.{joined, frames_of, frames_for, with_frames_of, HaveFrames, AreServedByName, AreServed}

-- ---- the frames of one session

-- one more frame is made; `whole` is what is made in the end
pub frames-next : (whole old new : List ℕ) (xs : List Answered) (k : ℕ) (x : Answered) → old ++ frames_of (drop k xs) ≡ whole
    → drop k xs ≡ x ∷ drop (suc k) xs → new ≡ old ++ answer_frame x.event.conn x.reply → new ++ frames_of (drop (k + 1) xs) ≡ whole
frames-next whole old new xs k x so_far next is =
    let frame = answer_frame x.event.conn x.reply in
    let others = frames_of (drop (suc k) xs) in
    ap (λ n. new ++ frames_of (drop n xs)) (add-one k)
    ∙ ap (λ n. n ++ others) is
    ∙ append_assoc old frame others
    ∙ ap (λ ys. old ++ frames_of ys) (sym next)
    ∙ so_far

-- all are
pub frames-end : (ps : List Piece) (names : List Receipt) (whole made : List ℕ) (xs : List Answered) (k : ℕ) → map (entry_named ps) names ≡ map Some xs
    → length names ≤ k → made ++ frames_of (drop k xs) ≡ whole → made ≡ whole
frames-end ps names whole made xs k is end so_far =
    let long : length xs ≤ k = omega (arith, end, ap length is, length-map names (entry_named ps), length-map xs Some) in
    sym (append-nil made) ∙ ap (λ ys. made ++ frames_of ys) (sym (drop_all k xs long)) ∙ so_far

-- ---- of all sessions

-- so many have their frames, and the others are as they were
pub record Framed (ps : List Piece) (olds news : List Conversation) (count : ℕ) : Type 0 where
  pub as_many : length news ≡ length olds
  pub done : (k : ℕ) (d : Conversation) → k < count → slice_index_or news k d ≡ with_frames_of ps (slice_index_or olds k d)
  pub left : (k : ℕ) (d : Conversation) → count ≤ k → slice_index_or news k d ≡ slice_index_or olds k d

pub none_framed : (ps : List Piece) (olds : List Conversation) → Framed ps olds olds 0
none_framed ps olds = record {
  as_many = refl;
  done = λ k d lt. absurd (omega (arith, lt));
  left = λ k d le. refl;
}

pub one_framed : (ps : List Piece) (olds news : List Conversation) (i : ℕ) (e a : Conversation) → Framed ps olds news i → i < length olds
    → a ≡ with_frames_of ps (slice_index_or news i e) → Framed ps olds (slice_set news i a) (i + 1)
one_framed ps olds news i e a before lt is = record {
  as_many = length-set news i a ∙ before.as_many;
  done = λ k d below. elim (cases_eq k i) [
    | inl same ↦
        let own : slice_index_or news i e ≡ slice_index_or olds k d = get_or_default news i e d (omega (arith, lt, before.as_many)) ∙ before.left i d (omega arith) ∙ ap (λ n. slice_index_or olds n d) (sym same) in
        ap (λ n. slice_index_or (slice_set news i a) n d) same ∙ get_or-set_same news i a d (omega (arith, lt, before.as_many)) ∙ is ∙ ap (with_frames_of ps) own
    | inr other ↦ get_or-set_other news i k a d other ∙ before.done k d (omega (arith, below, other))
  ];
  left = λ k d le. get_or-set_other news i k a d (λ same. omega (arith, le, same)) ∙ before.left k d (omega (arith, le));
}

pub all_framed : (ps : List Piece) (olds news : List Conversation) (i : ℕ) → Framed ps olds news i → length olds ≤ i → HaveFrames ps olds news
all_framed ps olds news i framed le = record { count = framed.as_many; each = λ k d lt. framed.done k d (omega (arith, lt, le)) }

-- the next session has the names of its entries
pub next-named : (ps : List Piece) (olds news : List Conversation) (i : ℕ) (s : Conversation) → Framed ps olds news i → All (Names ps) olds → i < length olds
    → s ≡ slice_index_or news i s → Names ps s
next-named ps olds news i s before named lt is = subst (λ (c : Conversation). Names ps c) (sym (is ∙ before.left i s (omega arith))) (named i s lt)

-- all of them are changed, where they are lent out as a slice
pub all-changed : (n : ℕ) (news olds : List Conversation) → length news ≡ length olds → n ≡ length olds → take n (news ++ drop (length news) olds) ≡ news
all-changed n news olds same count =
    ap (λ rest. take n (news ++ rest)) (drop_all (length news) olds (omega (arith, same)))
    ∙ ap (take n) (append-nil news)
    ∙ ap (λ m. take m news) (count ∙ sym same)
    ∙ take-length news

-- sessions that were served by name, with the frames of their answers, are served
pub framed_of : (ps : List Piece) (asked named framed : List Conversation) → AreServedByName ps asked named → HaveFrames ps named framed → AreServed ps asked framed
framed_of ps asked named framed served have = record {
  answered = record {
    count = have.count ∙ served.named.count;
    each = λ k d lt.
        let is = have.each k d (omega (arith, lt, served.named.count)) in
        let old = served.named.each k d lt in record {
          connection = ap (λ (s : Conversation). s.connection) is ∙ old.connection;
          asked = old.asked;
          replies = ap (λ (s : Conversation). s.replies) is ∙ ap (λ c. frames_for c (joined ps)) old.connection;
          receipts = ap (λ (s : Conversation). s.receipts) is ∙ old.receipts;
        };
  };
  messages = λ k d lt. ap (λ (s : Conversation). s.events) (have.each k d (omega (arith, lt, served.named.count))) ∙ served.messages k d lt;
}
