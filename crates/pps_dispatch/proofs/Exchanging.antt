-- Sessions that take over others' messages, one by one.
use Rattle.std.proofs.Common.{◌≡◌, ℕ, ◌+◌, ◌<◌, ◌≤◌, List, length, sym, ap, ◌∙◌, arith, inl, inr, refl}
use Rattle.std.specs.Prelude.{slice_index_or, slice_set}
use Rattle.std.proofs.lemmas.Bool.{cases_eq}
use Rattle.std.proofs.lemmas.List.{length-set, get_or-set_same, get_or-set_other, get_or_default}
use Rattle.pps_lock.specs.Trace.{Piece}
use Rattle.pps_dispatch.specs.Sessions.{Conversation}
use Rattle.pps_dispatch.specs.History.{with_messages_of, HaveMessages, AreNamed, AreServedByName}

-- so many have done so, and the others are as they were
pub record Exchanged (firsts others olds news : List Conversation) (count : ℕ) : Type 0 where
  pub as_many : length olds ≡ length firsts
  pub as_many_others : length news ≡ length others
  pub done : (k : ℕ) (d : Conversation) → k < count → slice_index_or olds k d ≡ with_messages_of (slice_index_or firsts k d) (slice_index_or others k d)
  pub left : (k : ℕ) (d : Conversation) → count ≤ k → slice_index_or olds k d ≡ slice_index_or firsts k d
  pub left_others : (k : ℕ) (d : Conversation) → count ≤ k → slice_index_or news k d ≡ slice_index_or others k d

pub none_exchanged : (firsts others : List Conversation) → Exchanged firsts others firsts others 0
none_exchanged firsts others = record {
  as_many = refl;
  as_many_others = refl;
  done = λ k d lt. absurd (omega (arith, lt));
  left = λ k d le. refl;
  left_others = λ k d le. refl;
}

pub one_exchanged : (firsts others olds news : List Conversation) (i : ℕ) (e f : Conversation) (a b : Conversation) → Exchanged firsts others olds news i → length others ≡ length firsts
    → i < length firsts → a ≡ with_messages_of (slice_index_or olds i e) (slice_index_or news i f) → Exchanged firsts others (slice_set olds i a) (slice_set news i b) (i + 1)
one_exchanged firsts others olds news i e f a b before count lt is = record {
  as_many = length-set olds i a ∙ before.as_many;
  as_many_others = length-set news i b ∙ before.as_many_others;
  done = λ k d below. elim (cases_eq k i) [
    | inl same ↦
        let own : slice_index_or olds i e ≡ slice_index_or firsts k d = get_or_default olds i e d (omega (arith, lt, before.as_many)) ∙ before.left i d (omega arith) ∙ ap (λ n. slice_index_or firsts n d) (sym same) in
        let theirs : slice_index_or news i f ≡ slice_index_or others k d = get_or_default news i f d (omega (arith, lt, before.as_many_others, count)) ∙ before.left_others i d (omega arith) ∙ ap (λ n. slice_index_or others n d) (sym same) in
        ap (λ n. slice_index_or (slice_set olds i a) n d) same ∙ get_or-set_same olds i a d (omega (arith, lt, before.as_many)) ∙ is ∙ (λ u. with_messages_of (own u) (theirs u))
    | inr other ↦ get_or-set_other olds i k a d other ∙ before.done k d (omega (arith, below, other))
  ];
  left = λ k d le. get_or-set_other olds i k a d (λ same. omega (arith, le, same)) ∙ before.left k d (omega (arith, le));
  left_others = λ k d le. get_or-set_other news i k b d (λ same. omega (arith, le, same)) ∙ before.left_others k d (omega (arith, le));
}

pub all_exchanged : (firsts others olds news : List Conversation) (i : ℕ) → Exchanged firsts others olds news i → length firsts ≤ i → HaveMessages firsts others olds
all_exchanged firsts others olds news i exchanged le = record { count = exchanged.as_many; each = λ k d lt. exchanged.done k d (omega (arith, lt, le)) }

-- what is named, with the messages that were handed in, is served
pub served_of : (ps : List Piece) (asked answered served : List Conversation) → AreNamed ps asked answered → HaveMessages answered asked served → AreServedByName ps asked served
served_of ps asked answered served named have = record {
  named = record {
    count = have.count ∙ named.count;
    each = λ k d lt.
        let is = have.each k d (omega (arith, lt, named.count)) in
        let old = named.each k d lt in record {
          connection = ap (λ (s : Conversation). s.connection) is ∙ old.connection;
          asked = old.asked;
          receipts = ap (λ (s : Conversation). s.receipts) is ∙ old.receipts;
        };
  };
  messages = λ k d lt. ap (λ (s : Conversation). s.events) (have.each k d (omega (arith, lt, named.count)));
}
