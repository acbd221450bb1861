use Rattle.topics.specs.HandlesOf.{target_of, name_of, handles_of, is_service}
use Rattle.topics.proofs.Alike.{same_topic}
use Rattle.topics.proofs.topic.Topic.same_handles.Goals as goal

pub returns : goal.returns
returns c =
    let one = c.args.self.now in
    let other = c.args.other.now in (
      λ is. (c.same.ensures.0 is).3,
      λ same.
          c.same.ensures.1
          (same_topic (target_of one) (target_of other) (is_service one) (is_service other) (name_of one) (name_of other) (handles_of one) (handles_of other)
          (λ none. let yes = c.if-is_empty.ensures.1 none in cc) c.handles_are_on_it.ensures c.handles_are_on_it-2.ensures c.handles_suit.ensures.suit c.handles_suit-2.ensures.suit c.handles_suit.ensures.named c.handles_suit-2.ensures.named same),
    )
