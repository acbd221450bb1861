use Rattle.service_state.proofs.Copied.{copied_content, same_parts}
use Rattle.service_state.proofs.tables.Tables.same.Goals as goal

pub returns : goal.returns
returns c =
    let one = c.args.self.now in
    let other = c.args.other.now in (
      λ is.
          let parts = c.has_same_parts.ensures.0 is in
          copied_content other one parts.0 parts.1 parts.2 parts.3.0 parts.3.1 parts.4,
      λ same. c.has_same_parts.ensures.1 (same_parts one other c.are_tied.ensures c.are_tied-2.ensures same),
    )
