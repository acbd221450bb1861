-- The options that a handle keeps are what is seen of them.
use Rattle.std.proofs.Common.{◌≡◌}
use Rattle.open_options.specs.declared.options.HandleOptions.{HandleOptions}
use Rattle.open_options.specs.Seen.{handle_options_seen}

pub handle_options-is : (one other : HandleOptions) → handle_options_seen one ≡ handle_options_seen other → one ≡ other
handle_options-is one other same = λ i. record {
  wait = (same i).wait;
  reflect = (same i).reflect;
  critical = (same i).critical;
  filter = (same i).filter;
}
