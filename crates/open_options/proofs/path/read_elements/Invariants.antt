use Rattle.std.proofs.Common.{◌≡◌, ◌+◌, length, true}
use Rattle.std.specs.List.{list_all}
use Rattle.std.specs.Option.{option_copied, option_map_or}
use Rattle.pps_types.specs.Bytes.{pieces}
use Rattle.open_options.specs.Elements.{elements_left, path_of, is_name_byte}
use Rattle.open_options.proofs.Elements.{walked}
use Rattle.open_options.proofs.path.read_elements.Given as goal

abbrev pub invariant-loop-rest : goal.invariant-loop-rest
invariant-loop-rest l = record {
  read : walked l.names.items (elements_left (option_copied l.rest)) ≡ path_of (pieces 47 l.text);
  bytes : list_all (list_all is_name_byte) (elements_left (option_copied l.rest)) ≡ true;
}

abbrev pub decreases-loop-rest : goal.decreases-loop-rest
decreases-loop-rest l = option_map_or (λ text. 1 + length text) (option_copied l.rest) 0
