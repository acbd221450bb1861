use Rattle.std.proofs.Common.{◌≡◌, take}
use Rattle.std.specs.List.{list_all}
use Rattle.open_options.specs.Elements.{is_path_byte}
use Rattle.open_options.proofs.path.has_path_bytes.Given as goal

abbrev pub invariant-loop-byte : goal.invariant-loop-byte
invariant-loop-byte l = l.all ≡ list_all is_path_byte (take l.byte-index l.text)
