-- What a block shows.
use Rattle.std.specs.Prelude.{◌≡◌, [], ◌++◌, true, codes}
use Rattle.std.specs.Option.{option_map_or, option_to_list, ForSome}
use Rattle.std.specs.Fmt.{decimal}
use Rattle.pps_types.specs.Text.{is_header_mark}
use Rattle.pps_types.specs.Reading.{Shown}
use Rattle.pps_block.specs.Matching.{matching_in}
use Rattle.pps_block.specs.declared.block.Block.TheInside.{Inside}

abbrev pub shows : Inside → Shown
shows b = record { mark = option_to_list b.mark; suffix = option_map_or (λ id. codes "." ++ decimal id) b.client []; lines = b.given.now ++ matching_in b.filter b.more.now }

-- its mark, where it has one, is that of a header
abbrev pub IsMarked : Inside → Type 0
IsMarked b = ForSome b.mark (λ byte. is_header_mark byte ≡ true)
