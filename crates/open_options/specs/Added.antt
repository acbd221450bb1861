-- What texts add to the options of an open.
use Rattle.std.specs.Prelude.{◌≡◌, ℕ, Bool, List, Option, Some, None, false, if◌then◌else◌}
use Rattle.pps_types.specs.Bytes.{plain_pieces}
use Rattle.pps_types.specs.OpenText as meant
use Rattle.pps_types.specs.declared.refusal.Refusal.{Refusal}
use Rattle.pps_filter.specs.Refused.{IsOptionRefusal}
use Rattle.open_options.specs.Seen.{options_seen}
use Rattle.open_options.specs.declared.options.Options.{Options}

-- all options of a text, with a plain comma between each two
abbrev pub listed_options : List ℕ → Option meant.Options
listed_options text = meant.options_from meant.no_options (plain_pieces false 44 text)

-- the new options are the old ones with what the text adds
abbrev pub Adds : (meant.Options → List ℕ → Option meant.Options) → Options → List ℕ → Options → Type 0
Adds with_text old text new = with_text (options_seen old) text ≡ Some (options_seen new)

-- the same if it can be added, and else it can't be
abbrev pub AddsIf : Bool → (meant.Options → List ℕ → Option meant.Options) → Options → List ℕ → Options → Type 0
AddsIf added with_text old text new = with_text (options_seen old) text ≡ (if added then Some (options_seen new) else None)

-- memory lacks, or the text can't be added to these options
abbrev pub IsRefusalToAdd : (meant.Options → List ℕ → Option meant.Options) → Options → List ℕ → Refusal → Type 0
IsRefusalToAdd with_text options text = IsOptionRefusal (with_text (options_seen options) text)
