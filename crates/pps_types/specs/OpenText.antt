-- The text of an open: a path, and options behind `?`. And the text of a path alone.
-- QNX PPS guide, on pathname open options; `.all` in delta mode, `deltadir`, `limit=`, `critical` and which bytes names have are our own.
use Rattle.std.specs.Prelude.{ℕ, List, [], ◌∷◌, Bool, true, false, not, ◌&&◌, ◌||◌, ◌==◌, nat_le, if◌then◌else◌, Option, Some, None, is_some, unwrap_or, option_map, option_and_then, ok_or, Result, Ok, length, codes}
use Rattle.std.specs.List.{list_all, list_any}
use Rattle.std.specs.Option.{option_map_or}
use Rattle.pps_types.specs.declared.refusal.Refusal.{Refusal}
use Rattle.pps_types.specs.declared.refusal.Refusal.TheVariants.{BadPath, BadOption}
use Rattle.pps_types.specs.Bytes.{same, is_empty, is_between, starts_with, number_up_to, after_prefix, split_at_first, pieces, plain_pieces, ◌>>=◌}
use Rattle.pps_types.specs.Filter.{Part, parts_of}
use Rattle.pps_types.specs.Names.{Name, Path}

-- ---- paths

-- 1 to 255 visible bytes other than `/` and `?`, the first not `.`
abbrev pub is_path_name : Name → Bool
is_path_name bs = not (is_empty bs) && nat_le (length bs) 255 && list_all (λ b. is_between 33 126 b && not (b == 47) && not (b == 63)) bs && not (starts_with 46 bs)

-- the elements of a path, each behind a `/`; `/` alone has none
abbrev pub elements_of : List ℕ → Option (List Name)
elements_of path = option_map (λ rest. if is_empty rest then [] else pieces 47 rest) (after_prefix (codes "/") path)

-- at most 32 names
abbrev pub are_names : Path → Bool
are_names names = nat_le (length names) 32 && list_all is_path_name names

abbrev pub names_if : Path → Option Path
names_if names = if are_names names then Some names else None

-- a path of at most 1,024 bytes
abbrev pub path_text : List ℕ → Option Path
path_text path = if nat_le (length path) 1024 then option_and_then names_if (elements_of path) else None

-- the names before a last element `.all`, where that is the last
abbrev pub before_all : List Name → Option Path
before_all [] = None
before_all (e ∷ []) = if same e (codes ".all") then Some [] else None
before_all (e ∷ f ∷ fs) = option_map (λ names. e ∷ names) (before_all (f ∷ fs))

-- the names, and whether `.all` stands behind them
pub record OpenPath : Type 0 where
  pub names : Path
  pub all : Bool

abbrev pub open_path_of : List Name → Option Path → Option OpenPath
open_path_of elements (Some names) = option_map (λ ns. record { names = ns; all = true }) (names_if names)
open_path_of elements None = option_map (λ ns. record { names = ns; all = false }) (names_if elements)

-- `.all` counts among the 1,024 bytes, and not among the 32 names
abbrev pub open_path : List ℕ → Option OpenPath
open_path path = if nat_le (length path) 1024 then option_and_then (λ elements. open_path_of elements (before_all elements)) (elements_of path) else None

-- ---- options

-- those that the handle keeps as they are
pub record HandleOptions : Type 0 where
  pub wait : Bool
  pub reflect : Bool
  pub critical : Bool
  pub filter : Option (List Part)

-- all of them
pub record Options : Type 0 where
  pub delta : Bool
  pub deltadir : Bool
  pub nopersist : Bool
  pub server : Bool
  pub limit : Option ℕ
  pub of_handle : HandleOptions

abbrev pub no_handle_options : HandleOptions
no_handle_options = record { wait = false; reflect = false; critical = false; filter = None }

abbrev pub no_options : Options
no_options = record { delta = false; deltadir = false; nopersist = false; server = false; limit = None; of_handle = no_handle_options }

-- the options with these of the handle
abbrev pub with_handle : Options → HandleOptions → Options
with_handle o kept = record o { of_handle = kept }

-- `f=`, once
abbrev pub with_filter : Options → List ℕ → Option Options
with_filter o text =
    if is_some o.of_handle.filter then None
    else option_map (λ parts. with_handle o (record (o.of_handle) { filter = Some parts })) (parts_of text)

-- `limit=`, once: 1 to 65,535
abbrev pub with_limit : Options → List ℕ → Option Options
with_limit o text = if is_some o.limit then None else option_map (λ n. record o { limit = Some n }) (number_up_to 5 65535 text)

-- the options with a word, if the text is one; it may come again
abbrev pub with_word : Options → List ℕ → Option Options
with_word o text =
    if same text (codes "delta") then Some (record o { delta = true }) else
    if same text (codes "deltadir") then Some (record o { deltadir = true }) else
    if same text (codes "wait") then Some (with_handle o (record (o.of_handle) { wait = true })) else
    if same text (codes "nopersist") then Some (record o { nopersist = true }) else
    if same text (codes "reflect") then Some (with_handle o (record (o.of_handle) { reflect = true })) else
    if same text (codes "server") then Some (record o { server = true }) else
    if same text (codes "critical") then Some (with_handle o (record (o.of_handle) { critical = true })) else None

-- the options with one more; an empty one says nothing
abbrev pub with_option : Options → List ℕ → Option Options
with_option o text =
    if is_empty text then Some o else
    option_map_or (with_filter o) (after_prefix (codes "f=") text)
    (option_map_or (with_limit o) (after_prefix (codes "limit=") text) (with_word o text))

abbrev pub options_from : Options → List (List ℕ) → Option Options
options_from o [] = Some o
options_from o (text ∷ texts) = option_and_then (λ p. options_from p texts) (with_option o text)

-- options that do not go together, or not with `.all`, or not without it
abbrev pub do_options_clash : Bool → Options → Bool
do_options_clash all o = (o.deltadir && (not all || o.delta || is_some o.of_handle.filter)) || (all && (o.server || o.of_handle.critical))

-- at most 4,096 bytes without a line feed, cut at each plain comma
abbrev pub options_text : Bool → List ℕ → Option Options
options_text all text =
    if nat_le (length text) 4096 && not (list_any (λ b. b == 10) text)
    then option_and_then (λ o. if do_options_clash all o then None else Some o) (options_from no_options (plain_pieces false 44 text))
    else None

-- ---- the text

-- What an open asks for. If no limit is given, the service's default holds.
pub record OpenSpec : Type 0 where
  pub names : Path
  pub all : Bool
  pub options : Options

abbrev pub open_spec : OpenPath → Options → OpenSpec
open_spec p o = record { names = p.names; all = p.all; options = o }

-- the path before the first `?`, and the options behind it
abbrev pub open_parts : List ℕ → List ℕ × List ℕ
open_parts text = unwrap_or (split_at_first 63 text) (text, [])

-- a bad path is told before a bad option
abbrev pub open_text : List ℕ → Result OpenSpec Refusal
open_text text = do
  path ← ok_or (open_path (open_parts text).0) BadPath
  options ← ok_or (options_text path.all (open_parts text).1) BadOption
  Ok (open_spec path options)
