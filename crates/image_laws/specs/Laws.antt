-- The laws that tie what is saved and what is read.
use Rattle.std.specs.Prelude.{◌≡◌, ◌≤◌, ◌<◌, ℕ, ◌+◌, List, [], ◌∷◌, ◌++◌, Bool, true, false, ◌&&◌, nat_le, Some, None, is_some, Ok, Err, map, length, codes}
use Rattle.std.specs.List.{list_all, AllByRecursion}
use Rattle.std.specs.Ordering.{is_lt}
use Rattle.std.specs.Result.{is_ok}
use Rattle.pps_types.specs.declared.event.Event.{Event}
use Rattle.pps_types.specs.declared.line.Line.{Line}
use Rattle.pps_types.specs.Bytes.{after_prefix, is_empty, pieces}
use Rattle.pps_types.specs.Text.{print_lines}
use Rattle.pps_types.specs.Names.{Path, path_cmp}
use Rattle.pps_types.specs.Content.{Content}
use Rattle.pps_types.specs.WellFormed.{IsContent}
use Rattle.pps_types.specs.Plan.{step_seen}
use Rattle.pps_types.specs.Machine.{Machine, start, content_of}
use Rattle.pps_types.specs.Runs.{Answered, after, after_seen, end_of}
use Rattle.pps_types.specs.Image.{SavedLine, SavedDirectory, SavedObject, path_of, as_line, saved, text_line, image_text, image, Image, Position, First, Behind, may_follow, line_read, at_end, read_lines, read_image, IsImage, started}
use Rattle.pps_types.specs.Restore.{restore_directory, restore_object, restore_line, restore_entries}
use Rattle.service_laws.specs.Bounds.{IsBound}
use Rattle.image_laws.specs.Images.{is_plain, are_plain, joined, read_all, is_saved_line, IsImageLine, is_new, IsSavedPath, HasText, IsPrintable, limit_of, IsImageText, IsFirstWrong}
use Rattle.image_laws.specs.Savable.{CanBeSaved}
use Rattle.image_laws.specs.Unused.{IsUnused}
use Rattle.image_laws.specs.Restored.{with_directory, with_object, with_line, Becomes, AreSavedAlike}

-- the first line is that of version 2
abbrev pub is_newer : List ℕ → Bool
is_newer bytes = is_some (after_prefix (codes "PPSIMAGE 2 ") bytes)

-- What is read of version 2 is what the service that it starts would save: no two texts are one image, and nothing else than images is read.
-- Of version 1 it is the same text behind another first line.
pub record OnlyImagesAreRead : Type 0 where
  pub newer : (bytes : List ℕ) (i : Image) → read_image bytes ≡ Ok i → is_newer bytes ≡ true → image (content_of (started i)) ≡ bytes
  pub older : (bytes : List ℕ) (i : Image) → read_image bytes ≡ Ok i → (is_newer bytes ≡ true → ⊥)
      → (i.default_limit ≡ 256) × (rest : List ℕ) × (bytes ≡ text_line (codes "PPSIMAGE 1") ++ rest) × (image (content_of (started i)) ≡ text_line (codes "PPSIMAGE 2 256") ++ rest)

-- Just the texts that are images are read, and each as its entries and its default limit.
pub record JustImagesAreRead : Type 0 where
  pub images : (bytes : List ℕ) (is : IsImageText bytes) → read_image bytes ≡ Ok (record { default_limit = limit_of is.version; entries = is.entries })
  pub nothing_else : (bytes : List ℕ) (i : Image) → read_image bytes ≡ Ok i → IsImageText bytes

-- The line at which a text is refused is the first that is wrong; and a text that is no image is refused at that line.
pub record TheFirstWrongLineIsNamed : Type 0 where
  pub named : (bytes : List ℕ) (n : ℕ) → read_image bytes ≡ Err n → IsFirstWrong bytes n
  pub no_other : (bytes : List ℕ) (n : ℕ) → IsFirstWrong bytes n → ¬ IsImageText bytes → read_image bytes ≡ Err n

-- What is read has a text; the objects of version 1 have one of at most 32,768 bytes.
pub record ReadImagesArePrintable : Type 0 where
  pub newer : (bytes : List ℕ) (i : Image) → read_image bytes ≡ Ok i → IsPrintable i
  pub older : (bytes : List ℕ) (i : Image) → read_image bytes ≡ Ok i → (is_newer bytes ≡ true → ⊥) → AllByRecursion (HasText 32768) i.entries

-- the text of entries that may follow one another is read as these
abbrev pub TextsAreRead : Type 0
TextsAreRead = (i : Image) → IsImage i → IsPrintable i → read_image (image_text i.default_limit i.entries) ≡ Ok i

-- what an image starts has its entries to save, and its limit
pub record StartsHoldTheEntries : Type 0 where
  pub entries : (i : Image) → IsImage i → IsPrintable i → saved (content_of (started i)) ≡ i.entries
  pub limit : (i : Image) → IsImage i → IsPrintable i → (content_of (started i)).default_limit ≡ i.default_limit

-- what is saved is read as what was saved
abbrev pub IsReadAgain : ℕ → Content → Type 0
IsReadAgain default_limit c = read_image (image c) ≡ Ok (record { default_limit = default_limit; entries = saved c })

-- what stands, well formed and within its bounds, is read again where it can be saved
abbrev pub SavedIsReadAgain : Type 0
SavedIsReadAgain = (c : Content) → IsContent c → IsBound c → CanBeSaved c → IsReadAgain c.default_limit c

-- The start can be saved, and so can what an image starts; and each event leaves what can be saved so.
pub record SavingStays : Type 0 where
  pub begins : (first_handle default_limit : ℕ) → 1 ≤ default_limit → default_limit ≤ 65535 → CanBeSaved (content_of (start first_handle default_limit))
  pub images : (i : Image) → IsImage i → IsPrintable i → CanBeSaved (content_of (started i))
  pub stays : (c : Content) → IsContent c → IsBound c → CanBeSaved c → (e : Event) → CanBeSaved (step_seen c e).1
  pub ends : (c : Content) → IsContent c → IsBound c → CanBeSaved c → (es : List Event) → CanBeSaved (after_seen c es)

-- after any events, and after any that want of memory may have marked, what is saved is read again, with the limit of the beginning
pub record IsReadLater (m : Machine) : Type 0 where
  pub events : (es : List Event) → IsReadAgain m.default_limit (content_of (after m es))
  pub answered : (answered : List Answered) → IsReadAgain m.default_limit (content_of (end_of m answered))

-- so it is from the start, and from what an image starts that was read
pub record RunsAreReadAgain : Type 0 where
  pub begins : (first_handle default_limit : ℕ) → first_handle ≤ 4294967296 → 1 ≤ default_limit → default_limit ≤ 65535 → IsReadLater (start first_handle default_limit)
  pub images : (bytes : List ℕ) (i : Image) → read_image bytes ≡ Ok i → IsReadLater (started i)

-- what an image starts is within its bounds
abbrev pub StartsAreWithinBounds : Type 0
StartsAreWithinBounds = (i : Image) → IsImage i → IsPrintable i → IsBound (content_of (started i))

-- A reader that has taken whole lines stands at one position, and what it answers is read off that position and what is still to come:
-- a line that no image has there is told at once, and so is what stands behind the last line feed at the end.
pub record ReadersGoLineByLine : Type 0 where
  pub whole : (ls : List (List ℕ)) (rest : List ℕ) (p : Position) → are_plain ls ≡ true → read_all First ls ≡ Some p → read_image (joined ls ++ rest) ≡ read_lines (1 + length ls) p (pieces 10 rest)
  pub refused : (ls : List (List ℕ)) (l rest : List ℕ) (p : Position) → are_plain ls ≡ true → list_all is_plain l ≡ true → read_all First ls ≡ Some p → line_read p l ≡ None
      → read_image (joined ls ++ (text_line l ++ rest)) ≡ Err (1 + length ls)
  pub ended : (ls : List (List ℕ)) (l : List ℕ) (p : Position) → are_plain ls ≡ true → list_all is_plain l ≡ true → read_all First ls ≡ Some p → read_image (joined ls ++ l) ≡ at_end (1 + length ls) p (is_empty l)
  -- so many bytes without a line feed begin no line of an image, wherever they stand
  pub long : (ls : List (List ℕ)) (l rest : List ℕ) (p : Position) → are_plain ls ≡ true → list_all is_plain l ≡ true → read_all First ls ≡ Some p → 65536 ≤ length l → read_image (joined ls ++ (l ++ rest)) ≡ Err (1 + length ls)
  -- behind the end no byte may stand
  pub behind : (ls : List (List ℕ)) (b : ℕ) (rest : List ℕ) (i : Image) → are_plain ls ≡ true → read_all First ls ≡ Some (Behind i) → read_image (joined ls ++ (b ∷ rest)) ≡ Err (1 + length ls)

-- What an image starts is what the calls leave that restore its entries, one after the other, from the empty service: none of them is refused.
abbrev pub CallsStartIt : Type 0
CallsStartIt = (i : Image) → IsImage i → IsPrintable i → restore_entries (content_of (start 1 i.default_limit)) i.entries ≡ Ok (content_of (started i))

-- Where an image's entries were restored, the calls decide what may come next, and what they don't say is said here: a directory or an object may follow
-- where its path is behind all others and the call is not refused, and a line of the last object where the call is not refused.
pub record CallsDecide : Type 0 where
  pub directory : (i : Image) → IsImage i → IsPrintable i → (path : Path) → IsSavedPath path → is_empty path ≡ false
      → may_follow i.entries (SavedDirectory path) ≡ (list_all (λ x. is_lt (path_cmp (path_of x) path)) i.entries && is_ok (restore_directory (content_of (started i)) path))
  pub object : (i : Image) → IsImage i → IsPrintable i → (path : Path) → IsSavedPath path → is_empty path ≡ false
      → may_follow i.entries (SavedObject path []) ≡ (list_all (λ x. is_lt (path_cmp (path_of x) path)) i.entries && is_ok (restore_object (content_of (started i)) path))
  pub line : (i : Image) → IsImage i → IsPrintable i → (path : Path) (lines : List SavedLine) (l : SavedLine) → may_follow i.entries (SavedObject path lines) ≡ true → HasText 65536 (SavedObject path lines) → is_saved_line l ≡ true → length lines < 1024
      → (is_new lines l && nat_le (length (print_lines (map as_line (lines ++ l ∷ [])))) 65536)
      ≡ is_ok (restore_line (content_of (started (record { default_limit = i.default_limit; entries = i.entries ++ SavedObject path lines ∷ [] }))) path (as_line l))

-- What the calls leave that restore entries, of a service of which nobody has a handle, is such a service.
pub record RestoringStays : Type 0 where
  pub directory : (c : Content) → IsUnused c → (path : Path) → IsSavedPath path → (d : Content) → restore_directory c path ≡ Ok d → IsUnused d
  pub object : (c : Content) → IsUnused c → (path : Path) → IsSavedPath path → (d : Content) → restore_object c path ≡ Ok d → IsUnused d
  pub line : (c : Content) → IsUnused c → (path : Path) (line : Line) → IsImageLine line → (d : Content) → restore_line c path line ≡ Ok d → IsUnused d

-- They lead from each machine that is represented to that machine with one directory, object or record more.
pub record RestoringIsOfMachines : Type 0 where
  pub directory : (c : Content) → IsUnused c → (path : Path) → IsSavedPath path → (d : Content) → restore_directory c path ≡ Ok d → Becomes (with_directory path) c d
  pub object : (c : Content) → IsUnused c → (path : Path) → IsSavedPath path → (d : Content) → restore_object c path ≡ Ok d → Becomes (with_object path) c d
  pub line : (c : Content) → IsUnused c → (path : Path) (line : Line) → IsImageLine line → (d : Content) → restore_line c path line ≡ Ok d → Becomes (with_line path line) c d

-- what an image starts that was read of what was saved, would be saved alike
abbrev pub ReadIsSavedAlike : Type 0
ReadIsSavedAlike = (c : Content) → IsReadAgain c.default_limit c → (i : Image) → read_image (image c) ≡ Ok i → AreSavedAlike c (content_of (started i))
