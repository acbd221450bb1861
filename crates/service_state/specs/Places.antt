-- What there is of objects and directories in the tables: their handles, the records held for them, and room.
use Rattle.std.specs.Prelude.{◌≡◌, ◌<◌, ℕ, Bool, true, IfSome, map}
use Rattle.pps_types.specs.declared.found.Found.{Found}
use Rattle.pps_types.specs.declared.found.Found.TheVariants.{Object as FoundObject}
use Rattle.pps_types.specs.History.{Entry}
use Rattle.pps_types.specs.Content.{Directory}
use Rattle.pps_types.specs.Owed.{kept_records_seen}
use Rattle.pps_types.specs.Plan.{offer}
use Rattle.pps_types.specs.WellFormed.{RiseBetween, directory_numbered}
use Rattle.sub_reader.specs.Opened.{is_directory, number_of}
use Rattle.name_table.specs.Listed.{IsBare}
use Rattle.open_handles.specs.Whole.{Whole, HasSite, handles_in, kept_at, room_at, site_at}
use Rattle.service_state.specs.Tables.{Tabled, content_in}

-- the object that is created next, as it will be found
abbrev pub next_found : Tabled → Found
next_found t = FoundObject (content_in t).next_object

-- ---- directories

-- the numbers of the directories rise, below the next one
abbrev pub HasRisingDirectories : Tabled → Type 0
HasRisingDirectories t = RiseBetween 0 (map (λ (d : Directory). d.number) (content_in t).directories) (content_in t).next_directory

-- nothing is in the directory of that number, where there is one
abbrev pub IsBareAt : Tabled → ℕ → Type 0
IsBareAt t directory = IfSome (directory_numbered (content_in t) directory) (IsBare (content_in t))

-- ---- handles and records

-- both records were offered to each handle, one after the other
abbrev pub OffersBoth : Entry → Entry → Whole → Whole → Type 0
OffersBoth first second old new = handles_in new ≡ map (offer second) (map (offer first) (handles_in old))

-- each object and directory holds the same records
abbrev pub HoldsSameRecords : Whole → Whole → Type 0
HoldsSameRecords old new = (f : Found) → kept_at f new ≡ kept_at f old

-- each object and directory holds just the records that have to be kept: the longest rest that a handle on it is owed
abbrev pub HoldsJustOwed : Tabled → Type 0
HoldsJustOwed t = (f : Found) → kept_at f t.handles ≡ kept_records_seen (content_in t) (is_directory f) (number_of f)

-- ---- room

-- where handles could be opened on it, there is room for one more among all handles
abbrev pub GivesRowRoom : Found → Whole → Whole → Type 0
GivesRowRoom found old new = HasSite found old → 0 < new.rows.room

-- where handles could be opened on it, there is room for one more on it
abbrev pub GivesPlaceRoom : Found → Whole → Whole → Type 0
GivesPlaceRoom found old new = HasSite found old → 0 < room_at found new

-- ---- what stays

-- each place stays, but for that of the object where it is deleted
abbrev pub KeepsSitesBut : ℕ → Bool → Whole → Whole → Type 0
KeepsSitesBut object is_deleted old new =
    (f : Found) → (is_deleted ≡ true → f ≡ FoundObject object → ⊥) → site_at f new ≡ site_at f old
