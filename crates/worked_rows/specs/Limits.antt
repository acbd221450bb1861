-- Limits that a script would reach only after thousands of messages, at machines that are built close to them.
use Rattle.std.specs.Prelude.{◌≡◌, ℕ, zero, suc, ◌+◌, ◌-◌, ◌/◌, ◌%◌, ◌^◌, ◌==◌, List, [], ◌∷◌, ◌++◌, true, false, Option, Some, None, Ok, Err, map, count_by, codes}
use Rattle.std.specs.Fmt.{decimal}
use Rattle.pps_types.specs.declared.event.Event.{Event}
use Rattle.pps_types.specs.declared.event.Request.TheVariants.{Attach, Open as OpenRequest, Read, Write, Mkdir, List as ListRequest, Notify}
use Rattle.pps_types.specs.declared.event.Action.TheVariants.{Pollarm}
use Rattle.pps_types.specs.declared.event.Mode.{Mode}
use Rattle.pps_types.specs.declared.outcome.Item.{Item}
use Rattle.pps_types.specs.declared.outcome.Item.TheVariants.{Pulse}
use Rattle.pps_types.specs.declared.outcome.Outcome.TheVariants.{Done, Opened as OpenedHandle, Data, Wrote, Parked, Input}
use Rattle.pps_types.specs.declared.refusal.Refusal.TheVariants.{TooLarge, OutboxFull, TableFull, BadText}
use Rattle.pps_types.specs.Outcome.{Reply}
use Rattle.pps_types.specs.OpenText.{no_handle_options}
use Rattle.pps_types.specs.declared.handle_kind.HandleKind.TheVariants.{Object as ObjectHandle}
use Rattle.pps_types.specs.Reading.{OpenHandle}
use Rattle.pps_types.specs.History.{Attribute}
use Rattle.pps_types.specs.Content.{Object, Content, queue_of}
use Rattle.pps_types.specs.Plan.{creation, step_seen}
use Rattle.pps_types.specs.Machine.{Machine, start, content_of}
use Rattle.pps_types.specs.Runs.{replies, after}
use Rattle.worked_rows.specs.Scripts.Words.{◌asks◌}

abbrev pub reading : Mode
reading = record { r = true; w = false; c = false; t = false }

abbrev pub creating : Mode
creating = record { r = true; w = true; c = true; t = false }

abbrev pub writing : Mode
writing = record { r = true; w = true; c = false; t = false }

-- from the first on, that many
abbrev pub counted : ℕ → ℕ → List ℕ
counted first zero = []
counted first (suc n) = first ∷ counted (first + 1) n

-- ---- numbers

abbrev pub LastHandle : Type 0
LastHandle =
    replies (start 4294967295 256) (1 asks Attach ∷ 1 asks OpenRequest creating (codes "/a") ∷ 1 asks OpenRequest reading (codes "/a") ∷ [])
    ≡ Ok Done ∷ Ok (OpenedHandle 4294967295) ∷ Err TableFull ∷ []

-- connection 1 has written the object of handle 1; so many records have been made
abbrev pub with_records : ℕ → Content
with_records n = record (content_of (after (start 1 256) (1 asks Attach ∷ 1 asks OpenRequest creating (codes "/a") ∷ []))) { records = n }

abbrev pub LastRecord : Type 0
LastRecord =
    ((step_seen (with_records (2 ^ 64 - 2)) (1 asks Write 1 (codes "a::1\n"))).0 ≡ Ok (Wrote 5))
    × ((step_seen (with_records (2 ^ 64 - 1)) (1 asks Write 1 (codes "a::1\n"))).0 ≡ Err TableFull)
    × ((step_seen (with_records (2 ^ 64 - 1)) (1 asks Write 1 (codes "9\n"))).0 ≡ Err (BadText 1))
    × ((step_seen (with_records (2 ^ 64 - 1)) (1 asks Write 1 [])).0 ≡ Ok (Wrote 0))

-- ---- attributes

-- so many attributes, all of one length: bbbb, cbbb, dbbb and so on
abbrev pub letters : ℕ → List ℕ
letters n = (98 + n % 16) ∷ (98 + n / 16 % 16) ∷ (98 + n / 256 % 16) ∷ (98 + n / 4096) ∷ []

abbrev pub attribute : ℕ → Attribute
attribute n = record { name = letters n; enc = []; value = []; n = false }

-- connection 1 has the object of handle 1, which has so many attributes
abbrev pub with_attributes : ℕ → Content
with_attributes n = record (content_of (after (start 1 256) (1 asks Attach ∷ 1 asks OpenRequest creating (codes "/a") ∷ []))) {
  objects = record { object = record { number = 0; directory = 0; name = codes "a"; nopersist = false; server = None }; attributes = map attribute (counted 0 n) } ∷ [];
}

abbrev pub ManyAttributes : Type 0
ManyAttributes =
    ((step_seen (with_attributes 1023) (1 asks Write 1 (codes "a::1\n"))).0 ≡ Ok (Wrote 5))
    × ((step_seen (with_attributes 1024) (1 asks Write 1 (codes "a::1\n"))).0 ≡ Err TooLarge)
    × ((step_seen (with_attributes 1024) (1 asks Write 1 (codes "bbbb::1\n"))).0 ≡ Ok (Wrote 8))
    × ((step_seen (with_attributes 1024) (1 asks Write 1 (codes "a::1\n-bbbb\n"))).0 ≡ Ok (Wrote 11))

-- ---- a full directory

abbrev pub numbered_object : ℕ → Object
numbered_object n = record { number = n; directory = 1; name = codes "o" ++ decimal n; nopersist = false; server = None }

-- the directory /d with objects /d/o0, /d/o1 and so on
abbrev pub with_objects : ℕ → Machine
with_objects n = record (start 1 256) {
  history = map creation (map numbered_object (counted 0 n));
  objects = map numbered_object (counted 0 n);
  directories = record { number = 0; path = [] } ∷ record { number = 1; path = codes "d" ∷ [] } ∷ [];
  next_directory = 2;
  connections = record { number = 1; queue = [] } ∷ [];
}

abbrev pub reply_at : Machine → Event → List Reply
reply_at m event = replies m (event ∷ [])

abbrev pub line_count : Reply → ℕ
line_count (Ok (Data bytes)) = count_by (λ b. b == 10) bytes
line_count _ = 0

abbrev pub FullDirectory : Type 0
FullDirectory =
    (reply_at (with_objects 255) (1 asks OpenRequest creating (codes "/d/x")) ≡ Ok (OpenedHandle 1) ∷ [])
    × (reply_at (with_objects 256) (1 asks OpenRequest creating (codes "/d/x")) ≡ Err TableFull ∷ [])
    × (reply_at (with_objects 256) (1 asks OpenRequest creating (codes "/d/o7")) ≡ Ok (OpenedHandle 1) ∷ [])
    × (reply_at (with_objects 256) (1 asks OpenRequest writing (codes "/d/o7?server")) ≡ Ok (OpenedHandle 1) ∷ [])
    × (reply_at (with_objects 256) (1 asks Mkdir (codes "/d/e")) ≡ Ok Done ∷ [])
    × (map line_count (reply_at (with_objects 256) (1 asks ListRequest (codes "/d"))) ≡ 256 ∷ [])

-- ---- a full outbox

abbrev pub gps : Object
gps = record { number = 0; directory = 0; name = codes "gps"; nopersist = false; server = None }

-- a full handle of connection 2 on /gps that has read, and waits
abbrev pub subscriber : Option ℕ → Option (ℕ × ℕ) → ℕ → OpenHandle (Option ℕ)
subscriber parked armed n = record {
  number = n;
  connection = 2;
  target = 0;
  name = codes "gps";
  kind = ObjectHandle false;
  reads = true;
  writes = false;
  options = record no_handle_options { wait = true };
  limit = 256;
  seen = Some 1;
  parked = parked;
  armed = armed;
}

abbrev pub publisher : OpenHandle (Option ℕ)
publisher = record (subscriber None None 1) { connection = 1; writes = true; options = no_handle_options }

-- connection 1 publishes /gps, and connection 2 has these handles on it and these items in its queue
abbrev pub with_subscribers : List (OpenHandle (Option ℕ)) → List Item → Machine
with_subscribers handles items = record (start 1 256) {
  history = creation gps ∷ [];
  objects = gps ∷ [];
  handles = publisher ∷ handles;
  next_handle = 5000;
  connections = record { number = 1; queue = [] } ∷ record { number = 2; queue = items } ∷ [];
}

-- a pulse that has the handle's number as its value
abbrev pub pulse : ℕ → Item
pulse n = Pulse 0 n

abbrev pub armed_subscriber : ℕ → OpenHandle (Option ℕ)
armed_subscriber n = subscriber None (Some (0, n)) n

-- n armed handles from number 2 on, and one more that is idle
abbrev pub with_armed : ℕ → Machine
with_armed n = with_subscribers (map armed_subscriber (counted 2 n) ++ subscriber None None (n + 2) ∷ []) []

-- n items in the queue; handle 2 has an armed pulse, 3 a parked read, and 4 and 5 have neither
abbrev pub with_queued : ℕ → Machine
with_queued n = with_subscribers (armed_subscriber 2 ∷ subscriber (Some 99) None 3 ∷ subscriber None None 4 ∷ subscriber None None 5 ∷ []) (map pulse (counted 1 n))

abbrev pub arming : ℕ → Event
arming n = 2 asks Notify n Pollarm 0 n

abbrev pub FullOutbox : Type 0
FullOutbox =
    (reply_at (with_armed 1023) (arming 1025) ≡ Ok (Input false) ∷ [])
    × (reply_at (with_armed 1024) (arming 1026) ≡ Err OutboxFull ∷ [])
    × (reply_at (with_armed 1024) (arming 1025) ≡ Ok (Input false) ∷ [])
    × (replies (with_queued 1021) (arming 4 ∷ arming 5 ∷ arming 4 ∷ []) ≡ Ok (Input false) ∷ Err OutboxFull ∷ Ok (Input false) ∷ [])
    × (replies (with_queued 1021) (2 asks Read 4 99 ∷ 2 asks Read 5 99 ∷ arming 2 ∷ []) ≡ Ok Parked ∷ Err OutboxFull ∷ Ok (Input false) ∷ [])
    × (queue_of (content_of (after (with_armed 1024) (1 asks Write 1 (codes "a::1\n") ∷ []))) 2 ≡ map pulse (counted 2 1024))
