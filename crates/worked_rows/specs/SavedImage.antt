-- An image that is saved and started again: what is nonpersistent isn't in it. QNX PPS guide, on persistence; the text is our own.
use Rattle.std.specs.Prelude.{◌≡◌, ℕ, List, [], ◌∷◌, ◌++◌, true, false, Option, Some, Ok, Err, codes, length, option_map, drop}
use Rattle.std.specs.Result.{result_ok}
use Rattle.pps_types.specs.declared.event.Request.TheVariants.{Attach, Open as OpenRequest, Read, Write, Mkdir, List as ListRequest}
use Rattle.pps_types.specs.declared.event.Mode.{Mode}
use Rattle.pps_types.specs.declared.event.Event.{Event}
use Rattle.pps_types.specs.declared.outcome.Outcome.TheVariants.{Done, Opened, Data}
use Rattle.pps_types.specs.declared.refusal.Refusal.TheVariants.{NotFound}
use Rattle.pps_types.specs.Outcome.{Reply}
use Rattle.pps_types.specs.Machine.{Machine, start, content_of}
use Rattle.pps_types.specs.Runs.{replies, after}
use Rattle.pps_types.specs.Image.{image, read_image, started}

abbrev pub line : List ℕ → List ℕ
line bytes = bytes ++ 10 ∷ []

abbrev pub creating : Mode
creating = record { r = true; w = true; c = true; t = false }

abbrev pub reading : Mode
reading = record { r = true; w = false; c = false; t = false }

-- ---- saved

-- one attribute is nonpersistent, and so is one object
abbrev pub writes : List Event
writes =
    record { conn = 1; request = Attach } ∷
    record { conn = 1; request = OpenRequest creating (codes "/gps") } ∷
    record { conn = 1; request = Write 1 (line (codes "a::1") ++ line (codes "[n]b::2")) } ∷
    record { conn = 1; request = OpenRequest creating (codes "/tmp?nopersist") } ∷
    record { conn = 1; request = Write 2 (line (codes "c::3")) } ∷ []

abbrev pub made : Machine
made = after (start 1 256) writes

-- the same, with a directory beside
abbrev pub made_beside : Machine
made_beside = after (start 1 256) (record { conn = 1; request = Attach } ∷ record { conn = 1; request = Mkdir (codes "/d") } ∷ drop 1 writes)

abbrev pub image_saved : List ℕ
image_saved = line (codes "PPSIMAGE 2 256") ++ line (codes "O /gps 1") ++ line (codes "a::1") ++ line (codes "E 1")

abbrev pub image_beside : List ℕ
image_beside = line (codes "PPSIMAGE 2 256") ++ line (codes "D /d") ++ line (codes "O /gps 1") ++ line (codes "a::1") ++ line (codes "E 2")

-- the image of a service that holds nothing
abbrev pub empty_image : List ℕ
empty_image = line (codes "PPSIMAGE 2 256") ++ line (codes "E 0")

pub record ImagesAreSaved : Type 0 where
  pub image_of : image (content_of made) ≡ image_saved
  pub bytes : length image_saved ≡ 33
  pub beside : image (content_of made_beside) ≡ image_beside
  pub bytes_beside : length image_beside ≡ 38
  pub empty : image (content_of (start 1 256)) ≡ empty_image
  pub bytes_empty : length empty_image ≡ 19

-- ---- started again

-- the replies of a service that an image starts
abbrev pub answers : List ℕ → List Event → Option (List Reply)
answers bytes events = option_map (λ i. replies (started i) events) (result_ok (read_image bytes))

abbrev pub asks : List Event
asks =
    record { conn = 1; request = Attach } ∷
    record { conn = 1; request = OpenRequest reading (codes "/gps") } ∷
    record { conn = 1; request = Read 1 99 } ∷
    record { conn = 1; request = OpenRequest reading (codes "/tmp") } ∷ []

abbrev pub told : List Reply
told = Ok Done ∷ Ok (Opened 1) ∷ Ok (Data (line (codes "@gps") ++ line (codes "a::1"))) ∷ Err NotFound ∷ []

-- version 1 of the same image, of 29 bytes
abbrev pub older_image : List ℕ
older_image = line (codes "PPSIMAGE 1") ++ line (codes "O /gps 1") ++ line (codes "a::1") ++ line (codes "E 1")

abbrev pub lists : List Event
lists = record { conn = 1; request = Attach } ∷ record { conn = 1; request = ListRequest (codes "/") } ∷ []

pub record ImagesAreStarted : Type 0 where
  pub newer : answers image_saved asks ≡ Some told
  pub older : answers older_image asks ≡ Some told
  pub bytes_older : length older_image ≡ 29
  pub beside : answers image_beside lists ≡ Some (Ok Done ∷ Ok (Data (line (codes "d/") ++ line (codes "gps"))) ∷ [])
  pub again : option_map (λ i. image (content_of (started i))) (result_ok (read_image image_beside)) ≡ Some image_beside
  pub limit : option_map (λ i. i.default_limit) (result_ok (read_image (line (codes "PPSIMAGE 2 7") ++ line (codes "E 0")))) ≡ Some 7
