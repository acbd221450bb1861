-- What an event that no check refuses speaks of is there: its handle, what its texts say, and where its path leads. So where a plan looks
-- something up, it is found, and none of the answers that a plan has for what is missing is ever met.
use Rattle.std.specs.Prelude.{◌≡◌, ℕ, List, Bool, true, false, if◌then◌else◌, Option, Some, None, is_some, Result, Ok, Err}
use Rattle.pps_types.specs.declared.refusal.Refusal.{Refusal}
use Rattle.pps_types.specs.declared.event.Request.{Request}
use Rattle.pps_types.specs.declared.event.Request.TheVariants.{Attach, Detach, Open as OpenRequest, Read, Write, Close, Unlink, Mkdir, List as ListRequest, Notify, Receive}
use Rattle.pps_types.specs.declared.handle_kind.HandleKind.{HandleKind}
use Rattle.pps_types.specs.declared.handle_kind.HandleKind.TheVariants.{Server as ServerHandle}
use Rattle.pps_types.specs.Text.{WriteText, write_text}
use Rattle.pps_types.specs.Names.{parent}
use Rattle.pps_types.specs.OpenText.{OpenSpec, open_text, path_text}
use Rattle.pps_types.specs.Reading.{OpenHandle, Answer, Needs, TargetGone}
use Rattle.pps_types.specs.Rests.{Progress}
use Rattle.pps_types.specs.Content.{Content, directory_at, object_at, own_handle, target_is_dead, read_answer}
use Rattle.pps_types.specs.WellFormed.{IsContent}
use Rattle.pps_types.specs.Checks.{Addressee, Nobody, addressee, first_refusal, checks}

abbrev pub IsFound : {X : Type 0} → Option X → (X → Type 0) → Type 0
IsFound None P = ⊥
IsFound (Some x) P = P x

abbrev pub IsRead : {X : Type 0} → Result X Refusal → (X → Type 0) → Type 0
IsRead (Err r) P = ⊥
IsRead (Ok x) P = P x

-- a read is told something: everything, blocks, that it waits, or that there is nothing new
abbrev pub is_told : Answer → Bool
is_told (Needs need) = false
is_told TargetGone = false
is_told answer = true

abbrev pub is_somebody : Addressee → Bool
is_somebody Nobody = false
is_somebody to = true

-- a server's message is for somebody
abbrev pub is_addressed : HandleKind → List ℕ → WriteText → Bool
is_addressed ServerHandle name text = is_somebody (addressee name text.header)
is_addressed kind name text = true

-- the object that is written is alive
pub record IsWritten (c : Content) (handle : OpenHandle Progress) (text : WriteText) : Type 0 where
  pub alive : target_is_dead c handle ≡ false
  pub addressed : is_addressed handle.kind handle.name text ≡ true

-- the directory that is opened, or the one above the object
abbrev pub has_place : Content → OpenSpec → Bool
has_place c spec = is_some (if spec.all then directory_at c spec.names else directory_at c (parent spec.names))

abbrev pub IsThere : Content → ℕ → Request → Type 0
IsThere c conn (OpenRequest mode text) = IsRead (open_text text) (λ spec. has_place c spec ≡ true)
IsThere c conn (Read number size) = IsFound (own_handle c conn number) (λ handle. is_told (read_answer c handle size) ≡ true)
IsThere c conn (Write number bytes) = IsFound (own_handle c conn number) (λ handle. IsRead (write_text bytes) (IsWritten c handle))
IsThere c conn (Close number) = IsFound (own_handle c conn number) (λ handle. Unit {0})
IsThere c conn (Notify number action code value) = IsFound (own_handle c conn number) (λ handle. Unit {0})
IsThere c conn (Unlink path) = IsFound (path_text path) (λ names. (directory_at c names ≡ None) → is_some (object_at c names) ≡ true)
IsThere c conn (Mkdir path) = IsFound (path_text path) (λ names. is_some (directory_at c (parent names)) ≡ true)
IsThere c conn (ListRequest path) = IsFound (path_text path) (λ names. is_some (directory_at c names) ≡ true)
IsThere c conn Attach = Unit {0}
IsThere c conn Detach = Unit {0}
IsThere c conn Receive = Unit {0}

-- what no check refuses is there
abbrev pub NothingIsMissing : Type 0
NothingIsMissing = (c : Content) → IsContent c → (conn : ℕ) (request : Request) → first_refusal (checks c conn request) ≡ None → IsThere c conn request
