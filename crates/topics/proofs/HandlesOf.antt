-- The handles of a server object, as they stand on it.
use Rattle.std.proofs.Common.{◌≡◌, ℕ, Bool, true, false, List, [], ◌∷◌, map, refl}
use Rattle.std.specs.List.{AllByRecursion}
use Rattle.pps_types.specs.declared.handle_kind.HandleKind.{HandleKind}
use Rattle.pps_types.specs.declared.handle_kind.HandleKind.TheVariants.{Object as ObjectHandle, Directory as DirectoryHandle, Names as NamesHandle, Server as ServerHandle, Client as ClientHandle}
use Rattle.pps_types.specs.Reading.{OpenHandle, Queue, style, is_directory_kind}
use Rattle.pps_types.specs.Rests.{Progress}
use Rattle.pps_types.specs.Owed.{is_of, longest_rest}
use Rattle.pps_types.specs.Rising.{IsRising, AllAbove}
use Rattle.sub_reader.specs.HandlesOf.{IsOn, AreOn}
use Rattle.sub_reader.specs.Rows.{number_in}
use Rattle.topics.specs.QueueRows.{QueueRow, handle_of, IsRowOn, IsService}
use Rattle.topics.proofs.Seen.{queue-seen}

flag-is : (k : HandleKind) → style k ≡ Queue → is_directory_kind k ≡ false
flag-is (ObjectHandle delta) is = refl
flag-is (DirectoryHandle false) is = absurd cc
flag-is (DirectoryHandle true) is = absurd cc
flag-is NamesHandle is = absurd cc
flag-is ServerHandle is = refl
flag-is ClientHandle is = refl

module _ (object : ℕ) (name : List ℕ) where
  on_topic : (x : QueueRow) → IsRowOn object x → IsOn false object (handle_of object name x)
  on_topic x is = record { flag = flag-is x.opening.kind is.kind; on = refl; whole = queue-seen (handle_of object name x) x.progress.owed is.kind }

  all-on_topic : (xs : List QueueRow) → AllByRecursion (IsRowOn object) xs → AllByRecursion (IsOn false object) (map (handle_of object name) xs)
  all-on_topic [] all = tt
  all-on_topic (x ∷ xs) all = (on_topic x all.0, all-on_topic xs all.1)

  above-on_topic : (n : ℕ) (xs : List QueueRow) → AllAbove number_in n xs → AllAbove (λ h. h.number) n (map (handle_of object name) xs)
  above-on_topic n [] all = tt
  above-on_topic n (x ∷ xs) all = (all.0, above-on_topic n xs all.1)

  rising-on_topic : (xs : List QueueRow) → IsRising number_in xs → IsRising (λ h. h.number) (map (handle_of object name) xs)
  rising-on_topic [] all = tt
  rising-on_topic (x ∷ xs) all = (above-on_topic x.opening.number xs all.0, rising-on_topic xs all.1)

  pub are-on_topic : (led : Bool) (xs : List QueueRow) → IsService object led xs → AreOn false object (map (handle_of object name) xs)
  are-on_topic led xs is = record { each = all-on_topic xs is.each; rising = rising-on_topic xs is.rising }

  -- ---- of which kind they are, and what they are called

  pub all-queued : (xs : List QueueRow) → AllByRecursion (IsRowOn object) xs → AllByRecursion (λ (h : OpenHandle Progress). style h.kind ≡ Queue) (map (handle_of object name) xs)
  all-queued [] all = tt
  all-queued (x ∷ xs) all = (all.0.kind, all-queued xs all.1)

  pub all-named : (xs : List QueueRow) → AllByRecursion (λ (h : OpenHandle Progress). h.name ≡ name) (map (handle_of object name) xs)
  all-named [] = tt
  all-named (x ∷ xs) = (refl, all-named xs)

-- none of them is owed records of a shared list
no-rest : (object : ℕ) (name : List ℕ) (d : Bool) (t : ℕ) (x : QueueRow) → IsRowOn object x → is_of d t (handle_of object name x) ≡ false
no-rest object name d t x is = rw is.kind refl

pub none-held : (object : ℕ) (name : List ℕ) (d : Bool) (t : ℕ) (xs : List QueueRow) → AllByRecursion (IsRowOn object) xs → longest_rest d t (map (handle_of object name) xs) ≡ []
none-held object name d t [] all = refl
none-held object name d t (x ∷ xs) all =
    rw (no-rest object name d t x all.0) (rw (none-held object name d t xs all.1) refl)
