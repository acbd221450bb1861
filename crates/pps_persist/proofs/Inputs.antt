-- An input that is read piece by piece.
use Rattle.std.proofs.Common.{◌≡◌, inl, inr, ℕ, ◌+◌, ◌^◌, ◌≤◌, ◌<◌, ◌-◌, List, [], ◌++◌, length, take, Option, Result, Ok, Err, refl, ap, ◌∙◌, append-nil, length-append, arith}
use Rattle.std.specs.Io.KnownBytes.{Consumes, IsAtEnd, Keeps}
use Rattle.std.proofs.lemmas.List.{take-take, take-append-le}
use Rattle.image_laws.specs.Images.{joined}
use Rattle.pps_types.proofs.KnownBytes.{Consumes-none, Consumes-then, Consumes-same}
use Rattle.pps_engine.specs.Serving.{Serving}
use Rattle.pps_persist.specs.declared.errors.LoadError.{LoadError}
use Rattle.pps_persist.specs.declared.errors.LoadError.TheVariants.{OutOfMemory, BadImage, ReadFault}
use Rattle.pps_persist.specs.declared.pieces.Reading.{Reading}
use Rattle.pps_persist.specs.Begun.{IsReading, GoesOn, Finishes}
use Rattle.pps_persist.specs.Loads.{most_reads, ReadsSome, ReadsMany, Loads, InputFaultIs, FaultAfterMany, Gone}
use Rattle.pps_persist.proofs.Cuts.{few-lines}

-- what was read into the front of a longer list
pub front_of : (count room : ℕ) (read old : List ℕ) → count ≤ length read → count ≤ room → take count (take room (read ++ old)) ≡ take count read
front_of count room read old within fits = take-take count room (read ++ old) fits ∙ take-append-le count read old within

abbrev pub failing : LoadError → Result Serving LoadError
failing error = Err error

module _ (from to : Option (List ℕ)) (s : Reading) (least most : ℕ) (gone : Gone from to s least most) where
  -- the lines are counted within 64 bits
  pub few-numbers : (more : ℕ) → most + more < 2 ^ 64 - 1 → s.number + more < 2 ^ 64
  few-numbers more small = omega (arith, gone.is.number, few-lines gone.is.lines, ap length gone.is.whole, length-append (joined gone.is.lines) s.line.items, gone.few)

  module _ (next : Option (List ℕ)) (piece : List ℕ) (read : Consumes to next piece) where
    so-far : Consumes from next (gone.taken ++ piece)
    so-far = Consumes-then from to next gone.taken piece gone.read read

    pub piece-told : (error : LoadError) → ((taken : List ℕ) → IsReading taken s → GoesOn (taken ++ piece) (Err error)) → Loads from next (Err error)
    piece-told OutOfMemory told = record { bytes = gone.taken ++ piece; read = so-far }
    piece-told (BadImage line) told = record { bytes = gone.taken ++ piece; read = so-far; told = inl (told gone.taken gone.is) }
    piece-told ReadFault told = absurd (told gone.taken gone.is)

    pub piece-fault : (works : ℕ → Type 0) (fails : Type 0) (error : LoadError) (n : ℕ) → ((taken : List ℕ) → IsReading taken s → GoesOn (taken ++ piece) (Err error)) → works n → InputFaultIs works fails (failing error)
    piece-fault works fails OutOfMemory n told is = (n, is)
    piece-fault works fails (BadImage line) n told is = (n, is)
    piece-fault works fails ReadFault n told is = absurd (told gone.taken gone.is)

    pub piece-many : (fails : Type 0) (error : LoadError) → ((taken : List ℕ) → IsReading taken s → GoesOn (taken ++ piece) (Err error)) → FaultAfterMany from next fails (failing error)
    piece-many fails OutOfMemory told = tt
    piece-many fails (BadImage line) told = tt
    piece-many fails ReadFault told = absurd (told gone.taken gone.is)

    pub piece-taken : (new : Reading) (count : ℕ) → 1 ≤ length piece → length piece ≤ count → ((taken : List ℕ) → IsReading taken s → IsReading (taken ++ piece) new) → Gone from next new (least + 1) (most + count)
    piece-taken new count some size goes = record {
      taken = gone.taken ++ piece;
      read = so-far;
      is = goes gone.taken gone.is;
      many = omega (arith, gone.many, some, length-append gone.taken piece);
      few = omega (arith, gone.few, size, length-append gone.taken piece);
    }

  -- where nothing was read
  pub nothing-more : (next : Option (List ℕ)) (piece : List ℕ) → piece ≡ [] → Consumes to next piece → Consumes from next gone.taken
  nothing-more next piece none read = Consumes-same from next _ _ (ap (λ (x : List ℕ). gone.taken ++ x) none ∙ append-nil gone.taken) (Consumes-then from to next gone.taken piece gone.read read)

  pub ends : (next : Option (List ℕ)) (result : Result Serving LoadError) → Consumes from next gone.taken → IsAtEnd next → ((taken : List ℕ) → IsReading taken s → Finishes taken result) → Loads from next result
  ends next (Ok engine) read ended finishes = record { bytes = gone.taken; read = read; ended = ended; loaded = finishes gone.taken gone.is }
  ends next (Err (BadImage line)) read ended finishes = record { bytes = gone.taken; read = read; told = inr (ended, finishes gone.taken gone.is) }
  ends next (Err OutOfMemory) read ended finishes = absurd (finishes gone.taken gone.is)
  ends next (Err ReadFault) read ended finishes = absurd (finishes gone.taken gone.is)

  pub ends-fault : (works : ℕ → Type 0) (fails : Type 0) (result : Result Serving LoadError) (n : ℕ) → ((taken : List ℕ) → IsReading taken s → Finishes taken result) → works n → InputFaultIs works fails result
  ends-fault works fails (Ok engine) n finishes is = (n, is)
  ends-fault works fails (Err OutOfMemory) n finishes is = (n, is)
  ends-fault works fails (Err (BadImage line)) n finishes is = (n, is)
  ends-fault works fails (Err ReadFault) n finishes is = absurd (finishes gone.taken gone.is)

  pub ends-many : (next : Option (List ℕ)) (fails : Type 0) (result : Result Serving LoadError) → ((taken : List ℕ) → IsReading taken s → Finishes taken result) → FaultAfterMany from next fails result
  ends-many next fails (Ok engine) finishes = tt
  ends-many next fails (Err OutOfMemory) finishes = tt
  ends-many next fails (Err (BadImage line)) finishes = tt
  ends-many next fails (Err ReadFault) finishes = absurd (finishes gone.taken gone.is)

  -- after the last read
  pub reads-many : most_reads ≤ least → ReadsMany from to
  reads-many past = record { bytes = gone.taken; read = gone.read; many = omega (arith, past, gone.many) }

  -- where the reader failed
  pub fails : (next : Option (List ℕ)) → Keeps to next → ReadsSome from next
  fails next keeps = record { bytes = gone.taken; read = nothing-more next [] refl (Consumes-none to next keeps) }
