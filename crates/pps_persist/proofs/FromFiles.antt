-- What loading an input says of a file's bytes, if they are known.
use Rattle.std.proofs.Common.{◌≡◌, ℕ, List, [], ◌++◌, length, Option, Some, None, Result, Ok, Err, inl, inr, subst, sym, ap, ◌∙◌, append-nil, length-append, arith}
use Rattle.pps_types.specs.Image.{read_image}
use Rattle.pps_engine.specs.Serving.{Serving}
use Rattle.pps_persist.specs.declared.errors.LoadError.{LoadError}
use Rattle.pps_persist.specs.declared.errors.LoadError.TheVariants.{OutOfMemory, BadImage, ReadFault}
use Rattle.pps_persist.specs.Begun.{IsLoadedFrom}
use Rattle.pps_persist.specs.Loads.{Loads, LoadsImage, RefusesImage, ReadsMany, FaultAfterMany}
use Rattle.pps_persist.specs.Files.{OpensAt, HoldsOf, IsStartOf, LoadsFile, IsTooLong, MayBeUnread, ReadFaultOnlyIf}

starts : (bytes : List ℕ) (engine : Serving) → IsLoadedFrom bytes engine → IsStartOf bytes engine.content
starts bytes engine h = record { image = h.image; read = h.read; stands = h.stands }

-- what was read to the end is all that there was
all-read : (bytes xs ys : List ℕ) → xs ≡ bytes ++ ys → ys ≡ [] → bytes ≡ xs
all-read bytes xs ys read ended = sym (append-nil bytes) ∙ ap (λ (l : List ℕ). bytes ++ l) (sym ended) ∙ sym read

loaded-known : (xs : List ℕ) (to : Option (List ℕ)) (engine : Serving) → LoadsImage (Some xs) to engine → IsStartOf xs engine.content
loaded-known xs None engine h = absurd h.read
loaded-known xs (Some ys) engine h =
    subst (λ (l : List ℕ). IsStartOf l engine.content) (all-read h.bytes xs ys h.read h.ended) (starts h.bytes engine h.loaded)

refused-some : (from to : Option (List ℕ)) (line : ℕ) → RefusesImage from to line → (bytes : List ℕ) × (read_image bytes ≡ Err line)
refused-some from to line h = (
  h.bytes,
  elim h.told [
    | inl any ↦ subst (λ (l : List ℕ). read_image l ≡ Err line) (append-nil h.bytes) (any [])
    | inr ended ↦ ended.1
  ],
)

refused-known : (xs : List ℕ) (to : Option (List ℕ)) (line : ℕ) → RefusesImage (Some xs) to line → read_image xs ≡ Err line
refused-known xs None line h = absurd h.read
refused-known xs (Some ys) line h = elim h.told [
  | inl any ↦ subst (λ (l : List ℕ). read_image l ≡ Err line) (sym h.read) (any ys)
  | inr ended ↦ subst (λ (l : List ℕ). read_image l ≡ Err line) (all-read h.bytes xs ys h.read ended.0) ended.1
]

loaded : (held from to : Option (List ℕ)) (engine : Serving) → OpensAt held from → LoadsImage from to engine
    → HoldsOf held (λ bytes. IsStartOf bytes engine.content)
loaded None from to engine opens h = (h.bytes, starts h.bytes engine h.loaded)
loaded (Some xs) from to engine opens h = loaded-known xs to engine (subst (λ (o : Option (List ℕ)). LoadsImage o to engine) opens h)

refused : (held from to : Option (List ℕ)) (line : ℕ) → OpensAt held from → RefusesImage from to line
    → HoldsOf held (λ bytes. read_image bytes ≡ Err line)
refused None from to line opens h = refused-some from to line h
refused (Some xs) from to line opens h = refused-known xs to line (subst (λ (o : Option (List ℕ)). RefusesImage o to line) opens h)

pub loads-file : (held from to : Option (List ℕ)) (r : Result Serving LoadError) → OpensAt held from → Loads from to r → LoadsFile held r
loads-file held from to (Ok engine) opens h = loaded held from to engine opens h
loads-file held from to (Err (BadImage line)) opens h = refused held from to line opens h
loads-file held from to (Err OutOfMemory) opens h = tt
loads-file held from to (Err ReadFault) opens h = tt

-- ---- when it is not read

long-known : (xs : List ℕ) (to : Option (List ℕ)) → ReadsMany (Some xs) to → IsTooLong (Some xs)
long-known xs None h = absurd h.read
long-known xs (Some ys) h = omega (arith, h.many, ap length h.read, length-append h.bytes ys)

pub too-long : (held from to : Option (List ℕ)) → OpensAt held from → ReadsMany from to → IsTooLong held
too-long None from to opens h = (h.bytes, h.many)
too-long (Some xs) from to opens h = long-known xs to (subst (λ (o : Option (List ℕ)). ReadsMany o to) opens h)

pub fault-of-file : (held from to : Option (List ℕ)) (fails may_fail : Type 0) (r : Result Serving LoadError) → OpensAt held from → (fails → may_fail)
    → FaultAfterMany from to fails r → ReadFaultOnlyIf (MayBeUnread held may_fail) r
fault-of-file held from to fails may_fail (Ok engine) opens reads h = tt
fault-of-file held from to fails may_fail (Err OutOfMemory) opens reads h = tt
fault-of-file held from to fails may_fail (Err (BadImage line)) opens reads h = tt
fault-of-file held from to fails may_fail (Err ReadFault) opens reads h = elim h [
  | inl failed ↦ inl (reads failed)
  | inr many ↦ inr (too-long held from to opens many)
]
