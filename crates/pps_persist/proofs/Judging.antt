-- What an answer of the engine says, as it is judged.
use Rattle.std.proofs.Common.{◌≡◌, false, ◌⊎◌, inl, inr, ◌&&◌, ℕ, List, [], None, Result, Ok, Err, sym, ap, ◌∙◌, refl}
use Rattle.std.specs.Prelude.{nat_le, IfErr, OnOk}
use Rattle.std.specs.Result.{is_ok}
use Rattle.pps_types.specs.declared.refusal.Refusal.{Refusal}
use Rattle.pps_types.specs.declared.refusal.Refusal.TheVariants.{OutOfMemory}
use Rattle.pps_types.specs.declared.refusal.Refusal.TheVariants as refusals
use Rattle.pps_types.specs.Names.{Path}
use Rattle.pps_types.specs.Content.{Content}
use Rattle.pps_types.specs.Image as image
use Rattle.pps_types.specs.Image.{SavedDirectory, SavedObject, SavedLine, may_follow, attribute_line}
use Rattle.pps_persist.specs.declared.errors.Fault.{Fault}
use Rattle.pps_persist.specs.declared.errors.Fault.TheVariants.{Refused}
use Rattle.pps_persist.specs.declared.errors.Fault.TheVariants as faults
use Rattle.pps_persist.specs.declared.place.Loaded.{Loaded}
use Rattle.pps_persist.specs.declared.place.Object.{Object}
use Rattle.pps_persist.specs.Held.{Holds, HoldsObject, AddsDirectory, AddsObject, AddsLine}
use Rattle.pps_persist.specs.Judged.{judged}

module _ {X : Type 0} where
  abbrev judged_err : Refusal → Result X Fault
  judged_err r = judged (Err r)

  pub judged-done : (o : Result X Refusal) (x : X) (P : Type 0) → judged o ≡ Ok x → OnOk o P → P
  judged-done (Ok y) x P h done = done
  judged-done (Err refusals.OutOfMemory) x P h done = absurd cc
  judged-done (Err r) x P h done = absurd cc

  pub judged-refused : (o : Result X Refusal) (call : Result Content Refusal) → judged o ≡ Err Refused → IfErr o (λ r. (call ≡ Err r) ⊎ (r ≡ OutOfMemory)) → is_ok call ≡ false
  judged-refused (Ok y) call h said = absurd cc
  judged-refused (Err r) call h (inl e) = ap is_ok e
  judged-refused (Err r) call h (inr e) = absurd (let k : judged_err OutOfMemory ≡ Err Refused = sym (ap judged_err e) ∙ h in cc)

-- ---- by the fault

pub directory-refused : (old : Loaded) (path : Path) (fault : Fault) → (fault ≡ Refused → (r : image.Loaded) → Holds r old → may_follow r.entries (SavedDirectory path) ≡ false) → AddsDirectory old path (Err fault)
directory-refused old path faults.OutOfMemory h = tt
directory-refused old path Refused h = h refl

pub object-refused : (old : Loaded) (path : Path) (count : ℕ) (fault : Fault) → (fault ≡ Refused → (r : image.Loaded) → Holds r old → (may_follow r.entries (SavedObject path []) && nat_le count 1024) ≡ false) → AddsObject old path count (Err fault)
object-refused old path count faults.OutOfMemory h = tt
object-refused old path count Refused h = h refl

pub line-refused : (old : Loaded) (o : Object) (l : List ℕ) (fault : Fault)
    → (fault ≡ Refused → (r : image.Loaded) (path : Path) (before : List SavedLine) → HoldsObject r path before old o → attribute_line r path before o.to_come l ≡ None) → AddsLine old o l (Err fault)
line-refused old o l faults.OutOfMemory h = tt
line-refused old o l Refused h = h refl
