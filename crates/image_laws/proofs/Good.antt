-- Images whose entries may follow one another and have a text, entry by entry.
use Rattle.std.specs.Prelude.{◌≡◌, ◌≤◌, ℕ, List, [], ◌∷◌, ◌++◌, true, length}
use Rattle.std.specs.List.{AllByRecursion}
use Rattle.pps_types.specs.Image.{Saved, SavedDirectory, SavedObject, may_follow, Image, AreFollowing, IsImage}
use Rattle.image_laws.specs.Images.{AreLines, IsSavedPath, HasText, IsPrintable}

abbrev pub IsEntry : ℕ → List Saved → Saved → Type 0
IsEntry longest before (SavedDirectory path) = IsSavedPath path × (may_follow before (SavedDirectory path) ≡ true)
IsEntry longest before (SavedObject path lines) = IsSavedPath path × (may_follow before (SavedObject path []) ≡ true) × (length lines ≤ 1024) × AreLines longest [] lines

-- each where those before it are there
abbrev pub AreEntries : ℕ → List Saved → List Saved → Type 0
AreEntries longest before [] = Unit {0}
AreEntries longest before (e ∷ es) = IsEntry longest before e × AreEntries longest (before ++ e ∷ []) es

pub record IsGood (i : Image) : Type 0 where
  pub least : 1 ≤ i.default_limit
  pub most : i.default_limit ≤ 65535
  pub entries : AreEntries 65536 [] i.entries

-- ---- the two facts apart, and joined

pub entry-of : (longest : ℕ) (before : List Saved) (e : Saved) → may_follow before e ≡ true → HasText longest e → IsEntry longest before e
entry-of longest before (SavedDirectory path) follows text = (text, follows)
entry-of longest before (SavedObject path lines) follows text = (text.0, follows, text.1, text.2)

pub entries-of : (longest : ℕ) (before es : List Saved) → AreFollowing before es → AllByRecursion (HasText longest) es → AreEntries longest before es
entries-of longest before [] follow texts = tt
entries-of longest before (e ∷ es) follow texts = (entry-of longest before e follow.0 texts.0, entries-of longest (before ++ e ∷ []) es follow.1 texts.1)

pub good : (i : Image) → IsImage i → IsPrintable i → IsGood i
good i follow texts = record { least = texts.least; most = texts.most; entries = entries-of 65536 [] i.entries follow texts.entries }

text-of : (longest : ℕ) (before : List Saved) (e : Saved) → IsEntry longest before e → HasText longest e
text-of longest before (SavedDirectory path) h = h.0
text-of longest before (SavedObject path lines) h = (h.0, h.2, h.3)

pub texts-of : (longest : ℕ) (before es : List Saved) → AreEntries longest before es → AllByRecursion (HasText longest) es
texts-of longest before [] h = tt
texts-of longest before (e ∷ es) h = (text-of longest before e h.0, texts-of longest (before ++ e ∷ []) es h.1)

pub printable : (i : Image) → IsGood i → IsPrintable i
printable i h = record { least = h.least; most = h.most; entries = texts-of 65536 [] i.entries h.entries }

-- ---- parted again

follows : (longest : ℕ) (before : List Saved) (e : Saved) → IsEntry longest before e → may_follow before e ≡ true
follows longest before (SavedDirectory path) h = h.1
follows longest before (SavedObject path lines) h = h.1

pub following-of : (longest : ℕ) (before es : List Saved) → AreEntries longest before es → AreFollowing before es
following-of longest before [] h = tt
following-of longest before (e ∷ es) h = (follows longest before e h.0, following-of longest (before ++ e ∷ []) es h.1)
