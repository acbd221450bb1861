-- The laws of saved images.
use Rattle.std.proofs.Common.{◌≡◌, ℕ, ◌+◌, ◌≤◌, true, false, ◌&&◌, List, [], ◌∷◌, ◌++◌, length, Ok, refl, sym, ap, subst, ◌∙◌, append_assoc, ⊎_elim, arith}
use Rattle.std.specs.Prelude.{codes}
use Rattle.std.specs.List.{flat_map, list_all}
use Rattle.std.specs.Fmt.{decimal, digits}
use Rattle.std.specs.Result.{is_ok}
use Rattle.std.specs.Ordering.{is_lt}
use Rattle.pps_types.specs.Names.{path_cmp}
use Rattle.pps_types.specs.Content.{Content}
use Rattle.pps_types.specs.Machine.{start, content_of}
use Rattle.pps_types.specs.Image.{SavedLine, Saved, SavedDirectory, SavedObject, saved, text_line, print_saved, image_text, image, Image, started, First, Behind, path_of, as_line, IsImage}
use Rattle.pps_types.specs.Stands.{Stands}
use Rattle.pps_types.specs.Restore.{restore_directory, restore_object, restore_line}
use Rattle.service_laws.proofs.WellSteps.{basis-in}
use Rattle.service_laws.proofs.Law.{start-made}
use Rattle.service_laws.proofs.ImageStarts.{images-start}
use Rattle.service_laws.specs.Bounds.{IsBound}
use Rattle.service_laws.proofs.BoundedEvents.{bounds-stay}
use Rattle.image_laws.specs.Images.{AreLines}
use Rattle.image_laws.specs.Laws.{is_newer, OnlyImagesAreRead, JustImagesAreRead, ReadImagesArePrintable, TextsAreRead, StartsHoldTheEntries, SavedIsReadAgain, SavingStays, RunsAreReadAgain, StartsAreWithinBounds, ReadersGoLineByLine, CallsStartIt, CallsDecide, ReadIsSavedAlike}
use Rattle.image_laws.specs.Savable.{CanBeSaved}
use Rattle.image_laws.proofs.Good.{IsEntry, AreEntries, IsGood, entry-of, texts-of, good, printable}
use Rattle.image_laws.proofs.SavedEvents.{step-saved}
use Rattle.image_laws.proofs.SavedRuns.{after-saved, read-later}
use Rattle.image_laws.proofs.Printed.{image_text-read, images-read}
use Rattle.image_laws.proofs.Only.{IsOlder, IsNewer, IsRead, read_image-only}
use Rattle.image_laws.proofs.Started.{started-saves}
use Rattle.image_laws.proofs.Saving.{image-read}
use Rattle.image_laws.proofs.Restoring.{started-bound}
use Rattle.image_laws.proofs.Streams.{read-on, line-refused, line-ended, behind-end}
use Rattle.image_laws.proofs.Calls.{calls-start}
use Rattle.image_laws.proofs.Agree.{agree-directory, agree-object, agree-line}
use Rattle.image_laws.proofs.Wrong.{read-image}
use Rattle.image_laws.proofs.Lengths.{line-short, long-refused}

-- ---- a longer text is allowed too

lines-longer : (short long : ℕ) (before ls : List SavedLine) → short ≤ long → AreLines short before ls → AreLines long before ls
lines-longer short long before [] le h = tt
lines-longer short long before (l ∷ ls) le h = (h.0, h.1, omega (arith, h.2), lines-longer short long (before ++ l ∷ []) ls le h.3)

entry-longer : (short long : ℕ) (before : List Saved) (e : Saved) → short ≤ long → IsEntry short before e → IsEntry long before e
entry-longer short long before (SavedDirectory path) le h = h
entry-longer short long before (SavedObject path lines) le h = (h.0, h.1, h.2, lines-longer short long [] lines le h.3)

entries-longer : (short long : ℕ) (before es : List Saved) → short ≤ long → AreEntries short before es → AreEntries long before es
entries-longer short long before [] le h = tt
entries-longer short long before (e ∷ es) le h = (entry-longer short long before e le h.0, entries-longer short long (before ++ e ∷ []) es le h.1)

-- ---- the versions

newer-is : (l rest : List ℕ) (longest d : ℕ) → IsNewer l longest d → is_newer (text_line l ++ rest) ≡ true
newer-is l rest longest d h = rw (h.0) refl

older-not : (l rest : List ℕ) (longest d : ℕ) → IsOlder l longest d → is_newer (text_line l ++ rest) ≡ false
older-not l rest longest d h = rw (h.0) refl

-- the text behind the first line
abbrev rest_of : List Saved → List ℕ
rest_of es = flat_map print_saved es ++ text_line (codes "E " ++ decimal (length es))

cut : (bytes : List ℕ) (i : Image) (h : IsRead bytes i) → bytes ≡ text_line h.head ++ rest_of i.entries
cut bytes i h = h.text ∙ append_assoc (text_line h.head) (flat_map print_saved i.entries) (text_line (codes "E " ++ decimal (length i.entries)))

image-cut : (d : ℕ) (es : List Saved) → image_text d es ≡ text_line (codes "PPSIMAGE 2 " ++ decimal d) ++ rest_of es
image-cut d es = append_assoc (text_line (codes "PPSIMAGE 2 " ++ decimal d)) (flat_map print_saved es) (text_line (codes "E " ++ decimal (length es)))

started-image : (longest : ℕ) (i : Image) → AreEntries longest [] i.entries → image (content_of (started i)) ≡ image_text i.default_limit i.entries
started-image longest i all = let h = started-saves longest i all in ap image (images-start.stands i) ∙ (λ j. image_text (h.1 j) (h.0 j))

only-newer : (bytes : List ℕ) (i : Image) → IsRead bytes i → is_newer bytes ≡ true → image (content_of (started i)) ≡ bytes
only-newer bytes i h newer =
    ⊎_elim
    (λ v. absurd (let e = sym newer ∙ ap is_newer (cut bytes i h) ∙ older-not h.head (rest_of i.entries) h.longest i.default_limit v in cc))
    (λ v. started-image h.longest i h.entries ∙ image-cut i.default_limit i.entries ∙ ap (λ l. text_line l ++ rest_of i.entries) (sym v.0) ∙ sym (cut bytes i h))
    h.version

spelled : codes "PPSIMAGE 2 " ++ decimal 256 ≡ codes "PPSIMAGE 2 256"
unfolding digits
spelled = refl

only-older : (bytes : List ℕ) (i : Image) → IsRead bytes i → (is_newer bytes ≡ true → ⊥) → (i.default_limit ≡ 256) × (rest : List ℕ) × (bytes ≡ text_line (codes "PPSIMAGE 1") ++ rest) × (image (content_of (started i)) ≡ text_line (codes "PPSIMAGE 2 256") ++ rest)
only-older bytes i h older =
    ⊎_elim
    (λ v. (
      v.2,
      rest_of i.entries,
      cut bytes i h ∙ ap (λ l. text_line l ++ rest_of i.entries) v.0,
      started-image h.longest i h.entries ∙ image-cut i.default_limit i.entries ∙ ap (λ d. text_line (codes "PPSIMAGE 2 " ++ decimal d) ++ rest_of i.entries) v.2 ∙ ap (λ l. text_line l ++ rest_of i.entries) spelled,
    ))
    (λ v. absurd (older (ap is_newer (cut bytes i h) ∙ newer-is h.head (rest_of i.entries) h.longest i.default_limit v)))
    h.version

pub only-images : OnlyImagesAreRead
only-images = record { newer = λ bytes i e. only-newer bytes i (read_image-only bytes i e); older = λ bytes i e. only-older bytes i (read_image-only bytes i e) }

pub just-images : JustImagesAreRead
just-images = record { images = images-read; nothing_else = read-image }

well : (bytes : List ℕ) (i : Image) → IsRead bytes i → IsGood i
well bytes i h =
    ⊎_elim
    (λ v. record { least = omega (arith, v.2); most = omega (arith, v.2); entries = entries-longer h.longest 65536 [] i.entries (omega (arith, v.1)) h.entries })
    (λ v. record { least = v.2; most = v.3; entries = entries-longer h.longest 65536 [] i.entries (omega (arith, v.1)) h.entries })
    h.version

well-older : (bytes : List ℕ) (i : Image) → IsRead bytes i → (is_newer bytes ≡ true → ⊥) → AreEntries 32768 [] i.entries
well-older bytes i h older =
    ⊎_elim
    (λ v. subst (λ n. AreEntries n [] i.entries) v.1 h.entries)
    (λ v. absurd (older (ap is_newer (cut bytes i h) ∙ newer-is h.head (rest_of i.entries) h.longest i.default_limit v)))
    h.version

pub read-printable : ReadImagesArePrintable
read-printable = record {
  newer = λ bytes i e. printable i (well bytes i (read_image-only bytes i e));
  older = λ bytes i e old. texts-of 32768 [] i.entries (well-older bytes i (read_image-only bytes i e) old);
}

pub texts-read : TextsAreRead
texts-read i is text = image_text-read i (good i is text)

pub starts-hold : StartsHoldTheEntries
starts-hold = record {
  entries = λ i is text. ap saved (images-start.stands i) ∙ (started-saves 65536 i (good i is text).entries).0;
  limit = λ i is text. ap (λ c. c.default_limit) (images-start.stands i) ∙ (started-saves 65536 i (good i is text).entries).1;
}

-- what has the content of what an image starts, stands for that machine
pub starts-stand : (i : Image) → IsImage i → (c : Content) → c ≡ content_of (started i) → Stands c (started i)
starts-stand i is c same = record { made = images-start.made i is; same = same }

pub saved-again : SavedIsReadAgain
saved-again = image-read

pub saving-stays : SavingStays
saving-stays = record {
  begins = λ first d least most. record { least = least; most = most; paths = ((refl, omega arith), tt); object_paths = tt; attributes = tt; directories = omega arith; objects = omega arith };
  images = λ i is text. subst CanBeSaved (sym (images-start.stands i)) (started-bound i (good i is text)).1;
  stays = λ c well bound can e. step-saved c e (basis-in c well) bound can;
  ends = λ c well bound can es. after-saved es c well bound can;
}

pub read-alike : ReadIsSavedAlike
read-alike c again i e =
    let is : i ≡ record { default_limit = c.default_limit; entries = saved c } = cc in
    let follow = images-start.read (image c) i e in
    let text = read-printable.newer (image c) i e in
    record {
      entries = sym (starts-hold.entries i follow text ∙ ap (λ (i : Image). i.entries) is);
      limit = sym (starts-hold.limit i follow text ∙ ap (λ (i : Image). i.default_limit) is);
    }

pub within-bounds : StartsAreWithinBounds
within-bounds i is text = subst IsBound (sym (images-start.stands i)) (started-bound i (good i is text)).0

pub runs-again : RunsAreReadAgain
runs-again = record {
  begins = λ first d ends least most. read-later (start first d) (record { made = start-made first d; bound = bounds-stay.begins first d ends; can = saving-stays.begins first d least most; keeps = refl });
  images = λ bytes i e.
      let is = images-start.read bytes i e in
      let text = read-printable.newer bytes i e in
      read-later (started i) (record { made = images-start.made i is; bound = within-bounds i is text; can = saving-stays.images i is text; keeps = refl });
}

pub line-by-line : ReadersGoLineByLine
line-by-line = record {
  whole = λ ls rest p plain e. read-on 1 First p ls rest plain e;
  refused = λ ls l rest p plain line e no_line. read-on 1 First p ls (text_line l ++ rest) plain e ∙ line-refused (1 + length ls) p l rest line no_line;
  ended = λ ls l p plain line e. read-on 1 First p ls l plain e ∙ line-ended (1 + length ls) p l line;
  long = λ ls l rest p plain line e many. read-on 1 First p ls (l ++ rest) plain e ∙ long-refused (1 + length ls) p l rest line many (λ k q k-line h. line-short ls k p q plain k-line e h);
  behind = λ ls b rest i plain e. read-on 1 First (Behind i) ls (b ∷ rest) plain e ∙ behind-end (1 + length ls) i b rest;
}

pub calls-start-it : CallsStartIt
calls-start-it i is text = calls-start i (good i is text) ∙ ap Ok (sym (images-start.stands i))

pub calls-decide : CallsDecide
calls-decide = record {
  directory = λ i is text path named some. agree-directory i (good i is text) path named some ∙ ap (λ c. list_all (λ x. is_lt (path_cmp (path_of x) path)) i.entries && is_ok (restore_directory c path)) (sym (images-start.stands i));
  object = λ i is text path named some. agree-object i (good i is text) path named some ∙ ap (λ c. list_all (λ x. is_lt (path_cmp (path_of x) path)) i.entries && is_ok (restore_object c path)) (sym (images-start.stands i));
  line = λ i is text path lines l follows has named few. agree-line i (good i is text) path lines l (entry-of 65536 i.entries (SavedObject path lines) follows has) named few
      ∙ ap (λ c. is_ok (restore_line c path (as_line l))) (sym (images-start.stands (record { default_limit = i.default_limit; entries = i.entries ++ SavedObject path lines ∷ [] })));
}
