-- A text that is written piece by piece.
use Rattle.std.proofs.Common.{◌≡◌, ℕ, ◌+◌, ◌≤◌, Bool, eqb, ◌&&◌, if◌then◌else◌, inl, inr, ◌<◌, List, [], ◌∷◌, ◌++◌, length, take, drop, get_or, Option, Result, Ok, Err, sym, ap, subst, ◌∙◌, append_assoc, append-nil, length-append, arith}
use Rattle.std.specs.Io.KnownBytes.{Appends}
use Rattle.std.proofs.lemmas.Bool.Decides.{eqb_tells}
use Rattle.std.specs.Prelude.{codes}
use Rattle.std.specs.Fmt.{decimal}
use Rattle.std.specs.List.{flat_map}
use Rattle.std.proofs.lemmas.Grind.{flat_map-append}
use Rattle.std.proofs.lemmas.List.{take_all, take_more, take-append-le, take-append-drop}
use Rattle.pps_types.specs.Image.{Saved, text_line, print_saved, image_text}
use Rattle.pps_types.specs.Device.{counted_once_more}
use Rattle.pps_types.proofs.KnownBytes.{Appends-none, Appends-then, Appends-same, then_part}
use Rattle.pps_persist.specs.declared.errors.SaveError.{SaveError}
use Rattle.pps_persist.specs.declared.output.Output.{Output}
use Rattle.pps_persist.specs.Sent.{sent_of, SendsPart, FlushesAll, FlushesPart, Flushes, Prints, PrintsOn}

-- a write that took some bytes did not stall
pub no_stall : (n count : ℕ) (more : Bool) → (count ≡ 0 → ⊥) → (if eqb count 0 && more then counted_once_more n else n) ≡ n
no_stall n count more some = elim (eqb_tells count 0) [
  | inl zero ↦ absurd (some zero.1)
  | inr other ↦ ap (λ (b : Bool). if b && more then counted_once_more n else n) other.0
]

-- ---- what was printed

-- where nothing more is written
pub stops-here : (before after : Option (List ℕ)) (text : List ℕ) (o : Output) → Prints before after text o → SendsPart before after text o.sent
stops-here before after text o p = record {
  within = omega (arith, p.sent, ap length p.parts, length-append p.front o.buffer.items);
  written = Appends-same before after _ _
      (sym (ap (λ (n : ℕ). take n text) p.sent ∙ ap (take (length p.front)) p.parts ∙ take-append-le (length p.front) p.front o.buffer.items (omega arith) ∙ take_all (length p.front) p.front (omega arith)))
      p.written;
}

-- the first bytes of a text are those of a longer one
pub longer-text : (before after : Option (List ℕ)) (text more : List ℕ) (sent : ℕ) → SendsPart before after text sent → SendsPart before after (text ++ more) sent
longer-text before after text more sent s = record {
  within = omega (arith, s.within, length-append text more);
  written = Appends-same before after _ _ (sym (take-append-le sent text more s.within)) s.written;
}

module _ (before middle after : Option (List ℕ)) (text : List ℕ) (old : Output) (p : Prints before middle text old) where
  pub flushed : (new : Output) → FlushesAll middle after old new → Prints before after text new
  flushed new f = record {
    front = text;
    parts = sym (append-nil text) ∙ ap (λ (x : List ℕ). text ++ x) (sym f.none);
    sent = omega (arith, f.sent, p.sent, ap length p.parts, length-append p.front old.buffer.items);
    written = Appends-same before after _ _ (sym p.parts) (Appends-then before middle after p.front old.buffer.items p.written f.written);
  }

  pub flushed-part : (error : SaveError) → FlushesPart middle after old error → SendsPart before after text (sent_of error)
  flushed-part error f =
      let whole : sent_of error ≡ length p.front + f.part = f.sent ∙ ap (λ (n : ℕ). n + f.part) p.sent in
      record {
        within = omega (arith, whole, f.written.within, ap length p.parts, length-append p.front old.buffer.items);
        written = Appends-same before after _ _ (λ i. take (sym whole i) (sym p.parts i)) (then_part before middle after p.front old.buffer.items f.part p.written f.written.written);
      }

  pub flushed-on : {X : Type 0} (new : Output) (result : Result X SaveError) → Flushes middle after old new result → PrintsOn before after text new result
  flushed-on new (Ok x) f = flushed new f
  flushed-on new (Err error) f = flushed-part error f

-- more was printed
pub printed : (before after : Option (List ℕ)) (text more : List ℕ) (old new : Output) → Prints before after text old → new.buffer.items ≡ old.buffer.items ++ more → new.sent ≡ old.sent → Prints before after (text ++ more) new
printed before after text more old new p buffer sent = record {
  front = p.front;
  parts = ap (λ (x : List ℕ). x ++ more) p.parts ∙ append_assoc p.front old.buffer.items more ∙ ap (λ (x : List ℕ). p.front ++ x) (sym buffer);
  sent = sent ∙ p.sent;
  written = p.written;
}

-- nothing was printed yet
pub prints-nothing : (before : Option (List ℕ)) (o : Output) → o.buffer.items ≡ [] → o.sent ≡ 0 → Prints before before [] o
prints-nothing before o none sent = record { front = []; parts = sym none; sent = sent; written = Appends-none before }

-- all was written
pub saved-all : (before after : Option (List ℕ)) (text : List ℕ) (o : Output) → Prints before after text o → o.buffer.items ≡ [] → (o.sent ≡ length text) × Appends before after text
saved-all before after text o p none =
    let whole : p.front ≡ text = sym (p.parts ∙ ap (λ (x : List ℕ). p.front ++ x) none ∙ append-nil p.front) in
    (p.sent ∙ ap length whole, Appends-same before after _ _ whole p.written)

-- ---- an image

-- an entry more
pub entries-more : (entries : List Saved) (at : ℕ) (e : Saved) → at < length entries → e ≡ get_or entries at e
    → flat_map print_saved (take (at + 1) entries) ≡ flat_map print_saved (take at entries) ++ print_saved e
entries-more entries at e within is =
    ap (flat_map print_saved) (take_more entries at e within ∙ ap (λ (y : Saved). take at entries ++ y ∷ []) (sym is))
    ∙ flat_map-append print_saved (take at entries) (e ∷ []) ∙ ap (λ (x : List ℕ). flat_map print_saved (take at entries) ++ x) (append-nil (print_saved e))

abbrev pub head_of : ℕ → List ℕ
head_of default_limit = text_line (codes "PPSIMAGE 2 " ++ decimal default_limit)

abbrev pub end_of : List Saved → List ℕ
end_of entries = text_line (codes "E " ++ decimal (length entries))

-- the text until so many entries
abbrev pub until : ℕ → List Saved → ℕ → List ℕ
until default_limit entries at = head_of default_limit ++ flat_map print_saved (take at entries)

pub until-more : (default_limit : ℕ) (entries : List Saved) (at : ℕ) (e : Saved) → at < length entries → e ≡ get_or entries at e
    → until default_limit entries at ++ print_saved e ≡ until default_limit entries (at + 1)
until-more default_limit entries at e within is =
    append_assoc (head_of default_limit) (flat_map print_saved (take at entries)) (print_saved e)
    ∙ ap (λ (x : List ℕ). head_of default_limit ++ x) (sym (entries-more entries at e within is))

until-rest : (default_limit : ℕ) (entries : List Saved) (at : ℕ) → until default_limit entries at ++ (flat_map print_saved (drop at entries) ++ end_of entries) ≡ image_text default_limit entries
until-rest default_limit entries at =
    sym (append_assoc (until default_limit entries at) (flat_map print_saved (drop at entries)) (end_of entries))
    ∙ ap (λ (x : List ℕ). x ++ end_of entries)
    (append_assoc (head_of default_limit) (flat_map print_saved (take at entries)) (flat_map print_saved (drop at entries))
    ∙ ap (λ (x : List ℕ). head_of default_limit ++ x) (sym (flat_map-append print_saved (take at entries) (drop at entries)) ∙ ap (flat_map print_saved) (take-append-drop at entries)))

-- the first bytes of its front are those of an image
pub part-of-image : (before after : Option (List ℕ)) (default_limit : ℕ) (entries : List Saved) (at sent : ℕ) → SendsPart before after (until default_limit entries at) sent → SendsPart before after (image_text default_limit entries) sent
part-of-image before after default_limit entries at sent s =
    subst (λ (x : List ℕ). SendsPart before after x sent) (until-rest default_limit entries at)
    (longer-text before after (until default_limit entries at) (flat_map print_saved (drop at entries) ++ end_of entries) sent s)

pub whole-image : (default_limit : ℕ) (entries : List Saved) (at : ℕ) → length entries ≤ at → until default_limit entries at ++ end_of entries ≡ image_text default_limit entries
whole-image default_limit entries at past = ap (λ (x : List Saved). (head_of default_limit ++ flat_map print_saved x) ++ end_of entries) (take_all at entries past)
