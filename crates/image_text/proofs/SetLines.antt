-- A line without bracket that sets an attribute, as an image has it and as a record has it.
use Rattle.std.proofs.Common.{◌≡◌, ℕ, Bool, true, false, cond, List, Option, Some, None, refl, sym, ap, subst}
use Rattle.std.specs.Prelude.{◌&&◌, option_map, option_and_then}
use Rattle.pps_types.specs.declared.line.Mark.TheVariants.{Keep}
use Rattle.pps_types.specs.declared.line.WriteLine.{WriteLine}
use Rattle.pps_types.specs.declared.line.WriteLine.TheVariants.{Set as WriteSet, Del as WriteDel}
use Rattle.pps_types.specs.Bytes.{split_at_first}
use Rattle.pps_types.specs.History.{message_line}
use Rattle.pps_types.specs.Image.{SavedLine, as_line, set_of}
use Rattle.pps_types.specs.Text.{is_attribute_name, is_encoding, set_line}
use Rattle.image_laws.specs.Images.{IsImageLine}
use Rattle.image_laws.proofs.Said.{image-line}
use Rattle.image_text.specs.Lines.{IsPlain}

kept : (l : List ℕ) (w : WriteLine) → set_line Keep l ≡ Some w → Some (message_line w) ≡ option_map as_line (set_of w)
kept l w = named (split_at_first 58 l)
  where
    judged : (n e v : List ℕ) (good : Bool) → cond good (Some (WriteSet n e v Keep)) None ≡ Some w → Some (message_line w) ≡ option_map as_line (set_of w)
    judged n e v true is = let same : WriteSet n e v Keep ≡ w = cc in subst (λ (x : WriteLine). Some (message_line x) ≡ option_map as_line (set_of x)) same refl
    judged n e v false is = absurd (let bad = is in cc)

    encoded : (n : List ℕ) (o : Option (List ℕ × List ℕ))
        → option_and_then (λ (parts : List ℕ × List ℕ). cond (is_attribute_name n && is_encoding parts.0) (Some (WriteSet n parts.0 parts.1 Keep)) None) o ≡ Some w
        → Some (message_line w) ≡ option_map as_line (set_of w)
    encoded n None is = absurd (let bad = is in cc)
    encoded n (Some parts) is = judged n parts.0 parts.1 (is_attribute_name n && is_encoding parts.0) is

    named : (o : Option (List ℕ × List ℕ))
        → option_and_then (λ (first : List ℕ × List ℕ). option_and_then (λ (parts : List ℕ × List ℕ). cond (is_attribute_name first.0 && is_encoding parts.0) (Some (WriteSet first.0 parts.0 parts.1 Keep)) None) (split_at_first 58 first.1)) o ≡ Some w
        → Some (message_line w) ≡ option_map as_line (set_of w)
    named None is = absurd (let bad = is in cc)
    named (Some first) is = encoded first.0 (split_at_first 58 first.1) is

-- such a line is one that an image may have
pub read-image-line : (l : List ℕ) (w : WriteLine) → Some w ≡ set_line Keep l → IsPlain l → IsImageLine (message_line w)
read-image-line l (WriteSet name enc value mark) is plain =
    let a : SavedLine = record { name = name; enc = enc; value = value } in
    let both = kept l (WriteSet name enc value mark) (sym is) in
    let same : message_line (WriteSet name enc value mark) ≡ as_line a = cc in
    subst IsImageLine (sym same) (image-line l a plain (ap (option_and_then set_of) (sym is)))
read-image-line l (WriteDel name) is plain = absurd (let both = kept l (WriteDel name) (sym is) in cc)
