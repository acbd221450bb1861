-- What a search for a line feed says, and a read of nothing.
use Rattle.std.proofs.Common.{◌≡◌, ◌+◌, ◌<◌, ℕ, length, take, drop, List, [], Option, Some, None, sym, ap, subst, ◌∙◌}
use Rattle.std.specs.Prelude.{option_map, Result, Ok, Err}
use Rattle.std.specs.Io.KnownBytes.{Consumes, IsAtEnd, ReadConsumes}
use Rattle.memchr.specs.Find.{IsFirstByte, is_byte}
use Rattle.pps_types.specs.Bytes.{split_at_first}
use Rattle.pps_types.proofs.Cuts.{split_at_first-is}

pub found : (text : List ℕ) (r : Option ℕ) (end : ℕ) → IsFirstByte (is_byte 10) text r → r ≡ Some end → Some (take end text, drop (end + 1) text) ≡ split_at_first 10 text
found text r end is e = sym (ap (option_map (λ k. (take k text, drop (k + 1) text))) e) ∙ split_at_first-is 10 text r is

pub missing : (text : List ℕ) (r : Option ℕ) → IsFirstByte (is_byte 10) text r → r ≡ None → None ≡ split_at_first 10 text
missing text r is e = sym (ap (option_map (λ k. (take k text, drop (k + 1) text))) e) ∙ split_at_first-is 10 text r is

-- a read of no bytes, into a buffer that has room
pub read-none : {E : Type 0} (old new : Option (List ℕ)) (r : Result ℕ E) (buffer : List ℕ) (n : ℕ) → ReadConsumes old new r buffer → r ≡ Ok n → n ≡ 0 → 0 < length buffer → Consumes old new [] × IsAtEnd new
read-none old new (Ok m) buffer n reads is zero room =
    let none : m ≡ 0 = (let same : m ≡ n = cc in same ∙ zero) in
    (subst (λ k. Consumes old new (take k buffer)) none reads.0, reads.1 none room)
read-none old new (Err e) buffer n reads is zero room = absurd (let h = is in cc)
