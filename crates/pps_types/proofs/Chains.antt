-- What is kept for delta and names handles: what such a handle sees is in the chain of its target, and how long the longest rest is.
use Rattle.std.proofs.Common.{◌≡◌, ℕ, ◌≤◌, ◌<◌, Bool, true, false, cond, not, ◌&&◌, ◌||◌, eqb, List, [], ◌∷◌, length, Option, refl, sym, ap, ◌∙◌, arith, ⊎_elim}
use Rattle.std.specs.Prelude.{nat_lt, is_some, max}
use Rattle.std.proofs.lemmas.Bool.{eqb-true, cases_lt}
use Rattle.std.proofs.lemmas.Bool.Decides.{nat_tests}
use Rattle.pps_types.specs.declared.record.Kind.{Kind}
use Rattle.pps_types.specs.declared.record.Kind.TheVariants.{Created, Change, Truncated, Dropped, Deleted, Opened, Closed, FromClient, ToClient, ToAll}
use Rattle.pps_types.specs.Filter.{Part}
use Rattle.pps_types.specs.History.{Entry}
use Rattle.pps_types.specs.declared.handle_kind.HandleKind.{HandleKind}
use Rattle.pps_types.specs.declared.handle_kind.HandleKind.TheVariants.{Object as ObjectHandle, Directory as DirectoryHandle, Names as NamesHandle, Server as ServerHandle, Client as ClientHandle}
use Rattle.pps_types.specs.Reading.{is_delta_style, OpenHandle, style, visible, concerns, is_directory_kind, is_object_kind, is_writer, is_chained, shown as block_of}
use Rattle.pps_types.specs.Rests.{Progress, keeps}
use Rattle.pps_types.specs.Owed.{in_chain, same_flag, is_of, rest_seen, longest, longer, longest_rest}

-- ---- what is seen is in the chain

pub visible-keeps : {S : Type 0} (h : OpenHandle S) (e : Entry) → visible h e ≡ true → keeps h e ≡ true
visible-keeps h e v = ap (λ b. b || (concerns h e && is_chained h.kind e.record_of.kind)) v

lines-chained : (parts : Option (List Part)) (k : HandleKind) → is_delta_style (style k) ≡ true → (number : ℕ) (kind : Kind) → is_some (block_of k number parts kind) ≡ true → is_chained k kind ≡ true
lines-chained parts (ObjectHandle d) delta number Created s = s
lines-chained parts (ObjectHandle d) delta number (Change lines) s = refl
lines-chained parts (ObjectHandle d) delta number Truncated s = refl
lines-chained parts (ObjectHandle d) delta number Dropped s = refl
lines-chained parts (ObjectHandle d) delta number Deleted s = refl
lines-chained parts (ObjectHandle d) delta number (Opened id) s = s
lines-chained parts (ObjectHandle d) delta number (Closed id) s = s
lines-chained parts (ObjectHandle d) delta number (FromClient id lines) s = s
lines-chained parts (ObjectHandle d) delta number (ToClient id lines) s = s
lines-chained parts (ObjectHandle d) delta number (ToAll lines) s = s
lines-chained parts (DirectoryHandle d) delta number Created s = refl
lines-chained parts (DirectoryHandle d) delta number (Change lines) s = refl
lines-chained parts (DirectoryHandle d) delta number Truncated s = refl
lines-chained parts (DirectoryHandle d) delta number Dropped s = refl
lines-chained parts (DirectoryHandle d) delta number Deleted s = refl
lines-chained parts (DirectoryHandle d) delta number (Opened id) s = s
lines-chained parts (DirectoryHandle d) delta number (Closed id) s = s
lines-chained parts (DirectoryHandle d) delta number (FromClient id lines) s = s
lines-chained parts (DirectoryHandle d) delta number (ToClient id lines) s = s
lines-chained parts (DirectoryHandle d) delta number (ToAll lines) s = s
lines-chained parts NamesHandle delta number Created s = refl
lines-chained parts NamesHandle delta number (Change lines) s = refl
lines-chained parts NamesHandle delta number Truncated s = refl
lines-chained parts NamesHandle delta number Dropped s = refl
lines-chained parts NamesHandle delta number Deleted s = refl
lines-chained parts NamesHandle delta number (Opened id) s = s
lines-chained parts NamesHandle delta number (Closed id) s = s
lines-chained parts NamesHandle delta number (FromClient id lines) s = s
lines-chained parts NamesHandle delta number (ToClient id lines) s = s
lines-chained parts NamesHandle delta number (ToAll lines) s = s
lines-chained parts ServerHandle delta number kind s = absurd cc
lines-chained parts ClientHandle delta number kind s = absurd cc

absorb : (c r w s ch : Bool) → (s ≡ true → ch ≡ true) → ((c && (r && w && s)) || (c && ch)) ≡ (c && ch)
absorb false r w s ch f = refl
absorb true false w s ch f = refl
absorb true true false s ch f = refl
absorb true true true true ch f = sym (f refl)
absorb true true true false ch f = refl

-- the chain of a handle's target
chain-by : (k : HandleKind) (d : Bool) (t : ℕ) (e : Entry) → is_delta_style (style k) ≡ true → same_flag (is_directory_kind k) d ≡ true → (cond (is_directory_kind k) (eqb e.directory t) (eqb e.record_of.object t) && is_chained k e.record_of.kind) ≡ in_chain d t e
chain-by (ObjectHandle true) false t e delta flag = refl
chain-by (ObjectHandle b) true t e delta flag = absurd cc
chain-by (ObjectHandle false) d t e delta flag = absurd cc
chain-by (DirectoryHandle true) true t e delta flag = ap (λ b. eqb e.directory t && b) (same-kinds e.record_of.kind)
  where
    same-kinds : (k : Kind) → is_chained (DirectoryHandle true) k ≡ is_chained NamesHandle k
    same-kinds Created = refl
    same-kinds (Change lines) = refl
    same-kinds Truncated = refl
    same-kinds Dropped = refl
    same-kinds Deleted = refl
    same-kinds (Opened id) = refl
    same-kinds (Closed id) = refl
    same-kinds (FromClient id lines) = refl
    same-kinds (ToClient id lines) = refl
    same-kinds (ToAll lines) = refl
chain-by (DirectoryHandle b) false t e delta flag = absurd cc
chain-by (DirectoryHandle false) d t e delta flag = absurd cc
chain-by NamesHandle true t e delta flag = refl
chain-by NamesHandle false t e delta flag = absurd cc
chain-by ServerHandle d t e delta flag = absurd cc
chain-by ClientHandle d t e delta flag = absurd cc

-- a delta or names handle of the target, taken apart
pub record IsOf {S : Type 0} (d : Bool) (t : ℕ) (h : OpenHandle S) : Type 0 where
  pub delta : is_delta_style (style h.kind) ≡ true
  pub flag : same_flag (is_directory_kind h.kind) d ≡ true
  pub target : h.target ≡ t

pub apart : {S : Type 0} (d : Bool) (t : ℕ) (h : OpenHandle S) → is_of d t h ≡ true → IsOf d t h
apart d t h e =
    let p = both (is_delta_style (style h.kind)) (same_flag (is_directory_kind h.kind) d) (eqb h.target t) e in
    record { delta = p.0; flag = p.1; target = eqb-true h.target t p.2 }
  where
    both : (a b c : Bool) → (a && b && c) ≡ true → (a ≡ true) × (b ≡ true) × (c ≡ true)
    both true true true e = (refl, refl, refl)
    both true true false e = absurd cc
    both true false c e = absurd cc
    both false b c e = absurd cc

pub keeps-chain : {S : Type 0} (d : Bool) (t : ℕ) (h : OpenHandle S) → IsOf d t h → (e : Entry) → keeps h e ≡ in_chain d t e
keeps-chain d t h of e =
    absorb (concerns h e) h.reads (not (is_writer h.number e.record_of.writer) || (h.options.reflect && is_object_kind h.kind)) (is_some (block_of h.kind h.number h.options.filter e.record_of.kind)) (is_chained h.kind e.record_of.kind) (lines-chained h.options.filter h.kind of.delta h.number e.record_of.kind)
    ∙ ap (λ x. cond (is_directory_kind h.kind) (eqb e.directory x) (eqb e.record_of.object x) && is_chained h.kind e.record_of.kind) of.target
    ∙ chain-by h.kind d t e of.delta of.flag

-- ---- the longest

pub longer-first : (xs ys : List Entry) → length ys ≤ length xs → longer xs ys ≡ xs
longer-first xs ys le = let e : nat_lt (length xs) (length ys) ≡ false = grind (arith, nat_tests) in ap (λ b. cond b ys xs) e

pub longer-second : (xs ys : List Entry) → length xs < length ys → longer xs ys ≡ ys
longer-second xs ys lt = let e : nat_lt (length xs) (length ys) ≡ true = grind (arith, nat_tests) in ap (λ b. cond b ys xs) e

pub longer-none : (ys : List Entry) → longer [] ys ≡ ys
longer-none [] = refl
longer-none (y ∷ ys) = longer-second [] (y ∷ ys) (omega arith)

longer-length : (xs ys : List Entry) → length (longer xs ys) ≡ max (length xs) (length ys)
longer-length xs ys = ⊎_elim
    (λ lt. ap length (longer-second xs ys lt) ∙ omega arith)
    (λ le. ap length (longer-first xs ys le) ∙ omega arith)
    (cases_lt (length xs) (length ys))

pub longest-length : (directory : Bool) (target : ℕ) (hs : List (OpenHandle Progress)) → length (longest_rest directory target hs) ≡ longest directory target hs
longest-length directory target [] = refl
longest-length directory target (h ∷ hs) =
    longer-length (cond (is_of directory target h) (rest_seen h.seen) []) (longest_rest directory target hs)
    ∙ (λ i. max (one (is_of directory target h) i) (longest-length directory target hs i))
  where
    one : (b : Bool) → length (cond b (rest_seen h.seen) []) ≡ cond b (length (rest_seen h.seen)) 0
    one true = refl
    one false = refl
