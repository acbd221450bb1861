-- Writing escapes a chunk at a time: the bytes at its front that are shown as they are, and the byte behind them.
use Rattle.std.proofs.Common.{◌≡◌, ℕ, ◌+◌, ◌≤◌, ◌<◌, true, false, not, cond, eqb, zero, suc, Bool, List, [], ◌∷◌, ◌++◌, length, map, get_or, take, drop, refl, sym, ap, subst, ◌∙◌, append_assoc, append-nil, add-one, take-add, length-take-le, arith}
use Rattle.std.proofs.lemmas.Bool.Decides.{nat_tests}
use Rattle.std.proofs.lemmas.Bool.{agree_below, agree_below_at, not-false}
use Rattle.std.proofs.Common.{◌%◌, ◌^◌, Fits, w8, ap₂}
use Rattle.std.proofs.lemmas.List.{length-map}
use Rattle.std.specs.List.{prefix_len}
use Rattle.std.proofs.lemmas.List.{take_all, take_more, take-append-drop, take-take}
use Rattle.std.proofs.Math.Seq.{take-append-add}
use Rattle.std.proofs.lemmas.Simd.{map-map, chunk-fits, mask_l-mod, zip2_of_maps, zip2_splat, zip2_splat_left, first_set_mask_l, length-chunk, run_in_chunk_le, run_in_chunk_fails, take_more_put_chunk}
use lib.Count.{count_trailing_zeros}
use lib.Lanes.{chunk, put_chunk, zip2, mask_l, top, Each1}
use Rattle.std.proofs.lemmas.List.Concat.{flat_map-append}
use Rattle.std.proofs.Common.{◌-◌, replicate}
use Rattle.std.proofs.lemmas.List.{take-replicate, drop-replicate, length-append, length-replicate}
use Rattle.std.proofs.Math.Seq.{take-append_seam}
use Rattle.script_text.specs.Escapes.{escaped_byte, escaped, is_plain}

abbrev needs_escape : ℕ → Bool
needs_escape b = not (is_plain b)

escaped-plain : (b : ℕ) → is_plain b ≡ true → escaped_byte b ≡ b ∷ []
escaped-plain b plain = grind (arith, nat_tests)

-- one byte on
plain-more : (bs : List ℕ) (i : ℕ) → i < length bs → is_plain (get_or bs i 0) ≡ true → escaped (take i bs) ≡ take i bs → escaped (take (i + 1) bs) ≡ take (i + 1) bs
plain-more bs i within plain so_far =
    rw (take_more bs i 0 within, flat_map-append escaped_byte (take i bs) (get_or bs i 0 ∷ []), so_far, escaped-plain (get_or bs i 0) plain) refl

-- ---- chunks

plain-run : (bs : List ℕ) (n : ℕ) → n ≤ length bs → ((k : ℕ) → k < n → is_plain (get_or bs k 0) ≡ true) → escaped (take n bs) ≡ take n bs
plain-run bs zero within plain = refl
plain-run bs (suc n) within plain =
    let P : ℕ → Type 0 = λ m. escaped (take m bs) ≡ take m bs in
    subst P (add-one n) (plain-more bs n (omega arith) (plain n (omega arith)) (plain-run bs n (omega arith) (λ k less. plain k (omega arith))))

-- what a mask says of the bytes before its first bit
before-bits : (p : ℕ → Bool) (bs : List ℕ) (bits r : ℕ) → 16 ≤ length bs → bits ≡ mask_l (map p (chunk 0 16 bs)) → r ≡ cond (eqb bits 0) 16 (count_trailing_zeros 64 bits)
    → (r ≤ 16) × ((k : ℕ) → k < r → p (get_or bs k 0) ≡ false)
before-bits p bs bits r room of_bits is =
    let counted : r ≡ prefix_len (λ x. not (p x)) (chunk 0 16 bs) =
    is ∙ ap (λ m. cond (eqb m 0) 16 (count_trailing_zeros 64 m)) of_bits ∙ first_set_mask_l p (chunk 0 16 bs) 16 (length-chunk 0 16 bs (omega arith)) (omega arith) in
    (run_in_chunk_le p bs 0 16 r 0 (omega arith) counted, λ k less. run_in_chunk_fails p bs 0 16 r 0 (omega arith) counted k (omega arith) (omega arith))

-- tests that agree on all bytes
map-agree : (p q : ℕ → Bool) → agree_below p q 256 ≡ true → (v : List ℕ) → Each1 (Fits w8) v → map p v ≡ map q v
map-agree p q all [] fits = refl
map-agree p q all (x ∷ xs) fits = ap₂ (λ b bs. b ∷ bs) (agree_below_at p q 256 x all fits.0.fits) (map-agree p q all xs fits.1)

-- an operation on vectors that were computed lane by lane from one
pub joined : (h : ℕ → ℕ → ℕ) (f g : ℕ → ℕ) (v : List ℕ) {a b : List ℕ} → a ≡ map f v → b ≡ map g v → zip2 h a b ≡ map (λ x. h (f x) (g x)) v
joined h f g v p q = zip2_of_maps h f g v p q

-- an operation on a vector and the same number in each lane
pub splat-right : (h : ℕ → ℕ → ℕ) (v : List ℕ) (n y : ℕ) → length v ≡ n → zip2 h v (replicate n y) ≡ map (λ x. h x y) v
splat-right h v n y long = zip2_splat h v n y long

pub splat-left : (h : ℕ → ℕ → ℕ) (v : List ℕ) (n x : ℕ) → length v ≡ n → zip2 h (replicate n x) v ≡ map (λ y. h x y) v
splat-left h v n x long = zip2_splat_left h x n v long

-- lanes whose first bit is a test of the bytes that they were computed from
lanes-pass : (p : ℕ → Bool) (v z : List ℕ) (f : ℕ → ℕ) → z ≡ map f v → length v ≡ 16 → Each1 (Fits w8) v
    → agree_below (λ x. top 7 (f x)) p 256 ≡ true → mask_l (map (top 7) z) % 2 ^ 64 ≡ mask_l (map p v)
lanes-pass p v z f is long fits all =
    ap (λ l. mask_l l % 2 ^ 64) (ap (map (top 7)) is ∙ map-map (top 7) f v ∙ map-agree (λ x. top 7 (f x)) p all v fits)
    ∙ mask_l-mod (map p v) 64 (omega (arith, length-map v p, long))

-- the bytes before the first whose lane has its first bit
pub plain-front : (bs : List ℕ) (r : ℕ) (z : List ℕ) (f : ℕ → ℕ) → (room : 16 ≤ length bs) → ((k : ℕ) → Fits w8 (get_or bs k 0))
    → r ≡ cond (eqb (mask_l (map (top 7) z) % 2 ^ 64) 0) 16 (count_trailing_zeros 64 (mask_l (map (top 7) z) % 2 ^ 64))
    → z ≡ map f (chunk 0 16 bs) → agree_below (λ x. top 7 (f x)) needs_escape 256 ≡ true → (r ≤ 16) × (escaped (take r bs) ≡ take r bs)
plain-front bs r z f room fits is lanes all =
    let v = chunk 0 16 bs in
    let bits = lanes-pass needs_escape v z f lanes (length-chunk 0 16 bs (omega (arith, room))) (chunk-fits w8 0 16 bs fits) all in
    let first = before-bits needs_escape bs _ r room bits is in
    (first.0, plain-run bs r (omega (arith, first.0, room)) (λ k less. not-false _ (first.1 k less)))

-- the front of a chunk that was copied whole
pub put-front : (text bs : List ℕ) (at count : ℕ) → at + 16 ≤ length text → 16 ≤ length bs → count ≤ 16
    → take (at + count) (put_chunk at text (chunk 0 16 bs)) ≡ take at text ++ take count bs
put-front text bs at count room some few =
    let ys = chunk 0 16 bs in
    let long : length ys ≡ 16 = length-chunk 0 16 bs (omega arith) in
    let all = take_more_put_chunk at text ys (at + 16) (omega arith) room in
    let len : length (take at text) ≡ at = length-take-le at text (omega arith) in
    sym (take-take (at + count) (at + 16) (put_chunk at text ys) (omega arith))
    ∙ ap (take (at + count)) all ∙ ap (λ n. take (n + count) (take at text ++ ys)) (sym len)
    ∙ take-append-add (take at text) ys count ∙ ap (λ more. take at text ++ more) (take-take count 16 bs few)

-- a run, and the byte behind it
pub run-byte : (front bs : List ℕ) (n : ℕ) → n < length bs → escaped (take n bs) ≡ take n bs → (front ++ take n bs) ++ escaped_byte (get_or bs n 0) ≡ front ++ escaped (take (n + 1) bs)
run-byte front bs n within plain =
    append_assoc front (take n bs) (escaped_byte (get_or bs n 0))
    ∙ ap (λ run. front ++ (run ++ escaped_byte (get_or bs n 0))) (sym plain)
    ∙ ap (λ more. front ++ more) (sym (flat_map_more_one (take n bs) (get_or bs n 0)) ∙ ap escaped (sym (take_more bs n 0 within)))
  where
    flat_map_more_one : (xs : List ℕ) (x : ℕ) → escaped (xs ++ x ∷ []) ≡ escaped xs ++ escaped_byte x
    flat_map_more_one xs x = flat_map-append escaped_byte xs (x ∷ []) ∙ ap (λ more. escaped xs ++ more) (append-nil (escaped_byte x))

-- chunks, and the next one
pub chunks-more : (bs : List ℕ) (n m : ℕ) → escaped (take n bs) ++ escaped (take m (drop n bs)) ≡ escaped (take (n + m) bs)
chunks-more bs n m = sym (flat_map-append escaped_byte (take n bs) (take m (drop n bs))) ∙ ap escaped (sym (take-add n m bs))

-- a piece, and the rest
pub piece-behind : (out rest all : List ℕ) (n : ℕ) → out ++ escaped rest ≡ all → (out ++ escaped (take n rest)) ++ escaped (drop n rest) ≡ all
piece-behind out rest all n so_far =
    append_assoc out (escaped (take n rest)) (escaped (drop n rest))
    ∙ ap (λ more. out ++ more) (sym (flat_map-append escaped_byte (take n rest) (drop n rest)) ∙ ap escaped (take-append-drop n rest)) ∙ so_far

-- chunks, and all behind them
pub chunks-all : (bs : List ℕ) (n : ℕ) → escaped (take n bs) ++ escaped (drop n bs) ≡ escaped (take (length bs) bs)
chunks-all bs n =
    sym (flat_map-append escaped_byte (take n bs) (drop n bs)) ∙ ap escaped (take-append-drop n bs) ∙ ap escaped (sym (take_all (length bs) bs (omega arith)))

-- ---- less than a chunk

spaces-shown : (n : ℕ) → escaped (replicate n 32) ≡ replicate n 32
spaces-shown zero = refl
spaces-shown (suc n) = ap (λ more. 32 ∷ more) (spaces-shown n)

-- all bytes, and some of the spaces behind them
with-spaces : (bs : List ℕ) (taken spaces : ℕ) → length bs ≤ taken → taken ≤ length bs + spaces
    → escaped (take taken (bs ++ replicate spaces 32)) ≡ escaped bs ++ replicate (taken - length bs) 32
with-spaces bs taken spaces all some =
    let extra = taken - length bs in
    let is : length bs + extra ≡ taken = omega (arith, all) in
    ap (λ n. escaped (take n (bs ++ replicate spaces 32))) (sym is) ∙ ap escaped (take-append-add bs (replicate spaces 32) extra ∙ ap (λ more. bs ++ more) (take-replicate extra spaces 32 (omega (arith, all, some))))
    ∙ flat_map-append escaped_byte bs (replicate extra 32) ∙ ap (λ more. escaped bs ++ more) (spaces-shown extra)

-- bytes over spaces
pub padded-is : (bs over : List ℕ) (n : ℕ) → over ≡ bs → length bs ≤ n → over ++ drop (length bs) (replicate n 32) ≡ bs ++ replicate (n - length bs) 32
padded-is bs over n is few = rw (is, drop-replicate {X = ℕ} (length bs) n 32) refl

-- what stands before the spaces that were written too much
pub without-spaces : (front bs text : List ℕ) (end taken spaces : ℕ) → end ≤ length text → length bs ≤ taken → taken ≤ length bs + spaces
    → take end text ≡ front ++ escaped (take taken (bs ++ replicate spaces 32))
    → (taken - length bs ≤ end) × (take (end - (taken - length bs)) text ≡ front ++ escaped bs)
without-spaces front bs text end taken spaces within all some is =
    let extra = taken - length bs in
    let shown = front ++ escaped bs in
    let text_is : take end text ≡ shown ++ replicate extra 32 =
    is ∙ ap (λ more. front ++ more) (with-spaces bs taken spaces all some) ∙ sym (append_assoc front (escaped bs) (replicate extra 32)) in
    let long : end ≡ length shown + extra =
    sym (length-take-le end text within) ∙ ap length text_is ∙ length-append shown (replicate extra 32) ∙ ap (λ n. length shown + n) (length-replicate extra 32) in
    let before : end - extra ≡ length shown = omega (arith, long) in
    (omega (arith, long), sym (take-take (end - extra) end text (omega arith)) ∙ ap (take (end - extra)) text_is ∙ ap (λ n. take n (shown ++ replicate extra 32)) before ∙ take-append_seam shown (replicate extra 32))
