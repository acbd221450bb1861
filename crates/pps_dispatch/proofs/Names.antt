-- The names of a connection's entries name just these.
use Rattle.std.proofs.Common.{◌≡◌, ◌+◌, ◌<◌, ℕ, zero, suc, length, drop, get_or, map, Bool, true, false, List, [], ◌∷◌, ◌++◌, Option, Some, None, append_assoc, length-append, refl, sym, ap, subst, ◌∙◌, arith}
use Rattle.std.specs.Prelude.{◌==◌, All, IsSome, is_some, if◌then◌else◌, option_and_then, slice_get}
use Rattle.std.proofs.lemmas.List.{map-append}
use Rattle.std.proofs.lemmas.List.Elements.{filter-append}
use Rattle.std.proofs.lemmas.Option.{slice_get_within}
use Rattle.std.proofs.Math.Seq.{drop-cons}
use Rattle.pps_types.specs.Content.{Content}
use Rattle.pps_types.specs.Merge.{entries_of}
use Rattle.pps_types.specs.Runs.{Answered}
use Rattle.pps_lock.specs.declared.book.Receipt.{Receipt}
use Rattle.pps_lock.specs.Trace.{Piece, receipt}
use Rattle.script_text.proofs.Pieces.{head-of}
use Rattle.pps_dispatch.specs.Sessions.{Conversation}
use Rattle.pps_dispatch.specs.History.{joined, named_in, named_for, Joins, AreServedByName}
use Rattle.pps_dispatch.specs.Named.{entry_named, Names}

-- what stands behind some elements
get-behind : {X : Type 0} (before : List X) (x : X) (xs : List X) → slice_get (before ++ x ∷ xs) (length before) ≡ Some x
get-behind [] x xs = refl
get-behind (y ∷ before) x xs = get-behind before x xs

-- ---- an entry that has a name

-- is in a segment
pub named-segment : (ps : List Piece) (name : Receipt) → IsSome (entry_named ps name) → name.segment < length ps
named-segment ps name some = by (slice_get ps name.segment) refl some
  where
    by : (found : Option Piece) → slice_get ps name.segment ≡ found → IsSome (option_and_then (λ p. slice_get p.entries name.index) found) → name.segment < length ps
    by None is some = absurd (let h = some in cc)
    by (Some p) is some = slice_get_within ps name.segment p is

-- and has its index there
pub named-index : (ps : List Piece) (name : Receipt) (p : Piece) → IsSome (entry_named ps name) → slice_get ps name.segment ≡ Some p → name.index < length p.entries
named-index ps name p some at = by (slice_get p.entries name.index) refl
    (subst (λ found. IsSome (option_and_then (λ (q : Piece). slice_get q.entries name.index) found)) at some)
  where
    by : (found : Option Answered) → slice_get p.entries name.index ≡ found → IsSome found → name.index < length p.entries
    by None is some = absurd (let h = some in cc)
    by (Some x) is some = slice_get_within p.entries name.index x is

pub named-is : (ps : List Piece) (name : Receipt) (p : Piece) (x : Answered) → slice_get ps name.segment ≡ Some p → slice_get p.entries name.index ≡ Some x
    → entry_named ps name ≡ Some x
named-is ps name p x at is = ap (option_and_then (λ (q : Piece). slice_get q.entries name.index)) at ∙ is

-- ---- what serving names

-- in one segment, from an entry on
named-in : (all : List Piece) (c number : ℕ) (p : Piece) (before xs : List Answered) (index : ℕ) → slice_get all number ≡ Some p → p.entries ≡ before ++ xs
    → index ≡ length before → map (entry_named all) (named_in c number index xs) ≡ map Some (entries_of c xs)
named-in all c number p before [] index at is counted = refl
named-in all c number p before (x ∷ xs) index at is counted =
    by (x.event.conn == c) (named_in c number (index + 1) xs) (entries_of c xs)
    (named-in all c number p (before ++ x ∷ []) xs (index + 1) at (is ∙ sym (append_assoc before (x ∷ []) xs)) (omega (arith, counted, length-append before (x ∷ []))))
  where
    here : entry_named all (receipt number index) ≡ Some x
    here = ap (option_and_then (λ q. slice_get q.entries index)) at
        ∙ ap (λ es. slice_get es index) is
        ∙ ap (slice_get (before ++ x ∷ xs)) counted
        ∙ get-behind before x xs

    by : (own : Bool) (names : List Receipt) (entries : List Answered) → map (entry_named all) names ≡ map Some entries
        → map (entry_named all) (if own then receipt number index ∷ names else names) ≡ map Some (if own then x ∷ entries else entries)
    by true names entries rest = ap (λ o. o ∷ map (entry_named all) names) here ∙ ap (λ os. Some x ∷ os) rest
    by false names entries rest = rest

-- in all segments, from one of them on
named-for : (all before : List Piece) (connection : ℕ) (ps : List Piece) (n : ℕ) (c d : Content) → all ≡ before ++ ps → n ≡ length before → Joins n c ps d
    → map (entry_named all) (named_for connection ps) ≡ map Some (entries_of connection (joined ps))
named-for all before connection [] n c d is at joins = refl
named-for all before connection (p ∷ ps) n c d is at joins =
    let here : slice_get all p.number ≡ Some p = ap (slice_get all) (joins.0 ∙ at) ∙ ap (λ qs. slice_get qs (length before)) is ∙ get-behind before p ps in
    let first = named-in all connection p.number p [] p.entries 0 here refl refl in
    let rest = named-for all (before ++ p ∷ []) connection ps (n + 1) p.end d (is ∙ sym (append_assoc before (p ∷ []) ps))
    (omega (arith, at, length-append before (p ∷ []))) joins.3 in
    map-append (entry_named all) (named_in connection p.number 0 p.entries) (named_for connection ps)
    ∙ ap (λ l. l ++ map (entry_named all) (named_for connection ps)) first
    ∙ ap (λ l. map Some (entries_of connection p.entries) ++ l) rest
    ∙ sym (map-append Some (entries_of connection p.entries) (entries_of connection (joined ps)))
    ∙ ap (map Some) (sym (filter-append (λ (x : Answered). x.event.conn == connection) p.entries (joined ps)))

-- of each session that was served
pub served-names : (ps : List Piece) (c d : Content) (olds news : List Conversation) → Joins 0 c ps d → AreServedByName ps olds news → All (Names ps) news
served-names ps c d olds news joins served k e lt =
    let one = served.named.each k e (omega (arith, lt, served.named.count)) in
    ap (map (entry_named ps)) one.receipts
    ∙ named-for ps [] _ ps 0 c d refl refl joins
    ∙ ap (λ n. map Some (entries_of n (joined ps))) (sym one.connection)

-- ---- one name after the other

-- the name at that place is that of the entry there
pub record NamesNext (ps : List Piece) (xs : List Answered) (k : ℕ) (name : Receipt) : Type 0 where
  pub entry : Answered
  pub is : entry_named ps name ≡ Some entry
  pub rest : drop k xs ≡ entry ∷ drop (suc k) xs

pub names-next : (ps : List Piece) (names : List Receipt) (xs : List Answered) (k : ℕ) (d : Receipt) → map (entry_named ps) names ≡ map Some xs
    → k < length names → NamesNext ps xs k (get_or names k d)
names-next ps [] xs k d is lt = absurd (omega (arith, lt))
names-next ps (n ∷ ns) [] k d is lt = absurd (let h = is in cc)
names-next ps (n ∷ ns) (x ∷ xs) zero d is lt = record {
  entry = x;
  is = head-of _ _ _ _ is;
  rest = drop-cons (x ∷ xs) 0 x (omega arith);
}
names-next ps (n ∷ ns) (x ∷ xs) (suc k) d is lt =
    let tail : map (entry_named ps) ns ≡ map Some xs = (let h = is in cc) in
    let next = names-next ps ns xs k d tail (omega (arith, lt)) in
    record { entry = next.entry; is = next.is; rest = next.rest }

pub some-next : (ps : List Piece) (xs : List Answered) (k : ℕ) (name : Receipt) → NamesNext ps xs k name → IsSome (entry_named ps name)
some-next ps xs k name next = ap is_some next.is

-- the entry that was found is the next one
pub found-next : (ps : List Piece) (xs : List Answered) (k : ℕ) (name : Receipt) (found : Answered) → NamesNext ps xs k name → entry_named ps name ≡ Some found
    → drop k xs ≡ found ∷ drop (suc k) xs
found-next ps xs k name found next is = next.rest ∙ ap (λ x. x ∷ drop (suc k) xs) (let both = sym next.is ∙ is in cc)
