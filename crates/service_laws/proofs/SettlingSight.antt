-- What a handle has seen once records were offered to it, and whether it has news by them.
use Rattle.std.proofs.Common.{◌≡◌, ℕ, zero, suc, Bool, true, false, cond, not, ◌&&◌, ◌||◌, List, [], ◌∷◌, ◌++◌, Option, Some, None, refl, sym, ap, ◌∙◌, arith, append_assoc}
use Rattle.std.specs.Prelude.{◌==◌, filter, option_and_then}
use Rattle.std.specs.Option.{option_map_or}
use Rattle.std.specs.List.{cons_option, list_any, list_all}
use Rattle.pps_types.specs.Bytes.{is_empty}
use Rattle.pps_types.specs.History.{Entry}
use Rattle.pps_types.specs.Reading.{OpenHandle, Style, Full, Delta, Queue, reseen, style, visible}
use Rattle.pps_types.specs.Rests.{Progress, News, Unread, Over, Owed, stand, seen_of, rest_of, over_limit, keeps, news_in, from_first, past}
use Rattle.pps_types.specs.Content.{news}
use Rattle.pps_types.specs.Plan.{Move, Attaches, Leaves, Creates, AppendsRecord, Opens, Closes, CatchesUp, Advances, Parks, Arms, Queues, Takes, MakesDirectory, RemovesDirectory, offered, offer, creation, caught_up, left}
use Rattle.pps_types.proofs.Lists.{append-nil}
use Rattle.service_laws.proofs.Offers.{visible-reads, seen_with-push}
use Rattle.pps_types.specs.WellFormed.{fits}
use Rattle.service_laws.proofs.Finds.{OfSome}
use Rattle.service_laws.proofs.Bridge.{rest-is_empty, none-over}
use Rattle.service_laws.specs.Told.{entry_told, entries_told, handle_by, handle_after, seen_after, offer_all, closes_handle, only_tells}

-- ---- records that are offered

-- where it has read up to some place, it has the rest
offers-on : (h : OpenHandle Progress) (xs es : List Entry) → seen_after h es (seen_of h (rest_of h xs)) ≡ seen_of h (rest_of h (xs ++ es))
offers-on h xs [] = ap (λ ys. seen_of h (rest_of h ys)) (sym (append-nil xs))
offers-on h xs (e ∷ es) =
    ap (seen_after h es) (sym (seen_with-push h xs e (Some 0) (omega arith)))
    ∙ offers-on h (xs ++ e ∷ []) es
    ∙ ap (λ ys. seen_of h (rest_of h ys)) (append_assoc xs (e ∷ []) es)

-- a handle that was owed nothing
pub seen_after-caught_up : (h : OpenHandle Progress) (es : List Entry) → seen_after h es (seen_of h []) ≡ seen_of h (rest_of h es)
seen_after-caught_up h es = offers-on h [] es

or-assoc : (a b c : Bool) → ((a || b) || c) ≡ (a || (b || c))
or-assoc true b c = refl
or-assoc false b c = refl

or-false : (b : Bool) → (b || false) ≡ b
or-false true = refl
or-false false = refl

pub seen_after-news : (h : OpenHandle Progress) (es : List Entry) (b : Bool) → seen_after h es (News b) ≡ News (b || list_any (visible h) es)
seen_after-news h [] b = ap News (sym (or-false b))
seen_after-news h (e ∷ es) b = seen_after-news h es (b || visible h e) ∙ ap News (or-assoc b (visible h e) (list_any (visible h) es))

-- ---- news

pub any-some : (test : Entry → Bool) (es : List Entry) → not (is_empty (filter test es)) ≡ list_any test es
any-some test [] = refl
any-some test (e ∷ es) = by (test e) (any-some test es)
  where
    by : (b : Bool) → not (is_empty (filter test es)) ≡ list_any test es → not (is_empty (cond b (e ∷ filter test es) (filter test es))) ≡ (b || list_any test es)
    by true rest = refl
    by false rest = rest

rest-any : (h : OpenHandle Progress) (es : List Entry) → not (is_empty (rest_of h es)) ≡ list_any (visible h) es
rest-any h es = ap not (rest-is_empty h es) ∙ any-some (visible h) es

pub any-reads : (h : OpenHandle Progress) (es : List Entry) → list_any (visible h) es ≡ true → h.reads ≡ true
any-reads h [] e = absurd (let no = e in cc)
any-reads h (x ∷ xs) e = by (visible h x) refl e (any-reads h xs)
  where
    by : (b : Bool) → visible h x ≡ b → (b || list_any (visible h) xs) ≡ true → (list_any (visible h) xs ≡ true → h.reads ≡ true) → h.reads ≡ true
    by true v e rest = visible-reads h x v
    by false v e rest = rest e

news-stand : (s : Style) (reads over : Bool) (rest : List Entry) → reads ≡ true → not (is_empty rest) ≡ true → news_in reads (stand s reads over rest) ≡ true
news-stand Full reads over rest r some = rw (r, some) refl
news-stand Delta reads true rest r some = refl
news-stand Delta reads false rest r some = some
news-stand Queue reads over rest r some = some

news-rest : (h : OpenHandle Progress) (es : List Entry) → list_any (visible h) es ≡ true → news_in h.reads (seen_of h (rest_of h es)) ≡ true
news-rest h es any = news-stand (style h.kind) h.reads (over_limit h (rest_of h es)) (rest_of h es) (any-reads h es any) (rest-any h es ∙ any)

-- the first record that is offered to one that is owed nothing
offered-first : (h : OpenHandle Progress) (e : Entry) → offered h e (Owed []) ≡ seen_of h (rest_of h (e ∷ []))
offered-first h e = ap (seen_of h) (by (keeps h e))
  where
    by : (k : Bool) → cond k (cond (visible h e) (e ∷ []) []) [] ≡ from_first (visible h) (cond k (e ∷ []) [])
    by true = refl
    by false = refl

seen_after-owed : (h : OpenHandle Progress) (e : Entry) (es : List Entry) → seen_after h (e ∷ es) (Owed []) ≡ seen_of h (rest_of h (e ∷ es))
seen_after-owed h e es = ap (seen_after h es) (offered-first h e) ∙ offers-on h (e ∷ []) es

-- who had no news and sees one of the records has news by them
pub news-given : (h : OpenHandle Progress) (es : List Entry) → news h ≡ false → list_any (visible h) es ≡ true → news (offer_all es h) ≡ true
news-given h es none any = go h.seen refl
  where
    owed : (es : List Entry) → list_any (visible h) es ≡ true → news_in h.reads (seen_after h es (Owed [])) ≡ true
    owed [] any = absurd (let no = any in cc)
    owed (e ∷ es) any = ap (news_in h.reads) (seen_after-owed h e es) ∙ news-rest h (e ∷ es) any

    go : (s : Progress) → h.seen ≡ s → news_in h.reads (seen_after h es h.seen) ≡ true
    go (News true) is = absurd (let no = ap (news_in h.reads) (sym is) ∙ none in cc)
    go (News false) is = ap (λ s. news_in h.reads (seen_after h es s)) is ∙ ap (news_in h.reads) (seen_after-news h es false) ∙ any
    go Unread is = absurd (let no = ap (news_in h.reads) (sym is) ∙ none in let yes = any-reads h es any in cc)
    go Over is = absurd (let no = ap (news_in h.reads) (sym is) ∙ none in cc)
    go (Owed []) is = ap (λ s. news_in h.reads (seen_after h es s)) is ∙ owed es any
    go (Owed (e ∷ rest)) is = absurd (let no = ap (news_in h.reads) (sym is) ∙ none in cc)

-- ---- who sees none of the records gets no news, whatever else the moves do

news-empty : (s : Style) (reads over : Bool) → over ≡ false → news_in reads (stand s reads over []) ≡ false
news-empty Full reads over e = elim reads as (λ b. (b && false) ≡ false) [ true ↦ refl | false ↦ refl ]
news-empty Delta reads over e = rw e refl
news-empty Queue reads over e = refl

news-none : (h : OpenHandle Progress) → news_in h.reads (seen_of h []) ≡ false
news-none h = news-empty (style h.kind) h.reads (over_limit h []) (none-over h.limit)

idle-offered : (h : OpenHandle Progress) (e : Entry) → news h ≡ false → visible h e ≡ false → news (offer e h) ≡ false
idle-offered h e none blind = go h.seen refl
  where
    grown : (k : Bool) → news_in h.reads (seen_of h (cond k (cond (visible h e) (e ∷ []) []) [])) ≡ false
    grown true = ap (λ b. news_in h.reads (seen_of h (cond b (e ∷ []) []))) blind ∙ news-none h
    grown false = news-none h

    go : (s : Progress) → h.seen ≡ s → news_in h.reads (offered h e h.seen) ≡ false
    go (News true) is = absurd (let no = ap (news_in h.reads) (sym is) ∙ none in cc)
    go (News false) is = ap (λ s. news_in h.reads (offered h e s)) is ∙ blind
    go Unread is = ap (λ s. news_in h.reads (offered h e s)) is ∙ ap (news_in h.reads) (sym is) ∙ none
    go Over is = absurd (let no = ap (news_in h.reads) (sym is) ∙ none in cc)
    go (Owed []) is = ap (λ s. news_in h.reads (offered h e s)) is ∙ grown (keeps h e)
    go (Owed (x ∷ rest)) is = absurd (let no = ap (news_in h.reads) (sym is) ∙ none in cc)

past-none : (test : Entry → Bool) (n : ℕ) → past test n [] ≡ []
past-none test zero = refl
past-none test (suc n) = refl

idle-left : (h : OpenHandle Progress) (count : ℕ) → news h ≡ false → news_in h.reads (left h count h.seen) ≡ false
idle-left h count none = go h.seen refl
  where
    go : (s : Progress) → h.seen ≡ s → news_in h.reads (left h count h.seen) ≡ false
    go (News b) is = ap (λ s. news_in h.reads (left h count s)) is ∙ ap (news_in h.reads) (sym is) ∙ none
    go Unread is = ap (λ s. news_in h.reads (left h count s)) is ∙ ap (news_in h.reads) (sym is) ∙ none
    go Over is = ap (λ s. news_in h.reads (left h count s)) is ∙ ap (news_in h.reads) (sym is) ∙ none
    go (Owed []) is = ap (λ s. news_in h.reads (left h count s)) is ∙ ap (λ xs. news_in h.reads (seen_of h (from_first (visible h) xs))) (past-none (visible h) count) ∙ news-none h
    go (Owed (x ∷ rest)) is = absurd (let no = ap (news_in h.reads) (sym is) ∙ none in cc)

-- the same sight, and no news
abbrev IsBlind : OpenHandle Progress → OpenHandle Progress → Type 0
IsBlind h g = (news g ≡ false) × ((e : Entry) → visible g e ≡ visible h e)

blind-cond : (b : Bool) (h g : OpenHandle Progress) → news h ≡ false → IsBlind h g → IsBlind h (cond b g h)
blind-cond true h g none is = is
blind-cond false h g none is = (none, λ e. refl)

blind-by : (x : Move) (h : OpenHandle Progress) → news h ≡ false → option_map_or (visible h) (entry_told x) false ≡ false → OfSome (IsBlind h) (handle_by x h)
blind-by (Attaches conn) h none blind = (none, λ e. refl)
blind-by (Leaves conn) h none blind = (none, λ e. refl)
blind-by (Creates o) h none blind = (idle-offered h (creation o) none blind, λ e. refl)
blind-by (AppendsRecord e) h none blind = (idle-offered h e none blind, λ e. refl)
blind-by (Opens g) h none blind = (none, λ e. refl)
blind-by (Closes number) h none blind = elim (h.number == number) as (λ b. OfSome (IsBlind h) (cond b None (Some h))) [ true ↦ tt | false ↦ (none, λ e. refl) ]
blind-by (CatchesUp number) h none blind = blind-cond (h.number == number) h (reseen caught_up h) none (news-none h, λ e. refl)
blind-by (Advances number count) h none blind = blind-cond (h.number == number) h (reseen (λ h. left h count h.seen) h) none (idle-left h count none, λ e. refl)
blind-by (Parks number size) h none blind = blind-cond (h.number == number) h (record h { parked = size }) none (none, λ e. refl)
blind-by (Arms number pulse) h none blind = blind-cond (h.number == number) h (record h { armed = pulse }) none (none, λ e. refl)
blind-by (Queues conn item) h none blind = (none, λ e. refl)
blind-by (Takes conn) h none blind = (none, λ e. refl)
blind-by (MakesDirectory path) h none blind = (none, λ e. refl)
blind-by (RemovesDirectory number) h none blind = (none, λ e. refl)

pub any-parts : (test : Entry → Bool) (o : Option Entry) (es : List Entry) → list_any test (cons_option o es) ≡ false → (option_map_or test o false ≡ false) × (list_any test es ≡ false)
any-parts test None es e = (refl, e)
any-parts test (Some x) es e = by (test x) e
  where
    by : (b : Bool) → (b || list_any test es) ≡ false → (b ≡ false) × (list_any test es ≡ false)
    by true e = absurd (let no = e in cc)
    by false e = (refl, e)

any-same : (p q : Entry → Bool) → ((e : Entry) → p e ≡ q e) → (es : List Entry) → list_any p es ≡ list_any q es
any-same p q same [] = refl
any-same p q same (e ∷ es) = λ i. same e i || any-same p q same es i

pub idle-made : (xs : List Move) (h : OpenHandle Progress) → news h ≡ false → list_any (visible h) (entries_told xs) ≡ false → OfSome (λ g. news g ≡ false) (handle_after xs h)
idle-made [] h none blind = none
idle-made (x ∷ xs) h none blind = go (handle_by x h) (blind-by x h none (any-parts (visible h) (entry_told x) (entries_told xs) blind).0) (λ g. idle-made xs g)
  where
    go : (o : Option (OpenHandle Progress)) → OfSome (IsBlind h) o → ((g : OpenHandle Progress) → news g ≡ false → list_any (visible g) (entries_told xs) ≡ false → OfSome (λ g. news g ≡ false) (handle_after xs g)) → OfSome (λ g. news g ≡ false) (option_and_then (handle_after xs) o)
    go None is rest = tt
    go (Some g) is rest = rest g is.0 (any-same (visible g) (visible h) is.1 (entries_told xs) ∙ (any-parts (visible h) (entry_told x) (entries_told xs) blind).1)

-- ---- moves that only tell

pub handle_after-telling : (xs : List Move) (h : OpenHandle Progress) → list_all only_tells xs ≡ true → handle_after xs h ≡ cond (list_any (closes_handle h.number) xs) None (Some (offer_all (entries_told xs) h))
handle_after-telling [] h all = refl
handle_after-telling (Attaches conn ∷ xs) h all = handle_after-telling xs h all
handle_after-telling (Leaves conn ∷ xs) h all = handle_after-telling xs h all
handle_after-telling (Creates o ∷ xs) h all = handle_after-telling xs (offer (creation o) h) all
handle_after-telling (AppendsRecord e ∷ xs) h all = handle_after-telling xs (offer e h) all
handle_after-telling (Opens g ∷ xs) h all = handle_after-telling xs h all
handle_after-telling (Closes number ∷ xs) h all = by (h.number == number) (handle_after-telling xs h all)
  where
    by : (b : Bool) → handle_after xs h ≡ cond (list_any (closes_handle h.number) xs) None (Some (offer_all (entries_told xs) h)) → option_and_then (handle_after xs) (cond b None (Some h)) ≡ cond (b || list_any (closes_handle h.number) xs) None (Some (offer_all (entries_told xs) h))
    by true rest = refl
    by false rest = rest
handle_after-telling (CatchesUp number ∷ xs) h all = absurd (let no = all in cc)
handle_after-telling (Advances number count ∷ xs) h all = absurd (let no = all in cc)
handle_after-telling (Parks number size ∷ xs) h all = absurd (let no = all in cc)
handle_after-telling (Arms number pulse ∷ xs) h all = absurd (let no = all in cc)
handle_after-telling (Queues conn item ∷ xs) h all = handle_after-telling xs h all
handle_after-telling (Takes conn ∷ xs) h all = handle_after-telling xs h all
handle_after-telling (MakesDirectory path ∷ xs) h all = handle_after-telling xs h all
handle_after-telling (RemovesDirectory number ∷ xs) h all = handle_after-telling xs h all

-- a handle without news that reads has caught up
pub quiet-caught_up : (h : OpenHandle Progress) → fits (style h.kind) h.seen ≡ true → news h ≡ false → h.reads ≡ true → h.seen ≡ seen_of h []
quiet-caught_up h fit none reads = go (style h.kind) h.seen refl refl fit
  where
    go : (k : Style) (s : Progress) → style h.kind ≡ k → h.seen ≡ s → fits k s ≡ true → h.seen ≡ seen_of h []
    go k (News true) is seen f = absurd (let no = ap (news_in h.reads) (sym seen) ∙ none in cc)
    go k Unread is seen f = absurd (let no = ap (news_in h.reads) (sym seen) ∙ none in cc)
    go k Over is seen f = absurd (let no = ap (news_in h.reads) (sym seen) ∙ none in cc)
    go k (Owed (x ∷ rest)) is seen f = absurd (let no = ap (news_in h.reads) (sym seen) ∙ none in cc)
    go Full (News false) is seen f = seen ∙ rw (is, reads) refl
    go Delta (News false) is seen f = absurd (let no = f in cc)
    go Queue (News false) is seen f = absurd (let no = f in cc)
    go Full (Owed []) is seen f = absurd (let no = f in cc)
    go Delta (Owed []) is seen f = seen ∙ rw is (ap (λ o. cond o Over (Owed [])) (sym (none-over h.limit)))
    go Queue (Owed []) is seen f = seen ∙ rw is refl

-- what it has seen by records of which it sees one
pub seen-given : (h : OpenHandle Progress) (es : List Entry) → fits (style h.kind) h.seen ≡ true → news h ≡ false → list_any (visible h) es ≡ true → seen_after h es h.seen ≡ seen_of h (rest_of h es)
seen-given h es fit none any = ap (seen_after h es) (quiet-caught_up h fit none (any-reads h es any)) ∙ seen_after-caught_up h es
