-- A body that is read is the event's one body, and the body of an event is read again.
use Rattle.std.proofs.Common.{◌≡◌, ℕ, ◌+◌, ◌*◌, ◌/◌, ◌%◌, ◌^◌, ◌<◌, Bool, true, false, cond, eqb, ltb, List, [], ◌∷◌, ◌++◌, take, drop}
use Rattle.std.proofs.Common.{Option, Some, None, refl, sym, ap, subst, ◌∙◌, arith, inl, inr}
use Rattle.std.specs.Option.{option_map}
use Rattle.std.specs.Int.{w32, from_be_bytes}
use Rattle.std.proofs.lemmas.Bool.{cases_lt, eqb-true, ltb-true}
use Rattle.std.proofs.lemmas.List.{length-take, get_or-drop, get_or-take, get_or_past}
use Rattle.std.proofs.lemmas.Option.{same_Some}
use Rattle.std.proofs.lemmas.Nat.{be_bytes_2, be_bytes_4, from_be_bytes-to_be_bytes_2, from_be_bytes-to_be_bytes_4}
use Rattle.pps_types.specs.declared.event.Mode.{Mode}
use Rattle.pps_types.specs.declared.event.Action.{Action}
use Rattle.pps_types.specs.declared.event.Action.TheVariants.{Poll, Pollarm, Tranarm}
use Rattle.pps_types.specs.declared.event.Request.{Request}
use Rattle.pps_types.specs.declared.event.Request.TheVariants as asks
use Rattle.pps_types.specs.declared.event.Event.{Event}
use Rattle.pps_types.specs.Frame.{two_bytes, four_bytes, from_two, from_four, IsBytes, value_if, is_set, mode_byte, mode_of, action_byte}
use Rattle.pps_types.specs.Frame.{action_of, request_kind, request_fields, event_body, FitsFields, IsEvent, IsNoBody}
use Rattle.pps_types.specs.Frame.{without_fields, open_request, read_request, write_request, close_request, notify_request, request_of}
use Rattle.pps_types.specs.Frame.{event_of, conn_of}

-- ---- bytes

pub IsBytes-drop : (n : ℕ) (bytes : List ℕ) → IsBytes bytes → IsBytes (drop n bytes)
IsBytes-drop n bytes h i = rw get_or-drop (h (n + i))

pub IsBytes-take : (n : ℕ) (bytes : List ℕ) → IsBytes bytes → IsBytes (take n bytes)
IsBytes-take n bytes h i =
    elim (cases_lt i n) [
      | inl lt ↦ rw (get_or-take n bytes i 0 lt) (h i)
      | inr le ↦ rw (get_or_past (take n bytes) i 0 (omega (arith, length-take n bytes))) (omega arith)
    ]

-- ---- numbers

-- bytes that are read as a number are its spelling
four_back : (a b c d : ℕ) → IsBytes (a ∷ b ∷ c ∷ d ∷ []) → four_bytes (from_four a b c d) ≡ a ∷ b ∷ c ∷ d ∷ []
four_back a b c d fits = be_bytes_4 (a ∷ b ∷ c ∷ d ∷ []) _ refl fits refl

four_below : (a b c d : ℕ) → IsBytes (a ∷ b ∷ c ∷ d ∷ []) → from_four a b c d < 2 ^ 32
four_below a b c d fits =
    let p : a < 256 = fits 0 in
    let q : b < 256 = fits 1 in
    let r : c < 256 = fits 2 in
    let s : d < 256 = fits 3 in
    omega arith

-- a number of four bytes is read again
four_again : (n : ℕ) → n < 2 ^ 32 → from_be_bytes w32 (four_bytes n) ≡ n
four_again n lt = from_be_bytes-to_be_bytes_4 n lt

-- ---- modes

-- a digit's value is counted where it is set
digit_value : (x v : ℕ) → value_if (eqb (x % 2) 1) v ≡ (x % 2) * v
digit_value x v =
    elim (cases_lt (x % 2) 1) [
      | inl lt ↦ let z : x % 2 ≡ 0 = omega arith in rw z (omega arith)
      | inr le ↦ let z : x % 2 ≡ 1 = omega arith in rw z (omega arith)
    ]

-- a number below 16 is the sum of its digits' values
four_digits : (n : ℕ) → n < 16 → value_if (is_set n 1) 1 + value_if (is_set n 2) 2 + value_if (is_set n 4) 4 + value_if (is_set n 8) 8 ≡ n
four_digits n lt = omega (arith, digit_value (n / 1) 1, digit_value (n / 2) 2, digit_value (n / 4) 4, digit_value (n / 8) 8)

-- `takes`: what is read is spelled by the bytes; `again`: what is spelled is read again
mode_takes : (n : ℕ) (m : Mode) → mode_of n ≡ Some m → mode_byte m ≡ n
mode_takes n m e = go (ltb n 16) refl
  where
    go : (b : Bool) → ltb n 16 ≡ b → mode_byte m ≡ n
    go true q =
        let s : Some (record { r = is_set n 1; w = is_set n 2; c = is_set n 4; t = is_set n 8 }) ≡ Some m = rw q at e in
        subst (λ (x : Mode). mode_byte x ≡ n) (same_Some _ _ s) (four_digits n (ltb-true n 16 q))
    go false q = let s : None ≡ Some m = rw q at e in absurd cc

mode_again : (r w c t : Bool) → mode_of (value_if r 1 + value_if w 2 + value_if c 4 + value_if t 8) ≡ Some (record { r = r; w = w; c = c; t = t })
mode_again true true true true = refl
mode_again true true true false = refl
mode_again true true false true = refl
mode_again true true false false = refl
mode_again true false true true = refl
mode_again true false true false = refl
mode_again true false false true = refl
mode_again true false false false = refl
mode_again false true true true = refl
mode_again false true true false = refl
mode_again false true false true = refl
mode_again false true false false = refl
mode_again false false true true = refl
mode_again false false true false = refl
mode_again false false false true = refl
mode_again false false false false = refl

-- ---- choices

-- the first of two where the numbers are equal, else the second
either : {A : Type 0} (k j : ℕ) (x y z : A) (P : Type 0) → ((k ≡ j) → x ≡ z → P) → (y ≡ z → P) → cond (eqb k j) x y ≡ z → P
either k j x y z P f g e = go (eqb k j) refl e
  where
    go : (b : Bool) → eqb k j ≡ b → cond b x y ≡ z → P
    go true q h = f (eqb-true k j q) h
    go false q h = g h

map_some : {A B : Type 0} (f : A → B) (o : Option A) (y : B) → option_map f o ≡ Some y → (x : A) × (o ≡ Some x) × (f x ≡ y)
map_some f None y e = absurd cc
map_some f (Some x) y e = (x, refl, same_Some _ _ e)

action_takes : (n : ℕ) (a : Action) → action_of n ≡ Some a → action_byte a ≡ n
action_takes n a =
    let at : (j : ℕ) (x : Action) → action_byte x ≡ j → n ≡ j → Some x ≡ Some a → action_byte a ≡ n =
    λ j x is k e. subst (λ (y : Action). action_byte y ≡ n) (same_Some _ _ e) (is ∙ sym k) in
    either n 1 (Some Poll) _ (Some a) _ (at 1 Poll refl)
    (either n 2 (Some Pollarm) _ (Some a) _ (at 2 Pollarm refl)
    (either n 3 (Some Tranarm) None (Some a) _ (at 3 Tranarm refl)
    (λ e. absurd cc)))

action_again : (a : Action) → action_of (action_byte a) ≡ Some a
action_again Poll = refl
action_again Pollarm = refl
action_again Tranarm = refl

-- ---- requests: what is read is spelled by what was read, and the other way round

-- the request has the kind of this number, and these bytes are its fields
record Is (number : ℕ) (bytes : List ℕ) (request : Request) : Type 0 where
  kind : request_kind request ≡ number
  fields : request_fields request ≡ bytes
  fits : FitsFields request

alone_takes : (q : Request) (bytes : List ℕ) (r : Request) → request_fields q ≡ [] → FitsFields q
    → without_fields q bytes ≡ Some r → Is (request_kind q) bytes r
alone_takes q [] r none fits e =
    subst (λ (x : Request). Is (request_kind q) [] x) (same_Some _ _ e) (record { kind = refl; fields = none; fits = fits })
alone_takes q (b ∷ bs) r none fits e = absurd cc

open_takes : (bytes : List ℕ) (r : Request) → open_request bytes ≡ Some r → Is 3 bytes r
open_takes [] r e = absurd cc
open_takes (m ∷ text) r e =
    let s = map_some (λ mode. asks.Open mode text) (mode_of m) r e in
    subst (λ (x : Request). Is 3 (m ∷ text) x) s.2
    (record { kind = refl; fields = ap (λ (n : ℕ). n ∷ text) (mode_takes m s.0 s.1); fits = tt })

read_takes : (bytes : List ℕ) (r : Request) → IsBytes bytes → read_request bytes ≡ Some r → Is 4 bytes r
read_takes (a ∷ b ∷ c ∷ d ∷ e ∷ f ∷ g ∷ h ∷ []) r fits q =
    let all : List ℕ = a ∷ b ∷ c ∷ d ∷ e ∷ f ∷ g ∷ h ∷ [] in
    let one = IsBytes-take 4 all fits in
    let two = IsBytes-drop 4 all fits in
    let same : four_bytes (from_four a b c d) ++ four_bytes (from_four e f g h) ≡ all =
    ap (λ (x : List ℕ). x ++ four_bytes (from_four e f g h)) (four_back a b c d one)
    ∙ ap (λ (y : List ℕ). (a ∷ b ∷ c ∷ d ∷ []) ++ y) (four_back e f g h two) in
    subst (λ (x : Request). Is 4 all x) (same_Some _ _ q)
    (record { kind = refl; fields = same; fits = (four_below a b c d one, four_below e f g h two) })
read_takes _ r fits q = absurd cc

write_takes : (bytes : List ℕ) (r : Request) → IsBytes bytes → write_request bytes ≡ Some r → Is 5 bytes r
write_takes (a ∷ b ∷ c ∷ d ∷ rest) r fits q =
    let all : List ℕ = a ∷ b ∷ c ∷ d ∷ rest in
    let one = IsBytes-take 4 all fits in
    subst (λ (x : Request). Is 5 all x) (same_Some _ _ q)
    (record { kind = refl; fields = ap (λ (x : List ℕ). x ++ rest) (four_back a b c d one); fits = four_below a b c d one })
write_takes _ r fits q = absurd cc

close_takes : (bytes : List ℕ) (r : Request) → IsBytes bytes → close_request bytes ≡ Some r → Is 6 bytes r
close_takes (a ∷ b ∷ c ∷ d ∷ []) r fits q =
    subst (λ (x : Request). Is 6 (a ∷ b ∷ c ∷ d ∷ []) x) (same_Some _ _ q)
    (record { kind = refl; fields = four_back a b c d fits; fits = four_below a b c d fits })
close_takes _ r fits q = absurd cc

notify_takes : (bytes : List ℕ) (r : Request) → IsBytes bytes → notify_request bytes ≡ Some r → Is 10 bytes r
notify_takes (a ∷ b ∷ c ∷ d ∷ kind ∷ code ∷ e ∷ f ∷ g ∷ h ∷ []) r fits q =
    let all : List ℕ = a ∷ b ∷ c ∷ d ∷ kind ∷ code ∷ e ∷ f ∷ g ∷ h ∷ [] in
    let one = IsBytes-take 4 all fits in
    let two = IsBytes-drop 6 all fits in
    let s = map_some (λ x. asks.Notify (from_four a b c d) x code (from_four e f g h)) (action_of kind) r q in
    let same : four_bytes (from_four a b c d) ++ action_byte s.0 ∷ code ∷ four_bytes (from_four e f g h) ≡ all =
    ap (λ (x : List ℕ). x ++ action_byte s.0 ∷ code ∷ four_bytes (from_four e f g h)) (four_back a b c d one)
    ∙ ap (λ (n : ℕ). a ∷ b ∷ c ∷ d ∷ n ∷ code ∷ four_bytes (from_four e f g h)) (action_takes kind s.0 s.1)
    ∙ ap (λ (y : List ℕ). a ∷ b ∷ c ∷ d ∷ kind ∷ code ∷ y) (four_back e f g h two) in
    subst (λ (x : Request). Is 10 all x) s.2
    (record { kind = refl; fields = same; fits = (four_below a b c d one, fits 5, four_below e f g h two) })
notify_takes _ r fits q = absurd cc

whole_takes : (q : Request) (bytes : List ℕ) (r : Request) → request_fields q ≡ bytes → FitsFields q → Some q ≡ Some r
    → Is (request_kind q) bytes r
whole_takes q bytes r same fits e =
    subst (λ (x : Request). Is (request_kind q) bytes x) (same_Some _ _ e) (record { kind = refl; fields = same; fits = fits })

request_takes : (k : ℕ) (bytes : List ℕ) (r : Request) → IsBytes bytes → request_of k bytes ≡ Some r → Is k bytes r
unfolding request_of
request_takes k bytes r fits =
    let at : (j : ℕ) → k ≡ j → Is j bytes r → Is k bytes r = λ j q h. subst (λ (n : ℕ). Is n bytes r) (sym q) h in
    either k 1 _ _ _ _ (λ q e. at 1 q (alone_takes asks.Attach bytes r refl tt e))
    (either k 2 _ _ _ _ (λ q e. at 2 q (alone_takes asks.Detach bytes r refl tt e))
    (either k 3 _ _ _ _ (λ q e. at 3 q (open_takes bytes r e))
    (either k 4 _ _ _ _ (λ q e. at 4 q (read_takes bytes r fits e))
    (either k 5 _ _ _ _ (λ q e. at 5 q (write_takes bytes r fits e))
    (either k 6 _ _ _ _ (λ q e. at 6 q (close_takes bytes r fits e))
    (either k 7 _ _ _ _ (λ q e. at 7 q (whole_takes (asks.Unlink bytes) bytes r refl tt e))
    (either k 8 _ _ _ _ (λ q e. at 8 q (whole_takes (asks.Mkdir bytes) bytes r refl tt e))
    (either k 9 _ _ _ _ (λ q e. at 9 q (whole_takes (asks.List bytes) bytes r refl tt e))
    (either k 10 _ _ _ _ (λ q e. at 10 q (notify_takes bytes r fits e))
    (either k 11 _ _ _ _ (λ q e. at 11 q (alone_takes asks.Receive bytes r refl tt e))
    (λ e. absurd cc)))))))))))

request_again : (r : Request) → FitsFields r → request_of (request_kind r) (request_fields r) ≡ Some r
unfolding request_of
request_again asks.Attach fits = refl
request_again asks.Detach fits = refl
request_again (asks.Open mode text) fits =
    ap (λ (o : Option Mode). option_map (λ m. asks.Open m text) o) (mode_again mode.r mode.w mode.c mode.t)
request_again (asks.Read handle size) fits =
    ap (λ (n : ℕ). Some (asks.Read n (from_be_bytes w32 (four_bytes size)))) (four_again handle fits.0)
    ∙ ap (λ (n : ℕ). Some (asks.Read handle n)) (four_again size fits.1)
request_again (asks.Write handle bytes) fits = ap (λ (n : ℕ). Some (asks.Write n bytes)) (four_again handle fits)
request_again (asks.Close handle) fits = ap (λ (n : ℕ). Some (asks.Close n)) (four_again handle fits)
request_again (asks.Unlink path) fits = refl
request_again (asks.Mkdir path) fits = refl
request_again (asks.List path) fits = refl
request_again (asks.Notify handle action code value) fits =
    let read : ℕ → ℕ → Option Action → Option Request = λ h v o. option_map (λ x. asks.Notify h x code v) o in
    ap (λ (n : ℕ). read n (from_be_bytes w32 (four_bytes value)) (action_of (action_byte action))) (four_again handle fits.0)
    ∙ ap (λ (n : ℕ). read handle n (action_of (action_byte action))) (four_again value fits.2)
    ∙ ap (λ (o : Option Action). read handle value o) (action_again action)
request_again asks.Receive fits = refl

-- ---- events

-- bytes that are read as an event are its body, and its numbers fit
pub event_takes : (bytes : List ℕ) (e : Event) → IsBytes bytes → event_of bytes ≡ Some e → IsEvent e × (event_body e ≡ bytes)
unfolding event_of
event_takes (k ∷ a ∷ b ∷ rest) e fits q =
    let all : List ℕ = k ∷ a ∷ b ∷ rest in
    let two = IsBytes-take 2 (a ∷ b ∷ rest) (IsBytes-drop 1 all fits) in
    let s = map_some (λ r. let x : Event = record { conn = from_two a b; request = r } in x) (request_of k rest) e q in
    let t = request_takes k rest s.0 (IsBytes-drop 3 all fits) s.1 in
    let back : two_bytes (from_two a b) ≡ a ∷ b ∷ [] = be_bytes_2 (a ∷ b ∷ []) _ refl two refl in
    let x : Event = record { conn = from_two a b; request = s.0 } in
    let same : event_body x ≡ all =
    ap (λ (n : ℕ). n ∷ (two_bytes (from_two a b) ++ request_fields s.0)) t.kind
    ∙ ap (λ (y : List ℕ). k ∷ (y ++ request_fields s.0)) back
    ∙ ap (λ (y : List ℕ). k ∷ a ∷ b ∷ y) t.fields in
    let low : from_two a b < 2 ^ 16 = (let p : a < 256 = fits 1 in let r : b < 256 = fits 2 in omega arith) in
    subst (λ (y : Event). IsEvent y × (event_body y ≡ all)) s.2 (record { conn = low; request = t.fits }, same)
event_takes _ e fits q = absurd cc

-- the body of an event is read as that event
pub event_again : (e : Event) → IsEvent e → event_of (event_body e) ≡ Some e
unfolding event_of
event_again e fits =
    let with_request : ℕ → Option Request → Option Event = λ n o. option_map (λ r. let x : Event = record { conn = n; request = r } in x) o in
    ap (λ (n : ℕ). with_request n (request_of (request_kind e.request) (request_fields e.request))) (from_be_bytes-to_be_bytes_2 e.conn fits.conn)
    ∙ ap (λ (o : Option Request). with_request e.conn o) (request_again e.request fits.request)

pub conn_again : (e : Event) → IsEvent e → conn_of (event_body e) ≡ Some e.conn
conn_again e fits = ap (λ (n : ℕ). Some n) (from_be_bytes-to_be_bytes_2 e.conn fits.conn)

-- what is not read is no event's body
pub no_body : (bytes : List ℕ) → event_of bytes ≡ None → IsNoBody bytes
no_body bytes none e fits same = absurd (let s : event_of bytes ≡ Some e = sym (ap event_of same) ∙ event_again e fits in cc)
