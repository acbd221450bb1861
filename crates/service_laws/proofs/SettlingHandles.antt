-- What moves make of the handles, each by itself.
use Rattle.std.proofs.Common.{◌≡◌, ℕ, ◌+◌, ◌<◌, Bool, true, false, cond, List, [], ◌∷◌, ◌++◌, map, Option, Some, None, refl, sym, ap, ◌∙◌, arith, append_assoc}
use Rattle.std.specs.Prelude.{◌==◌, option_and_then}
use Rattle.std.proofs.lemmas.Bool.{ne_eqb, eqb-true}
use Rattle.std.proofs.lemmas.List.{map-append}
use Rattle.std.proofs.lemmas.List.Elements.{filter_map-append}
use Rattle.std.specs.List.{filter_map, cons_option}
use Rattle.pps_types.specs.Reading.{OpenHandle, reseen}
use Rattle.pps_types.specs.Rests.{Progress}
use Rattle.pps_types.specs.Content.{Content}
use Rattle.pps_types.specs.Plan.{Move, Attaches, Leaves, Creates, AppendsRecord, Opens, Closes, CatchesUp, Advances, Parks, Arms, Queues, Takes, MakesDirectory, RemovesDirectory, on_numbered, without_number, apply_seen, apply_all_seen, offer, creation, caught_up, left}
use Rattle.pps_types.proofs.Lists.{append-nil, filter_map-then, all-all, all-weaken}
use Rattle.pps_types.specs.WellFormed.{RiseBetween}
use Rattle.service_laws.proofs.Finds.{OfSome}
use Rattle.service_laws.proofs.Rising.{rising-push, rising-filter_map}
use Rattle.service_laws.specs.Told.{HandlesRise, IsNumbered, number_after, AreNumbered, handle_by, handle_after, opened_by, handles_opened}
use Rattle.service_laws.proofs.SettlingLists.{filter_map-all, filter_map-map, rising-behind}

-- ---- each handle keeps its number

kept-cond : (b : Bool) (g h : OpenHandle Progress) → g.number ≡ h.number → (cond b g h).number ≡ h.number
kept-cond true g h e = e
kept-cond false g h e = refl

handle_by-number : (x : Move) (h : OpenHandle Progress) → OfSome (λ g. g.number ≡ h.number) (handle_by x h)
handle_by-number (Attaches conn) h = refl
handle_by-number (Leaves conn) h = refl
handle_by-number (Creates o) h = refl
handle_by-number (AppendsRecord e) h = refl
handle_by-number (Opens g) h = refl
handle_by-number (Closes number) h = elim (h.number == number) as (λ b. OfSome (λ (g : OpenHandle Progress). g.number ≡ h.number) (cond b None (Some h))) [ true ↦ tt | false ↦ refl ]
handle_by-number (CatchesUp number) h = kept-cond (h.number == number) (reseen caught_up h) h refl
handle_by-number (Advances number count) h = kept-cond (h.number == number) (reseen (λ h. left h count h.seen) h) h refl
handle_by-number (Parks number size) h = kept-cond (h.number == number) (record h { parked = size }) h refl
handle_by-number (Arms number pulse) h = kept-cond (h.number == number) (record h { armed = pulse }) h refl
handle_by-number (Queues conn item) h = refl
handle_by-number (Takes conn) h = refl
handle_by-number (MakesDirectory path) h = refl
handle_by-number (RemovesDirectory number) h = refl

pub handle_after-number : (xs : List Move) (h : OpenHandle Progress) → OfSome (λ g. g.number ≡ h.number) (handle_after xs h)
handle_after-number [] h = refl
handle_after-number (x ∷ xs) h = go (handle_by x h) (handle_by-number x h) (λ g. handle_after-number xs g)
  where
    on : (g : OpenHandle Progress) → g.number ≡ h.number → (o : Option (OpenHandle Progress)) → OfSome (λ k. k.number ≡ g.number) o → OfSome (λ k. k.number ≡ h.number) o
    on g e None k = tt
    on g e (Some k) same = same ∙ e

    go : (o : Option (OpenHandle Progress)) → OfSome (λ g. g.number ≡ h.number) o → ((g : OpenHandle Progress) → OfSome (λ k. k.number ≡ g.number) (handle_after xs g)) → OfSome (λ g. g.number ≡ h.number) (option_and_then (handle_after xs) o)
    go None e rest = tt
    go (Some g) e rest = on g e (handle_after xs g) (rest g)

-- ---- a change of the handle of one number

abbrev changed : ℕ → (OpenHandle Progress → OpenHandle Progress) → OpenHandle Progress → Option (OpenHandle Progress)
changed number change h = Some (cond (h.number == number) (change h) h)

abbrev ended : ℕ → OpenHandle Progress → Option (OpenHandle Progress)
ended number h = cond (h.number == number) None (Some h)

other : (n : ℕ) (h : OpenHandle Progress) → n < h.number → (h.number == n) ≡ false
other n h lt = ne_eqb h.number n (λ same. omega (arith, same, lt))

on_numbered-each : (number : ℕ) (change : OpenHandle Progress → OpenHandle Progress) (low high : ℕ) (hs : List (OpenHandle Progress)) → RiseBetween low (map (λ h. h.number) hs) high → on_numbered number change hs ≡ filter_map (changed number change) hs
on_numbered-each number change low high [] r = refl
on_numbered-each number change low high (h ∷ hs) r = by (h.number == number) refl (on_numbered-each number change (h.number + 1) high hs r.1)
  where
    later : h.number ≡ number → filter_map (changed number change) hs ≡ hs
    later is = filter_map-all (changed number change) hs
        (all-weaken {P = λ (z : OpenHandle Progress). h.number < z.number} {Q = λ z. changed number change z ≡ Some z} (λ z lt. ap (λ b. Some (cond b (change z) z)) (ap (λ n. z.number == n) (sym is) ∙ other h.number z lt)) hs (rising-behind (λ (h : OpenHandle Progress). h.number) h.number high hs r.1))

    by : (b : Bool) → (h.number == number) ≡ b → on_numbered number change hs ≡ filter_map (changed number change) hs → cond b (change h ∷ hs) (h ∷ on_numbered number change hs) ≡ cond b (change h) h ∷ filter_map (changed number change) hs
    by true e rest = ap (λ xs. change h ∷ xs) (sym (later (eqb-true h.number number e)))
    by false e rest = ap (λ xs. h ∷ xs) rest

without_number-each : (number : ℕ) (low high : ℕ) (hs : List (OpenHandle Progress)) → RiseBetween low (map (λ h. h.number) hs) high → without_number number hs ≡ filter_map (ended number) hs
without_number-each number low high [] r = refl
without_number-each number low high (h ∷ hs) r = by (h.number == number) refl (without_number-each number (h.number + 1) high hs r.1)
  where
    later : h.number ≡ number → filter_map (ended number) hs ≡ hs
    later is = filter_map-all (ended number) hs
        (all-weaken {P = λ (z : OpenHandle Progress). h.number < z.number} {Q = λ z. ended number z ≡ Some z} (λ z lt. ap (λ b. cond b None (Some z)) (ap (λ n. z.number == n) (sym is) ∙ other h.number z lt)) hs (rising-behind (λ (h : OpenHandle Progress). h.number) h.number high hs r.1))

    by : (b : Bool) → (h.number == number) ≡ b → without_number number hs ≡ filter_map (ended number) hs → cond b hs (h ∷ without_number number hs) ≡ cons_option (cond b None (Some h)) (filter_map (ended number) hs)
    by true e rest = sym (later (eqb-true h.number number e))
    by false e rest = ap (λ xs. h ∷ xs) rest

-- ---- one move

same-each : (hs : List (OpenHandle Progress)) → hs ≡ filter_map (λ h. Some h) hs ++ []
same-each hs = sym (append-nil _ ∙ filter_map-all (λ h. Some h) hs (all-all {P = λ (h : OpenHandle Progress). Some h ≡ Some h} (λ h. refl) hs))

handles-by : (c : Content) (x : Move) → HandlesRise c → (apply_seen x c).handles ≡ filter_map (handle_by x) c.handles ++ cons_option (opened_by x) []
handles-by c (Attaches conn) r = same-each c.handles
handles-by c (Leaves conn) r = same-each c.handles
handles-by c (Creates o) r = filter_map-map (offer (creation o)) c.handles ∙ sym (append-nil _)
handles-by c (AppendsRecord e) r = filter_map-map (offer e) c.handles ∙ sym (append-nil _)
handles-by c (Opens h) r = ap (λ hs. hs ++ cons_option (opened_by (Opens h)) []) (sym (filter_map-all (λ h. Some h) c.handles (all-all {P = λ (h : OpenHandle Progress). Some h ≡ Some h} (λ h. refl) c.handles)))
handles-by c (Closes number) r = without_number-each number 0 c.next_handle c.handles r ∙ sym (append-nil _)
handles-by c (CatchesUp number) r = on_numbered-each number (reseen caught_up) 0 c.next_handle c.handles r ∙ sym (append-nil _)
handles-by c (Advances number count) r = on_numbered-each number (reseen (λ h. left h count h.seen)) 0 c.next_handle c.handles r ∙ sym (append-nil _)
handles-by c (Parks number size) r = on_numbered-each number (λ h. record h { parked = size }) 0 c.next_handle c.handles r ∙ sym (append-nil _)
handles-by c (Arms number pulse) r = on_numbered-each number (λ h. record h { armed = pulse }) 0 c.next_handle c.handles r ∙ sym (append-nil _)
handles-by c (Queues conn item) r = same-each c.handles
handles-by c (Takes conn) r = same-each c.handles
handles-by c (MakesDirectory path) r = same-each c.handles
handles-by c (RemovesDirectory number) r = same-each c.handles

pub next_handle-by : (c : Content) (x : Move) → (apply_seen x c).next_handle ≡ number_after c.next_handle (opened_by x)
next_handle-by c (Attaches conn) = refl
next_handle-by c (Leaves conn) = refl
next_handle-by c (Creates o) = refl
next_handle-by c (AppendsRecord e) = refl
next_handle-by c (Opens h) = refl
next_handle-by c (Closes number) = refl
next_handle-by c (CatchesUp number) = refl
next_handle-by c (Advances number count) = refl
next_handle-by c (Parks number size) = refl
next_handle-by c (Arms number pulse) = refl
next_handle-by c (Queues conn item) = refl
next_handle-by c (Takes conn) = refl
next_handle-by c (MakesDirectory path) = refl
next_handle-by c (RemovesDirectory number) = refl

-- the numbers rise on
rising-by : (c : Content) (x : Move) → HandlesRise c → IsNumbered c.next_handle (opened_by x) → HandlesRise (apply_seen x c)
rising-by c x r n = rw (handles-by c x r, next_handle-by c x, map-append (λ (h : OpenHandle Progress). h.number) (filter_map (handle_by x) c.handles) (cons_option (opened_by x) []))
    (go (opened_by x) n (rising-filter_map (λ (h : OpenHandle Progress). h.number) (handle_by x) (handle_by-number x) 0 c.next_handle c.handles r))
  where
    go : (o : Option (OpenHandle Progress)) → IsNumbered c.next_handle o → RiseBetween 0 (map (λ h. h.number) (filter_map (handle_by x) c.handles)) c.next_handle
        → RiseBetween 0 (map (λ h. h.number) (filter_map (handle_by x) c.handles) ++ map (λ h. h.number) (cons_option o [])) (number_after c.next_handle o)
    go None n r = rw (append-nil (map (λ (h : OpenHandle Progress). h.number) (filter_map (handle_by x) c.handles))) r
    go (Some h) n r = rw n (rising-push 0 c.next_handle (map (λ h. h.number) (filter_map (handle_by x) c.handles)) r)

-- ---- a list of moves

pub handles-after : (xs : List Move) (c : Content) → HandlesRise c → AreNumbered c.next_handle xs → (apply_all_seen xs c).handles ≡ filter_map (handle_after xs) c.handles ++ handles_opened xs
handles-after [] c r n = same-each c.handles
handles-after (x ∷ xs) c r n =
    handles-after xs (apply_seen x c) (rising-by c x r n.0) (rw (next_handle-by c x) n.1)
    ∙ ap (λ hs. filter_map (handle_after xs) hs ++ handles_opened xs) (handles-by c x r)
    ∙ ap (λ hs. hs ++ handles_opened xs) (filter_map-append (handle_after xs) (filter_map (handle_by x) c.handles) (cons_option (opened_by x) []))
    ∙ append_assoc (filter_map (handle_after xs) (filter_map (handle_by x) c.handles)) (filter_map (handle_after xs) (cons_option (opened_by x) [])) (handles_opened xs)
    ∙ (λ i. sym (filter_map-then (handle_by x) (handle_after xs) (handle_after (x ∷ xs)) c.handles (all-all {P = λ (h : OpenHandle Progress). handle_after (x ∷ xs) h ≡ option_and_then (handle_after xs) (handle_by x h)} (λ h. refl) c.handles)) i ++ go (opened_by x) i)
  where
    go : (o : Option (OpenHandle Progress)) → filter_map (handle_after xs) (cons_option o []) ++ handles_opened xs ≡ cons_option (option_and_then (handle_after xs) o) (handles_opened xs)
    go None = refl
    go (Some h) = on (handle_after xs h)
      where
        on : (k : Option (OpenHandle Progress)) → cons_option k [] ++ handles_opened xs ≡ cons_option k (handles_opened xs)
        on None = refl
        on (Some k) = refl
