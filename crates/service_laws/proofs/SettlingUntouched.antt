-- A record changes no handle that it does not concern; and what handles have seen stays fitting.
use Rattle.std.proofs.Common.{◌≡◌, Bool, true, false, cond, ◌&&◌, ◌||◌, List, [], ◌∷◌, Some, None, refl, ap, ◌∙◌}
use Rattle.std.specs.Prelude.{◌==◌, option_and_then}
use Rattle.std.specs.Option.{option_map_or}
use Rattle.std.specs.List.{list_any}
use Rattle.pps_types.specs.History.{Entry}
use Rattle.pps_types.specs.Reading.{OpenHandle, reseen, concerns, visible, sees, is_chained}
use Rattle.pps_types.specs.Rests.{pushed, Progress, News, Unread, Over, Owed, seen_of}
use Rattle.pps_types.specs.Content.{Content}
use Rattle.pps_types.specs.WellFormed.{AreTold, IsWhole}
use Rattle.pps_types.specs.Plan.{Move, Attaches, Leaves, Creates, AppendsRecord, Opens, Closes, CatchesUp, Advances, Parks, Arms, Queues, Takes, MakesDirectory, RemovesDirectory, apply_seen, apply_all_seen, offered, creation, caught_up, left}
use Rattle.service_laws.proofs.Fits.{told-in, told-out}
use Rattle.service_laws.proofs.Holders.{AllTold, told-apart, told-both, told-kept}
use Rattle.service_laws.proofs.Passes.{or-false}
use Rattle.service_laws.specs.Told.{entry_told, entries_told, handle_by, handle_after, names_handle, seen_after, offer_all}
use Rattle.service_laws.specs.Concerned.{is_concerned}
use Rattle.service_laws.proofs.SettlingSight.{any-parts}

-- ---- it stays fitting

told-after : (xs : List Move) (c : Content) → AllTold c → AllTold (apply_all_seen xs c)
told-after [] c p = p
told-after (x ∷ xs) c p = told-after xs (apply_seen x c) (told-kept x c p)

pub told-stays : (xs : List Move) (c : Content) → AreTold c → AreTold (apply_all_seen xs c)
told-stays xs c p = told-out (apply_all_seen xs c) (told-apart (apply_all_seen xs c) (told-after xs c (told-both c (told-in c p))))

-- ---- untouched

none-or : (b : Bool) → (b || false) ≡ b
none-or true = refl
none-or false = refl

offered-untouched : (h : OpenHandle Progress) (e : Entry) → concerns h e ≡ false → (s : Progress) → IsWhole h s → offered h e s ≡ s
offered-untouched h e no-concern (News b) w = ap (λ v. News (b || (v && sees h e.record_of))) no-concern ∙ ap News (none-or b)
offered-untouched h e no-concern Unread w = refl
offered-untouched h e no-concern Over w = refl
offered-untouched h e no-concern (Owed rest) w = ap (λ v. seen_of h (cond ((v && sees h e.record_of) || (v && is_chained h.kind e.record_of.kind)) (pushed (visible h) e rest) rest)) no-concern ∙ w

pub offer_all-untouched : (es : List Entry) (h : OpenHandle Progress) → IsWhole h h.seen → is_concerned es h ≡ false → offer_all es h ≡ h
offer_all-untouched es h w none = ap (λ s. record h { seen = s }) (go es none)
  where
    go : (es : List Entry) → list_any (concerns h) es ≡ false → seen_after h es h.seen ≡ h.seen
    go [] none = refl
    go (e ∷ es) none = by (concerns h e) refl none (go es)
      where
        by : (b : Bool) → concerns h e ≡ b → (b || list_any (concerns h) es) ≡ false → (list_any (concerns h) es ≡ false → seen_after h es h.seen ≡ h.seen) → seen_after h es (offered h e h.seen) ≡ h.seen
        by true is bad rest = absurd (let f = bad in cc)
        by false is f rest = ap (seen_after h es) (offered-untouched h e is h.seen w) ∙ rest f

-- ---- moves that are not of a handle

left-cond : (b : Bool) (g h : OpenHandle Progress) → b ≡ false → Some (cond b g h) ≡ Some h
left-cond b g h e = ap (λ b. Some (cond b g h)) e

left-by : (x : Move) (h : OpenHandle Progress) → IsWhole h h.seen → option_map_or (concerns h) (entry_told x) false ≡ false → names_handle h.number x ≡ false → handle_by x h ≡ Some h
left-by (Creates o) h w none other = ap (λ s. Some (record h { seen = s })) (offered-untouched h (creation o) none h.seen w)
left-by (AppendsRecord e) h w none other = ap (λ s. Some (record h { seen = s })) (offered-untouched h e none h.seen w)
left-by (Closes number) h w none other = ap (λ b. cond b None (Some h)) other
left-by (CatchesUp number) h w none other = left-cond (h.number == number) (reseen caught_up h) h other
left-by (Advances number count) h w none other = left-cond (h.number == number) (reseen (λ h. left h count h.seen) h) h other
left-by (Parks number size) h w none other = left-cond (h.number == number) (record h { parked = size }) h other
left-by (Arms number pulse) h w none other = left-cond (h.number == number) (record h { armed = pulse }) h other
left-by (Attaches conn) h w none other = refl
left-by (Leaves conn) h w none other = refl
left-by (Opens g) h w none other = refl
left-by (Queues conn item) h w none other = refl
left-by (Takes conn) h w none other = refl
left-by (MakesDirectory path) h w none other = refl
left-by (RemovesDirectory number) h w none other = refl

-- A handle that no record concerns and no move is of, stays.
pub handle_after-left : (xs : List Move) (h : OpenHandle Progress) → IsWhole h h.seen → is_concerned (entries_told xs) h ≡ false → list_any (names_handle h.number) xs ≡ false → handle_after xs h ≡ Some h
handle_after-left [] h w none other = refl
handle_after-left (x ∷ xs) h w none other =
    let concern = any-parts (concerns h) (entry_told x) (entries_told xs) none in
    let own = or-false (names_handle h.number x) (list_any (names_handle h.number) xs) other in
    ap (option_and_then (handle_after xs)) (left-by x h w concern.0 own.0) ∙ handle_after-left xs h w concern.1 own.1
