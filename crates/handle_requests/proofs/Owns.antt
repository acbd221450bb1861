-- A handle that is found by its number is the own one of its connection, and of no other.
use Rattle.std.specs.Prelude.{◌≡◌, ◌==◌, ◌&&◌, ℕ, List, Bool, true, false, not, Option, Some, None, find, map, option_map, option_and_then, is_some, IfSome}
use Rattle.std.specs.Option.{option_map_or}
use Rattle.pps_types.specs.Content.{news}
use Rattle.std.proofs.Common.{refl, sym, ◌∙◌, ap, subst}
use Rattle.std.proofs.lemmas.Bool.{eqb-true}
use Rattle.pps_types.specs.Reading.{OpenHandle}
use Rattle.pps_types.specs.Rests.{Progress}
use Rattle.pps_types.specs.WellFormed.{RiseBetween}
use Rattle.service_laws.proofs.Finds.{and-both}
use Rattle.sub_reader.specs.Opened.{handle_at, as_opened}
use Rattle.notify_box.proofs.ConnectionLists.{passes, found-both, found-more}

-- the own handle among these
abbrev pub own_among : List (OpenHandle Progress) → ℕ → ℕ → Option (OpenHandle Progress)
own_among hs conn n = find (λ h. (h.number == n) && (h.connection == conn)) hs

pub unlike : {b : Bool} → not b ≡ true → b ≡ false
unlike {b = false} e = refl
unlike {b = true} e = absurd (let bad = e in cc)

pub alike : {b : Bool} → not b ≡ false → b ≡ true
alike {b = true} e = refl
alike {b = false} e = absurd (let bad = e in cc)

-- its number and its connection
pub own_is : (hs : List (OpenHandle Progress)) (conn n : ℕ) (h : OpenHandle Progress) → own_among hs conn n ≡ Some h → (h.number ≡ n) × ((h.connection ≡ conn) × Unit {0})
own_is hs conn n h own =
    let both : ((h.number == n) ≡ true) × ((h.connection == conn) ≡ true) = and-both (h.number == n) (h.connection == conn) (passes (λ g. (g.number == n) && (g.connection == conn)) hs h own) in
    (eqb-true h.number n both.0, (eqb-true h.connection conn both.1, tt))

module _ (hs : List (OpenHandle Progress)) (next : ℕ) (rise : RiseBetween 0 (map (λ h. h.number) hs) next) (conn n : ℕ) where
  -- it is the one of its number
  pub own_numbered : (h : OpenHandle Progress) → own_among hs conn n ≡ Some h → handle_at n hs ≡ Some h
  own_numbered h own = found-both (λ (g : OpenHandle Progress). g.number) n (λ g. g.connection == conn) 0 next hs h rise own

  pub own_none : handle_at n hs ≡ None → own_among hs conn n ≡ None
  own_none none = by (own_among hs conn n) refl
    where
      by : (o : Option (OpenHandle Progress)) → own_among hs conn n ≡ o → o ≡ None
      by None e = refl
      by (Some h) e = let bad : None ≡ Some h = sym none ∙ own_numbered h e in absurd (let b = bad in cc)

  pub own_other : (h : OpenHandle Progress) → handle_at n hs ≡ Some h → (h.connection == conn) ≡ false → own_among hs conn n ≡ None
  own_other h here differs = by (own_among hs conn n) refl
    where
      by : (o : Option (OpenHandle Progress)) → own_among hs conn n ≡ o → o ≡ None
      by None e = refl
      by (Some g) e =
          let same : Some h ≡ Some g = sym here ∙ own_numbered g e in
          let both : ((g.number == n) ≡ true) × ((g.connection == conn) ≡ true) = and-both (g.number == n) (g.connection == conn) (passes (λ g. (g.number == n) && (g.connection == conn)) hs g e) in
          let is : h ≡ g = cc in
          let bad : false ≡ true = sym differs ∙ ap (λ (x : OpenHandle Progress). x.connection == conn) is ∙ both.1 in
          absurd (let b = bad in cc)

  pub own_here : (h : OpenHandle Progress) → handle_at n hs ≡ Some h → (h.connection == conn) ≡ true → own_among hs conn n ≡ Some h
  own_here h here same = found-more (λ (g : OpenHandle Progress). g.number == n) (λ g. g.connection == conn) hs h here same

  -- ---- by what their opens fixed

  pub opened_none : None ≡ option_map as_opened (handle_at n hs) → None ≡ option_map as_opened (own_among hs conn n)
  opened_none e = by (handle_at n hs) refl e
    where
      by : (o : Option (OpenHandle Progress)) → handle_at n hs ≡ o → None ≡ option_map as_opened o → None ≡ option_map as_opened (own_among hs conn n)
      by None at e = ap (option_map as_opened) (sym (own_none at))
      by (Some h) at e = absurd (let bad = e in cc)

  pub opened_other : (x : OpenHandle (Unit {0})) → Some x ≡ option_map as_opened (handle_at n hs) → (x.connection == conn) ≡ false → None ≡ option_map as_opened (own_among hs conn n)
  opened_other x e differs = by (handle_at n hs) refl e
    where
      by : (o : Option (OpenHandle Progress)) → handle_at n hs ≡ o → Some x ≡ option_map as_opened o → None ≡ option_map as_opened (own_among hs conn n)
      by None at e = absurd (let bad = e in cc)
      by (Some h) at e =
          let is : x ≡ as_opened h = cc in
          ap (option_map as_opened) (sym (own_other h at (ap (λ (y : OpenHandle (Unit {0})). y.connection == conn) (sym is) ∙ differs)))

  pub opened_here : (x : OpenHandle (Unit {0})) → Some x ≡ option_map as_opened (handle_at n hs) → (x.connection == conn) ≡ true → Some x ≡ option_map as_opened (own_among hs conn n)
  opened_here x e same = by (handle_at n hs) refl e
    where
      by : (o : Option (OpenHandle Progress)) → handle_at n hs ≡ o → Some x ≡ option_map as_opened o → Some x ≡ option_map as_opened (own_among hs conn n)
      by None at e = absurd (let bad = e in cc)
      by (Some h) at e =
          let is : x ≡ as_opened h = cc in
          e ∙ ap (option_map as_opened) (sym (own_here h at (ap (λ (y : OpenHandle (Unit {0})). y.connection == conn) (sym is) ∙ same)))

-- ---- what the own handle is known by

-- what its open fixed is that of a handle
pub own_known : (o : Option (OpenHandle Progress)) (x : OpenHandle (Unit {0})) → Some x ≡ option_map as_opened o → (h : OpenHandle Progress) × ((o ≡ Some h) × (as_opened h ≡ x))
own_known None x e = absurd (let bad = e in cc)
own_known (Some h) x e = (h, (refl, let is = e in cc))

pub own_unknown : (o : Option (OpenHandle Progress)) → None ≡ option_map as_opened o → o ≡ None
own_unknown None e = refl
own_unknown (Some h) e = absurd (let bad = e in cc)

-- whether it has news is what is found by its number
pub own_news : (hs : List (OpenHandle Progress)) (next : ℕ) → RiseBetween 0 (map (λ h. h.number) hs) next → (conn n : ℕ) (b : Bool) → b ≡ option_map_or news (handle_at n hs) false
    → IfSome (own_among hs conn n) (λ h. b ≡ news h)
own_news hs next rise conn n b is = by (own_among hs conn n) refl
  where
    by : (o : Option (OpenHandle Progress)) → own_among hs conn n ≡ o → IfSome o (λ h. b ≡ news h)
    by None e = tt
    by (Some h) e = is ∙ ap (λ o. option_map_or news o false) (own_numbered hs next rise conn n h e)

-- whether a read waits on it, too
pub own_parked : (hs : List (OpenHandle Progress)) (next : ℕ) → RiseBetween 0 (map (λ h. h.number) hs) next → (conn n : ℕ) (p : Option ℕ) → p ≡ option_and_then (λ (h : OpenHandle Progress). h.parked) (handle_at n hs) → (b : Bool) → b ≡ is_some p
    → IfSome (own_among hs conn n) (λ h. b ≡ is_some h.parked)
own_parked hs next rise conn n p p-is b is = by (own_among hs conn n) refl
  where
    by : (o : Option (OpenHandle Progress)) → own_among hs conn n ≡ o → IfSome o (λ h. b ≡ is_some h.parked)
    by None e = tt
    by (Some h) e = is ∙ ap is_some (p-is ∙ ap (option_and_then (λ (h : OpenHandle Progress). h.parked)) (own_numbered hs next rise conn n h e))

-- and whether a pulse is armed on it
pub own_armed : (hs : List (OpenHandle Progress)) (next : ℕ) → RiseBetween 0 (map (λ h. h.number) hs) next → (conn n : ℕ) (b : Bool) → IfSome (handle_at n hs) (λ (h : OpenHandle Progress). b ≡ is_some h.armed)
    → IfSome (own_among hs conn n) (λ h. b ≡ is_some h.armed)
own_armed hs next rise conn n b is = by (own_among hs conn n) refl
  where
    by : (o : Option (OpenHandle Progress)) → own_among hs conn n ≡ o → IfSome o (λ h. b ≡ is_some h.armed)
    by None e = tt
    by (Some h) e = subst (λ (o : Option (OpenHandle Progress)). IfSome o (λ h. b ≡ is_some h.armed)) (own_numbered hs next rise conn n h e) is
