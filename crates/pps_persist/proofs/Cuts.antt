-- Bytes cut at line feeds, as they are taken.
use Rattle.std.proofs.Common.{◌≡◌, ℕ, zero, suc, ◌+◌, ◌≤◌, ◌<◌, Bool, true, false, not, ◌&&◌, cond, eqb, List, [], ◌∷◌, ◌++◌, length, Option, Some, None, Err, refl, sym, ap, subst, ◌∙◌, append_assoc, append-nil, length-append, arith}
use Rattle.std.specs.Prelude.{nat_lt, option_map}
use Rattle.std.specs.List.{list_all}
use Rattle.std.proofs.lemmas.Bool.{and_from, eqb-true, eqb-false}
use Rattle.std.proofs.lemmas.Bool.Decides.{nat_tests}
use Rattle.std.proofs.lemmas.List.Folds.{list_all-append}
use Rattle.pps_types.specs.Bytes.{is_empty, split_at_first}
use Rattle.pps_types.specs.Image.{text_line, Position, First, Between, Within, Behind, in_object, at_end, read_image}
use Rattle.image_laws.specs.Images.{is_plain, are_plain, joined, read_all}
use Rattle.image_laws.proofs.Lines.{joined-append}
use Rattle.image_laws.proofs.Options.{map-some}
use Rattle.image_laws.proofs.Proved.{line-by-line}
use Rattle.pps_engine.specs.Serving.{Serving}
use Rattle.pps_persist.specs.declared.errors.LoadError.{LoadError}
use Rattle.pps_persist.specs.declared.errors.LoadError.TheVariants.{OutOfMemory, BadImage, ReadFault}
use Rattle.pps_persist.specs.declared.pieces.Reading.{Reading}
use Rattle.pps_persist.specs.declared.place.Place.{Place}
use Rattle.pps_persist.specs.declared.place.Place.TheVariants as places
use Rattle.pps_persist.specs.Held.{IsAt}
use Rattle.pps_persist.specs.Begun.{has_room, IsEmptyBehind, IsReading, GoesOn, IsSplit, IsLoadedFrom}
use Rattle.pps_persist.proofs.Taken.{next}

-- ---- at the first line feed

pub record IsCut (bytes line behind : List ℕ) : Type 0 where
  pub plain : list_all is_plain line ≡ true
  pub parts : bytes ≡ line ++ 10 ∷ behind

pub cut-at : (bytes line behind : List ℕ) → split_at_first 10 bytes ≡ Some (line, behind) → IsCut bytes line behind
cut-at [] line behind e = absurd cc
cut-at (b ∷ bs) line behind e = by (eqb b 10) refl (λ l. cut-at bs l behind) e
  where
    by : (t : Bool) → eqb b 10 ≡ t → ((l : List ℕ) → split_at_first 10 bs ≡ Some (l, behind) → IsCut bs l behind)
        → cond {A = Option (List ℕ × List ℕ)} t (Some ([], bs)) (option_map (λ (parts : List ℕ × List ℕ). (b ∷ parts.0, parts.1)) (split_at_first 10 bs)) ≡ Some (line, behind) → IsCut (b ∷ bs) line behind
    by true is rec e =
        let both : ([], bs) ≡ (line, behind) = cc in
        let none : [] ≡ line = ap (λ (p : List ℕ × List ℕ). p.0) both in
        let rest : bs ≡ behind = ap (λ (p : List ℕ × List ℕ). p.1) both in
        record { plain = ap (list_all is_plain) (sym none); parts = (λ i. eqb-true b 10 is i ∷ rest i) ∙ ap (λ (l : List ℕ). l ++ 10 ∷ behind) none }
    by false is rec e =
        let m = map-some (λ (parts : List ℕ × List ℕ). (b ∷ parts.0, parts.1)) (split_at_first 10 bs) (line, behind) e in
        let first : b ∷ m.0.0 ≡ line = ap (λ (p : List ℕ × List ℕ). p.0) m.2 in
        let rest : m.0.1 ≡ behind = ap (λ (p : List ℕ × List ℕ). p.1) m.2 in
        let h = rec m.0.0 (m.1 ∙ ap (λ (x : List ℕ). Some (m.0.0, x)) rest) in
        record {
          plain = ap (list_all is_plain) (sym first) ∙ and_from _ _ (ap not is) h.plain;
          parts = ap (λ (x : List ℕ). b ∷ x) h.parts ∙ ap (λ (l : List ℕ). l ++ 10 ∷ behind) first;
        }

pub no-cut : (bytes : List ℕ) → split_at_first 10 bytes ≡ None → list_all is_plain bytes ≡ true
no-cut [] e = refl
no-cut (b ∷ bs) e = by (eqb b 10) refl (split_at_first 10 bs) (no-cut bs) e
  where
    by : (t : Bool) → eqb b 10 ≡ t → (o : Option (List ℕ × List ℕ)) → (o ≡ None → list_all is_plain bs ≡ true)
        → cond {A = Option (List ℕ × List ℕ)} t (Some ([], bs)) (option_map (λ (parts : List ℕ × List ℕ). (b ∷ parts.0, parts.1)) o) ≡ None → (is_plain b && list_all is_plain bs) ≡ true
    by true is o rec e = absurd cc
    by false is None rec e = and_from _ _ (ap not is) (rec refl)
    by false is (Some parts) rec e = absurd cc

-- ---- lines

-- there are no more lines than bytes
pub few-lines : (lines : List (List ℕ)) → length lines ≤ length (joined lines)
few-lines [] = omega arith
few-lines (l ∷ lines) = omega (arith, few-lines lines, length-append (text_line l) (joined lines), length-append l (10 ∷ []))

pub plain-push : (lines : List (List ℕ)) (l : List ℕ) → are_plain lines ≡ true → list_all is_plain l ≡ true → are_plain (lines ++ l ∷ []) ≡ true
plain-push lines l all plain = list_all-append (λ l. list_all is_plain l) lines (l ∷ []) ∙ and_from _ _ all (and_from _ _ plain refl)

joined-push : (lines : List (List ℕ)) (l : List ℕ) → joined lines ++ l ++ 10 ∷ [] ≡ joined (lines ++ l ∷ []) ++ []
joined-push lines l =
    append_assoc (joined lines) l (10 ∷ []) ∙ ap (λ (x : List ℕ). joined lines ++ x) (sym (append-nil (text_line l)))
    ∙ sym (joined-append lines (l ∷ [])) ∙ sym (append-nil (joined (lines ++ l ∷ [])))

-- ---- where one stands

-- which position the definition's reader has
pub record HasPosition (lines : List (List ℕ)) (place : Place) : Type 0 where
  pub p : Position
  pub reads : read_all First lines ≡ Some p

pub position : (lines : List (List ℕ)) (place : Place) → IsAt lines place → HasPosition lines place
position lines places.First at = record { p = First; reads = ap (read_all First) at }
position lines (places.Between l) at = record { p = Between at.r; reads = at.reads }
position lines (places.Within l o) at = record { p = in_object at.0.r at.0.path at.0.before o.to_come; reads = at.0.reads }
position lines (places.Behind engine) at = record { p = Behind at.image; reads = at.reads }

-- ---- bytes of a line

pub begins-so : (new : Reading) → new.place ≡ places.First → new.line.items ≡ [] → new.number ≡ 1 → IsReading [] new
begins-so new place line number = record {
  lines = [];
  plain = refl;
  begun = ap (list_all is_plain) line;
  whole = sym line;
  at = subst (IsAt []) (sym place) refl;
  number = number;
  short = omega (arith, ap length line);
  behind = subst (λ (p : Place). IsEmptyBehind p new.line.items) (sym place) tt;
}

no-less : (a b : ℕ) → nat_lt a b ≡ false → b ≤ a
no-less a b e = grind (arith, nat_tests)

less : (a b : ℕ) → nat_lt a b ≡ true → a < b
less a b e = grind (arith, nat_tests)

module _ (taken : List ℕ) (old : Reading) (h : IsReading taken old) where
  pub longer : (bytes : List ℕ) (new : Reading) → list_all is_plain bytes ≡ true → new.place ≡ old.place → new.number ≡ old.number → new.line.items ≡ old.line.items ++ bytes
      → length old.line.items + length bytes < 65536 → IsEmptyBehind old.place (old.line.items ++ bytes) → IsReading (taken ++ bytes) new
  longer bytes new plain place number line short behind = record {
    lines = h.lines;
    plain = h.plain;
    begun = ap (list_all is_plain) line ∙ list_all-append is_plain old.line.items bytes ∙ and_from _ _ h.begun plain;
    whole = ap (λ (x : List ℕ). x ++ bytes) h.whole ∙ append_assoc (joined h.lines) old.line.items bytes ∙ ap (λ (x : List ℕ). joined h.lines ++ x) (sym line);
    at = subst (IsAt h.lines) (sym place) h.at;
    number = number ∙ h.number;
    short = omega (arith, short, ap length line, length-append old.line.items bytes);
    behind = subst (λ (p : Place). IsEmptyBehind p new.line.items) (sym place) (subst (IsEmptyBehind old.place) (sym line) behind);
  }

  pub too-long : (bytes : List ℕ) → list_all is_plain bytes ≡ true → 65536 ≤ length old.line.items + length bytes → (more : List ℕ) → read_image ((taken ++ bytes) ++ more) ≡ Err old.number
  too-long bytes plain long more =
      let p = position h.lines old.place h.at in
      let line = old.line.items ++ bytes in
      let parts : (taken ++ bytes) ++ more ≡ joined h.lines ++ (line ++ more) =
      ap (λ (x : List ℕ). (x ++ bytes) ++ more) h.whole ∙ ap (λ (x : List ℕ). x ++ more) (append_assoc (joined h.lines) old.line.items bytes) ∙ append_assoc (joined h.lines) line more in
      ap read_image parts
      ∙ line-by-line.long h.lines line more p.p h.plain (list_all-append is_plain old.line.items bytes ∙ and_from _ _ h.begun plain) p.reads (omega (arith, long, length-append old.line.items bytes))
      ∙ ap Err (sym h.number)

  pub behind-end : (engine : Serving) (bytes : List ℕ) → old.place ≡ places.Behind engine → (length bytes ≡ 0 → ⊥) → (more : List ℕ) → read_image ((taken ++ bytes) ++ more) ≡ Err old.number
  behind-end engine [] is some more = absurd (some refl)
  behind-end engine (b ∷ bs) is some more =
      let at = subst (IsAt h.lines) is h.at in
      let none : old.line.items ≡ [] = subst (λ (p : Place). IsEmptyBehind p old.line.items) is h.behind in
      let parts : (taken ++ b ∷ bs) ++ more ≡ joined h.lines ++ (b ∷ (bs ++ more)) =
      ap (λ (x : List ℕ). (x ++ b ∷ bs) ++ more) (h.whole ∙ ap (λ (x : List ℕ). joined h.lines ++ x) none ∙ append-nil (joined h.lines)) ∙ append_assoc (joined h.lines) (b ∷ bs) more in
      ap read_image parts ∙ line-by-line.behind h.lines b (bs ++ more) at.image h.plain at.reads ∙ ap Err (sym h.number)

  pub no-room : (bytes : List ℕ) → list_all is_plain bytes ≡ true → (length bytes ≡ 0 → ⊥) → has_room old.place (length old.line.items + length bytes) ≡ false
      → (more : List ℕ) → read_image ((taken ++ bytes) ++ more) ≡ Err old.number
  no-room bytes plain some none = by old.place refl none
    where
      long : nat_lt (length old.line.items + length bytes) 65536 ≡ false → (more : List ℕ) → read_image ((taken ++ bytes) ++ more) ≡ Err old.number
      long e = too-long bytes plain (no-less _ _ e)

      by : (place : Place) → old.place ≡ place → has_room place (length old.line.items + length bytes) ≡ false → (more : List ℕ) → read_image ((taken ++ bytes) ++ more) ≡ Err old.number
      by places.First is e = long e
      by (places.Between l) is e = long e
      by (places.Within l o) is e = long e
      by (places.Behind engine) is e = behind-end engine bytes is some

  pub extended : (bytes : List ℕ) (new : Reading) → list_all is_plain bytes ≡ true → has_room old.place (length old.line.items + length bytes) ≡ true
      → new.place ≡ old.place → new.number ≡ old.number → new.line.items ≡ old.line.items ++ bytes → IsReading (taken ++ bytes) new
  extended bytes new plain room place number line = let both = by old.place room in longer bytes new plain place number line both.0 both.1
    where
      by : (place : Place) → has_room place (length old.line.items + length bytes) ≡ true → (length old.line.items + length bytes < 65536) × IsEmptyBehind place (old.line.items ++ bytes)
      by places.First e = (less _ _ e, tt)
      by (places.Between l) e = (less _ _ e, tt)
      by (places.Within l o) e = (less _ _ e, tt)
      by (places.Behind engine) e = absurd cc

  pub line-taken : (new : Reading) → IsAt (h.lines ++ old.line.items ∷ []) new.place → new.line.items ≡ [] → new.number ≡ old.number + 1 → IsReading (taken ++ 10 ∷ []) new
  line-taken new at line number = record {
    lines = h.lines ++ old.line.items ∷ [];
    plain = plain-push h.lines old.line.items h.plain h.begun;
    begun = ap (list_all is_plain) line;
    whole = ap (λ (x : List ℕ). x ++ 10 ∷ []) h.whole ∙ joined-push h.lines old.line.items ∙ ap (λ (x : List ℕ). joined (h.lines ++ old.line.items ∷ []) ++ x) (sym line);
    at = at;
    number = omega (arith, number, h.number, length-append h.lines (old.line.items ∷ []));
    short = omega (arith, ap length line);
    behind = subst (IsEmptyBehind new.place) (sym line) (none-begun new.place);
  }
    where
      none-begun : (place : Place) → IsEmptyBehind place []
      none-begun places.First = tt
      none-begun (places.Between l) = tt
      none-begun (places.Within l o) = tt
      none-begun (places.Behind engine) = refl

  pub line-refused : read_all First (h.lines ++ old.line.items ∷ []) ≡ None → (more : List ℕ) → read_image ((taken ++ 10 ∷ []) ++ more) ≡ Err old.number
  line-refused refused more =
      let p = position h.lines old.place h.at in
      let parts : (taken ++ 10 ∷ []) ++ more ≡ joined h.lines ++ (text_line old.line.items ++ more) =
      ap (λ (x : List ℕ). (x ++ 10 ∷ []) ++ more) h.whole ∙ ap (λ (x : List ℕ). x ++ more) (append_assoc (joined h.lines) old.line.items (10 ∷ []))
      ∙ append_assoc (joined h.lines) (text_line old.line.items) more in
      ap read_image parts
      ∙ line-by-line.refused h.lines old.line.items more p.p h.plain h.begun p.reads (sym (next h.lines old.line.items p.p p.reads) ∙ refused)
      ∙ ap Err (sym h.number)

  -- ---- the end of the input

  ended : (p : Position) → read_all First h.lines ≡ Some p → read_image taken ≡ at_end (1 + length h.lines) p (is_empty old.line.items)
  ended p reads = ap read_image h.whole ∙ line-by-line.ended h.lines old.line.items p h.plain h.begun reads

  pub finished : (engine : Serving) → old.place ≡ places.Behind engine → IsLoadedFrom taken engine
  finished engine is =
      let at = subst (IsAt h.lines) is h.at in
      let none : old.line.items ≡ [] = subst (λ (p : Place). IsEmptyBehind p old.line.items) is h.behind in
      record {
        image = at.image;
        read = ended (Behind at.image) at.reads ∙ ap (λ (x : List ℕ). at_end (1 + length h.lines) (Behind at.image) (is_empty x)) none;
        stands = at.stands;
      }

  pub unfinished : (place : Place) → old.place ≡ place → ((engine : Serving) → place ≡ places.Behind engine → ⊥) → read_image taken ≡ Err old.number
  unfinished place is other = by place (subst (IsAt h.lines) is h.at) other ∙ ap Err (sym h.number)
    where
      within : (k : ℕ) (w : Position) → (ends : at_end (1 + length h.lines) w (is_empty old.line.items) ≡ Err (1 + length h.lines)) → read_all First h.lines ≡ Some w → read_image taken ≡ Err (1 + length h.lines)
      within k w ends reads = ended w reads ∙ ends

      by : (place : Place) → IsAt h.lines place → ((engine : Serving) → place ≡ places.Behind engine → ⊥) → read_image taken ≡ Err (1 + length h.lines)
      by places.First at other = within 0 First refl (ap (read_all First) at)
      by (places.Between l) at other = within 0 (Between at.r) refl at.reads
      by (places.Within l o) at other = of o.to_come at.0.reads at.1
        where
          of : (k : ℕ) → read_all First h.lines ≡ Some (in_object at.0.r at.0.path at.0.before k) → 0 < k → read_image taken ≡ Err (1 + length h.lines)
          of zero reads some = absurd (omega arith)
          of (suc k) reads some = within 0 (Within at.0.r at.0.path at.0.before (suc k)) refl reads
      by (places.Behind engine) at other = absurd (other engine refl)

-- ---- what is told stays told

pub told-longer : (bytes more : List ℕ) (error : LoadError) → GoesOn bytes (Err error) → GoesOn (bytes ++ more) (Err error)
told-longer bytes more OutOfMemory h = tt
told-longer bytes more (BadImage line) h = λ rest. ap read_image (append_assoc bytes more rest) ∙ h (more ++ rest)
told-longer bytes more ReadFault h = h

pub not-none : (n : ℕ) → eqb n 0 ≡ false → n ≡ 0 → ⊥
not-none n e is = absurd (let h = eqb-false n 0 e in h is)

-- ---- a piece, line by line

module _ (old : Reading) (piece : List ℕ) (now : Reading) (rest : List ℕ) (i : IsSplit old piece now rest) where
  pub whole-piece : (taken : List ℕ) → (taken ++ i.front) ++ rest ≡ taken ++ piece
  whole-piece taken = append_assoc taken i.front rest ∙ ap (λ (x : List ℕ). taken ++ x) (sym i.parts)

  module _ (line behind : List ℕ) (cut : IsCut rest line behind) where
    whole-line : (taken : List ℕ) → ((taken ++ i.front) ++ line) ++ 10 ∷ behind ≡ taken ++ piece
    whole-line taken = append_assoc (taken ++ i.front) line (10 ∷ behind) ∙ ap (λ (x : List ℕ). (taken ++ i.front) ++ x) (sym cut.parts) ∙ whole-piece taken

    pub told-in-line : (error : LoadError) (taken : List ℕ) → GoesOn ((taken ++ i.front) ++ line) (Err error) → GoesOn (taken ++ piece) (Err error)
    told-in-line error taken told = subst (λ (x : List ℕ). GoesOn x (Err error)) (whole-line taken) (told-longer ((taken ++ i.front) ++ line) (10 ∷ behind) error told)

    pub told-at-line : (error : LoadError) (taken : List ℕ) → GoesOn (((taken ++ i.front) ++ line) ++ 10 ∷ []) (Err error) → GoesOn (taken ++ piece) (Err error)
    told-at-line error taken told =
        subst (λ (x : List ℕ). GoesOn x (Err error)) (append_assoc ((taken ++ i.front) ++ line) (10 ∷ []) behind ∙ whole-line taken)
        (told-longer (((taken ++ i.front) ++ line) ++ 10 ∷ []) behind error told)

    pub line-more : (new : Reading) → ((taken : List ℕ) → IsReading (taken ++ i.front) now → IsReading (((taken ++ i.front) ++ line) ++ 10 ∷ []) new) → new.number ≡ now.number + 1 → IsSplit old piece new behind
    line-more new goes number = record {
      front = i.front ++ (line ++ 10 ∷ []);
      parts = i.parts ∙ ap (λ (x : List ℕ). i.front ++ x) (cut.parts ∙ sym (append_assoc line (10 ∷ []) behind)) ∙ sym (append_assoc i.front (line ++ 10 ∷ []) behind);
      goes = λ taken h. subst (λ (x : List ℕ). IsReading x new) (append_assoc (taken ++ i.front) line (10 ∷ []) ∙ append_assoc taken i.front (line ++ 10 ∷ [])) (goes taken (i.goes taken h));
      count = omega (arith, number, i.count, ap length cut.parts, length-append line (10 ∷ behind));
    }

    pub shorter-rest : length behind < length rest
    shorter-rest = omega (arith, ap length cut.parts, length-append line (10 ∷ behind))
