-- A handle of the target goes to another place, and what nobody is owed any more is dropped.
use Rattle.std.proofs.Common.{◌≡◌, ℕ, ◌+◌, ◌<◌, Bool, true, List, length, map, drop, set, get_or, refl, sym, ap, subst, ◌∙◌}
use Rattle.pps_types.specs.History.{Entry}
use Rattle.pps_types.specs.Reading.{OpenHandle, reseen}
use Rattle.pps_types.specs.Rests.{Progress, News as SeenNews, Unread, Over as SeenOver, Owed}
use Rattle.pps_types.specs.Plan.{on_numbered, caught_up, left}
use Rattle.pps_types.specs.Rising.{IsPlaceOf}
use Rattle.sub_reader.specs.declared.opening.Opening.{Opening}
use Rattle.sub_reader.specs.declared.place.Place.{Place}
use Rattle.sub_reader.specs.declared.place.Place.TheVariants.{News, Fresh, Over, Idle, At}
use Rattle.sub_reader.specs.Readers.{Reader}
use Rattle.sub_reader.specs.Opened.{opened, is_reader}
use Rattle.sub_reader.specs.Places.{seen_at, waiting, handle_of, placed, caught_place, IsPlace, IsReader}
use Rattle.sub_reader.specs.Counts.{IsCounted, zeros}
use Rattle.sub_reader.specs.Rows.{number_in}
use Rattle.sub_reader.specs.Standing.{IsLoose, IsTarget}
use Rattle.sub_reader.proofs.Offered.{place-style}
use Rattle.sub_reader.proofs.Tallies.{all-at}
use Rattle.sub_reader.proofs.Passing.{caught-is, caught-seen}
use Rattle.sub_reader.proofs.Moves.{set-loose, set-agree, set-seen, settle-is, settle-seen}

module _ (d : Bool) (t : ℕ) (name : List ℕ) (start : ℕ) (entries : List Entry) (counts : List ℕ) (readers : List Reader) (is : IsTarget d t name start entries counts readers) (k : ℕ) (x : Reader) (lt : k < length readers) where
  reader : Reader
  reader = get_or readers k x

  -- it is one that reads
  pub reads-there : is_reader (get_or readers k x).opening.kind ≡ true
  reads-there = place-style (opened t name (get_or readers k x).opening) start entries (get_or readers k x).progress (all-at (IsReader d t name start entries) readers k x is.loose.each lt).place

  pub caught-there : IsPlace (opened t name (get_or readers k x).opening) start entries (caught_place (get_or readers k x).opening.kind)
  caught-there = caught-is (opened t name (get_or readers k x).opening) start entries reads-there

  pub caught-handle : handle_of t name start entries (placed (caught_place (get_or readers k x).opening.kind) (get_or readers k x)) ≡ reseen caught_up (handle_of t name start entries (get_or readers k x))
  caught-handle = ap (λ (v : Progress). waiting (get_or readers k x) (reseen (λ h. v) (opened t name (get_or readers k x).opening))) (caught-seen (opened t name (get_or readers k x).opening) start entries reads-there)

  pub passed-handle : (n : ℕ) (p : Place) → seen_at start entries p ≡ left (opened t name (get_or readers k x).opening) n (seen_at start entries (get_or readers k x).progress)
      → handle_of t name start entries (placed p (get_or readers k x)) ≡ reseen (λ h. left h n h.seen) (handle_of t name start entries (get_or readers k x))
  passed-handle n p same = ap (λ (v : Progress). waiting (get_or readers k x) (reseen (λ h. v) (opened t name (get_or readers k x).opening))) same

  module _ (p : Place) (right : IsPlace (opened t name (get_or readers k x).opening) start entries p) (rs : List Reader) (cs : List ℕ) (rs_are : rs ≡ set readers k (placed p (get_or readers k x))) (agree : IsCounted start rs cs) (long : length cs ≡ length counts)
      (s : ℕ) (es : List Entry) (s_is : s ≡ start + zeros cs) (es_are : es ≡ drop (zeros cs) entries) where
    put-loose : IsLoose d t name start entries cs rs
    put-loose = set-loose d t name start entries counts readers is.loose k (placed p (get_or readers k x)) x lt refl right rs cs rs_are agree long

    pub put-is : (ks : List ℕ) → ks ≡ drop (zeros cs) cs → IsTarget d t name s es ks rs
    put-is ks ks_are = settle-is d t name start entries cs rs put-loose s es ks s_is es_are ks_are

    pub put-seen : (number : ℕ) (change : OpenHandle Progress → OpenHandle Progress) → IsPlaceOf number_in readers number k
        → handle_of t name start entries (placed p (get_or readers k x)) ≡ change (handle_of t name start entries (get_or readers k x))
        → map (handle_of t name s es) rs ≡ on_numbered number change (map (handle_of t name start entries) readers)
    put-seen number change place same = settle-seen d t name start entries cs rs put-loose s es s_is es_are ∙ set-seen d t name start entries counts readers is.loose number k change (placed p (get_or readers k x)) x rs rs_are place lt same

  -- ---- it stays where it is, and something else of it changes

  module _ (r : Reader) (opens : r.opening ≡ (get_or readers k x).opening) (places : r.progress ≡ (get_or readers k x).progress) where
    stays : IsPlace (opened t name r.opening) start entries r.progress
    stays = subst (λ o. IsPlace (opened t name o) start entries r.progress) (sym opens)
        (subst (IsPlace (opened t name (get_or readers k x).opening) start entries) (sym places) (all-at (IsReader d t name start entries) readers k x is.loose.each lt).place)

    pub wait-is : IsTarget d t name start entries counts (set readers k r)
    wait-is = record {
      loose = set-loose d t name start entries counts readers is.loose k r x lt opens stays (set readers k r) counts refl (set-agree d t name start entries counts readers is.loose k r x lt opens stays (set readers k r) refl places) refl;
      exact = is.exact;
    }

-- ---- names change nothing of what a handle is given

pub named-place : (t : ℕ) (name other : List ℕ) (o : Opening) (start : ℕ) (entries : List Entry) (p : Place) → IsPlace (opened t name o) start entries p → IsPlace (opened t other o) start entries p
named-place t name other o start entries (News b) is = is
named-place t name other o start entries Fresh is = is
named-place t name other o start entries Over is = is
named-place t name other o start entries Idle is = is
named-place t name other o start entries (At first owed) is = record { delta = is.delta; from_start = is.from_start; before_end = is.before_end; begins = is.begins; count = is.count; few = is.few }

pub named-left : (t : ℕ) (name other : List ℕ) (o : Opening) (n : ℕ) (seen : Progress) → left (opened t name o) n seen ≡ left (opened t other o) n seen
named-left t name other o n (SeenNews b) = refl
named-left t name other o n Unread = refl
named-left t name other o n SeenOver = refl
named-left t name other o n (Owed rest) = refl
