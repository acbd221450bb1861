-- What was seen of a handle at one look, part by part.
use Rattle.std.specs.Prelude.{◌≡◌, ℕ, false, Option, Some, None, map, is_some, option_map, option_and_then, IfSome}
use Rattle.std.specs.Option.{option_map_or}
use Rattle.std.proofs.Common.{refl, ◌∙◌, ap, subst}
use Rattle.pps_types.specs.Reading.{OpenHandle}
use Rattle.pps_types.specs.Rests.{Progress, is_over}
use Rattle.pps_types.specs.Owed.{owed_in_seen}
use Rattle.pps_types.specs.Content.{news}
use Rattle.pps_types.specs.WellFormed.{RiseBetween}
use Rattle.sub_reader.specs.Opened.{as_opened, handle_at, number_of}
use Rattle.sub_reader.specs.Glances.{Glanced, glanced, glance_on}
use Rattle.topics.specs.HandlesOf.{handles_of, name_of}
use Rattle.open_handles.specs.Whole.{Whole, handles_in, name_at}
use Rattle.service_state.specs.Tables.{Tabled}
use Rattle.handle_requests.specs.declared.own.SeenHandle.{SeenHandle}
use Rattle.handle_requests.specs.Asked.{IsAsked}
use Rattle.handle_requests.proofs.Owns.{own_among, own_parked, own_armed, own_news}

pub none_seen : (o : Option (OpenHandle Progress)) → None ≡ option_map glanced o → None ≡ option_map as_opened o
none_seen None e = refl
none_seen (Some h) e = absurd (let bad = e in cc)

pub opening_seen : (o : Option (OpenHandle Progress)) (g : Glanced) → Some g ≡ option_map glanced o → Some g.opening ≡ option_map as_opened o
opening_seen None g e = absurd (let bad = e in cc)
opening_seen (Some h) g e = let is : g ≡ glanced h = cc in ap (λ (x : Glanced). Some x.opening) is

pub parked_seen : (o : Option (OpenHandle Progress)) (g : Glanced) → Some g ≡ option_map glanced o → g.parked ≡ option_and_then (λ (h : OpenHandle Progress). h.parked) o
parked_seen None g e = absurd (let bad = e in cc)
parked_seen (Some h) g e = let is : g ≡ glanced h = cc in ap (λ (x : Glanced). x.parked) is

pub armed_seen : (o : Option (OpenHandle Progress)) (g : Glanced) → Some g ≡ option_map glanced o → IfSome o (λ (h : OpenHandle Progress). g.armed ≡ is_some h.armed)
armed_seen None g e = tt
armed_seen (Some h) g e = let is : g ≡ glanced h = cc in ap (λ (x : Glanced). x.armed) is

pub news_seen : (o : Option (OpenHandle Progress)) (g : Glanced) → Some g ≡ option_map glanced o → g.news ≡ option_map_or news o false
news_seen None g e = absurd (let bad = e in cc)
news_seen (Some h) g e = let is : g ≡ glanced h = cc in ap (λ (x : Glanced). x.news) is

pub over_seen : (o : Option (OpenHandle Progress)) (g : Glanced) → Some g ≡ option_map glanced o → g.over ≡ option_map_or (λ (h : OpenHandle Progress). is_over h.seen) o false
over_seen None g e = absurd (let bad = e in cc)
over_seen (Some h) g e = let is : g ≡ glanced h = cc in ap (λ (x : Glanced). x.over) is

pub owed_seen : (o : Option (OpenHandle Progress)) (g : Glanced) → Some g ≡ option_map glanced o → g.owed ≡ option_and_then (λ (h : OpenHandle Progress). owed_in_seen h h.seen) o
owed_seen None g e = absurd (let bad = e in cc)
owed_seen (Some h) g e = let is : g ≡ glanced h = cc in ap (λ (x : Glanced). x.owed) is

pub is_asked : (t : Tabled) (w : Whole) → w ≡ t.handles → (conn n : ℕ) (a : SeenHandle) → RiseBetween 0 (map (λ h. h.number) (handles_in w)) w.rows.next
    → Some (glance_on (number_of a.own.found) (name_at a.own.found w) a.glance) ≡ option_map glanced (handle_at n (handles_in w))
    → handle_at n (handles_of a.topic.now) ≡ handle_at n (handles_in w) → name_of a.topic.now ≡ name_at a.own.found w → IsAsked t conn n a
is_asked t w same conn n a rise seen topic name =
    let g = glance_on (number_of a.own.found) (name_at a.own.found w) a.glance in
    let at = handle_at n (handles_in w) in
    record {
      parked = subst (λ (w : Whole). IfSome (own_among (handles_in w) conn n) (λ h. is_some a.glance.parked ≡ is_some h.parked)) same (own_parked (handles_in w) w.rows.next rise conn n a.glance.parked (parked_seen at g seen) (is_some a.glance.parked) refl);
      armed = subst (λ (w : Whole). IfSome (own_among (handles_in w) conn n) (λ h. a.glance.is_armed ≡ is_some h.armed)) same (own_armed (handles_in w) w.rows.next rise conn n a.glance.is_armed (armed_seen at g seen));
      news = subst (λ (w : Whole). IfSome (own_among (handles_in w) conn n) (λ h. a.glance.has_news ≡ news h)) same (own_news (handles_in w) w.rows.next rise conn n a.glance.has_news (news_seen at g seen));
      fresh = subst (λ (w : Whole). a.glance.has_news ≡ option_map_or news (handle_at n (handles_in w)) false) same (news_seen at g seen);
      over = subst (λ (w : Whole). a.glance.is_over ≡ option_map_or (λ (h : OpenHandle Progress). is_over h.seen) (handle_at n (handles_in w)) false) same (over_seen at g seen);
      owed = subst (λ (w : Whole). a.glance.owed ≡ option_and_then (λ (h : OpenHandle Progress). owed_in_seen h h.seen) (handle_at n (handles_in w))) same (owed_seen at g seen);
      topic = topic ∙ ap (λ (w : Whole). handle_at n (handles_in w)) same;
      name = name ∙ ap (name_at a.own.found) same;
    }
