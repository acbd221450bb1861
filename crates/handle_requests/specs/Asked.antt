-- What was seen of a handle of a connection at one look.
use Rattle.std.specs.Prelude.{◌≡◌, ℕ, false, is_some, option_and_then, IfSome}
use Rattle.std.specs.Option.{option_map_or}
use Rattle.pps_types.specs.Reading.{OpenHandle}
use Rattle.pps_types.specs.Rests.{Progress, is_over}
use Rattle.pps_types.specs.Owed.{owed_in_seen}
use Rattle.pps_types.specs.Content.{own_handle, news as has_news}
use Rattle.sub_reader.specs.Opened.{handle_at}
use Rattle.topics.specs.HandlesOf.{handles_of, name_of}
use Rattle.open_handles.specs.Whole.{handles_in, name_at}
use Rattle.service_state.specs.Tables.{Tabled, content_in}
use Rattle.handle_requests.specs.declared.own.SeenHandle.{SeenHandle}

-- It is of the open handle of that number. Where that is the connection's, news says whether it has news, parked whether a
-- read waits on it, and armed whether a pulse is armed on it. Those on what it is on have it as all handles have it.
pub record IsAsked (t : Tabled) (conn number : ℕ) (a : SeenHandle) : Type 0 where
  pub parked : IfSome (own_handle (content_in t) conn number) (λ handle. is_some a.glance.parked ≡ is_some handle.parked)
  pub armed : IfSome (own_handle (content_in t) conn number) (λ handle. a.glance.is_armed ≡ is_some handle.armed)
  pub news : IfSome (own_handle (content_in t) conn number) (λ handle. a.glance.has_news ≡ has_news handle)
  pub fresh : a.glance.has_news ≡ option_map_or has_news (handle_at number (handles_in t.handles)) false
  pub over : a.glance.is_over ≡ option_map_or (λ (handle : OpenHandle Progress). is_over handle.seen) (handle_at number (handles_in t.handles)) false
  pub owed : a.glance.owed ≡ option_and_then (λ (handle : OpenHandle Progress). owed_in_seen handle handle.seen) (handle_at number (handles_in t.handles))
  pub topic : handle_at number (handles_of a.topic.now) ≡ handle_at number (handles_in t.handles)
  pub name : name_of a.topic.now ≡ name_at a.own.found t.handles
