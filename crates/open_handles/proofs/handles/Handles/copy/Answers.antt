use Rattle.std.proofs.Common.{◌≡◌, subst}
use Rattle.pps_types.specs.declared.found.Found.{Found}
use Rattle.open_handles.specs.Whole.{Whole, handles_in, kept_at, site_at}
use Rattle.open_handles.proofs.Turns.{whole_of}
use Rattle.open_handles.proofs.Copied.{copied_handles, copied_sites, copied_kept, copied_whole}
use Rattle.open_handles.proofs.handles.Handles.copy.Goals as goal

pub invariant_of-result : goal.invariant_of-result
invariant_of-result c = copied_whole c.self.inside.rows c.in_ok-rows.rows c.self.inside.places c.in_ok-places.places c.self.invariant (c.in_ok-rows.ensures.entries (λ value clone is. is)) c.in_ok-rows.ensures.next c.in_ok-places.ensures.objects c.in_ok-places.ensures.next_object c.in_ok-places.ensures.directories c.in_ok-places.ensures.next_directory

pub returns-clause-handles : goal.returns-clause-handles
returns-clause-handles c = subst (λ (w : Whole). handles_in (whole_of c.in_ok-rows.rows c.in_ok-places.places) ≡ handles_in w) c.self.view_is (copied_handles c.self.inside.rows c.in_ok-rows.rows c.self.inside.places c.in_ok-places.places c.self.invariant (c.in_ok-rows.ensures.entries (λ value clone is. is)) c.in_ok-rows.ensures.next c.in_ok-places.ensures.objects c.in_ok-places.ensures.next_object c.in_ok-places.ensures.directories c.in_ok-places.ensures.next_directory)

pub returns-clause-sites : goal.returns-clause-sites
returns-clause-sites c = subst (λ (w : Whole). (f : Found) → site_at f (whole_of c.in_ok-rows.rows c.in_ok-places.places) ≡ site_at f w) c.self.view_is (copied_sites c.self.inside.rows c.in_ok-rows.rows c.self.inside.places c.in_ok-places.places c.self.invariant (c.in_ok-rows.ensures.entries (λ value clone is. is)) c.in_ok-rows.ensures.next c.in_ok-places.ensures.objects c.in_ok-places.ensures.next_object c.in_ok-places.ensures.directories c.in_ok-places.ensures.next_directory)

pub returns-clause-kept : goal.returns-clause-kept
returns-clause-kept c = subst (λ (w : Whole). (f : Found) → kept_at f (whole_of c.in_ok-rows.rows c.in_ok-places.places) ≡ kept_at f w) c.self.view_is (copied_kept c.self.inside.rows c.in_ok-rows.rows c.self.inside.places c.in_ok-places.places c.self.invariant (c.in_ok-rows.ensures.entries (λ value clone is. is)) c.in_ok-rows.ensures.next c.in_ok-places.ensures.objects c.in_ok-places.ensures.next_object c.in_ok-places.ensures.directories c.in_ok-places.ensures.next_directory)
