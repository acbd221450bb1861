use Rattle.std.proofs.Common.{◌≡◌, Some, ap, sym, ◌∙◌, subst, length}
use Rattle.pps_types.specs.Names.{Path}
use Rattle.pps_types.specs.Content.{at}
use Rattle.pps_types.specs.Owed.{kept_seen}
use Rattle.name_table.specs.Standing.{Named, standing_of, content_of}
use Rattle.open_handles.specs.Whole.{Whole, kept_at}
use Rattle.service_state.specs.Tables.{Tabled, content_in}
use Rattle.pps_engine.specs.Serving.{Serving}
use Rattle.pps_engine.proofs.Plans.{kept-told}
use Rattle.pps_engine.proofs.engine.Engine.kept.Goals as goal

pub returns : goal.returns
returns c =
    let t = c.deref-tables.result.now in
    let found = c.in_ok-found.found in
    let there : at (content_in t) c.args.path.now ≡ Some found =
    ap (λ (look : Path → _). look c.args.path.now) (sym (c.questions_are_told.ensures.at (content_in t)))
    ∙ ap (λ (n : Named). at (content_of (standing_of n)) c.args.path.now) (sym c.names.ensures)
    ∙ sym (c.in_ok-found.ensures) in
    subst (λ (s : Serving). Some c.kept.result ≡ kept_seen s.content c.args.path.now) c.self.view_is
    (subst (λ (u : Tabled). Some c.kept.result ≡ kept_seen (content_in u) c.args.path.now) c.deref-tables.ensures
    (kept-told t c.args.path.now found c.kept.result there (c.holds_what_is_owed.ensures found) (subst (λ (w : Whole). c.kept.result ≡ length (kept_at found w)) c.handles.ensures c.kept.ensures)))
