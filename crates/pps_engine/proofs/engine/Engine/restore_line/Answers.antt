use Rattle.std.proofs.Common.{◌≡◌, Ok, Err, sym, ap, subst, ◌∙◌}
use Rattle.std.specs.Prelude.{◌⊎◌, OnOk, OnErr, IfErr}
use Rattle.pps_types.specs.declared.refusal.Refusal.TheVariants.{OutOfMemory}
use Rattle.pps_types.specs.Content.{Content}
use Rattle.pps_types.specs.Restore.{restore_line}
use Rattle.image_laws.specs.Restored.{with_line, Becomes}
use Rattle.service_state.specs.Tables.{Tabled, content_in}
use Rattle.pps_engine.specs.Serving.{Serving}
use Rattle.pps_engine.specs.Standing.{IsSound}
use Rattle.pps_engine.proofs.Restored.{unused_in, left_unused, sound_alone, becomes}
use Rattle.pps_engine.proofs.engine.Engine.restore_line.Goals as goal

pub invariant_of-self : goal.invariant_of-self
invariant_of-self c =
    let t = c.deref_mut-2.result.now in
    let after = c.restore_line-restored.new.tables in
    let same : content_in t ≡ c.args.self.now.content = ap (λ (u : Tabled). content_in u) c.deref_mut-2.ensures.value ∙ ap (λ (s : Serving). s.content) c.self.view_is in
    let w = unused_in (content_in t) (subst (λ (u : Tabled). IsSound (content_in u)) (sym c.deref_mut-2.ensures.value) c.self.invariant.0) (ap (λ (d : Content). d.handles) same ∙ c.requires.unused) in
    sound_alone after c.forget.new.pending
    (left_unused (content_in t) (content_in after) (restore_line (content_in t) c.args.path.now c.args.line) c.restore_line-restored.result (c.restoring_stays.ensures.line (content_in t) w c.args.path.now c.args.line c.requires.line) w c.restore_line-restored.ensures.done c.restore_line-restored.ensures.kept) c.forget.ensures

pub returns-clause-done : goal.returns-clause-done
returns-clause-done c =
    let same : content_in c.deref_mut-2.result.now ≡ c.args.self.now.content = ap (λ (u : Tabled). content_in u) c.deref_mut-2.ensures.value ∙ ap (λ (s : Serving). s.content) c.self.view_is in
    subst (λ (d : Content). OnOk c.restore_line-restored.result (restore_line d c.args.path.now c.args.line ≡ Ok (content_in c.restore_line-restored.new.tables))) same c.restore_line-restored.ensures.done

pub returns-clause-refused : goal.returns-clause-refused
returns-clause-refused c =
    let same : content_in c.deref_mut-2.result.now ≡ c.args.self.now.content = ap (λ (u : Tabled). content_in u) c.deref_mut-2.ensures.value ∙ ap (λ (s : Serving). s.content) c.self.view_is in
    subst (λ (d : Content). IfErr c.restore_line-restored.result (λ r. (restore_line d c.args.path.now c.args.line ≡ Err r) ⊎ (r ≡ OutOfMemory))) same c.restore_line-restored.ensures.refused

pub returns-clause-kept : goal.returns-clause-kept
returns-clause-kept c =
    let same : content_in c.deref_mut-2.result.now ≡ c.args.self.now.content = ap (λ (u : Tabled). content_in u) c.deref_mut-2.ensures.value ∙ ap (λ (s : Serving). s.content) c.self.view_is in
    subst (λ (d : Content). OnErr c.restore_line-restored.result (content_in c.restore_line-restored.new.tables ≡ d)) same c.restore_line-restored.ensures.kept

pub returns-clause-unused : goal.returns-clause-unused
returns-clause-unused c =
    let t = c.deref_mut-2.result.now in
    let after = c.restore_line-restored.new.tables in
    let same : content_in t ≡ c.args.self.now.content = ap (λ (u : Tabled). content_in u) c.deref_mut-2.ensures.value ∙ ap (λ (s : Serving). s.content) c.self.view_is in
    let w = unused_in (content_in t) (subst (λ (u : Tabled). IsSound (content_in u)) (sym c.deref_mut-2.ensures.value) c.self.invariant.0) (ap (λ (d : Content). d.handles) same ∙ c.requires.unused) in
    (left_unused (content_in t) (content_in after) (restore_line (content_in t) c.args.path.now c.args.line) c.restore_line-restored.result (c.restoring_stays.ensures.line (content_in t) w c.args.path.now c.args.line c.requires.line) w c.restore_line-restored.ensures.done c.restore_line-restored.ensures.kept).handles

pub returns-clause-stands : goal.returns-clause-stands
returns-clause-stands c =
    let t = c.deref_mut-2.result.now in
    let after = c.restore_line-restored.new.tables in
    let same : content_in t ≡ c.args.self.now.content = ap (λ (u : Tabled). content_in u) c.deref_mut-2.ensures.value ∙ ap (λ (s : Serving). s.content) c.self.view_is in
    let w = unused_in (content_in t) (subst (λ (u : Tabled). IsSound (content_in u)) (sym c.deref_mut-2.ensures.value) c.self.invariant.0) (ap (λ (d : Content). d.handles) same ∙ c.requires.unused) in
    subst (λ (d : Content). OnOk c.restore_line-restored.result (Becomes (with_line c.args.path.now c.args.line) d (content_in after))) same
    (becomes (with_line c.args.path.now c.args.line) (content_in t) (content_in after) (restore_line (content_in t) c.args.path.now c.args.line) c.restore_line-restored.result (c.restoring_is_of_machines.ensures.line (content_in t) w c.args.path.now c.args.line c.requires.line) c.restore_line-restored.ensures.done)
