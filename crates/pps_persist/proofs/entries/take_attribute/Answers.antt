use Rattle.std.proofs.Common.{◌≡◌, ◌⊎◌, ◌+◌, length, Err, Ok, refl, sym, ap, subst, ◌∙◌}
use Rattle.std.specs.Prelude.{OnOk, IfErr}
use Rattle.std.proofs.lemmas.Result.{err_from_is_err_and}
use Rattle.pps_types.specs.declared.line.Line.{Line}
use Rattle.pps_types.specs.declared.refusal.Refusal.TheVariants.{OutOfMemory}
use Rattle.pps_types.specs.Names.{Path}
use Rattle.pps_types.specs.Image.{as_line}
use Rattle.pps_types.specs.Restore.{restore_line}
use Rattle.image_laws.specs.Images.{IsImageLine}
use Rattle.image_laws.proofs.Options.{map-some}
use Rattle.image_laws.proofs.Said.{image-line}
use Rattle.pps_persist.specs.declared.place.Loaded.{Loaded}
use Rattle.pps_persist.proofs.Added.{read_line, too-long, no-more, adds-line}
use Rattle.pps_persist.proofs.Judging.{judged-done, judged-refused, line-refused}
use Rattle.pps_persist.proofs.entries.take_attribute.Goals as goal

pub returns-then-text-loaded : goal.returns-then-text-loaded
returns-then-text-loaded c = λ r path before h. too-long r path before c.args.loaded c.args.object h c.args.line.now c.requires.plain c.if-text-loaded.true

pub restore_line-requires-clause-line : goal.restore_line-requires-clause-line
restore_line-requires-clause-line c =
    let m = map-some as_line (read_line c.args.line.now) c.in-Some.attribute (sym c.in_ok-attribute.ensures.read ∙ c.in-Some.is) in
    subst IsImageLine m.2 (image-line c.args.line.now m.0 c.requires.plain m.1)

pub returns-in_err-judge : goal.returns-in_err-judge
returns-in_err-judge c =
    let p = err_from_is_err_and c.from_residual-in_err-judge.result c.from_residual-in_err-judge.ensures.1 in
    let old = c.args.loaded in
    let l = c.args.line.now in
    let m = map-some as_line (read_line l) c.in-Some.attribute (sym c.in_ok-attribute.ensures.read ∙ c.in-Some.is) in
    let refused = subst (λ (x : Path). IfErr c.restore_line.result (λ r. (restore_line old.engine.content x (as_line m.0) ≡ Err r) ⊎ (r ≡ OutOfMemory))) c.deref.ensures.value
    (subst (λ (x : Line). IfErr c.restore_line.result (λ r. (restore_line old.engine.content c.deref.result.now x ≡ Err r) ⊎ (r ≡ OutOfMemory))) (sym m.2) c.restore_line.ensures.refused) in
    rw p.1
    (line-refused old c.args.object l p.0
    (λ is r path before h. no-more r path before old c.args.object h l c.requires.plain m.0 m.1 c.requires.loaded.some
    (judged-refused c.restore_line.result (restore_line old.engine.content old.last.items (as_line m.0)) (sym c.judge.ensures ∙ c.in_err-judge.was ∙ ap Err (sym p.2 ∙ is)) refused)))

pub returns : goal.returns
returns c =
    let old = c.args.loaded in
    let l = c.args.line.now in
    let m = map-some as_line (read_line l) c.in-Some.attribute (sym c.in_ok-attribute.ensures.read ∙ c.in-Some.is) in
    let done = subst (λ (x : Path). OnOk c.restore_line.result (restore_line old.engine.content x (as_line m.0) ≡ Ok c.restore_line.new.self.content)) c.deref.ensures.value
    (subst (λ (x : Line). OnOk c.restore_line.result (restore_line old.engine.content c.deref.result.now x ≡ Ok c.restore_line.new.self.content)) (sym m.2) c.restore_line.ensures.done) in
    let new : Loaded = record { engine = c.restore_line.new.self; longest = old.longest; count = old.count; last = old.last } in
    λ r path before h.
    let both = adds-line r path before old c.args.object h l c.requires.plain m.0 m.1 c.requires.loaded.some new (c.args.object.text + length l + 1) refl c.if-text-loaded.false
    (judged-done c.restore_line.result _ _ (sym c.judge.ensures ∙ c.in_ok-judge.was) done) c.restore_line.ensures.unused refl refl refl in
    (m.0, both.0, both.1)
