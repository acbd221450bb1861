use Rattle.std.proofs.Common.{◌≡◌, ◌⊎◌, true, ◌+◌, Err, Ok, refl, sym, ap, subst, ◌∙◌}
use Rattle.std.specs.Prelude.{OnOk, IfErr}
use Rattle.std.specs.Ordering.{is_lt}
use Rattle.std.proofs.lemmas.Result.{err_from_is_err_and}
use Rattle.pps_types.specs.declared.refusal.Refusal.TheVariants.{OutOfMemory}
use Rattle.pps_types.specs.Names.{Path, path_cmp}
use Rattle.pps_types.specs.Restore.{restore_object}
use Rattle.image_laws.specs.Images.{IsSavedPath}
use Rattle.pps_persist.specs.declared.place.Loaded.{Loaded}
use Rattle.pps_persist.proofs.Judging.{judged-done, judged-refused, object-refused}
use Rattle.pps_persist.proofs.Restored.{not-root, adds-object, no-object}
use Rattle.pps_persist.proofs.entries.take_object.Goals as goal

pub restore_object-requires-clause-path : goal.restore_object-requires-clause-path
restore_object-requires-clause-path c =
    let path = c.args.path.items in
    let behind : is_lt (path_cmp c.args.loaded.last.items path) ≡ true = cc in
    subst IsSavedPath (sym (c.in_ok-names.ensures ∙ c.deref-2.ensures.value)) (c.requires.path (not-root c.args.loaded.last.items path behind))

pub returns-in_err-judge : goal.returns-in_err-judge
returns-in_err-judge c =
    let p = err_from_is_err_and c.from_residual-in_err-judge.result c.from_residual-in_err-judge.ensures.1 in
    let old = c.args.loaded in
    let path = c.args.path.items in
    let to_come = c.args.to_come in
    let behind : is_lt (path_cmp old.last.items path) ≡ true = cc in
    let names : c.in_ok-names.names.items ≡ path = c.in_ok-names.ensures ∙ c.deref-2.ensures.value in
    let refused = subst (λ (names : Path). IfErr c.restore_object.result (λ r. (restore_object old.engine.content names ≡ Err r) ⊎ (r ≡ OutOfMemory))) names c.restore_object.ensures.refused in
    rw p.1
    (object-refused old path to_come p.0
    (λ is r held. no-object r old held path to_come (c.requires.path (not-root old.last.items path behind)) behind
    (judged-refused c.restore_object.result (restore_object old.engine.content path) (sym c.judge.ensures ∙ c.in_err-judge.was ∙ ap Err (sym p.2 ∙ is)) refused)))

pub returns : goal.returns
returns c =
    let old = c.args.loaded in
    let path = c.args.path.items in
    let behind : is_lt (path_cmp old.last.items path) ≡ true = cc in
    let names : c.in_ok-names.names.items ≡ path = c.in_ok-names.ensures ∙ c.deref-2.ensures.value in
    let done = subst (λ (names : Path). OnOk c.restore_object.result (restore_object old.engine.content names ≡ Ok c.restore_object.new.self.content)) names c.restore_object.ensures.done in
    let new : Loaded = record { engine = c.restore_object.new.self; longest = old.longest; count = old.count + 1; last = c.args.path } in
    λ r held. adds-object r old held new path c.args.to_come (c.requires.path (not-root old.last.items path behind)) c.if-to_come.false behind
    (judged-done c.restore_object.result _ _ (sym c.judge.ensures ∙ c.in_ok-judge.was) done) c.restore_object.ensures.unused refl refl refl
