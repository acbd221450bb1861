use Rattle.std.proofs.Common.{◌≡◌, List, ℕ, [], ◌∷◌, ◌++◌, None, Err, refl, subst, ◌+◌}
use Rattle.pps_types.specs.Image.{First}
use Rattle.image_laws.specs.Images.{read_all}
use Rattle.pps_persist.specs.declared.errors.Fault.{Fault}
use Rattle.pps_persist.specs.declared.pieces.Reading.{Reading}
use Rattle.pps_persist.specs.Held.{IsAt, Takes}
use Rattle.pps_persist.proofs.Cuts.{line-taken, line-refused}
use Rattle.pps_persist.proofs.pieces.Reading.end_line.Goals as goal

pub returns-in-Err-Refused-clause-goes : goal.returns-in-Err-Refused-clause-goes
returns-in-Err-Refused-clause-goes c =
    let told = subst (λ (fault : Fault). Takes c.args.self.place c.deref.result.now (Err fault)) c.in-Err-Refused.field-0-is c.in-Err-Refused.ensures in
    λ taken h. line-refused taken c.args.self h (subst (λ (l : List ℕ). read_all First (h.lines ++ l ∷ []) ≡ None) c.deref.ensures.value (told h.lines h.at))

pub returns-clause-goes : goal.returns-clause-goes
returns-clause-goes c =
    let new : Reading = record { place = c.in-Ok.place; line = c.clear.new.self; number = c.args.self.number + 1 } in
    λ taken h. line-taken taken c.args.self h new (subst (λ (l : List ℕ). IsAt (h.lines ++ l ∷ []) c.in-Ok.place) c.deref.ensures.value (c.in-Ok.ensures h.lines h.at)) c.clear.ensures.items refl
