use Rattle.std.proofs.Common.{◌∙◌, ap, sym}
use Rattle.sub_reader.specs.Rows.{rows_of}
use Rattle.topics.proofs.Copying.{same_services}
use Rattle.topics.proofs.server_handles.ServerHandles.same.Goals as goal

pub returns-then-is_of_same : goal.returns-then-is_of_same
returns-then-is_of_same c =
    let s = c.self.inside in
    let t = c.other.inside in
    let of = c.is_of_same.ensures.0 c.if-is_of_same.true in
    let all = same_services s.object t.object s.name t.name (rows_of s.rows) (rows_of t.rows) c.args.self.now.handles c.args.other.now.handles
    (ap (λ v. v.object) c.self.view_is ∙ of.0 ∙ sym (ap (λ v. v.object) c.other.view_is))
    (ap (λ v. v.name) c.self.view_is ∙ of.1 ∙ sym (ap (λ v. v.name) c.other.view_is))
    c.self.invariant.each c.other.invariant.each
    (ap (λ v. v.handles) c.self.view_is) (ap (λ v. v.handles) c.other.view_is) in
    (λ is. (of.0, of.1, all.1 (c.same_from.ensures.0 is)), λ same. c.same_from.ensures.1 (all.0 same.2))
