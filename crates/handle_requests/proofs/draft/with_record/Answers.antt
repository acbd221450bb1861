use Rattle.std.proofs.Common.{◌≡◌, Bool, true, false, not, refl}
use Rattle.service_state.specs.Tables.{content_in}
use Rattle.handle_requests.proofs.Records.{untold, told}
use Rattle.handle_requests.proofs.draft.with_record.Goals as goal

is_false : (b : Bool) → not b ≡ true → b ≡ false
is_false true e = absurd (let bad = e in cc)
is_false false e = refl

is_true : (b : Bool) → not b ≡ false → b ≡ true
is_true true e = refl
is_true false e = absurd (let bad = e in cc)

pub returns-then-not-draft : goal.returns-then-not-draft
returns-then-not-draft c = untold (content_in c.args.tables.now) c.args.handle c.args.draft (is_false c.args.draft.has_lines c.if-not-draft.true)

pub returns : goal.returns
returns c =
    told (content_in c.args.tables.now) c.args.handle c.args.draft (is_true c.args.draft.has_lines c.if-not-draft.false) c.args.object.now c.requires c.in_ok-entry.entry c.in_ok-entry.ensures
