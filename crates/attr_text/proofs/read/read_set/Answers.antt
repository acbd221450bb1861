use Rattle.std.proofs.Common.{◌≡◌, true, Some, sym, ap, ◌∙◌, rules}
use Rattle.pps_types.specs.Bytes.{lent_parts}
use Rattle.pps_types.specs.Text.{is_attribute_name, is_encoding}
use Rattle.attr_text.proofs.SetLines.{splits-set-text, written-is}
use Rattle.attr_text.proofs.read.read_set.Goals as goal

pub set-requires : goal.set-requires
set-requires c =
    splits-set-text c.args.line.now c.in-Some.name.now c.in-Some.rest.now c.in-Some-split_at_colon.enc.now c.in-Some-split_at_colon.field-0-1.now
    (sym (ap lent_parts c.in-Some.is) ∙ c.split_at_colon.ensures)
    (sym (ap lent_parts c.in-Some-split_at_colon.is) ∙ c.split_at_colon-2.ensures)

pub returns : goal.returns
returns c =
    let good_name : is_attribute_name c.in-Some.name.now ≡ true = search rules in
    let good_encoding : is_encoding c.in-Some-split_at_colon.enc.now ≡ true = search rules in
    ap Some c.in_ok-set.ensures
    ∙ written-is c.args.line.now c.in-Some.name.now c.in-Some.rest.now c.in-Some-split_at_colon.enc.now c.in-Some-split_at_colon.field-0-1.now
    (sym (ap lent_parts c.in-Some.is) ∙ c.split_at_colon.ensures)
    (sym (ap lent_parts c.in-Some-split_at_colon.is) ∙ c.split_at_colon-2.ensures)
    c.args.mark good_name good_encoding
