use Rattle.std.proofs.Common.{◌≡◌, ◌∙◌, [], ◌∷◌, ◌++◌, ap, sym, refl, inr, true, false, length, arith, rules}
use Rattle.std.specs.Prelude.{◌&&◌, ◌||◌, ◌==◌, not, codes}
use Rattle.std.specs.List.{list_all}
use Rattle.std.specs.Option.{option_copied}
use Rattle.std.proofs.lemmas.Bool.{and_right, or_right, not_from_false, and_parts}
use Rattle.std.proofs.lemmas.Bool.Decides.{nat_tests}
use Rattle.pps_types.specs.Bytes.{same, is_empty, pieces}
use Rattle.pps_types.specs.OpenText.{is_path_name}
use Rattle.open_options.specs.Elements.{elements_left, is_name_byte}
use Rattle.open_options.proofs.Elements.{walked, walked-is, walked-refused, walked-accepted, elements_left-some, all_bytes, bad_bytes}
use Rattle.open_options.proofs.path.read_elements.Goals as goal
use Rattle.open_options.proofs.path.read_elements.Goals.{else-is_none-via-then-is_none+else-eq, else-is_none-via-else-is_none, then-len-eq-NAMES_MAX-via-then-len-eq-NAMES_MAX, then-len-eq-NAMES_MAX-via-else-len-eq-NAMES_MAX+then-not-is_name}

pub loop-rest-init : goal.loop-rest-init
loop-rest-init c = record {
  read = rw c.in_ok-names.ensures.items (walked-is [] (pieces 47 c.args.text.now) refl);
  bytes = all_bytes c.args.text.now ∙ sym c.has_path_bytes.ensures ∙ c.if-not-has_path_bytes.false;
}

pub returns-then-not-has_path_bytes-clause-err : goal.returns-then-not-has_path_bytes-clause-err
returns-then-not-has_path_bytes-clause-err c = inr (refl, bad_bytes c.args.text.now (sym c.has_path_bytes.ensures ∙ c.if-not-has_path_bytes.true))

pub is_name-requires : goal.is_name-requires
is_name-requires c =
    let more = elements_left (option_copied c.first_element.result.1) in
    let here : list_all (list_all is_name_byte) (pieces 47 c.in-Some.text.now) ≡ true = rw c.in-Some.is at c.loop-rest.invariant.bytes in
    (and_parts (list_all is_name_byte c.first_element.result.0.now) (list_all (list_all is_name_byte) more) (ap (list_all (list_all is_name_byte)) c.first_element.ensures.elements ∙ here)).0

pub loop-rest-preserved : goal.loop-rest-preserved
loop-rest-preserved c =
    let names = c.loop-rest.names.items in
    let element = c.first_element.result.0.now in
    let behind = c.first_element.result.1 in
    let more = elements_left (option_copied behind) in
    let other : (is_empty more && same element (codes ".all")) ≡ false = elim c.else-is_none.branch [
      | else-is_none-via-then-is_none+else-eq w ↦ and_right (is_empty more) (same element (codes ".all")) (search rules)
      | else-is_none-via-else-is_none w ↦ let follows = elements_left-some behind (search rules) in rw follows
    ] in
    let few : (length names == 32) ≡ false = grind (arith, nat_tests, c.if-len-eq-NAMES_MAX.false, c.loop-rest.names.ok.0) in
    let good : is_path_name element ≡ true = search rules in
    let all : list_all (list_all is_name_byte) (pieces 47 c.in-Some.text.now) ≡ true = rw c.in-Some.is at c.loop-rest.invariant.bytes in
    let here = rw c.in-Some.is at c.loop-rest.invariant.read in
    record {
      read =
          ap (λ ns. walked ns more) (c.in_ok-push.ensures.items ∙ ap (λ n. names ++ n ∷ []) c.in_ok-from_slice.ensures)
          ∙ sym (walked-accepted names element more other few good)
          ∙ ap (walked names) c.first_element.ensures.elements ∙ here;
      bytes = (and_parts (list_all is_name_byte element) (list_all (list_all is_name_byte) more) (ap (list_all (list_all is_name_byte)) c.first_element.ensures.elements ∙ all)).1;
    }

pub returns-then-len-eq-NAMES_MAX-clause-err : goal.returns-then-len-eq-NAMES_MAX-clause-err
returns-then-len-eq-NAMES_MAX-clause-err c =
    let names = c.loop-rest.names.items in
    let element = c.first_element.result.0.now in
    let behind = c.first_element.result.1 in
    let more = elements_left (option_copied behind) in
    let other : (is_empty more && same element (codes ".all")) ≡ false = elim c.else-is_none.branch [
      | else-is_none-via-then-is_none+else-eq w ↦ and_right (is_empty more) (same element (codes ".all")) (search rules)
      | else-is_none-via-else-is_none w ↦ let follows = elements_left-some behind (search rules) in rw follows
    ] in
    let bad : (length names == 32 || not (is_path_name element)) ≡ true = elim c.then-len-eq-NAMES_MAX.branch [
      | then-len-eq-NAMES_MAX-via-then-len-eq-NAMES_MAX w ↦
          let count : length names ≡ 32 = omega (arith, c.loop-rest.names.ok.0) in
          let full : (length names == 32) ≡ true = grind (arith, nat_tests) in
          rw full
      | then-len-eq-NAMES_MAX-via-else-len-eq-NAMES_MAX+then-not-is_name w ↦ or_right (length names == 32) (not (is_path_name element)) (not_from_false (is_path_name element) (search rules))
    ] in
    let here = rw c.in-Some.is at c.loop-rest.invariant.read in
    inr (refl, sym here ∙ ap (walked names) (sym c.first_element.ensures.elements) ∙ walked-refused names element more other bad)
