use Rattle.std.proofs.Common.{◌≡◌, ◌<◌, ◌∙◌, sym, ap, arith, not, length, drop, List, ℕ}
use Rattle.std.proofs.lemmas.List.{drop_all}
use Rattle.std.proofs.lemmas.List.Filters.{FiltersInPlace-all}
use Rattle.pps_types.specs.History.{persistent, text_length}
use Rattle.pps_types.specs.AttributeContent.{Content}
use Rattle.object_state.specs.Effect.{bytes_of}
use Rattle.object_state.specs.Entries.{attributes_of}
use Rattle.object_state.proofs.Entries.{attributes-filter}
use Rattle.object_state.proofs.Printing.{filter-bytes_le}
use Rattle.object_state.proofs.Dropping.{persistent-drop, moved-some, moved-none, some-fits}
use Rattle.object_state.proofs.changes.drop_nonpersistent.Goals.{in-Some, in_default}
use Rattle.object_state.proofs.changes.drop_nonpersistent.Goals as goal

pub persistent_len-requires : goal.persistent_len-requires
persistent_len-requires c =
    let within : c.places.place < length c.places.map.entries = omega (arith, c.places-test.true, c.len-place-end.ensures.len, c.places.invariant.moved.long) in
    some-fits _ (omega (arith, persistent-drop c.places.invariant.moved within, c.places.invariant.counted, filter-bytes_le (λ a. not a.n) (attributes_of c.args.map.now.entries), c.requires))

pub overflow_add-text_len : goal.overflow_add-text_len
overflow_add-text_len c =
    let within : c.places.place < length c.places.map.entries = omega (arith, c.places-test.true, c.len-place-end.ensures.len, c.places.invariant.moved.long) in
    omega (arith, ap bytes_of (sym c.in-Some.is ∙ c.persistent_len.ensures), persistent-drop c.places.invariant.moved within, c.places.invariant.counted, filter-bytes_le (λ a. not a.n) (attributes_of c.args.map.now.entries), c.requires)

pub places-preserved : goal.places-preserved
places-preserved c =
    let within : c.places.place < length c.places.map.entries = omega (arith, c.places-test.true, c.len-place-end.ensures.len, c.places.invariant.moved.long) in
    let counted = persistent-drop c.places.invariant.moved within in
    elim c.match-persistent_len.branch [
      | in-Some w ↦ rw (w.map-is, w.kept-is, w.text_len-is) (record {
        moved = moved-some c.places.invariant.moved within w.in-Some.line_len _ (sym c.persistent_len.ensures ∙ w.in-Some.is) w.move_down.ensures;
        counted = omega (arith, ap bytes_of (sym w.in-Some.is ∙ c.persistent_len.ensures), counted, c.places.invariant.counted);
      })
      | in_default w ↦ rw (w.map-is, w.kept-is, w.text_len-is) (record {
        moved = moved-none c.places.invariant.moved within (sym c.persistent_len.ensures ∙ w.in_default.is);
        counted = omega (arith, ap bytes_of (sym w.in_default.is ∙ c.persistent_len.ensures), counted, c.places.invariant.counted);
      })
    ]

pub returns-clause-attributes : goal.returns-clause-attributes
returns-clause-attributes c =
    ap attributes_of (c.truncate.ensures ∙ FiltersInPlace-all c.places.invariant.moved (omega (arith, c.places-test.false, c.len-place-end.ensures.len)))
    ∙ attributes-filter c.args.map.now.entries

pub returns-clause-kept : goal.returns-clause-kept
returns-clause-kept c =
    let all = ap attributes_of (c.truncate.ensures ∙ FiltersInPlace-all c.places.invariant.moved (omega (arith, c.places-test.false, c.len-place-end.ensures.len)))
    ∙ attributes-filter c.args.map.now.entries in
    let none : text_length (persistent (attributes_of (drop c.places.place c.args.map.now.entries))) ≡ 0 =
    ap (λ (es : List (List ℕ × Content)). text_length (persistent (attributes_of es))) (drop_all c.places.place c.args.map.now.entries (omega (arith, c.places-test.false, c.len-place-end.ensures.len))) in
    omega (arith, c.places.invariant.counted, none, ap text_length all)
