use Rattle.std.proofs.Common.{◌+◌, ◌-◌, ◌/◌, arith}
use Rattle.std.proofs.lemmas.List.{length-map}
use Rattle.number_table.specs.declared.index.Place.{Place}
use Rattle.number_table.specs.Index.{numbers_in}
use Rattle.number_table.proofs.Standing.{rises_before, is_place}
use Rattle.number_table.proofs.index.place_of.Goals as goal

pub search-init : goal.search-init
search-init c =
    let n = length-map c.args.index.now (λ (p : Place). p.number) in
    (omega arith, omega arith, λ k l. absurd (omega arith), λ k l m. absurd (omega arith))

pub number_at-requires : goal.number_at-requires
number_at-requires c =
    let n = length-map c.args.index.now (λ (p : Place). p.number) in
    let h = c.search.invariant.1 in
    omega arith

pub search-preserved-then-number_at-number : goal.search-preserved-then-number_at-number
search-preserved-then-number_at-number c =
    let h = c.search.invariant in
    let at = c.number_at.ensures in
    (omega arith, h.1, λ k l. let e = rises_before 0 (numbers_in c.args.index.now) c.requires.0 k (c.search.start + (c.search.end - c.search.start) / 2) c.requires.1 (omega arith) (omega arith) in omega arith, h.3)

pub search-preserved : goal.search-preserved
search-preserved c =
    let h = c.search.invariant in
    let at = c.number_at.ensures in
    (omega arith, omega arith, h.2, λ k l m. let e = rises_before 0 (numbers_in c.args.index.now) c.requires.0 (c.search.start + (c.search.end - c.search.start) / 2) k c.requires.1 l m in omega arith)

pub returns : goal.returns
returns c =
    let h = c.search.invariant in
    is_place c.args.number c.search.start (numbers_in c.args.index.now) (omega arith) h.2 (λ k l m. h.3 k (omega arith) m)
