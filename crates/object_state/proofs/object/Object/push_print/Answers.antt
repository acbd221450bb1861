use Rattle.std.proofs.Common.{◌≡◌, ◌∙◌, ◌++◌, sym, ap, arith, length, map}
use Rattle.std.specs.Option.{option_copied}
use Rattle.pps_types.specs.History.{line_of}
use Rattle.pps_types.specs.Text.{print_lines}
use Rattle.object_state.specs.Entries.{attributes_of}
use Rattle.object_state.specs.Held.{print_matching}
use Rattle.object_state.proofs.Printing.{matching-all}
use Rattle.object_state.proofs.object.Object.push_print.Goals as goal

pub push_all-requires-clause-room : goal.push_all-requires-clause-room
push_all-requires-clause-room c =
    let all : print_matching (option_copied c.args.filter) c.args.self.now.attributes ≡ print_lines (map line_of (attributes_of c.self.inside.map.entries)) =
    (λ i. print_matching (option_copied (c.in-None.is i)) ((sym c.self.view_is i).attributes)) ∙ matching-all (attributes_of c.self.inside.map.entries) in
    omega (arith, ap length all, c.requires, c.self.invariant.kept)

pub returns-in-None-clause-items : goal.returns-in-None-clause-items
returns-in-None-clause-items c =
    let all : print_lines (map line_of (attributes_of c.self.inside.map.entries)) ≡ print_matching (option_copied c.args.filter) c.args.self.now.attributes =
    sym (matching-all (attributes_of c.self.inside.map.entries)) ∙ (λ i. print_matching (option_copied (sym c.in-None.is i)) ((c.self.view_is i).attributes)) in
    c.push_all.ensures.items ∙ ap (λ text. c.args.out.now.items ++ text) all
