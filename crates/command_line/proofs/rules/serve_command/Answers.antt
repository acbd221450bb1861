use Rattle.std.proofs.Common.{rules, ap, ap₂, codes, false, ◌≡◌, ◌∙◌}
use Rattle.std.proofs.lemmas.Result.{IfOk-weaker}
use Rattle.clap.specs.Built.{AddsArg}
use Rattle.clap.specs.Simple.{App, app_of, new_app, with_rule}
use Rattle.command_line.specs.Words.{IsCommand, has_globals, serve_shape}
use Rattle.command_line.proofs.Named.{local-more}
use Rattle.command_line.proofs.rules.serve_command.Goals as goal

pub returns : goal.returns
returns c =
    let begun : app_of c.about.result ≡ new_app (codes "serve") = search rules in
    let begun_local : has_globals c.about.result ≡ false = search rules in
    let workers = c.workers_option.ensures in
    let history = c.history_option.ensures in
    let files = c.script_files.ensures in
    let first = c.in_ok-arg.ensures in
    let second = c.in_ok-arg-2.ensures in
    let app = second.shape history.local ∙ ap₂ with_rule (first.shape workers.local ∙ ap₂ with_rule begun workers.rule_is) history.rule_is in
    let local = second.globals ∙ local-more _ _ (first.globals ∙ local-more _ _ begun_local workers.local) history.local in
    IfOk-weaker c.arg-3.result (AddsArg c.in_ok-arg-2.field-0 c.script_files.result) (IsCommand serve_shape)
    (λ command adds. record {
      shape_is = ap (λ (a : App). a.top) (adds.shape files.local ∙ ap₂ with_rule app files.rule_is);
      local = adds.globals ∙ local-more _ _ local files.local;
    }) c.arg-3.ensures
