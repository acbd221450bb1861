use Rattle.std.proofs.Common.{rules, ap, ap₂, codes, false, ◌≡◌, ◌∙◌}
use Rattle.std.proofs.lemmas.Result.{IfOk-weaker}
use Rattle.clap.specs.Walk.{rule_of}
use Rattle.clap.specs.Simple.{App, app_of, new_app, with_rule}
use Rattle.command_line.specs.Words.{AddsService, IsCommand, flag, has_globals, number, option, run_shape}
use Rattle.command_line.proofs.Named.{local-more}
use Rattle.command_line.proofs.rules.run_command.Goals as goal

pub returns : goal.returns
returns c =
    let show_is : rule_of c.action-show.result ≡ flag (codes "show") = search rules in
    let interactive_is : rule_of c.action-interactive.result ≡ flag (codes "interactive") = search rules in
    let show_local : c.action-show.result.global ≡ false = search rules in
    let interactive_local : c.action-interactive.result.global ≡ false = search rules in
    let begun : app_of c.about.result ≡ new_app (codes "run") = search rules in
    let begun_local : has_globals c.about.result ≡ false = search rules in
    let first = c.in_ok-arg.ensures in
    let second = c.in_ok-command.ensures in
    let app = second.shape interactive_local ∙ ap₂ with_rule (first.shape show_local ∙ ap₂ with_rule begun show_is) interactive_is in
    let local = second.globals ∙ local-more _ _ (first.globals ∙ local-more _ _ begun_local show_local) interactive_local in
    IfOk-weaker c.with_service.result (AddsService c.in_ok-command.command) (IsCommand run_shape)
    (λ command adds. record {
      shape_is = ap (λ (a : App). a.top) (adds.app local
          ∙ ap (λ (a : App). with_rule (with_rule (with_rule a (option (codes "image"))) (option (codes "save"))) (number (codes "limit"))) app);
      local = adds.local local;
    }) c.with_service.ensures
