use Rattle.std.proofs.Common.{rules, ap₂, codes, true, [], ◌≡◌, ◌∙◌}
use Rattle.std.proofs.lemmas.Result.{IfOk-weaker}
use Rattle.clap.specs.Built.{AddsSubcommand}
use Rattle.clap.specs.Simple.{App, app_of, new_shape, with_rule, with_subcommand}
use Rattle.clap.specs.declared.builder.command.Command.{Command}
use Rattle.command_line.specs.Words.{pps}
use Rattle.command_line.proofs.rules.whole_command.Goals as goal

abbrev begun : App
begun = record {
  top = record (new_shape (codes "pps")) {
    disable_help_subcommand = true;
    disable_version_flag = true;
    has_version = true;
    subcommand_required = true;
  };
  subs = [];
}

pub returns : goal.returns
returns c =
    let version = c.version_option.ensures in
    let begins : app_of c.subcommand_required.result ≡ begun = search rules in
    let run = c.in_ok-run_command.ensures in
    let frames = c.in_ok-frames_command.ensures in
    let serve = c.in_ok-serve_command.ensures in
    let first = c.in_ok-arg.ensures.shape version.local ∙ ap₂ with_rule begins version.rule_is in
    let second = c.in_ok-subcommand.ensures.shape run.local ∙ ap₂ with_subcommand first run.shape_is in
    let third = c.in_ok-subcommand-2.ensures.shape frames.local ∙ ap₂ with_subcommand second frames.shape_is in
    IfOk-weaker c.subcommand-3.result (AddsSubcommand c.in_ok-subcommand-2.field-0 c.in_ok-serve_command.field-0)
    (λ (command : Command). app_of command ≡ pps)
    (λ command adds. adds.shape serve.local ∙ ap₂ with_subcommand third serve.shape_is) c.subcommand-3.ensures
