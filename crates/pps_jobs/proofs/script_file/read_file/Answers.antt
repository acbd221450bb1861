use Rattle.std.proofs.Common.{◌≡◌}
use Rattle.std.proofs.lemmas.Result.{IfOk-weaker}
use Rattle.pps_persist.specs.Files.{HoldsOf}
use Rattle.pps_jobs.proofs.FilesRead.{holds-as-opened, fails-as-opened}
use Rattle.pps_jobs.proofs.script_file.read_file.Goals as goal

pub returns-clause-text : goal.returns-clause-text
returns-clause-text g c =
    let held = g.F.ImageFiles.held c.args.files.now c.args.file.now in
    let left = g.F.Image.Read.remaining c.in_ok-script.script in
    IfOk-weaker c.read_rest.result (λ text. HoldsOf left (λ bytes. text.items ≡ bytes)) (λ text. HoldsOf held (λ bytes. text.items ≡ bytes))
    (λ text h. holds-as-opened held left (λ bytes. text.items ≡ bytes) c.in_ok-script.ensures.opens h) c.read_rest.ensures.text

pub returns-clause-fault : goal.returns-clause-fault
returns-clause-fault g c =
    fails-as-opened (g.F.ImageFiles.held c.args.files.now c.args.file.now) (g.F.Image.Read.remaining c.in_ok-script.script)
    (g.F.Image.OpenedFile.may_fail c.in_ok-script.script) (g.F.ImageFiles.may_fail c.args.files.now c.args.file.now)
    c.read_rest.result c.in_ok-script.ensures.opens c.in_ok-script.ensures.reads c.read_rest.ensures.fault
