use Rattle.std.proofs.Common.{map, arith}
use Rattle.std.proofs.lemmas.List.{length-map}
use Rattle.std.proofs.lemmas.Result.{IfErr-weaker, IfOk-weaker}
use Rattle.lf_task_designs.specs.Designs.{no_library}
use Rattle.lf_task_files.specs.Inputs.{path_of}
use Rattle.lf_task_wires.proofs.Keeping.{kept_many}
use Rattle.lf_task_wires.proofs.Steps.{file_fails}
use Rattle.lf_task_wires.proofs.wirelength_task.report_of_files.Goals as goal

pub report_of_file-requires : goal.report_of_file-requires
report_of_file-requires g c =
    let many = kept_many (g.T.InputFiles.gives c.args.texts.now) no_library c.in_ok-library.library (map (λ lef. lef.now) c.args.inputs.lefs.now) (map (λ t. t.items) c.kept_library.new.kept.items)
    c.in_ok-library.ensures.ok in
    let texts = length-map c.kept_library.new.kept.items (λ t. t.items) in
    let paths = length-map c.args.inputs.lefs.now (λ lef. lef.now) in
    rw c.deref.ensures.value (omega (arith, many, texts, paths))

pub returns-clause-ok : goal.returns-clause-ok
returns-clause-ok g c =
    IfOk-weaker c.report_of_file.result _ _
    (λ report is. record {
      texts = map (λ t. t.items) c.kept_library.new.kept.items;
      library = c.in_ok-library.library;
      text = is.0;
      document = is.2.0;
      loaded = is.2.1;
      seen = is.2.2;
      lefs_are = c.in_ok-library.ensures.ok;
      given = is.1;
      read = is.2.3;
      loads = is.2.4;
      shown = is.2.5;
      reported = is.2.6;
    }) (rw c.deref.ensures.value at c.report_of_file.ensures.ok)

pub returns-clause-err : goal.returns-clause-err
returns-clause-err g c =
    IfErr-weaker c.report_of_file.result _ _
    (λ fault why. file_fails c.args.inputs.limits (g.T.InputFiles.gives c.args.texts.now) c.args.inputs.def.now (map (λ lef. lef.now) c.args.inputs.lefs.now) (map (λ t. t.items) c.kept_library.new.kept.items)
    (path_of c.args.inputs.state) c.in_ok-library.library fault c.in_ok-library.ensures.ok why) (rw c.deref.ensures.value at c.report_of_file.ensures.err)
