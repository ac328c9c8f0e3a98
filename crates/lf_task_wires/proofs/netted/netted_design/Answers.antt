use Rattle.std.proofs.Common.{map, arith}
use Rattle.std.proofs.lemmas.List.{length-map}
use Rattle.std.proofs.lemmas.Result.{IfErr-weaker, IfOk-weaker}
use Rattle.lf_task_designs.specs.Designs.{no_library}
use Rattle.lf_task_wires.proofs.Keeping.{kept_many}
use Rattle.lf_task_wires.proofs.NettedSteps.{netted_file_fails}
use Rattle.lf_task_wires.proofs.netted.netted_design.Goals as goal

pub netted_file-requires : goal.netted_file-requires
netted_file-requires g c =
    let many = kept_many (g.T.InputFiles.gives c.args.texts.now) no_library c.in_ok-library.library (map (λ lef. lef.now) c.args.input.now.lefs.now) (map (λ t. t.items) c.kept_library.new.kept.items)
    c.in_ok-library.ensures.ok in
    let texts = length-map c.kept_library.new.kept.items (λ t. t.items) in
    let paths = length-map c.args.input.now.lefs.now (λ lef. lef.now) in
    rw c.deref.ensures.value (omega (arith, many, texts, paths))

pub returns-clause-ok : goal.returns-clause-ok
returns-clause-ok g c =
    IfOk-weaker c.netted_file.result _ _
    (λ design is. record {
      texts = map (λ t. t.items) c.kept_library.new.kept.items;
      library = c.in_ok-library.library;
      text = is.0;
      lefs_are = c.in_ok-library.ensures.ok;
      given = is.1;
      is = is.2;
    }) (rw c.deref.ensures.value at c.netted_file.ensures.ok)

pub returns-clause-err : goal.returns-clause-err
returns-clause-err g c =
    let input = c.args.input.now in
    IfErr-weaker c.netted_file.result _ _
    (λ fault why. netted_file_fails input.limits (g.T.InputFiles.gives c.args.texts.now) c.in_ok-library.library input.def.now (map (λ lef. lef.now) input.lefs.now)
    (map (λ t. t.items) c.kept_library.new.kept.items) fault c.in_ok-library.ensures.ok why) c.netted_file.ensures.err
