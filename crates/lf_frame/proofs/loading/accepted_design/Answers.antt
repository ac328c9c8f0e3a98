use Rattle.std.proofs.Common.{◌≡◌, length, map, arith}
use Rattle.std.proofs.lemmas.List.{length-map}
use Rattle.lf_lex.specs.declared.fault.FaultNumber.TheVariants.{SecondName}
use Rattle.lf_frame.specs.Findings.{LoadInputs, inputs}
use Rattle.lf_frame.specs.ClaimRefusals.{HasEarlierName}
use Rattle.lf_frame.specs.Teams.{fences}
use Rattle.lf_frame.specs.Loads.{frame_team}
use Rattle.lf_frame.proofs.Gathered.{none_of_name}
use Rattle.lf_frame.proofs.DesignMade.{can_be_cells, design_made, few}
use Rattle.lf_frame.proofs.FrameMade.{few_fences}
use Rattle.lf_frame.proofs.loading.accepted_design.Goals as goal

pub movable_cells-requires : goal.movable_cells-requires
movable_cells-requires c =
    let i : LoadInputs = inputs c.args.library.now c.args.document.now c.args.limits.now in
    let kept : length (map frame_team (fences c.args.document.now.regions)) ≡ length (fences c.args.document.now.regions) =
    length-map (fences c.args.document.now.regions) frame_team in
    record {
      few_fences = omega (arith, kept, few_fences i c.requires.accepted, c.args.limits.now.allowed.fences_within.most);
      few_components = omega (arith, few i c.requires.accepted, c.args.limits.now.allowed.components_within.most);
      ranged = c.ranges_kept.ensures.components;
      able = can_be_cells i c.requires.accepted;
      claims = c.requires.claims;
      macros = c.requires.macros;
      differ = none_of_name {breaks = HasEarlierName} (c.requires.accepted SecondName);
    }

pub loaded_from-requires : goal.loaded_from-requires
loaded_from-requires c =
    design_made (inputs c.args.library.now c.args.document.now c.args.limits.now) c.in_ok-frame.frame c.in_ok-cells.cells c.ranges_kept.ensures c.requires.accepted c.in_ok-frame.ensures c.in_ok-cells.ensures
