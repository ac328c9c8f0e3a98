use Rattle.std.specs.Prelude.{codes}
use Rattle.lf_lex.proofs.Runs.{same}
use Rattle.lf_def.specs.Regions.{region}
use Rattle.lf_def.specs.Groups.{group}
use Rattle.lf_def.specs.Components.{component}
use Rattle.lf_def.specs.Laws.{without_places}
use Rattle.lf_def.proofs.Following.{entry_or_end_goes, region_follows, region_token_goes, group_follows, group_token_goes, blockage_or_end_goes, blockage_token_goes}
use Rattle.lf_def.proofs.Places.{component_follows, component_token_goes, statement_goes}
use Rattle.lf_def.proofs.laws.def_statements_take_tokens.Goals as goal

pub returns : goal.returns
returns c = record {
  text = statement_goes;
  regions = entry_or_end_goes same (codes "REGIONS") region region_follows;
  region = region_token_goes;
  groups = entry_or_end_goes same (codes "GROUPS") group group_follows;
  group = group_token_goes;
  components = entry_or_end_goes without_places (codes "COMPONENTS") component component_follows;
  component = component_token_goes;
  blockages = blockage_or_end_goes;
  blockage = blockage_token_goes;
}
