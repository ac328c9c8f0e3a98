use Rattle.lf_lex.proofs.Runs.{reads_alike}
use Rattle.lf_def.specs.Rows.{row}
use Rattle.lf_def.specs.Regions.{region}
use Rattle.lf_def.specs.Groups.{group}
use Rattle.lf_def.specs.Blockages.{blockage}
use Rattle.lf_def.proofs.Following.{row_follows, region_follows, group_follows, blockage_follows}
use Rattle.lf_def.proofs.Same.{component_reads_alike}
use Rattle.lf_def.proofs.laws.def_statements_read_alike.Goals as goal

pub returns : goal.returns
returns c = record {
  row = reads_alike row row_follows;
  region = reads_alike region region_follows;
  group = reads_alike group group_follows;
  blockage = reads_alike blockage blockage_follows;
  component = λ l m x. component_reads_alike l m x;
}
