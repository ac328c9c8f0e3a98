use Rattle.lf_def.specs.Rows.{row}
use Rattle.lf_def.specs.Regions.{region}
use Rattle.lf_def.specs.Groups.{group}
use Rattle.lf_def.specs.Printed.{row_words, region_words, group_words, blockage_words}
use Rattle.lf_def.proofs.PrintedEntries.{reads_back, row_back}
use Rattle.lf_def.proofs.PrintedLists.{region_back, group_back}
use Rattle.lf_def.proofs.PrintedClauses.{entry_reads_back}
use Rattle.lf_def.proofs.PrintedPlaces.{component_reads_back}
use Rattle.std.specs.Prelude.{Some}
use Rattle.lf_def.specs.Blockages.{blockage}
use Rattle.lf_def.proofs.PrintedBlockages.{blockage_back}
use Rattle.lf_def.proofs.laws.printed_entries_read_back.Goals as goal

pub returns : goal.returns
returns c = record {
  row = λ print writes r h. reads_back row (row_words print r) r (row_back print writes r h);
  region = λ print writes r h. reads_back region (region_words print r) r (region_back print writes r h);
  group = λ g h. reads_back group (group_words g) g (group_back g h);
  component = λ print writes x h. component_reads_back print writes x h;
  component_with_others = entry_reads_back;
  blockage = λ print writes b h. reads_back blockage (blockage_words print b) (Some b) (blockage_back print writes b h);
}
