use Rattle.lf_def.proofs.PrintedAfter.{rows_after, regions_after, groups_after, components_after, blockages_after}
use Rattle.lf_def.proofs.laws.printed_lists_read_back_in_texts.Goals as goal

pub returns : goal.returns
returns c = record {
  rows = λ print writes new h. rows_after print writes new h;
  regions = λ print writes count other new h. regions_after print writes count other new h;
  groups = λ print writes count other new h. groups_after print writes count other new h;
  components = λ print writes count other new h. components_after print writes count other new h;
  blockages = λ print writes count other new h. blockages_after print writes count other new h;
}
