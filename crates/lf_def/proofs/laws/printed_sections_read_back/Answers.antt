use Rattle.std.proofs.Common.{◌++◌, refl}
use Rattle.std.specs.Prelude.{codes}
use Rattle.lf_lex.proofs.Runs.{same}
use Rattle.lf_def.specs.Regions.{region, regions}
use Rattle.lf_def.specs.Groups.{group, groups}
use Rattle.lf_def.specs.Components.{component}
use Rattle.lf_def.specs.Blockages.{blockages}
use Rattle.lf_def.specs.Laws.{without_places}
use Rattle.lf_def.specs.Printed.{region_words, group_words, component_words, blockage_words, IsPrintedRegion, IsPrintedGroup, IsPrintedComponent, section_words}
use Rattle.lf_def.specs.PrintedComponents.{IsPrintedEntry, entry_tokens, printed_component}
use Rattle.lf_def.proofs.PrintedEntries.{reads_back}
use Rattle.lf_def.proofs.Following.{same_grows}
use Rattle.lf_def.proofs.Places.{bare_list, components_grow}
use Rattle.lf_def.proofs.PrintedLists.{region_back, group_back}
use Rattle.lf_def.proofs.PrintedClauses.{entry_back}
use Rattle.lf_def.proofs.PrintedPlaces.{component_back}
use Rattle.lf_def.proofs.PrintedBlockages.{blockages_back}
use Rattle.lf_def.proofs.PrintedSections.{section_at, section_back}
use Rattle.lf_def.proofs.laws.printed_sections_read_back.Goals as goal

pub returns : goal.returns
returns c = record {
  regions = λ print writes count other new known h. reads_back (regions known) (section_words (codes "REGIONS") count (region_words print) new) (known ++ new)
      (section_back same same same_grows (codes "REGIONS") refl region (region_words print) IsPrintedRegion (region_back print writes) count other new known h);
  groups = λ count other new known h. reads_back (groups known) (section_words (codes "GROUPS") count group_words new) (known ++ new)
      (section_back same same same_grows (codes "GROUPS") refl group group_words IsPrintedGroup group_back count other new known h);
  components = λ print writes count other new known h tokens e after_it.
      let read = section_back without_places bare_list components_grow (codes "COMPONENTS") refl component (component_words print) IsPrintedComponent
      (component_back print writes) count other new known h tokens e in
      (read.value, read.takes after_it, read.alike);
  components_with_others = λ print writes count other new known h tokens e after_it.
      let read = section_at without_places bare_list components_grow (codes "COMPONENTS") refl component (entry_tokens print) printed_component IsPrintedEntry
      (entry_back print writes) count other new known h tokens e in
      (read.value, read.takes after_it, read.alike);
  blockages = λ print writes count other new known h. reads_back (blockages known) (section_words (codes "BLOCKAGES") count (blockage_words print) new)
      (known ++ new)
      (blockages_back print writes count other new known h);
}
