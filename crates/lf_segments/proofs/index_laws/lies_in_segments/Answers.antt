use Rattle.lf_segments.proofs.LawLemmas.{segments_hold, segments_suffice}
use Rattle.lf_segments.proofs.index_laws.lies_in_segments.Goals as goal

pub returns : goal.returns
returns c f obstacles segments team box cut is_in_place wide = (
  λ both. segments_hold f obstacles segments team box cut is_in_place wide both.0 both.1,
  λ lies. segments_suffice f obstacles segments team box cut is_in_place wide lies,
)
