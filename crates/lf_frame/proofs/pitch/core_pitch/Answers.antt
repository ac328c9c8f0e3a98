use Rattle.lf_frame.proofs.CoreLemmas.{pitch_of_core}
use Rattle.lf_frame.proofs.pitch.core_pitch.Goals as goal

pub size_in_units-size-requires : goal.size_in_units-size-requires
size_in_units-size-requires c = record {
  whole = pitch_of_core c.args.units c.args.core.now.size c.requires.least c.requires.most c.requires.range c.requires.sized
      (c.is_whole_size.ensures.0 c.if-not-is_whole_size.false);
}
