use Rattle.lf_floor_model.proofs.Tidying.{best_choice}
use Rattle.lf_floor_model.proofs.verb_laws.best_is_found.Goals as goal

pub returns : goal.returns
returns c t s own cell target known there = best_choice t s.cells known.sized c.legal_in_range.ensures own cell target there
