use Rattle.lf_floor_model.specs.Journals.{lasting, lasting_replies}
use Rattle.lf_floor_model.proofs.Journals.{backs_up}
use Rattle.lf_laws_slices.proofs.Runs.{runs_alike}
use Rattle.lf_laws_slices.proofs.laws.pushes_answer_alike.Goals as goal

pub returns : goal.returns
returns c = λ l m team a a' b b' commands pushed replies answers alike run run' same.
    let journal = backs_up l commands replies a a' run in
    runs_alike c.verdict_is_unique.ensures c.best_place_is_unique.ensures l m team a a' b b' (lasting commands replies) pushed (lasting_replies commands replies) answers
    alike journal.runs run' same
