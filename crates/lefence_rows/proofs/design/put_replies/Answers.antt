use Rattle.lefence_rows.proofs.design.put_replies.Goals as goal

pub put_export-requires : goal.put_export-requires
put_export-requires g c =
    record { fits = λ places are. c.requires.fits c.put_answers.new.floor places c.put_answers.ensures are }
