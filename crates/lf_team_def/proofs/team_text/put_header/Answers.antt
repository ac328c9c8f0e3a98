use Rattle.std.proofs.Common.{[], ◌∷◌, ◌++◌, ap, refl, subst}
use Rattle.std.specs.Prelude.{codes, decimal}
use Rattle.lf_team_def.specs.TeamText.{words_line}
use Rattle.lf_team_def.proofs.Lines.{put_five}
use Rattle.lf_team_def.proofs.team_text.put_header.Goals as goal

pub returns : goal.returns
returns g c = λ start before had.
    let first = before ++ words_line (codes "VERSION" ∷ c.as_bytes.result.now ∷ codes ";" ∷ []) in
    let second = first ++ words_line (codes "DIVIDERCHAR" ∷ c.as_bytes-2.result.now ∷ codes ";" ∷ []) in
    let third = second ++ words_line (codes "BUSBITCHARS" ∷ c.as_bytes-3.result.now ∷ codes ";" ∷ []) in
    let fourth = third ++ words_line (codes "DESIGN" ∷ c.as_bytes-4.result.now ∷ codes ";" ∷ []) in
    let last = fourth ++ words_line (codes "UNITS" ∷ codes "DISTANCE" ∷ codes "MICRONS" ∷ decimal c.args.header.now.units ∷ codes ";" ∷ []) in
    subst (g.O.Output.took start c.put_line.new.out)
    (put_five before first second third fourth last
    (codes "VERSION" ∷ c.args.header.now.version ∷ codes ";" ∷ []) (codes "DIVIDERCHAR" ∷ c.args.header.now.divider ∷ codes ";" ∷ [])
    (codes "BUSBITCHARS" ∷ c.args.header.now.brackets ∷ codes ";" ∷ []) (codes "DESIGN" ∷ c.args.header.now.design ∷ codes ";" ∷ [])
    (codes "UNITS" ∷ codes "DISTANCE" ∷ codes "MICRONS" ∷ decimal c.args.header.now.units ∷ codes ";" ∷ [])
    (ap (λ w. before ++ words_line (codes "VERSION" ∷ w ∷ codes ";" ∷ [])) c.as_bytes.ensures)
    (ap (λ w. first ++ words_line (codes "DIVIDERCHAR" ∷ w ∷ codes ";" ∷ [])) c.as_bytes-2.ensures)
    (ap (λ w. second ++ words_line (codes "BUSBITCHARS" ∷ w ∷ codes ";" ∷ [])) c.as_bytes-3.ensures)
    (ap (λ w. third ++ words_line (codes "DESIGN" ∷ w ∷ codes ";" ∷ [])) c.as_bytes-4.ensures)
    refl)
    (c.put_line.ensures start fourth (c.put_statement-4.ensures start third (c.put_statement-3.ensures start second (c.put_statement-2.ensures start first
    (c.put_statement.ensures start before had)))))
