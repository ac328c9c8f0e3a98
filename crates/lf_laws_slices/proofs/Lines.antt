-- The texts of the replies to a team, on two frames that are alike.
use Rattle.std.proofs.Common.{◌≡◌, ℕ, List, [], ◌∷◌, Option, Some, None, refl, ap, sym, ◌∙◌}
use Rattle.std.specs.Prelude.{slice_get, unwrap_or}
use Rattle.std.specs.List.{AllZip}
use Rattle.lf_floorplan.specs.declared.frame.Frame.{Frame}
use Rattle.lf_floorplan.specs.declared.place.Place.{Place}
use Rattle.lf_rules.specs.Choice.{BestPlaceIsUnique}
use Rattle.lf_rules.specs.Legalizer.{Legalizer, VerdictIsUnique}
use Rattle.lf_proto.specs.declared.request.TeamCommand.{TeamCommand}
use Rattle.lf_proto.specs.declared.reply.Reply.{Reply}
use Rattle.lf_proto.specs.ReplyText.{reply_text}
use Rattle.lf_cells.specs.declared.cell.Cell.{Cell}
use Rattle.lf_floor_model.specs.States.{TeamState, FloorState}
use Rattle.lf_floor_model.specs.Teams.{team_number}
use Rattle.lf_floor_model.specs.Outcomes.{name_at}
use Rattle.lf_floor_model.specs.Steps.{outcome_by_rules}
use Rattle.lf_floor_model.specs.Runs.{own_commands}
use Rattle.lf_floor_model.proofs.Isolation.{has_number}
use Rattle.lf_server.specs.Devices.{Writer}
use Rattle.lf_server.specs.Exchanges.{Exchange, reply_cells}
use Rattle.lf_server.specs.Endings.{WritesReplies}
use Rattle.lf_server.specs.Laws.{commands, replies, reply_texts}
use Rattle.lf_server.specs.declared.serve_loop.Ending.{Ending}
use Rattle.lf_server.proofs.OwnReplies.{acts_at, name_for, own_texts, reported_own, text_for}
use Rattle.lf_laws_slices.specs.Alike.{AreFramesAlike, AreCellsAlike, AreTeamsAlike, AreFloorsAlike}
use Rattle.lf_laws_slices.proofs.Cells.{zip_option}
use Rattle.lf_laws_slices.proofs.Zips.{zip_get}
use Rattle.lf_laws_slices.proofs.Runs.{number_same, ruled_alike}

name_same : (f g : Frame) (cs ds : List Cell) (own : ℕ) → AllZip (AreCellsAlike f g) cs ds → name_at cs own ≡ name_at ds own
name_same f g cs ds own z =
    zip_option (AreCellsAlike f g) (λ c. c.name) (λ d. d.name) (λ c d r. r.name) (slice_get cs own) (slice_get ds own) (zip_get (AreCellsAlike f g) cs ds z own)

name_for_same : (f g : Frame) (s t : TeamState) → AreTeamsAlike f g s t → (o : Option ℕ) → name_for s o ≡ name_for t o
name_for_same f g s t a None = refl
name_for_same f g s t a (Some own) = ap (λ (name : Option (List ℕ)). unwrap_or name []) (name_same f g s.cells t.cells own a.cells)

-- the text of a reply is the same for both
text_same : (f g : Frame) (s t : TeamState) → AreTeamsAlike f g s t → (reply : Reply) → text_for s reply ≡ text_for t reply
text_same f g s t a reply =
    ap (λ (name : List ℕ). reply_text reply name (name_for s (reply_cells reply).1)) (name_for_same f g s t a (reply_cells reply).0)
    ∙ ap (λ (name : List ℕ). reply_text reply (name_for t (reply_cells reply).0) name) (name_for_same f g s t a (reply_cells reply).1)

module _ (verdict_one : VerdictIsUnique) (choice_one : BestPlaceIsUnique) (l m : Legalizer) where
  -- the texts of the replies to a team's own commands are the same for both
  own_same : (f g : Frame) (number : ℕ) → AreFramesAlike f g → (orders : List (TeamCommand (List ℕ) Place)) (s t : TeamState) → AreTeamsAlike f g s t
      → own_texts l f number orders s ≡ own_texts m g number orders t
  own_same f g number frames [] s t teams = refl
  own_same f g number frames (order ∷ later) s t teams =
      let first = ruled_alike verdict_one choice_one l m f g number order s t frames teams in
      let here = outcome_by_rules l f number order s in
      let there = outcome_by_rules m g number order t in
      ap (λ (text : List ℕ). text ∷ own_texts l f number later here.team) (text_same f g here.team there.team first.teams here.reply)
      ∙ ap (λ (reply : Reply). text_for there.team reply ∷ own_texts l f number later here.team) first.reply
      ∙ ap (λ (texts : List (List ℕ)). text_for there.team there.reply ∷ texts) (own_same f g number frames later here.team there.team first.teams)

  pub lines_same : (team : List ℕ) (end end' : Ending) (a a' b b' : FloorState) (v v' w w' : Writer) (done others : List Exchange)
      → AreFloorsAlike team a b → WritesReplies end l a v done a' v' → WritesReplies end' m b w others b' w'
      → own_commands team (commands done) (replies done) ≡ own_commands team (commands others) (replies others) → reply_texts team done ≡ reply_texts team others
  lines_same team end end' a a' b b' v v' w w' done others alike comes comes' same =
      let named = has_number a team alike.here alike.is_here in
      let named_b : team_number b.frame team ≡ Some named.0 = sym (number_same a.frame b.frame alike.frames team) ∙ named.1 in
      let here = reported_own l a.frame team named.0 named.1 done a a' refl (acts_at end l a a' v v' done comes) alike.here alike.is_here in
      let there = reported_own m b.frame team named.0 named_b others b b' refl (acts_at end' m b b' w w' others comes') alike.there alike.is_there in
      here
      ∙ own_same a.frame b.frame named.0 alike.frames (own_commands team (commands done) (replies done)) alike.here alike.there alike.teams
      ∙ ap (λ (orders : List (TeamCommand (List ℕ) Place)). own_texts m b.frame named.0 orders alike.there) same
      ∙ sym there
