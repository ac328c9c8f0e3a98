use Rattle.std.proofs.Common.{◌≡◌, Ok, subst, sym}
use Rattle.std.specs.Prelude.{◌↔◌}
use Rattle.lf_rules.specs.FullyLegal.{IsFullyLegal}
use Rattle.lf_floor_model.specs.Committed.{IsCommittedLegal}
use Rattle.lf_floor_model.specs.States.{FloorState}
use Rattle.lf_state_text.specs.Reading.{saved_state_of}
use Rattle.lf_floor.specs.Saved.{ShareDesign, design_names, saved_design}
use Rattle.lf_floor_verbs.specs.Tables.{floor_in}
use Rattle.lf_floor.proofs.Saving.{back_again, legal_reported, only_memory}
use Rattle.lf_floor.proofs.floor.Floor.restore.Goals as goal

pub returns-in-Ok-clause-again : goal.returns-in-Ok-clause-again
returns-in-Ok-clause-again g c = λ saved one is.
    back_again c.saved_restores.ensures (floor_in c.floor.inside.tables) saved (floor_in c.in-Ok.now) c.args.text.now c.in-Ok.ensures.restored
    (subst (λ (f : FloorState). ShareDesign f saved) (sym c.floor.view_is) one) is

pub returns-in-Ok-clause-legal : goal.returns-in-Ok-clause-legal
returns-in-Ok-clause-legal g c = λ saved read.
    let now = floor_in c.in-Ok.now in
    subst (λ (f : FloorState). IsCommittedLegal now ↔ IsFullyLegal f.frame (saved_design f saved)) c.floor.view_is
    (legal_reported c.restored_is_committed.ensures (floor_in c.floor.inside.tables) now c.args.text.now saved c.in-Ok.ensures.restored
    (subst (λ (f : FloorState). saved_state_of (design_names f) c.args.text.now ≡ Ok saved) (sym c.floor.view_is) read))

pub returns-in-Err-clause-again_fails : goal.returns-in-Err-clause-again_fails
returns-in-Err-clause-again_fails g c = λ saved one is.
    only_memory c.saved_restores.ensures (floor_in c.floor.inside.tables) saved c.args.text.now c.in-Err.error c.in-Err.ensures.fault
    (subst (λ (f : FloorState). ShareDesign f saved) (sym c.floor.view_is) one) is
