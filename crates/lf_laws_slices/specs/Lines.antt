-- The texts that two connections write to a team, over floors that are alike for it.
use Rattle.std.specs.Prelude.{◌≡◌, ℕ, List}
use Rattle.lf_floorplan.specs.declared.loaded.Loaded.{Loaded}
use Rattle.lf_rules.specs.Legalizer.{Legalizer}
use Rattle.lf_floor_model.specs.States.{FloorState}
use Rattle.lf_floor_model.specs.Designs.{initial_floor}
use Rattle.lf_floor_model.specs.Runs.{own_commands}
use Rattle.lf_server.specs.Devices.{Writer}
use Rattle.lf_server.specs.Exchanges.{Exchange}
use Rattle.lf_server.specs.Endings.{WritesReplies}
use Rattle.lf_server.specs.Laws.{commands, replies, reply_texts}
use Rattle.lf_server.specs.declared.serve_loop.Ending.{Ending}
use Rattle.lf_laws_slices.specs.Alike.{AreFloorsAlike, AreDesignsAlike}

-- over two connections to floors that are alike for a team, the same commands to that team get the
-- same texts, byte for byte; what the other teams have and send does not matter; commands with the
-- reply OutOfMemory are left out
abbrev pub TextsAreAlike : Type 0
TextsAreAlike =
    (l m : Legalizer) (team : List ℕ) (end end' : Ending) (a a' b b' : FloorState) (v v' w w' : Writer)
    (done others : List Exchange)
    → AreFloorsAlike team a b
    → WritesReplies end l a v done a' v' → WritesReplies end' m b w others b' w'
    → own_commands team (commands done) (replies done) ≡ own_commands team (commands others) (replies others)
    → reply_texts team done ≡ reply_texts team others

-- the same for two loaded designs that are alike for the team, as a design and its slice are
abbrev pub SliceTextsAreAlike : Type 0
SliceTextsAreAlike =
    (l m : Legalizer) (team : List ℕ) (end end' : Ending) (a b : Loaded) (a' b' : FloorState) (v v' w w' : Writer)
    (done others : List Exchange)
    → AreDesignsAlike team a b
    → WritesReplies end l (initial_floor a) v done a' v' → WritesReplies end' m (initial_floor b) w others b' w'
    → own_commands team (commands done) (replies done) ≡ own_commands team (commands others) (replies others)
    → reply_texts team done ≡ reply_texts team others
