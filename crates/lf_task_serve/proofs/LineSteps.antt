-- Steps of work on lines.
use Rattle.std.proofs.Common.{◌≡◌, ◌⊎◌, inl, inr, refl, ℕ, List, Option}
use Rattle.lf_def.specs.Document.{Document}
use Rattle.lf_io.specs.Shelf.{Put}
use Rattle.lf_server.specs.Connections.{Accepted}
use Rattle.lf_floorplan.specs.declared.limits.Limits.{Limits}
use Rattle.lf_floorplan.specs.declared.loaded.Loaded.{Loaded}
use Rattle.lf_task_faults.specs.declared.faults.Fault.{Fault}
use Rattle.lf_task_designs.specs.Designs.{ReadsFile, IsOpened}
use Rattle.lf_floor_model.specs.States.{FloorState}
use Rattle.lf_task_faults.specs.declared.faults.OutputKind.TheVariants.{Export, Save}
use Rattle.lf_task_files.specs.Exits.{IsExported}
use Rattle.lf_task_files.specs.Faults.{IsOutputFault}
use Rattle.lf_task_files.proofs.WorkSteps.{design_opened}
use Rattle.lf_task_serve.specs.Exits.{IsUndone, Streams, streams}
use Rattle.lf_task_serve.specs.Surroundings.{Io, IsSound}
use Rattle.lf_task_serve.specs.Work.{AreAnswered, IsServingFault, IsUnfinished, IsNotServedDesign}
use Rattle.lf_task_serve.specs.declared.line_source.LineSource.{LineSource}
use Rattle.lf_task_serve.specs.declared.line_source.LineSource.TheVariants.{Reader, Port}

-- Lines are done whatever is written to files besides.
pub done_beside : (lines : LineSource) (begin floor : FloorState) (input left before after : Option (List ℕ))
    (old_puts new_puts other_old other_new : Option (List Put)) (old_accepted new_accepted : Option Accepted)
    → AreAnswered lines begin floor (streams input left before after old_puts new_puts old_accepted new_accepted)
    → AreAnswered lines begin floor (streams input left before after other_old other_new old_accepted new_accepted)
done_beside (Reader limit) begin floor input left before after old_puts new_puts other_old other_new old_accepted new_accepted is = is
done_beside (Port port connections) begin floor input left before after old_puts new_puts other_old other_new old_accepted new_accepted is = is

-- The same for a fault of the lines.
pub fault_beside : (lines : LineSource) (begin : FloorState) (fault : Fault) (input left before after : Option (List ℕ))
    (old_puts new_puts other_old other_new : Option (List Put)) (old_accepted new_accepted : Option Accepted)
    → IsServingFault lines begin fault (streams input left before after old_puts new_puts old_accepted new_accepted)
    → IsServingFault lines begin fault (streams input left before after other_old other_new old_accepted new_accepted)
fault_beside (Reader limit) begin fault input left before after old_puts new_puts other_old other_new old_accepted new_accepted is = is
fault_beside (Port port connections) begin fault input left before after old_puts new_puts other_old other_new old_accepted new_accepted is = is

-- Why the work on the design of a text fails is why the work on that of its files fails.
pub undone : (limits : Limits) (gives : ReadsFile) (def : List ℕ) (lefs : List (List ℕ)) (state journal save export : Option (List ℕ)) (lines : LineSource) (text : List ℕ)
    (document : Document) (loaded : Loaded) (fault : Fault) (io : Streams) → IsOpened limits gives def lefs text document loaded
    → IsNotServedDesign limits gives def lefs state journal save export lines loaded text document fault io
    → IsUndone limits gives def lefs state journal save export (IsServingFault lines) (AreAnswered lines) fault io
undone limits gives def lefs state journal save export lines text document loaded fault io is (inl unbegun) =
    inl (inl (inr (loaded, design_opened limits gives def lefs text document loaded is, unbegun.0), unbegun.1), unbegun.1.unput)
undone limits gives def lefs state journal save export lines text document loaded fault io is (inr (begin, begins, inl stopped)) =
    inl (inr (begin, (loaded, design_opened limits gives def lefs text document loaded is, begins), stopped.0), stopped.1)
undone limits gives def lefs state journal save export lines text document loaded fault io is (inr (begin, begins, inr unsaved)) =
    inr (unsaved.0, record { text = text; document = document; loaded = loaded; opened = is; begin = begin; begins = begins; finished = unsaved.1 })

-- A fault of the files written after the lines leaves the work unfinished.
pub outputs_unfinished : (save export : Option (List ℕ)) (lines : LineSource) (begin floor : FloorState) (text : List ℕ) (document : Document) (fault : Fault) (io : Streams)
    → AreAnswered lines begin floor io
    → (IsOutputFault Export export fault × (io.new_puts ≡ io.old_puts)) ⊎ (IsOutputFault Save save fault × IsExported export text document floor io.old_puts io.new_puts)
    → IsUnfinished save export lines begin text document fault io
outputs_unfinished save export lines begin floor text document fault io done (inl unexported) =
    inl (inr (inr (unexported.0, (floor, done))), unexported.1)
outputs_unfinished save export lines begin floor text document fault io done (inr unsaved) =
    inr (unsaved.0, record { floor = floor; work = done; between = io.new_puts; exports = unsaved.1; saves = refl })

-- If nothing changes, nothing fails.
pub still_sound : (io : Io) → IsSound io io
still_sound io = record { exports = refl; services = refl; reader = refl; writer = refl }
