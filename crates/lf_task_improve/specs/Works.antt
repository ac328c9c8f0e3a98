-- What an improvement means.
use Rattle.std.specs.Prelude.{◌≡◌, Option, None, ℕ}
use Rattle.lf_task_faults.specs.declared.faults.Fault.TheVariants.{SetupOutOfMemory}
use Rattle.lf_task_wires.specs.Wirelengths.{IsFilesFault}
use Rattle.lf_task_run.specs.Tasks.{Means}
use Rattle.lf_task_improve.specs.declared.opening.DesignWires.{DesignWires}
use Rattle.lf_task_improve.specs.Improvements.{IsImproveReport, distance_of_rows}
use Rattle.lf_task_improve.specs.Openings.{OpensWithNets}

-- what an improvement means in which no cell moves farther than this number of rows: the report is that
-- of the improvement from the first floor to the last one
abbrev pub improve_means : Option ℕ → Means DesignWires
improve_means within = record {
  opens = OpensWithNets;
  refuses = λ gives job fault. IsFilesFault job.limits gives job.def job.lefs None fault;
  fails = λ teams begin fault. fault ≡ SetupOutOfMemory;
  does = λ teams wires begin floor report.
      IsImproveReport teams (distance_of_rows begin.frame within) wires.teams.items wires.netlist.nets begin floor report;
}
