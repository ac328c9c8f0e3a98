-- A text that is held in memory and read in place of its file.
use Rattle.std.specs.Prelude.{◌≡◌, ℕ, List, Some}
use Rattle.lf_task_designs.specs.Designs.{ReadsFile}

-- Whatever the path, reading gives this text.
abbrev pub gives_text : List ℕ → ReadsFile
gives_text text = λ path given. given ≡ Some text
