-- The words of orientations (LEF/DEF 5.8, DEF COMPONENTS and ROW).
use Rattle.std.specs.Prelude.{ℕ, List, codes}
use Rattle.lf_orient.specs.declared.Orient.{Orient}
use Rattle.lf_orient.specs.declared.Orient.TheVariants.{N, W, S, E, FN, FW, FS, FE}

-- The word of an orientation.
abbrev pub orient_word : Orient → List ℕ
orient_word N = codes "N"
orient_word W = codes "W"
orient_word S = codes "S"
orient_word E = codes "E"
orient_word FN = codes "FN"
orient_word FW = codes "FW"
orient_word FS = codes "FS"
orient_word FE = codes "FE"
