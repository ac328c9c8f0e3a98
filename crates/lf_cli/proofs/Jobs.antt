-- The job of a subcommand on the paths that were found, and its paths.
use Rattle.std.proofs.Common.{◌≡◌, false, List, [], ◌∷◌, map, Some, refl, sym}
use Rattle.std.specs.Prelude.{bytes_eq, codes}
use Rattle.std.specs.Borrow.{Bor}
use Rattle.std.specs.List.{list_any}
use Rattle.clap.specs.Walk.{Row, Text, first_of}
use Rattle.clap.proofs.WalkLemmas.{list_any-map}
use Rattle.lf_cli.specs.Command.{is_demo, job_by, job_on, values_of}
use Rattle.lf_cli.specs.declared.subcommand.Subcommand.{Subcommand}

-- The path of a DEF file and at least one path of a LEF file are found, so the job is on these
-- paths.
pub whole : (chosen : Subcommand) (def : Text) (lefs : List (Bor Text)) (rows : List Row) → is_demo chosen ≡ false
    → Some def ≡ first_of (codes "def") rows → map (λ lef. lef.now) lefs ≡ values_of (codes "lef") rows → (lefs ≡ [] → ⊥)
    → job_on chosen def (map (λ lef. lef.now) lefs) rows ≡ job_by chosen rows
whole chosen def [] rows looks def_is lefs_are some = absurd (some refl)
whole chosen def (lef ∷ lefs) rows looks def_is lefs_are some = rw (looks, sym def_is, sym lefs_are) refl

-- A path is one of the borrowed paths if it equals one of their texts.
pub listed : (path : Text) (paths : List (Bor Text))
    → list_any (λ other. bytes_eq path other.now) paths ≡ list_any (bytes_eq path) (map (λ other. other.now) paths)
listed path paths = list_any-map (bytes_eq path) (λ other. other.now) paths
