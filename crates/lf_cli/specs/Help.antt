-- Requests for help and for the version.
use Rattle.std.specs.Prelude.{◌||◌, ℕ, Bool, List, [], ◌∷◌, Option, Some, None, option_map, bytes_eq, codes, if◌then◌else◌}
use Rattle.lf_cli.specs.Command.{subcommand_named}
use Rattle.lf_cli.specs.declared.help.Help.{Help}
use Rattle.lf_cli.specs.declared.help.Help.TheVariants.{Program, Version, Of}

-- True if the word requests help.
abbrev pub is_help : List ℕ → Bool
is_help word = bytes_eq word (codes "--help") || bytes_eq word (codes "-h")

-- The help that the words request. The program's name is followed by '--help', '-h' or '--version'
-- alone, or by a subcommand and '--help' or '-h'.
abbrev pub help_requested : List (List ℕ) → Option Help
help_requested (name ∷ word ∷ []) =
    if is_help word then Some Program
    else if bytes_eq word (codes "--version") then Some Version
    else None
help_requested (name ∷ subcommand ∷ word ∷ []) =
    if is_help word then option_map (λ chosen. Of chosen) (subcommand_named subcommand) else None
help_requested _ = None
