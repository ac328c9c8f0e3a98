-- The inputs of a task.
use Rattle.std.specs.Prelude.{ℕ, List, Option, option_map}
use Rattle.std.specs.Borrow.{Bor}

-- The given path, if any.
abbrev pub path_of : Option (Bor (List ℕ)) → Option (List ℕ)
path_of path = option_map (λ path. path.now) path
