-- The two ends of names by which patterns with a star are stored.
use Rattle.std.specs.Prelude.{ℕ, ◌-◌, List, length, take, drop}
use Rattle.lf_names.specs.Pattern.{prefix_of, suffix_of}
use Rattle.lf_frame.specs.declared.name_end.End.{End}
use Rattle.lf_frame.specs.declared.name_end.End.TheVariants.{Front, Back}

-- The key of a pattern at an end: the bytes that each matching name has there.
abbrev pub key_of : End → List ℕ → List ℕ
key_of Front pattern = prefix_of pattern
key_of Back pattern = suffix_of pattern

-- The first or last `count` bytes of a name.
abbrev pub name_part_at : End → ℕ → List ℕ → List ℕ
name_part_at Front count name = take count name
name_part_at Back count name = drop (length name - count) name
