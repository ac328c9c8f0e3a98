-- The bytes at the ends of names that a pattern matches.
use Rattle.std.proofs.Common.{◌≡◌, ℕ, ◌+◌, ◌-◌, ◌≤◌, List, length, take, drop, ap, ◌∙◌, arith, length-append}
use Rattle.std.proofs.Math.Seq.{take-append_seam}
use Rattle.std.proofs.lemmas.List.{drop_at}
use Rattle.lf_names.specs.Pattern.{parts_of, prefix_of, suffix_of, Matches}
use Rattle.lf_names.proofs.Parts.{begins_before_star, ends_after_star}
use Rattle.lf_frame.specs.declared.name_end.End.{End}
use Rattle.lf_frame.specs.declared.name_end.End.TheVariants.{Front, Back}
use Rattle.lf_frame.specs.Ends.{key_of, name_part_at}

-- The bytes at the end of a matching name, as many as the key has, are the key.
pub part_is_key : (end : End) (pattern name : List ℕ) → Matches pattern name →
    (length (key_of end pattern) ≤ length name) × (name_part_at end (length (key_of end pattern)) name ≡ key_of end pattern)
part_is_key Front pattern name h =
    let begins = begins_before_star (parts_of pattern) name h in
    let long : length name ≡ length (prefix_of pattern) + length begins.0 = ap length begins.1 ∙ length-append (prefix_of pattern) begins.0 in
    (omega arith, ap (take (length (prefix_of pattern))) begins.1 ∙ take-append_seam (prefix_of pattern) begins.0)
part_is_key Back pattern name h =
    let ends = ends_after_star (parts_of pattern) name h in
    let long : length name ≡ length ends.0 + length (suffix_of pattern) = ap length ends.1 ∙ length-append ends.0 (suffix_of pattern) in
    let start : ℕ = length name - length (suffix_of pattern) in
    (omega arith, ap (drop start) ends.1 ∙ drop_at ends.0 (suffix_of pattern) start (omega arith))
