-- Lines of a message, one after the other.
use Rattle.std.proofs.Common.{◌≡◌, ℕ, List, [], ◌∷◌, ◌++◌, Option, Some, None, Result, Ok, Err, append-nil, refl, sym}
use Rattle.std.specs.Prelude.{OnOk, codes, flat_map, if◌then◌else◌, is_some, option_map}
use Rattle.std.specs.Io.KnownBytes.{Appends}
use Rattle.std.proofs.KnownBytes.{Appends-nil}
use Rattle.std.proofs.lemmas.List.Concat.{flat_map-append}
use Rattle.lf_io.proofs.Known.{Appends-more, Appends-same}
use Rattle.lf_cli.specs.declared.help.Help.{Help}
use Rattle.lf_cli.specs.declared.help.Help.TheVariants.{Of}
use Rattle.lf_cli.specs.declared.subcommand.Subcommand.{Subcommand}
use Rattle.lf_task_usage.specs.Usage.{AppendsLines, hint_text, message_line, usage_text}

-- No line is written.
pub nothing_said : (a : Option (List ℕ)) → AppendsLines a a
nothing_said a = ([], Appends-nil a)

-- One line is written.
pub line_said : (a b : Option (List ℕ)) (line : List ℕ) → Appends a b (message_line line) → AppendsLines a b
line_said a b line put = (line ∷ [], Appends-same a b _ _ (sym (append-nil (message_line line))) put)

-- More lines are written.
pub also_said : (a b c : Option (List ℕ)) → AppendsLines a b → AppendsLines b c → AppendsLines a c
also_said a b c (first, put) (more, next) =
    (first ++ more, Appends-same a c _ _ (sym (flat_map-append message_line first more)) (Appends-more a b c _ _ put next))

-- The line that is written on success, if any.
pub said_on_ok : {T E : Type 0} (r : Result T E) (a b : Option (List ℕ)) (line : List ℕ) → OnOk r (Appends a b (message_line line)) → OnOk r (AppendsLines a b)
said_on_ok (Ok value) a b line put = line_said a b line put
said_on_ok (Err fault) a b line put = tt

-- Bytes that were appended come before those that are appended on success.
pub before : {T E : Type 0} (r : Result T E) (a b c : Option (List ℕ)) (xs ys : List ℕ) → Appends a b xs → OnOk r (Appends b c ys)
    → OnOk r (Appends a c (xs ++ ys))
before (Ok value) a b c xs ys first next = Appends-more a b c xs ys first next
before (Err fault) a b c xs ys first next = tt

-- The hint for the word of a subcommand, and for another word.
pub hint_named : (found : Option Subcommand) (help : Help) (one any : List ℕ) → option_map (λ chosen. Of chosen) found ≡ Some help → (if is_some found then one else any) ≡ one
hint_named (Some chosen) help one any is = refl
hint_named None help one any is = absurd (cc is)

pub hint_unnamed : (found : Option Subcommand) (one any : List ℕ) → option_map (λ chosen. Of chosen) found ≡ None → (if is_some found then one else any) ≡ any
hint_unnamed None one any is = refl
hint_unnamed (Some chosen) one any is = absurd (cc is)

-- The first line, the lines of the argument parser, and the hint make the whole message.
pub whole_message : {T E : Type 0} (r : Result T E) (a b c d : Option (List ℕ)) (words : List (List ℕ)) → Appends a b (message_line (codes "usage")) → AppendsLines b c
    → OnOk r (Appends c d (hint_text words)) → OnOk r ((said : List (List ℕ)) × Appends a d (usage_text said words))
whole_message (Ok value) a b c d words line (said, lines) hint = (said, Appends-more a c d _ _ (Appends-more a b c _ _ line lines) hint)
whole_message (Err fault) a b c d words line lines hint = tt
