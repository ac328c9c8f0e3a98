-- Bounds on the length of a reply's text.
use Rattle.std.proofs.Common.{◌≡◌, ℕ, ◌+◌, ◌≤◌, List, [], ◌∷◌, ◌++◌, length, arith, length-append, refl}
use Rattle.std.specs.List.{join_with_byte}
use Rattle.std.proofs.Common.{◌<◌}
use Rattle.std.specs.Prelude.{None, Some, codes, decimal}
use Rattle.std.proofs.lemmas.Fmt.{length-decimal-le}
use Rattle.lf_rules.specs.declared.rule.Rule.{Rule}
use Rattle.lf_rules.specs.declared.rule.Rule.TheVariants.{Height, Row, Stand, Orient, Rail, Fence, Obstacle, Overlap}
use Rattle.lf_rules.specs.Legality.{number_of}
use Rattle.lf_proto.specs.declared.reply.Reply.TheVariants.{Refused}
use Rattle.lf_proto.specs.declared.reply.Refusal.{Refusal}
use Rattle.lf_proto.specs.declared.reply.Refusal.TheVariants.{BadRequest, NoTeam, NoSession, Stale, NoCell, Unplaced, Illegal, NoPlace, NothingToUndo}
use Rattle.lf_proto.specs.declared.reply.Refusal.TheVariants.{SessionsFull, RevisionsSpent, OutOfMemory}
use Rattle.lf_proto.specs.ReplyText.{spaced_line, refusal_words, reply_text}

-- The bytes of the words, and one more for each word.
abbrev pub total : List (List ℕ) → ℕ
total [] = 0
total (w ∷ ws) = length w + (1 + total ws)

joined_within : (words : List (List ℕ)) → length (join_with_byte 32 words) ≤ total words
joined_within [] = omega arith
joined_within (w ∷ []) = omega arith
joined_within (w ∷ v ∷ ws) = omega (arith, length-append w (32 ∷ join_with_byte 32 (v ∷ ws)), joined_within (v ∷ ws))

-- A line is no longer than its words with one byte for each, and its line feed.
pub line_within : (words : List (List ℕ)) → length (spaced_line words ++ []) ≤ total words + 1
line_within words =
    omega (arith, length-append (spaced_line words) [], length-append (join_with_byte 32 words) (10 ∷ []), joined_within words)

number_small : (rule : Rule) → number_of rule < 10
number_small Height = omega arith
number_small Row = omega arith
number_small Stand = omega arith
number_small Orient = omega arith
number_small Rail = omega arith
number_small Fence = omega arith
number_small Obstacle = omega arith
number_small Overlap = omega arith

rule_short : (rule : Rule) → length (decimal (number_of rule)) ≤ 1
rule_short rule = length-decimal-le 1 (number_of rule) (omega arith) (omega (arith, number_small rule)) (omega (arith, number_small rule))

-- The line of a refusal other than `Stale`, whose revision is any number.
pub refusal_within : (r : Refusal) (a b : List ℕ) → ((revision : ℕ) → r ≡ Stale revision → ⊥) → length a ≤ 1024 → length b ≤ 1024
    → length (reply_text (Refused r) a b) ≤ 4096
refusal_within BadRequest a b other p q = omega (arith, line_within (codes "no" ∷ refusal_words BadRequest a b))
refusal_within NoTeam a b other p q = omega (arith, line_within (codes "no" ∷ refusal_words NoTeam a b))
refusal_within NoSession a b other p q = omega (arith, line_within (codes "no" ∷ refusal_words NoSession a b))
refusal_within (Stale revision) a b other p q = absurd (other revision refl)
refusal_within NoCell a b other p q = omega (arith, line_within (codes "no" ∷ refusal_words NoCell a b))
refusal_within (Unplaced cell) a b other p q = omega (arith, p, line_within (codes "no" ∷ refusal_words (Unplaced cell) a b))
refusal_within (Illegal rule cell None) a b other p q =
    omega (arith, p, rule_short rule, line_within (codes "no" ∷ refusal_words (Illegal rule cell None) a b))
refusal_within (Illegal rule cell (Some second)) a b other p q =
    omega (arith, p, q, rule_short rule, line_within (codes "no" ∷ refusal_words (Illegal rule cell (Some second)) a b))
refusal_within (NoPlace cell) a b other p q = omega (arith, p, line_within (codes "no" ∷ refusal_words (NoPlace cell) a b))
refusal_within NothingToUndo a b other p q = omega (arith, line_within (codes "no" ∷ refusal_words NothingToUndo a b))
refusal_within SessionsFull a b other p q = omega (arith, line_within (codes "no" ∷ refusal_words SessionsFull a b))
refusal_within RevisionsSpent a b other p q = omega (arith, line_within (codes "no" ∷ refusal_words RevisionsSpent a b))
refusal_within OutOfMemory a b other p q = omega (arith, line_within (codes "no" ∷ refusal_words OutOfMemory a b))
