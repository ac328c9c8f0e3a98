-- Printed tokens that a reader skips.
use Rattle.std.specs.Prelude.{◌≢◌, ℕ, List, ◌++◌, map}
use Rattle.lf_lex.specs.Tokens.{PlainToken}

abbrev pub token_text : PlainToken → List ℕ
token_text t = t.text

-- Holds if these words occur in this order nowhere among these tokens, each directly after the one
-- in front of it.
abbrev pub OccurNowhere : List (List ℕ) → List PlainToken → Type 0
OccurNowhere words tokens = (before after : List (List ℕ)) → map token_text tokens ≢ before ++ (words ++ after)
