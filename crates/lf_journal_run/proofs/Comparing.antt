-- The replies of a run, compared with the recorded ones.
use Rattle.std.proofs.Common.{◌≡◌, ◌≢◌, ◌⊎◌, ℕ, List, Option, Some, None, Result, Ok, Err, inr, drop, ◌∙◌, ap, subst}
use Rattle.std.specs.Prelude.{IfOk, MatchOption}
use Rattle.lf_rules.specs.Legalizer.{Legalizer}
use Rattle.lf_floor_model.specs.States.{FloorState}
use Rattle.lf_server.specs.declared.serve_loop.Ending.{Ending}
use Rattle.lf_server.specs.declared.serve_loop.Ending.TheVariants.{Done}
use Rattle.lf_journal_text.specs.Records.{Log, segment_of}
use Rattle.lf_journal_run.specs.Beginnings.{due_beginning, other_beginning}
use Rattle.lf_journal_run.specs.Runs.{GetsOtherReply, IsNotRun, NamesRecord, RunsLogs, Writes}
use Rattle.lf_journal_run.specs.Texts.{entries_in, lines_text, replies_text, same_lines}
use Rattle.lf_journal_run.specs.declared.fault.RunError.{RunError}
use Rattle.lf_journal_run.specs.declared.fault.RunError.TheVariants.{Memory, Refused}

-- What the comparison of a text with the due one found.
abbrev pub IsCompared : Ending → List ℕ → List ℕ → Option ℕ → Type 0
IsCompared ending text due found = MatchOption found ((ending ≡ Done) × (text ≡ due))
    (λ number. ((text ≢ due) ⊎ (ending ≢ Done)) × (number ≡ same_lines text due))

pub compared : {E : Type 0} (l : Legalizer) (old new : FloorState) (logs : List Log) (ending : Ending) (lines text due : List ℕ) (found : Result (Option ℕ) E)
    → lines ≡ lines_text (entries_in logs) → due ≡ replies_text (entries_in logs) → Writes l ending old lines text new → IfOk found (IsCompared ending text due)
    → IfOk found (λ f. MatchOption f (RunsLogs l old logs new) (GetsOtherReply l old logs))
compared l old new logs ending lines text due (Err e) lines_is due_is writes is = tt
compared l old new logs ending lines text due (Ok None) lines_is due_is writes (done, same) =
    subst (λ (e : Ending). Writes l e old (lines_text (entries_in logs)) (replies_text (entries_in logs)) new) done
    (subst (λ (t : List ℕ). Writes l ending old (lines_text (entries_in logs)) t new) (same ∙ due_is)
    (subst (λ (x : List ℕ). Writes l ending old x text new) lines_is writes))
compared l old new logs ending lines text due (Ok (Some number)) lines_is due_is writes (other, is) = record {
  ending = ending;
  text = text;
  new = new;
  writes = subst (λ (x : List ℕ). Writes l ending old x text new) lines_is writes;
  other = subst (λ (d : List ℕ). (text ≢ d) ⊎ (ending ≢ Done)) due_is other;
  number_is = is ∙ ap (λ (d : List ℕ). same_lines text d) due_is;
}

-- A journal in which a record gets another reply is not run.
pub not_run : (l : Legalizer) (journal design state : List ℕ) (old : FloorState) (logs : List Log) (number : ℕ) (error : RunError) → segment_of journal ≡ Ok logs
    → other_beginning logs (due_beginning design state) ≡ None → GetsOtherReply l old (drop 1 logs) number → NamesRecord logs number error
    → IsNotRun l journal design state old error
not_run l journal design state old logs number Memory read begins gets names = tt
not_run l journal design state old logs number (Refused refusal) read begins gets names =
    inr (inr (record { logs = logs; read = read; begins = begins; number = number; gets = gets; names = names }))
