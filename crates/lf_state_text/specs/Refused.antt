-- The refusal of a text in chunks.
use Rattle.std.specs.Prelude.{◌≡◌, ◌<◌, ℕ, List, ◌++◌, Result, Ok, Err}
use Rattle.lf_lex.specs.Tokens.{line_feeds}
use Rattle.lf_state_text.specs.declared.fault.StateFault.{StateFault}
use Rattle.lf_state_text.specs.declared.refusal.StateRefused.{StateRefused}
use Rattle.lf_state_text.specs.declared.refusal.ChunkError.{ChunkError}
use Rattle.lf_state_text.specs.declared.refusal.ChunkError.TheVariants as pieces
use Rattle.lf_state_text.specs.Pieces.{AreLines}
use Rattle.lf_state_text.specs.Reading.{TextFault, fault_with_line}

-- the result of a function, seen by a view, is the result of reading, unless memory ran out
abbrev pub FailsIn : {Y : Type 0} → ChunkError → Result Y StateFault → Type 0
FailsIn pieces.Memory read = Unit {0}
FailsIn (pieces.Refused r) read = read ≡ Err r.fault

abbrev pub ReturnsIn : {X Y : Type 0} → (X → Y) → Result X ChunkError → Result Y StateFault → Type 0
ReturnsIn view (Ok x) read = read ≡ Ok (view x)
ReturnsIn view (Err e) read = FailsIn e read

-- the error is the fault with its line in the text, unless memory ran out
abbrev pub IsRefusedState : List ℕ → TextFault → ChunkError → Type 0
IsRefusedState text fault pieces.Memory = Unit {0}
IsRefusedState text fault (pieces.Refused r) = r.fault ≡ fault_with_line text fault

-- it has the end of the text, after the number of whole lines that it gives; the fault is not on
-- those lines
pub record HasEnd (text : List ℕ) (r : StateRefused) : Type 0 where
  pub gone : List ℕ
  pub whole : AreLines gone
  pub is : text ≡ gone ++ r.end.items
  pub lines : line_feeds gone ≡ r.lines
  pub after_it : r.lines < r.fault.line

abbrev pub HoldsEnd : List ℕ → ChunkError → Type 0
HoldsEnd text pieces.Memory = Unit {0}
HoldsEnd text (pieces.Refused r) = HasEnd text r
