-- The numbers of the kinds of damage, after those of the refusals of a state text.
use Rattle.std.specs.Prelude.{ℕ}
use Rattle.lf_journal_text.specs.declared.damage.DamageKind.{DamageKind}
use Rattle.lf_journal_text.specs.declared.damage.DamageKind.TheVariants.{BadGate, BadLength, BadTime, BadSum, BadRecord, OtherVersion}
use Rattle.lf_journal_text.specs.declared.refusal.RefusalKind.{RefusalKind}
use Rattle.lf_journal_text.specs.declared.refusal.RefusalKind.TheVariants.{Damaged, OtherTexts, OtherSessions, OtherState, OtherReply}

abbrev pub number_of : DamageKind → ℕ
number_of OtherVersion = 25
number_of BadGate = 28
number_of BadLength = 29
number_of BadTime = 30
number_of BadSum = 31
number_of BadRecord = 32

-- The numbers of the refusals of a journal.
abbrev pub refusal_number : RefusalKind → ℕ
refusal_number (Damaged kind) = number_of kind
refusal_number OtherTexts = 36
refusal_number OtherSessions = 37
refusal_number OtherState = 38
refusal_number OtherReply = 39
