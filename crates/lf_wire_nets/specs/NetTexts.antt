-- DEF texts: the pins of PINS and the nets of NETS, up to END DESIGN.
use Rattle.std.specs.Prelude.{◌≡◌, ◌⊎◌, ℕ, ◌+◌, ◌-◌, nat_le, Bool, ◌||◌, List, [], ◌∷◌, ◌++◌, length, Result, Err, codes, if◌then◌else◌}
use Rattle.lf_lex.specs.declared.fault.FaultNumber.TheVariants.{Unexpected, TooMany}
use Rattle.lf_lex.specs.declared.fault.ReadFault.{ReadFault}
use Rattle.lf_lex.specs.declared.fault.LoadFault.{LoadFault}
use Rattle.lf_lex.specs.declared.fault.ReadError.TheVariants.{Memory, Fault}
use Rattle.lf_lex.specs.Faults.{load_fault_of}
use Rattle.lf_lex.specs.Tokens.{Lexeme, tokens_of}
use Rattle.lf_lex.specs.Reading.{◌>>=◌, Reader, Statement, Turn, taken, continues, finishes, fault_at, token, is, end_name, to_semicolon, to_end, to_word, block, value_of}
use Rattle.lf_def.specs.Document.{is_skipped_section}
use Rattle.lf_def.specs.Entries.{section}
use Rattle.lf_wire_nets.specs.declared.design_nets.DesignNets.{DesignNets}
use Rattle.lf_wire_nets.specs.DesignPins.{design_pin}
use Rattle.lf_wire_nets.specs.Nets.{design_net}

-- One more net, after its minus. There are at most 16,777,216 nets, with at most 4,294,967,295
-- terms.
unfoldable pub with_net : DesignNets → Lexeme → Reader DesignNets
with_net nets t l =
    if nat_le 16777216 (length nets.nets) then fault_at TooMany t.line
    else (design_net (4294967295 - nets.terms) l >>= λ n.
    taken (record nets { nets = nets.nets ++ n.value ∷ []; terms = nets.terms + length n.value.terms }) n.rest)

-- The minus and a net, or END NETS.
unfoldable pub net_or_end : Statement DesignNets
net_or_end nets l = do
  t ← token l
  if is (codes "-") t.value then (with_net nets t.value t.rest >>= λ new. continues new.value new.rest)
      else if is (codes "END") t.value then (end_name (codes "NETS") t.rest >>= λ stop. finishes nets stop.rest)
      else fault_at Unexpected t.value.line

-- NETS count ; nets END NETS, after its keyword. The count is ignored.
unfoldable pub nets_section : DesignNets → Reader DesignNets
nets_section nets l = do
  start ← to_semicolon l
  block net_or_end nets start.rest

-- True for sections that are skipped up to END and their keyword.
abbrev pub is_other_section : Lexeme → Bool
is_other_section t = is (codes "COMPONENTS") t || is (codes "REGIONS") t || is (codes "GROUPS") t
    || is (codes "BLOCKAGES") t
    || is_skipped_section t

-- Skips a section other than PINS and NETS, or a statement, after its first token.
unfoldable pub skip_other_from : Lexeme → Reader (Unit {0})
skip_other_from t l =
    if is_other_section t then to_end t.text l
    else if is (codes "BEGINEXT") t then to_word (codes "ENDEXT") l
    else if is (codes ";") t then taken tt l
    else to_semicolon l

-- A statement of the text, after its first token. PINS and NETS count. Other statements are skipped.
unfoldable pub nets_statement_from : DesignNets → Lexeme → Reader (Turn DesignNets)
nets_statement_from nets t l =
    if is (codes "END") t then (end_name (codes "DESIGN") l >>= λ stop. finishes nets stop.rest)
    else if is (codes "PINS") t then
    (section (codes "PINS") design_pin nets.pins l >>= λ s. continues (record nets { pins = s.value }) s.rest)
    else if is (codes "NETS") t then (nets_section nets l >>= λ new. continues new.value new.rest)
    else (skip_other_from t l >>= λ stop. continues nets stop.rest)

unfoldable pub nets_statement : Statement DesignNets
nets_statement nets l = do
  t ← token l
  nets_statement_from nets t.value t.rest

abbrev pub no_nets : DesignNets
no_nets = record { pins = []; nets = []; terms = 0 }

-- The pins and nets of a text up to END DESIGN, or the text's first fault.
abbrev pub nets_of : List ℕ → Result DesignNets ReadFault
nets_of text = value_of (block nets_statement no_nets (tokens_of text))

-- Holds if the fault is that of the text, with its line, or a failed allocation.
abbrev pub RefusesNets : LoadFault → Result DesignNets ReadFault → Type 0
RefusesNets fault reading = (fault ≡ load_fault_of Memory)
    ⊎ ((first : ReadFault) × (reading ≡ Err first) × (fault ≡ load_fault_of (Fault first)))
