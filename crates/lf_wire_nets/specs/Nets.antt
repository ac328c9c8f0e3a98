-- DEF NETS: - name { ( component pin .. ) } {+ clause} ;
use Rattle.std.specs.Prelude.{ℕ, nat_le, Bool, false, ◌||◌, [], ◌∷◌, ◌++◌, length, Some, None, codes, unwrap_or, if◌then◌else◌}
use Rattle.lf_lex.specs.declared.fault.FaultNumber.TheVariants.{Unexpected, TooMany}
use Rattle.lf_lex.specs.Tokens.{Lexeme}
use Rattle.lf_lex.specs.Reading.{◌>>=◌, Reader, Statement, Turn, taken, continues, finishes, fault_at, token, word, name, is, to_word, block, first_counts}
use Rattle.lf_wire_nets.specs.declared.nets.Expected.{Expected}
use Rattle.lf_wire_nets.specs.declared.nets.Expected.TheVariants.{Term, Clause, Rest}
use Rattle.lf_wire_nets.specs.declared.nets.NetParts.{NetParts}
use Rattle.lf_wire_nets.specs.declared.nets.DesignNet.{DesignNet}
use Rattle.lf_wire_nets.specs.declared.net_terms.NetTerm.{NetTerm}

-- A name in parentheses, which is not the closing one.
unfoldable pub term_name : Reader Lexeme
term_name l = do
  n ← name l
  if is (codes ")") n.value then fault_at Unexpected n.value.line else taken n.value n.rest

-- The pin with the second name: of the design after PIN, else of the component with the first name.
abbrev pub term_of : Lexeme → Lexeme → NetTerm
term_of first second =
    record { component = if is (codes "PIN") first then None else Some first.text; pin = second.text }

-- component pin .. ) or PIN pin .. ) after the first parenthesis. Tokens after the pin are skipped.
unfoldable pub net_term : Reader NetTerm
net_term l = do
  first ← term_name l
  second ← term_name first.rest
  stop ← to_word (codes ")") second.rest
  taken (term_of first.value second.value) stop.rest

-- One more term, after its parenthesis, given how many terms the net may have.
unfoldable pub with_term : ℕ → NetParts → Lexeme → Reader (Turn NetParts)
with_term most parts t l =
    if nat_le most (length parts.terms) then fault_at TooMany t.line
    else (net_term l >>= λ n. continues (record parts { terms = parts.terms ++ n.value ∷ [] }) n.rest)

abbrev pub is_supply_word : Lexeme → Bool
is_supply_word t = is (codes "POWER") t || is (codes "GROUND") t

-- A clause, after its plus and its word. The first USE counts. Of other clauses only the word is
-- read.
unfoldable pub net_clause : NetParts → Lexeme → Reader (Turn NetParts)
net_clause parts t l =
    if is (codes "USE") t then (word l >>= λ w.
    continues (record parts { supply = first_counts parts.supply (is_supply_word w.value); expected = Rest }) w.rest)
    else continues (record parts { expected = Rest }) l

-- The part of a net that begins with a token, which is no separator. Tokens after the word of a
-- clause are skipped.
unfoldable pub net_part : ℕ → Expected → NetParts → Lexeme → Reader (Turn NetParts)
net_part most Term parts t l = if is (codes "(") t then with_term most parts t l else fault_at Unexpected t.line
net_part most Clause parts t l = net_clause parts t l
net_part most Rest parts t l = continues parts l

-- The part of a net that begins with a token. A semicolon is the last, and a plus begins a clause.
unfoldable pub net_part_from : ℕ → NetParts → Lexeme → Reader (Turn NetParts)
net_part_from most parts t l =
    if is (codes ";") t then finishes parts l
    else if is (codes "+") t then continues (record parts { expected = Clause }) l
    else net_part most parts.expected parts t l

unfoldable pub net_statement : ℕ → Statement NetParts
net_statement most parts l = do
  t ← token l
  net_part_from most parts t.value t.rest

abbrev pub no_net_parts : NetParts
no_net_parts = record { terms = []; supply = None; expected = Term }

-- A net after its minus, given how many terms it may have. Its name is not kept.
unfoldable pub design_net : ℕ → Reader DesignNet
design_net most l = do
  n ← name l
  parts ← block (net_statement most) no_net_parts n.rest
  taken (record { terms = parts.value.terms; supply = unwrap_or parts.value.supply false }) parts.rest
