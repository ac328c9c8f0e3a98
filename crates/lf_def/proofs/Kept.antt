-- What follows a component, a statement or the end of the design does not affect it.
use Rattle.std.proofs.Common.{◌≡◌, ℕ, ◌&&◌, List, ◌∷◌, ◌++◌, length, take, Option, Some, None, Result, refl, sym, ap, ◌∙◌}
use Rattle.std.specs.Prelude.{codes, nat_lt}
use Rattle.lf_lex.specs.declared.fault.ReadFault.{ReadFault}
use Rattle.lf_lex.specs.Tokens.{Lexed, Lexeme, with_tokens, tokens_of, tokens_from}
use Rattle.lf_lex.specs.Reading.{Reader, ReadValue, token, lexed_after, is, is_word, word, name, keyword, end_name, to_semicolon, block, value_of}
use Rattle.lf_lex.proofs.Runs.{same_run}
use Rattle.lf_lex.proofs.Following.{keyword_follows, end_name_follows, to_semicolon_follows}
use Rattle.lf_def.specs.declared.section.Due.{Due}
use Rattle.lf_def.specs.declared.section.Due.TheVariants.{Item, Keyword, Rest, Separator}
use Rattle.lf_def.specs.declared.components.Component.{Component}
use Rattle.lf_def.specs.declared.components.ComponentParts.{ComponentParts}
use Rattle.lf_def.specs.declared.components.PlacementClause.{PlacementClause}
use Rattle.lf_def.specs.declared.components.PlacementKind.{PlacementKind}
use Rattle.lf_def.specs.declared.components.PlacementKind.TheVariants.{Fixed, Cover, Placed}
use Rattle.lf_def.specs.declared.doc_parts.DocParts.{DocParts}
use Rattle.lf_def.specs.Coordinates.{point_rest, orient_of}
use Rattle.lf_def.specs.Entries.{entry_or_end, section}
use Rattle.lf_def.specs.Header.{is_header, header_statement}
use Rattle.lf_def.specs.Rows.{with_row}
use Rattle.lf_def.specs.Regions.{regions}
use Rattle.lf_def.specs.Groups.{groups}
use Rattle.lf_def.specs.Blockages.{blockages}
use Rattle.lf_def.specs.Components.{located_rest, placed_clause, unplaced_clause, is_placement_word, placement, only_placement, clause, unplaced_point, component_part}
use Rattle.lf_def.specs.Components.{component_from, component_token, no_component, component, components}
use Rattle.lf_def.specs.Document.{skip_from, end_design, body_statement, def_statement_from, def_statement, no_parts, document_from}
use Rattle.lf_def.specs.Laws.{UnreadDefBytesDoNotMatter}
use Rattle.lf_def.proofs.Following.{point_rest_follows, header_follows, entry_from, entry_or_end_goes}
use Rattle.lf_def.proofs.Places.{with_row_follows, regions_alike, groups_alike, blockages_alike, passed_follows, end_design_follows, component_follows}
use Rattle.lf_def.proofs.Places.{component_token_goes, statement_goes}
use Rattle.lf_def.proofs.Local.{Local, local_of, local_pure, local_fault, local_choose, local_given, local_bind, token_local, local_block}
use Rattle.lf_lex.proofs.Cutting.{cut_tokens, split_tokens}

word_local : Local word
unfolding word
word_local = local_bind token _ token_local (λ t. local_choose (is_word t) _ _ (local_pure t) (local_fault _))

pub name_local : Local name
unfolding name
name_local = local_bind word _ word_local (λ t. local_choose (nat_lt 1024 (length t.text)) _ _ (local_fault _) (local_pure t))

located_local : Local located_rest
unfolding located_rest
located_local = local_bind point_rest _ (local_of point_rest point_rest_follows)
    (λ p. local_bind token _ token_local (λ t. local_given (orient_of t) _ (λ o. local_pure _)))

placed_local : (kind : PlacementKind) (plus : ℕ) → Local (placed_clause kind plus)
unfolding placed_clause
placed_local kind plus = local_bind (keyword (codes "(")) _ (local_of (keyword (codes "(")) (keyword_follows (codes "(")))
    (λ s. local_bind located_rest _ located_local (λ p. local_pure _))

placement_local : (plus : ℕ) (t : Lexeme) → Local (placement plus t)
unfolding placement
placement_local plus t =
    local_choose (is (codes "FIXED") t) _ _ (placed_local Fixed plus)
    (local_choose (is (codes "COVER") t) _ _ (placed_local Cover plus)
    (local_choose (is (codes "PLACED") t) _ _ (placed_local Placed plus) (local_pure (unplaced_clause plus t))))

only_local : (first : Option PlacementClause) (plus : ℕ) (t : Lexeme) → Local (only_placement first plus t)
unfolding only_placement
only_local None plus t = placement_local plus t
only_local (Some first) plus t = local_fault _

clause_local : (s : ComponentParts) (t : Lexeme) → Local (clause s t)
unfolding clause
clause_local s t = local_choose (is_placement_word t) _ _ (local_bind (only_placement s.placement s.plus t) _ (only_local s.placement s.plus t)
    (λ p. local_pure _)) (local_pure _)

point_local : (s : ComponentParts) → Local (unplaced_point s)
unfolding unplaced_point
point_local s = local_bind located_rest _ located_local (λ p. local_pure _)

part_local : (due : Due) (s : ComponentParts) (t : Lexeme) → Local (component_part due s t)
unfolding component_part
part_local Item s t = local_pure _
part_local Keyword s t = clause_local s t
part_local Rest s t = local_pure _
part_local Separator s t = local_choose (s.point && is (codes "(") t) _ _ (point_local s) (local_fault _)

from_local : (s : ComponentParts) (t : Lexeme) → Local (component_from s t)
unfolding component_from
from_local s t = local_choose (is (codes ";") t) _ _ (local_pure _) (local_choose (is (codes "+") t) _ _ (local_pure _) (part_local s.due s t))

pub component_token_local : (s : ComponentParts) → Local (component_token s)
unfolding component_token
component_token_local s = local_bind token _ token_local (λ t. from_local s t)

pub component_local : Local component
unfolding component
component_local =
    local_bind name _ name_local (λ n. local_bind name _ name_local (λ k.
    local_bind (block component_token no_component) _ (local_block component_token component_token_local component_token_goes no_component)
    (λ p. local_pure _)))

entry_local : {A : Type 0} (due : List ℕ) (entry : Reader A) → Local entry → (s : List A) (t : Lexeme) → Local (entry_from due entry s t)
unfolding entry_from
entry_local due entry f s t =
    local_choose (is (codes "-") t) _ _ (local_bind entry _ f (λ x. local_pure _))
    (local_choose (is (codes "END") t) _ _ (local_bind (end_name due) _ (local_of (end_name due) (end_name_follows due)) (λ x. local_pure _)) (local_fault _))

entry_or_end_local : {A : Type 0} (due : List ℕ) (entry : Reader A) → Local entry → (s : List A) → Local (entry_or_end due entry s)
unfolding entry_or_end entry_from
entry_or_end_local due entry f s = local_bind token (λ t. entry_from due entry s t.value t.rest) token_local (λ t. entry_local due entry f s t)

components_local : (s : List Component) → Local (components s)
unfolding section
components_local s =
    local_bind to_semicolon _ (local_of to_semicolon to_semicolon_follows) (λ x.
    local_block (entry_or_end (codes "COMPONENTS") component) (entry_or_end_local (codes "COMPONENTS") component component_local)
    (entry_or_end_goes _ (codes "COMPONENTS") component component_follows) s)

body_local : (s : DocParts) (t : Lexeme) → Local (body_statement s t)
unfolding body_statement
body_local s t =
    local_choose (is (codes "ROW") t) _ _ (local_bind (with_row s.rows) _ (local_of (with_row s.rows) (with_row_follows s.rows)) (λ x. local_pure _))
    (local_choose (is (codes "REGIONS") t) _ _ (local_bind (regions s.regions) _ (local_of (regions s.regions) (regions_alike s.regions s.regions refl))
    (λ x. local_pure _))
    (local_choose (is (codes "GROUPS") t) _ _ (local_bind (groups s.groups) _ (local_of (groups s.groups) (groups_alike s.groups s.groups refl))
    (λ x. local_pure _))
    (local_choose (is (codes "COMPONENTS") t) _ _ (local_bind (components s.components) _ (components_local s.components) (λ x. local_pure _))
    (local_choose (is (codes "BLOCKAGES") t) _ _ (local_bind (blockages s.blockages) _
    (local_of (blockages s.blockages) (blockages_alike s.blockages s.blockages refl)) (λ x. local_pure _))
    (local_bind (skip_from t) _ (local_of (skip_from t) (passed_follows t t refl)) (λ x. local_pure _))))))

statement_from_local : (s : DocParts) (t : Lexeme) → Local (def_statement_from s t)
unfolding def_statement_from
statement_from_local s t =
    local_choose (is (codes "END") t) _ _ (local_bind (end_design s) _ (local_of (end_design s) (end_design_follows s)) (λ x. local_pure _))
    (local_choose (is_header t) _ _ (local_bind (header_statement s.header t) _ (local_of (header_statement s.header t) (header_follows s.header t t refl))
    (λ x. local_pure _))
    (local_bind (body_statement s t) _ (body_local s t) (λ x. local_pure _)))

pub statement_local : (s : DocParts) → Local (def_statement s)
unfolding def_statement
statement_local s = local_bind token _ token_local (λ t. statement_from_local s t)

pub statements_local : (s : DocParts) → Local (block def_statement s)
statements_local s = local_block def_statement statement_local statement_goes s

-- The tokens after END DESIGN.

pub ends_before : (text : List ℕ) → UnreadDefBytesDoNotMatter text
ends_before text read t after parts e h bytes =
    let rest = lexed_after (t ∷ after) (tokens_of text) in
    let r = statements_local no_parts (tokens_of text) rest parts h in
    let whole = split_tokens (tokens_of text) read (t ∷ after) e in
    let front : read ≡ r.run = same_run read r.run (tokens_of text) rest whole r.whole in
    let new = tokens_from 0 t.start t.line bytes in
    let cut = cut_tokens text bytes read t after e in
    let again = r.still new in
    let there : tokens_of (take t.start text ++ bytes) ≡ with_tokens r.run new = cut ∙ ap (λ (z : List Lexeme). with_tokens z new) front in
    let one = ap (λ (z : Lexed). document_from (value_of (block def_statement no_parts z))) there
    ∙ ap (λ (z : Result (ReadValue DocParts) ReadFault). document_from (value_of z)) again in
    one ∙ sym (ap (λ (z : Result (ReadValue DocParts) ReadFault). document_from (value_of z)) h)
