-- A written text is read back.
use Rattle.std.proofs.Common.{◌≡◌, ℕ, ◌+◌, ◌<◌, ◌≤◌, ◌^◌, List, [], ◌∷◌, ◌++◌, length, Ok, refl, sym, ap, subst, ◌∙◌, append_assoc, arith}
use Rattle.std.specs.Prelude.{codes, IfSome}
use Rattle.std.specs.Fmt.{decimal}
use Rattle.std.specs.List.{flat_map, AllByRecursion}
use Rattle.std.proofs.lemmas.List.{append-nil}
use Rattle.lf_floorplan.specs.declared.limits.Limits.{Limits}
use Rattle.lf_undo.specs.declared.moves.Move.{Move}
use Rattle.lf_proto.specs.ReplyText.{spaced_line}
use Rattle.lf_state_text.specs.declared.fault.StateFaultNumber.{StateFaultNumber}
use Rattle.lf_state_text.specs.declared.fault.StateFaultNumber.TheVariants.{Unexpected, OtherDesign}
use Rattle.lf_state_text.specs.declared.saved_rows.SavedCell.{SavedCell}
use Rattle.lf_state_text.specs.Designs.{NamedDesign, NamedTeam}
use Rattle.lf_state_text.specs.Words.{place_text, slot_text}
use Rattle.lf_state_text.specs.Saved.{SavedTeam, AreSaved, Both, HasWords, IsSpot, IsSpottedCell, IsSpottedEntry, IsSavedTeamOf, lines_by, slot_line, cell_line, move_line, entry_lines, head_line, saved_team_lines, title, state_text}
use Rattle.lf_state_text.specs.Reading.{Numbers, slot_at, read_cell, move_at, entry_at, named_at, numbers_at, rows_at, team_at, opening_at, all_at, saved_state_of, many_at, each_at, due_at, with_fault_line}
use Rattle.lf_state_text.proofs.Fields.{after_it-front, due-again, number-again, below-again, count-again, spot-in, spot-last, slot-again}
use Rattle.lf_state_text.proofs.Lines.{line-rest}
use Rattle.lf_state_text.proofs.Loop.{many-again, each-again}

-- ---- facts about joined lists

both_all : {X : Type 0} (P Q : X → Type 0) (xs : List X) → AllByRecursion P xs → AllByRecursion Q xs → AllByRecursion (λ x. P x × Q x) xs
both_all P Q [] all more = tt
both_all P Q (x ∷ xs) all more = ((all.0, more.0), both_all P Q xs all.1 more.1)

both_long : {A B : Type 0} (P : B → Type 0) (firsts : List A) (seconds : List B) → length seconds ≡ length firsts → AllByRecursion P seconds → Both (λ a b. P b) firsts seconds
both_long P [] [] long all = tt
both_long P [] (b ∷ seconds) long all = absurd (omega (arith, long))
both_long P (a ∷ firsts) [] long all = absurd (omega (arith, long))
both_long P (a ∷ firsts) (b ∷ seconds) long all = (all.0, both_long P firsts seconds (omega (arith, long)) all.1)

both_with : {A B : Type 0} (H : A → B → Type 0) (P : B → Type 0) (firsts : List A) (seconds : List B) → Both H firsts seconds → AllByRecursion P seconds → Both (λ a b. H a b × P b) firsts seconds
both_with H P [] [] both all = tt
both_with H P [] (b ∷ seconds) both all = absurd both
both_with H P (a ∷ firsts) [] both all = absurd both
both_with H P (a ∷ firsts) (b ∷ seconds) both all = ((both.0, all.0), both_with H P firsts seconds both.1 all.1)

-- ---- lines

space-again : (n : StateFaultNumber) (rest : List ℕ) → due_at n (codes " ") (32 ∷ rest) ≡ Ok rest
space-again n rest = due-again n (codes " ") rest

slot_line-again : (revision : ℕ) → revision < 2 ^ 32 → (s : _) (rest : List ℕ) → IfSome s (λ seen. seen ≤ revision) → slot_at revision (slot_line s ++ rest) ≡ Ok (s, rest)
slot_line-again revision small s rest within = ap (slot_at revision) (line-rest (slot_text s) [] rest) ∙ slot-again revision s rest small within

cell_line-again : (name : List ℕ) (c : SavedCell) (rest : List ℕ) → IsSpottedCell c → read_cell name (cell_line name c ++ rest) ≡ Ok (c, rest)
unfolding read_cell
cell_line-again name c rest fits =
    let last = place_text c.committed ++ (10 ∷ rest) in
    let between = place_text c.working ++ (32 ∷ last) in
    ap (read_cell name) (line-rest name (place_text c.working ∷ place_text c.committed ∷ []) rest)
    ∙ rw (due-again OtherDesign name (32 ∷ between), space-again OtherDesign between, spot-in c.working last fits.0, spot-last c.committed rest fits.1) refl

move_line-again : (cells : ℕ) → cells < 2 ^ 32 → (m : Move) (rest : List ℕ) → (m.own < cells) × IfSome m.place IsSpot → move_at cells (move_line m ++ rest) ≡ Ok (m, rest)
unfolding move_at
move_line-again cells small m rest fits =
    let own = fits.0 in
    ap (move_at cells) (line-rest (decimal m.own) (place_text m.place ∷ []) rest)
    ∙ rw (below-again cells 32 m.own (place_text m.place ++ (10 ∷ rest)) (omega arith) (omega arith) own, spot-last m.place rest fits.1) refl

entry_lines-again : (cells : ℕ) → cells < 2 ^ 32 → (ms : List Move) (rest : List ℕ) → AllByRecursion (λ m. m.own < cells) ms × IsSpottedEntry ms
    → entry_at cells (entry_lines ms ++ rest) ≡ Ok (ms, rest)
unfolding entry_at
entry_lines-again cells small ms rest fits =
    let moves = flat_map move_line ms ++ rest in
    let counted = decimal (length ms) ++ (10 ∷ moves) in
    let undo : due_at Unexpected (codes "undo ") (codes "undo" ++ (32 ∷ counted)) ≡ Ok counted = due-again Unexpected (codes "undo ") counted in
    ap (entry_at cells) (append_assoc (spaced_line (codes "undo" ∷ decimal (length ms) ∷ [])) (flat_map move_line ms) rest ∙ line-rest (codes "undo") (decimal (length ms) ∷ []) moves)
    ∙ rw (undo, number-again 10 (length ms) moves (omega arith) fits.1.0)
    (many-again (move_at cells) move_line (λ m. (m.own < cells) × IfSome m.place IsSpot) (move_line-again cells small) ms rest
    (both_all (λ (m : Move). m.own < cells) (λ (m : Move). IfSome m.place IsSpot) ms fits.0 fits.1.1))

-- ---- a team's first line

named-again : (name rest : List ℕ) → named_at name (codes "team" ++ (32 ∷ (name ++ (32 ∷ rest)))) ≡ Ok rest
unfolding named_at
named-again name rest =
    let after_team = name ++ (32 ∷ rest) in
    let team : due_at Unexpected (codes "team ") (codes "team" ++ (32 ∷ after_team)) ≡ Ok after_team = due-again Unexpected (codes "team ") after_team in
    rw (team, due-again OtherDesign name (32 ∷ rest), space-again OtherDesign rest) refl

abbrev numbers_of : SavedTeam → Numbers
numbers_of t = record { revision = t.revision; padding = t.padding; entries = length t.entries }

abbrev numbers_text : SavedTeam → List ℕ → List ℕ
numbers_text t rest =
    decimal t.revision ++ (32 ∷ (decimal t.padding ++ (32 ∷ (decimal (length t.slots) ++ (32 ∷ (decimal (length t.cells) ++ (32 ∷ (decimal (length t.entries) ++ (10 ∷ rest)))))))))

numbers-again : (limits : Limits) (named : NamedTeam) (t : SavedTeam) (rest : List ℕ) → IsSavedTeamOf limits named t → length t.cells < 2 ^ 32
    → numbers_at limits (length named.cells) (numbers_text t rest) ≡ Ok (numbers_of t, rest)
unfolding numbers_at
numbers-again limits named t rest of few =
    let entries = decimal (length t.entries) ++ (10 ∷ rest) in
    let cells = decimal (length t.cells) ++ (32 ∷ entries) in
    let slots = decimal (length t.slots) ++ (32 ∷ cells) in
    let padding = decimal t.padding ++ (32 ∷ slots) in
    let revisions_most = limits.allowed.revisions_within.most in
    let sessions_most = limits.allowed.sessions_within.most in
    let undo_most = limits.allowed.undo_within.most in
    let revision_is = of.revision in
    let padding_is = of.padding in
    let slots_is = of.slots in
    let entries_is = of.entries in
    rw (
      below-again (limits.revisions + 1) 32 t.revision padding (omega arith) (omega arith) (omega arith),
      below-again 17 32 t.padding slots (omega arith) (omega arith) (omega arith),
      count-again limits.sessions 32 (length t.slots) cells (omega arith) (omega arith) slots_is,
      count-again (length named.cells) 32 (length t.cells) entries (omega arith) few of.cells,
      below-again (limits.undo + 1) 10 (length t.entries) rest (omega arith) (omega arith) (omega arith),
    ) refl

-- ---- a team

rows-again : (limits : Limits) (named : NamedTeam) (t : SavedTeam) (rest : List ℕ) → IsSavedTeamOf limits named t → HasWords t
    → rows_at limits named (numbers_of t) (flat_map slot_line t.slots ++ (lines_by cell_line named.cells t.cells ++ (flat_map entry_lines t.entries ++ rest))) ≡ Ok (t, rest)
unfolding rows_at
rows-again limits named t rest of words =
    let entries = flat_map entry_lines t.entries ++ rest in
    let cells = lines_by cell_line named.cells t.cells ++ entries in
    let revisions_most = limits.allowed.revisions_within.most in
    let revision_is = of.revision in
    let small : t.revision < 2 ^ 32 = omega arith in
    let few : length named.cells < 2 ^ 32 = subst (λ (n : ℕ). n < 2 ^ 32) of.cells words.few in
    let slots_read : many_at (slot_at t.revision) limits.sessions (flat_map slot_line t.slots ++ cells) ≡ Ok (t.slots, cells) =
    subst (λ (n : ℕ). many_at (slot_at t.revision) n (flat_map slot_line t.slots ++ cells) ≡ Ok (t.slots, cells)) of.slots
    (many-again (slot_at t.revision) slot_line (λ s. IfSome s (λ seen. seen ≤ t.revision)) (slot_line-again t.revision small) t.slots cells of.seen) in
    rw (
      slots_read,
      each-again read_cell cell_line (λ name c. IsSpottedCell c) cell_line-again named.cells t.cells entries (both_long IsSpottedCell named.cells t.cells of.cells words.cells),
      many-again (entry_at (length named.cells)) entry_lines (λ ms. AllByRecursion (λ m. m.own < length named.cells) ms × IsSpottedEntry ms) (entry_lines-again (length named.cells) few)
          t.entries rest (both_all (λ (ms : List Move). AllByRecursion (λ m. m.own < length named.cells) ms) IsSpottedEntry t.entries of.own words.entries),
    ) refl

team_lines-again : (limits : Limits) (named : NamedTeam) (t : SavedTeam) (rest : List ℕ) → IsSavedTeamOf limits named t × HasWords t
    → team_at limits named (saved_team_lines named t ++ rest) ≡ Ok (t, rest)
unfolding team_at
team_lines-again limits named t rest fits =
    let after_head = flat_map slot_line t.slots ++ (lines_by cell_line named.cells t.cells ++ (flat_map entry_lines t.entries ++ rest)) in
    let written : saved_team_lines named t ++ rest ≡ codes "team" ++ (32 ∷ (named.name ++ (32 ∷ numbers_text t after_head))) =
    regroup (head_line named.name t) (flat_map slot_line t.slots) (lines_by cell_line named.cells t.cells) (flat_map entry_lines t.entries) rest
    ∙ numbers_written named.name t after_head in
    ap (team_at limits named) written
    ∙ rw (named-again named.name (numbers_text t after_head), numbers-again limits named t after_head fits.0 fits.1.few) (rows-again limits named t rest fits.0 fits.1)
  where
    regroup : (a b c d e : List ℕ) → (a ++ (b ++ (c ++ d))) ++ e ≡ a ++ (b ++ (c ++ (d ++ e)))
    regroup a b c d e = simp append_assoc

    numbers_written : (name : List ℕ) (t : SavedTeam) (rest : List ℕ) → head_line name t ++ rest ≡ codes "team" ++ (32 ∷ (name ++ (32 ∷ numbers_text t rest)))
    numbers_written name t rest =
        line-rest (codes "team") (name ∷ decimal t.revision ∷ decimal t.padding ∷ decimal (length t.slots) ∷ decimal (length t.cells) ∷ decimal (length t.entries) ∷ []) rest

-- ---- the text

all-again : (design : NamedDesign) (ts : List SavedTeam) → AreSaved design ts → all_at design (state_text design ts) ≡ Ok ts
unfolding all_at opening_at
all-again design ts saved =
    let teams = lines_by saved_team_lines design.teams ts in
    let counted = decimal (length design.teams) ++ (10 ∷ teams) in
    let of_line : spaced_line (codes "teams" ∷ decimal (length design.teams) ∷ []) ++ teams ≡ codes "teams" ++ (32 ∷ counted) =
    line-rest (codes "teams") (decimal (length design.teams) ∷ []) teams in
    let written : state_text design ts ≡ title ++ (codes "teams" ++ (32 ∷ counted)) =
    append_assoc title (spaced_line (codes "teams" ∷ decimal (length design.teams) ∷ [])) teams ∙ ap (λ (l : List ℕ). title ++ l) of_line in
    let teams_due : due_at Unexpected (codes "teams ") (codes "teams" ++ (32 ∷ counted)) ≡ Ok counted = due-again Unexpected (codes "teams ") counted in
    let each : each_at (team_at design.limits) design.teams teams ≡ Ok (ts, []) =
    ap (each_at (team_at design.limits) design.teams) (sym (append-nil teams))
    ∙ each-again (team_at design.limits) saved_team_lines (λ named t. IsSavedTeamOf design.limits named t × HasWords t) (team_lines-again design.limits) design.teams ts []
    (both_with (IsSavedTeamOf design.limits) HasWords design.teams ts saved.of_design saved.words) in
    ap (all_at design) written
    ∙ rw (after_it-front title (codes "teams" ++ (32 ∷ counted)), teams_due, count-again (length design.teams) 10 (length design.teams) teams (omega arith) saved.few refl, each) refl

pub state-again : (design : NamedDesign) (ts : List SavedTeam) → AreSaved design ts → saved_state_of design (state_text design ts) ≡ Ok ts
state-again design ts saved = ap (with_fault_line (state_text design ts)) (all-again design ts saved)
