-- Runs of a task's commands one after the other, and what they leave unchanged.
use Rattle.std.proofs.Common.{◌≡◌, ◌≢◌, ℕ, zero, suc, ◌+◌, ◌<◌, List, [], ◌∷◌, ◌++◌, length, get_or, Bool, true, false, map, Option, Some, None, cond, is_some, refl, ap, sym, ◌∙◌, subst, append-nil, arith, take}
use Rattle.std.specs.Prelude.{◌≤◌, ◌==◌, ◌||◌, All, MatchBool, bytes_eq, option_and_then, position, slice_get, slice_set, ◌↔◌, Contains, filter}
use Rattle.std.specs.Borrow.{Bor}
use Rattle.std.specs.List.{position_from}
use Rattle.std.specs.Io.KnownBytes.{Appends}
use Rattle.std.proofs.Math.ListN.{length-map}
use Rattle.std.proofs.lemmas.Iterator.Adapters.{position_from-zero}
use Rattle.std.proofs.lemmas.List.Elements.{All-append, All-nil, All-cons, All-filter}
use Rattle.std.proofs.lemmas.List.Concat.{flat_map-append}
use Rattle.lf_floorplan.specs.declared.place.Place.{Place}
use Rattle.lf_rules.specs.Legalizer.{Legalizer}
use Rattle.lf_floorplan.specs.Ground.{OverlapsSoft}
use Rattle.lf_rules.specs.Choice.{spot_of}
use Rattle.lf_rules.specs.Team.{IsLegalCell, box_in}
use Rattle.lf_cells.specs.Cells.{working_at}
use Rattle.lf_legalize.specs.Members.{member_of}
use Rattle.lf_proto.specs.Lines.{IsLineName}
use Rattle.lf_proto.specs.Requests.{IsPlain}
use Rattle.lf_proto.specs.declared.request.Command.{Command}
use Rattle.lf_proto.specs.declared.request.Command.TheVariants.{Bye, To}
use Rattle.lf_proto.specs.declared.request.TeamCommand.{TeamCommand}
use Rattle.lf_proto.specs.declared.reply.Reply.{Reply}
use Rattle.lf_io.proofs.Known.{Appends-more, Appends-same}
use Rattle.lf_floor_model.specs.States.{FloorState, TeamState}
use Rattle.lf_floor_model.specs.Teams.{state_of, team_number, team_names}
use Rattle.lf_floor_model.specs.Outcomes.{is_short}
use Rattle.lf_floor_model.specs.Steps.{IsAnswerOf, IsTo, MayRunOutOfMemory, answer_at, answer_of}
use Rattle.lf_floor_model.specs.Runs.{Run}
use Rattle.lf_floor_model.specs.VerbLaws.{is_ok}
use Rattle.lf_floor_model.proofs.Forms.{answer_by}
use Rattle.lf_repair_team.specs.TeamRepairs.{AreMovedOffSoft, IsLegalIn, place_of_cell_in}
use Rattle.lf_repair_team.specs.Runs.{IsWrittenRun, request_lines}
use Rattle.lf_proto.specs.Printed.{request_line}
use Rattle.lf_floorplan.specs.declared.frame.Frame.{Frame}
use Rattle.lf_task_run.specs.Commands.{IsKeptRun, IsPlainIfNamed}
use Rattle.lf_task_run.specs.Teams.{OnlySelectedChange, is_selected, selected_at}
use Rattle.std.specs.Option.{option_map_or}
use Rattle.lf_repair_team.specs.Stats.{AreStatsOf, AreTeamStats, HowMany}
use Rattle.lf_repair_strategy.specs.declared.stats.RepairStats.{RepairStats}
use Rattle.lf_task_run.proofs.Named.{numbered}

-- ---- runs

run_append : (l : Legalizer) (a b c : FloorState) (commands others : List (Command (List ℕ) Place)) (replies answers : List Reply)
    → Run l a commands replies b → Run l b others answers c → Run l a (commands ++ others) (replies ++ answers) c
run_append l a b c [] others [] answers first second = subst (λ (f : FloorState). Run l f others answers c) first second
run_append l a b c (d ∷ ds) others (r ∷ rs) answers first second = (first.0, first.1, run_append l first.0 b c ds others rs answers first.2 second)
run_append l a b c [] others (r ∷ rs) answers first second = absurd first
run_append l a b c (d ∷ ds) others [] answers first second = absurd first

kept_bytes_stay : (a : Option (List ℕ)) → Appends a a []
kept_bytes_stay None = tt
kept_bytes_stay (Some xs) = sym (append-nil xs)

-- no command was sent
pub nothing_requested : (l : Legalizer) (floor : FloorState) (bytes : Option (List ℕ)) → IsKeptRun l floor bytes bytes floor
nothing_requested l floor bytes =
    ([], record { replies = []; run = refl; granted = All-nil (λ (r : Reply). is_ok r ≡ true); plain = All-nil IsPlainIfNamed }, kept_bytes_stay bytes)

-- one run after the other
pub then_kept : (l : Legalizer) (a b c : FloorState) (x y z : Option (List ℕ)) → IsKeptRun l a x y b → IsKeptRun l b y z c → IsKeptRun l a x z c
then_kept l a b c x y z first second = (
  first.0 ++ second.0,
  record {
    replies = first.1.replies ++ second.1.replies;
    run = run_append l a b c first.0 second.0 first.1.replies second.1.replies first.1.run second.1.run;
    granted = All-append (λ (r : Reply). is_ok r ≡ true) first.1.replies second.1.replies first.1.granted second.1.granted;
    plain = All-append IsPlainIfNamed first.0 second.0 first.1.plain second.1.plain;
  },
  Appends-same x z (request_lines first.0 ++ request_lines second.0) (request_lines (first.0 ++ second.0)) (sym (flat_map-append request_line first.0 second.0))
      (Appends-more x y z (request_lines first.0) (request_lines second.0) first.2 second.2),
)

-- commands to one team are plain if its name is
plain_each : (team : List ℕ) (commands : List (Command (List ℕ) Place)) → All (IsTo team) commands → (IsLineName team → All IsPlain commands) → All IsPlainIfNamed commands
plain_each team commands own plain i d within name to line = plain (subst IsLineName (same (get_or commands i d) to (own i d within)) line) i d within where
  same : (command : Command (List ℕ) Place) → IsTo name command → IsTo team command → name ≡ team
  same Bye here there = absurd here
  same (To its order) here there = sym here ∙ there

-- a run of one team is a run
pub of_team : (l : Legalizer) (team : List ℕ) (old new : FloorState) (before after : Option (List ℕ)) → IsWrittenRun l team old before after new
    → IsKeptRun l old before after new
of_team l team old new before after run =
    (run.0, record { replies = run.1.replies; run = run.1.run; granted = run.1.granted; plain = plain_each team run.0 run.1.own run.1.plain }, run.2)

-- ---- which teams change

pub none_changes : (teams : List (List ℕ)) (floor : FloorState) → OnlySelectedChange teams floor floor
none_changes teams floor = record { others = λ team requested. refl; frame = refl; components = refl; legal = λ legal. legal }

pub then_requested : (teams : List (List ℕ)) (a b c : FloorState) → OnlySelectedChange teams a b → OnlySelectedChange teams b c → OnlySelectedChange teams a c
then_requested teams a b c first second = record {
  others = λ team requested. second.others team requested ∙ first.others team requested;
  frame = second.frame ∙ first.frame;
  components = second.components ∙ first.components;
  legal = λ legal. second.legal (first.legal legal);
}

-- the teams from this number on are unchanged
abbrev pub AreUntouched : FloorState → FloorState → ℕ → Type 0
AreUntouched old new count = (team : List ℕ) (n : ℕ) → team_number old.frame team ≡ Some n → count ≤ n → state_of new team ≡ state_of old team

pub one_more_untouched : (old mid new : FloorState) (number : ℕ) → mid.frame ≡ old.frame → AreUntouched old mid number
    → ((team : List ℕ) → team_number mid.frame team ≢ Some number → state_of new team ≡ state_of mid team) → AreUntouched old new (number + 1)
one_more_untouched old mid new number frame before others team n named more =
    others team (λ (is : team_number mid.frame team ≡ Some number). apart (sym (ap (λ (f : Frame). team_number f team) frame ∙ named) ∙ is))
    ∙ before team n named (omega (arith, more))
  where
    apart : Some n ≡ Some number → ⊥
    apart same = let is : n ≡ number = cc in omega (arith, more, is)

pub place_same : (old new : FloorState) (team : List ℕ) (own : ℕ) → state_of new team ≡ state_of old team → place_of_cell_in new team own ≡ place_of_cell_in old team own
place_same old new team own same = ap (λ (o : Option TeamState). option_and_then (λ (s : TeamState). working_at s.cells own) o) same

pub legal_same : (old new : FloorState) (team : List ℕ) (own : ℕ) → new.frame ≡ old.frame → state_of new team ≡ state_of old team → IsLegalIn old team own → IsLegalIn new team own
legal_same old new team own frame same legal = record {
  number = legal.number;
  state = legal.state;
  named = ap (λ (f : Frame). team_number f team) frame ∙ legal.named;
  there = same ∙ legal.there;
  within = legal.within;
  legal = subst (λ (f : Frame). IsLegalCell f legal.number legal.state.padding (map member_of legal.state.cells) own) (sym frame) legal.legal;
}

-- ---- names

position_mapped : (name : List ℕ) (i : ℕ) (teams : List (Bor (List ℕ)))
    → position_from (λ (t : Bor (List ℕ)). bytes_eq t.now name) i teams ≡ position_from (λ (t : List ℕ). bytes_eq t name) i (map (λ (t : Bor (List ℕ)). t.now) teams)
position_mapped name i [] = refl
position_mapped name i (t ∷ ts) = ap (λ (o : Option ℕ). cond (bytes_eq t.now name) (Some i) o) (position_mapped name (i + 1) ts)

-- the name has the same first position among the names
pub position_named : (name : List ℕ) (teams : List (Bor (List ℕ)))
    → position (λ (t : Bor (List ℕ)). bytes_eq t.now name) teams ≡ position (λ (t : List ℕ). bytes_eq t name) (map (λ (t : Bor (List ℕ)). t.now) teams)
position_named name teams =
    position_from-zero (λ (t : Bor (List ℕ)). bytes_eq t.now name) teams ∙ position_mapped name 0 teams
    ∙ sym (position_from-zero (λ (t : List ℕ). bytes_eq t name) (map (λ (t : Bor (List ℕ)). t.now) teams))

-- a team that is found among the names is selected
pub requested_named : (name : List ℕ) (teams : List (Bor (List ℕ))) (found : Bool) → (length teams == 0) ≡ false
    → found ≡ is_some (position (λ (t : Bor (List ℕ)). bytes_eq t.now name) teams) → found ≡ is_selected (map (λ (t : Bor (List ℕ)). t.now) teams) name
requested_named name teams found some is =
    let names = map (λ (t : Bor (List ℕ)). t.now) teams in
    let here = is_some (position (λ (t : List ℕ). bytes_eq t name) names) in
    let many : (length names == 0) ≡ false = ap (λ (n : ℕ). n == 0) (length-map teams (λ (t : Bor (List ℕ)). t.now)) ∙ some in
    is ∙ ap (λ (o : Option ℕ). is_some o) (position_named name teams) ∙ sym (ap (λ (b : Bool). b || here) many)

-- ---- the number of teams

set_long : {X : Type 0} (xs : List X) (i : ℕ) (x : X) → length (slice_set xs i x) ≡ length xs
set_long [] i x = refl
set_long (y ∷ ys) zero x = refl
set_long (y ∷ ys) (suc i) x = ap suc (set_long ys i x)

by_long : (l : Legalizer) (floor : FloorState) (number : ℕ) (order : TeamCommand (List ℕ) Place) (o : Option TeamState)
    → length (answer_by o l floor number order).floor.teams ≡ length floor.teams
by_long l floor number order None = refl
by_long l floor number order (Some s) = set_long floor.teams number _

at_long : (l : Legalizer) (floor : FloorState) (order : TeamCommand (List ℕ) Place) (o : Option ℕ)
    → length (answer_at o l floor order).floor.teams ≡ length floor.teams
at_long l floor order None = refl
at_long l floor order (Some number) = by_long l floor number order (slice_get floor.teams number)

answer_long : (l : Legalizer) (floor : FloorState) (command : Command (List ℕ) Place) → length (answer_of l floor command).floor.teams ≡ length floor.teams
unfolding answer_of
answer_long l floor Bye = refl
answer_long l floor (To name order) = at_long l floor order (team_number floor.frame name)

step_long : (l : Legalizer) (old new : FloorState) (command : Command (List ℕ) Place) (reply : Reply) (short : Bool)
    → MatchBool short (MayRunOutOfMemory l old command new) (IsAnswerOf l old command reply new) → length new.teams ≡ length old.teams
step_long l old new command reply true step = ap (λ (f : FloorState). length f.teams) step.short.kept
step_long l old new command reply false step = ap (λ (f : FloorState). length f.teams) step.floor_is ∙ answer_long l old command

run_long : (l : Legalizer) (commands : List (Command (List ℕ) Place)) (replies : List Reply) (old new : FloorState) → Run l old commands replies new
    → length new.teams ≡ length old.teams
run_long l [] [] old new run = ap (λ (f : FloorState). length f.teams) run
run_long l (c ∷ cs) (r ∷ rs) old new run = run_long l cs rs run.0 new run.2 ∙ step_long l old run.0 c r (is_short r) run.1
run_long l [] (r ∷ rs) old new run = absurd run
run_long l (c ∷ cs) [] old new run = absurd run

-- a run does not change the number of teams
pub as_many : (l : Legalizer) (teams : List (List ℕ)) (old new : FloorState) (before after : Option (List ℕ)) → IsKeptRun l old before after new
    → OnlySelectedChange teams old new → length old.teams ≡ length old.frame.teams + 1 → length new.teams ≡ length new.frame.teams + 1
as_many l teams old new before after run only many =
    run_long l run.0 run.1.replies old new run.1.run ∙ many ∙ ap (λ f. length f.teams + 1) (sym only.frame)

-- ---- results of teams that stay as they are

-- as many positions have an equivalent property
as_many_have : (all : ℕ) (So Also : ℕ → Type 0) (count : ℕ) → ((own : ℕ) → So own ↔ Also own) → HowMany all So count → HowMany all Also count
as_many_have all So Also count same is = record {
  which = is.which;
  rise = is.rise;
  are = λ own. (
    λ (listed : Contains is.which own). let found = (is.are own).0 listed in (found.0, (same own).0 found.1),
    λ (found : (own < all) × Also own). (is.are own).1 (found.0, (same own).1 found.1),
  );
  many = is.many;
}

-- the statistics are the same if the same cells were legal
stats_alike : (wanted now : ℕ → Option Place) (Was Also : ℕ → Type 0) (all : ℕ) (r : RepairStats) → ((own : ℕ) → Was own ↔ Also own)
    → AreStatsOf wanted now Was all r → AreStatsOf wanted now Also all r
stats_alike wanted now Was Also all r same is = record {
  cells = as_many_have all (λ own. Was own → ⊥) (λ own. Also own → ⊥) r.cells
      (λ own. (λ (not : Was own → ⊥). λ (also : Also own). not ((same own).1 also), λ (not : Also own → ⊥). λ (was : Was own). not ((same own).0 was))) is.cells;
  kept = as_many_have all (λ own. Was own × (now own ≡ wanted own)) (λ own. Also own × (now own ≡ wanted own)) r.kept
      (λ own. (λ (both : Was own × (now own ≡ wanted own)). ((same own).0 both.0, both.1), λ (both : Also own × (now own ≡ wanted own)). ((same own).1 both.0, both.1))) is.kept;
  displaced_legal = as_many_have all (λ own. Was own × (now own ≢ wanted own)) (λ own. Also own × (now own ≢ wanted own)) r.displaced_legal
      (λ own. (λ (both : Was own × (now own ≢ wanted own)). ((same own).0 both.0, both.1), λ (both : Also own × (now own ≢ wanted own)). ((same own).1 both.0, both.1))) is.displaced_legal;
  moved = is.moved;
  placed = is.placed;
  turned = is.turned;
  total_displacement = is.total_displacement;
  max_displacement = is.max_displacement;
}

-- the places of the cells of a team in this state
abbrev pub places_in : Option TeamState → ℕ → Option Place
places_in o own = option_and_then (λ (s : TeamState). working_at s.cells own) o

pub stats_same : (a b c d : FloorState) (team : List ℕ) (r : RepairStats) → c.frame ≡ a.frame → state_of c team ≡ state_of a team → state_of d team ≡ state_of b team
    → AreTeamStats team a b r → AreTeamStats team c d r
stats_same a b c d team r frame first last is s there =
    stats_alike (places_in (state_of c team)) (places_in (state_of d team)) (IsLegalIn a team) (IsLegalIn c team) (length s.cells) r
    (λ own. (legal_same a c team own frame first, legal_same c a team own (sym frame) (sym first)))
    (subst (λ (o : Option TeamState). AreStatsOf (places_in (state_of c team)) (places_in o) (IsLegalIn a team) (length s.cells) r) (sym last)
    (subst (λ (o : Option TeamState). AreStatsOf (places_in o) (places_in (state_of b team)) (IsLegalIn a team) (length s.cells) r) (sym first) (is s (sym first ∙ there))))

-- ---- selected teams

-- what holds for the names with this number holds for the selected one
pub selected_have : (P : List ℕ → Type 0) (f : Frame) (teams : List (List ℕ)) (number : ℕ) → ((name : List ℕ) → team_number f name ≡ Some number → P name)
    → All P (selected_at f teams number)
selected_have P f teams number have = go (slice_get (team_names f) number) refl where
  go : (o : Option (List ℕ)) → slice_get (team_names f) number ≡ o → All P (filter (is_selected teams) (option_map_or (λ name. name ∷ []) o []))
  go None is = All-nil P
  go (Some name) is = All-filter (is_selected teams) P (name ∷ []) (All-cons P name [] (have name (numbered f number name is)) (All-nil P))

-- the names of the selected teams among the first `count`
abbrev pub first_requested : Frame → List (List ℕ) → ℕ → List (List ℕ)
first_requested f teams count = filter (is_selected teams) (take count (team_names f))

-- cells that moved off soft blockages did so if the team is unchanged
pub moved_off_soft_same : (a b c d : FloorState) (team : List ℕ) → d.frame ≡ b.frame → state_of c team ≡ state_of a team → state_of d team ≡ state_of b team
    → AreMovedOffSoft team a b → AreMovedOffSoft team c d
moved_off_soft_same a b c d team frame first last are own placed moved =
    let is = are own (λ none. placed (ap (λ (o : Option TeamState). places_in o own) last ∙ none))
    (λ same. moved (ap (λ (o : Option TeamState). places_in o own) last ∙ same ∙ sym (ap (λ (o : Option TeamState). places_in o own) first))) in
    record {
      state = is.state;
      cell = is.cell;
      place = is.place;
      there = last ∙ is.there;
      cell_is = is.cell_is;
      placed = is.placed;
      off_soft = subst (λ (f : Frame). OverlapsSoft f (box_in f is.cell.mac (spot_of is.place)) → ⊥) (sym frame) is.off_soft;
    }
