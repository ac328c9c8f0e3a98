-- Runs one after the other, and what they leave unchanged.
use Rattle.std.proofs.Common.{◌≡◌, ◌≢◌, ℕ, List, [], ◌∷◌, ◌++◌, Bool, true, false, Option, Some, None, refl, ap, sym, ◌∙◌, subst, take, append_assoc, append-nil, arith}
use Rattle.std.specs.Prelude.{slice_get}
use Rattle.std.specs.Io.KnownBytes.{Appends, Keeps}
use Rattle.std.proofs.lemmas.List.Elements.{All-append, All-cons, All-nil}
use Rattle.std.proofs.lemmas.List.Concat.{flat_map-append}
use Rattle.lf_floorplan.specs.declared.frame.Frame.{Frame}
use Rattle.lf_floorplan.specs.declared.place.Place.{Place}
use Rattle.lf_proto.specs.Lines.{IsLineName}
use Rattle.lf_rules.specs.Legalizer.{Legalizer}
use Rattle.lf_proto.specs.declared.request.Command.{Command}
use Rattle.lf_proto.specs.declared.request.Command.TheVariants.{Bye, To}
use Rattle.lf_proto.specs.declared.reply.Reply.{Reply}
use Rattle.lf_proto.specs.Requests.{IsPlain}
use Rattle.lf_io.proofs.Known.{Appends-more, Appends-same}
use Rattle.lf_floor_model.specs.States.{FloorState}
use Rattle.lf_floor_model.specs.Teams.{state_of, team_number}
use Rattle.lf_floor_model.specs.Steps.{IsTo, KeepsIfRefused, Step}
use Rattle.lf_floor_model.specs.Runs.{Run}
use Rattle.lf_floor_model.specs.VerbLaws.{is_ok}
use Rattle.lf_floor_model.specs.Committed.{IsCommittedLegal}
use Rattle.lf_repair_team.specs.Runs.{AppendsSomeOf, IsRunWithCutLine, IsRunBy, IsWrittenRun, request_lines}
use Rattle.lf_proto.specs.Printed.{request_line}
use Rattle.lf_repair_team.specs.CellEdits.{KeepsLockedPlaces}
use Rattle.lf_repair_team.specs.TeamRepairs.{ChangesOnly, team_cell_macros, team_cell_names}

-- ---- runs

run_append : (l : Legalizer) (a b c : FloorState) (commands others : List (Command (List ℕ) Place)) (replies answers : List Reply)
    → Run l a commands replies b → Run l b others answers c → Run l a (commands ++ others) (replies ++ answers) c
run_append l a b c [] others [] answers first second = subst (λ (f : FloorState). Run l f others answers c) first second
run_append l a b c (d ∷ ds) others (r ∷ rs) answers first second = (first.0, first.1, run_append l first.0 b c ds others rs answers first.2 second)
run_append l a b c [] others (r ∷ rs) answers first second = absurd first
run_append l a b c (d ∷ ds) others [] answers first second = absurd first

none_run : (l : Legalizer) (team : List ℕ) (a b : FloorState) → b ≡ a → IsRunBy [] l team a b
none_run l team a b same = record { replies = []; run = same; granted = All-nil (λ (r : Reply). is_ok r ≡ true); own = All-nil (IsTo team); plain = λ name. All-nil IsPlain }

one_run : (l : Legalizer) (team : List ℕ) (a b : FloorState) (command : Command (List ℕ) Place) (reply : Reply) → IsTo team command
    → (IsLineName team → IsPlain command) → Step l a command reply b → is_ok reply ≡ true → IsRunBy (command ∷ []) l team a b
one_run l team a b command reply to plain step granted = record {
  replies = reply ∷ [];
  run = (b, step, refl);
  granted = All-cons (λ (r : Reply). is_ok r ≡ true) reply [] granted (All-nil (λ (r : Reply). is_ok r ≡ true));
  own = All-cons (IsTo team) command [] to (All-nil (IsTo team));
  plain = λ name. All-cons IsPlain command [] (plain name) (All-nil IsPlain);
}

then_run : (l : Legalizer) (team : List ℕ) (a b c : FloorState) (commands others : List (Command (List ℕ) Place))
    → IsRunBy commands l team a b → IsRunBy others l team b c → IsRunBy (commands ++ others) l team a c
then_run l team a b c commands others first second = record {
  replies = first.replies ++ second.replies;
  run = run_append l a b c commands others first.replies second.replies first.run second.run;
  granted = All-append (λ (r : Reply). is_ok r ≡ true) first.replies second.replies first.granted second.granted;
  own = All-append (IsTo team) commands others first.own second.own;
  plain = λ name. All-append IsPlain commands others (first.plain name) (second.plain name);
}

-- ---- what is written

kept_bytes : (a : Option (List ℕ)) → Appends a a []
kept_bytes None = tt
kept_bytes (Some xs) = sym (append-nil xs)

-- no command was sent
pub nothing : (l : Legalizer) (team : List ℕ) (floor : FloorState) (bytes : Option (List ℕ)) → IsWrittenRun l team floor bytes bytes floor
nothing l team floor bytes = ([], none_run l team floor floor refl, kept_bytes bytes)

-- a refused command is not written
pub left_out : (l : Legalizer) (team : List ℕ) (old new : FloorState) (bytes : Option (List ℕ)) (reply : Reply) → KeepsIfRefused reply old new
    → is_ok reply ≡ false → IsWrittenRun l team old bytes bytes new
left_out l team old new bytes reply keeps refused = ([], none_run l team old new (keeps refused), kept_bytes bytes)

-- one command, and its line
pub one_written : (l : Legalizer) (team : List ℕ) (old new : FloorState) (before after : Option (List ℕ)) (line : List ℕ) (command : Command (List ℕ) Place) (reply : Reply)
    → IsTo team command → (IsLineName team → IsPlain command) → Step l old command reply new → is_ok reply ≡ true → line ≡ request_line command → Appends before after line
    → IsWrittenRun l team old before after new
one_written l team old new before after line command reply to plain step granted is appends = (
  command ∷ [],
  one_run l team old new command reply to plain step granted,
  Appends-same before after line (request_lines (command ∷ [])) (is ∙ sym (append-nil (request_line command))) appends,
)

-- one after the other
pub then_written : (l : Legalizer) (team : List ℕ) (a b c : FloorState) (x y z : Option (List ℕ)) → IsWrittenRun l team a x y b → IsWrittenRun l team b y z c
    → IsWrittenRun l team a x z c
then_written l team a b c x y z first second = (
  first.0 ++ second.0,
  then_run l team a b c first.0 second.0 first.1 second.1,
  Appends-same x z (request_lines first.0 ++ request_lines second.0) (request_lines (first.0 ++ second.0)) (sym (flat_map-append request_line first.0 second.0))
      (Appends-more x y z (request_lines first.0) (request_lines second.0) first.2 second.2),
)

-- ---- runs that stopped early

pub kept_after : (a b c : Option (List ℕ)) (bs : List ℕ) → Appends a b bs → Keeps b c → Appends a c bs
kept_after None b c bs p q = tt
kept_after (Some x) None c bs p q = absurd p
kept_after (Some x) (Some y) None bs p q = absurd q
kept_after (Some x) (Some y) (Some z) bs p q = q ∙ p

-- all was written
pub uncut : (l : Legalizer) (team : List ℕ) (old new : FloorState) (x y : Option (List ℕ)) → IsWrittenRun l team old x y new → IsRunWithCutLine l team old x y new
uncut l team old new x y run = record {
  commands = run.0;
  last = [];
  one = omega arith;
  run = subst (λ (cs : List (Command (List ℕ) Place)). IsRunBy cs l team old new) (sym (append-nil run.0)) run.1;
  count = 0;
  written = Appends-same x y (request_lines run.0) (request_lines run.0 ++ []) (sym (append-nil (request_lines run.0))) run.2;
}

pub none_cut : (l : Legalizer) (team : List ℕ) (floor : FloorState) (bytes : Option (List ℕ)) → IsRunWithCutLine l team floor bytes bytes floor
none_cut l team floor bytes = uncut l team floor floor bytes bytes (nothing l team floor bytes)

-- one command, and a prefix of its line
pub one_cut : (l : Legalizer) (team : List ℕ) (old new : FloorState) (before after : Option (List ℕ)) (line : List ℕ) (command : Command (List ℕ) Place) (reply : Reply)
    → IsTo team command → (IsLineName team → IsPlain command) → Step l old command reply new → is_ok reply ≡ true → line ≡ request_line command
    → AppendsSomeOf before after line → IsRunWithCutLine l team old before after new
one_cut l team old new before after line command reply to plain step granted is front = record {
  commands = [];
  last = command ∷ [];
  one = omega arith;
  run = one_run l team old new command reply to plain step granted;
  count = front.0;
  written = Appends-same before after (take front.0 line) (take front.0 (request_lines (command ∷ []))) (ap (take front.0) (is ∙ sym (append-nil (request_line command)))) front.1;
}

-- one after the other
pub then_cut : (l : Legalizer) (team : List ℕ) (a b c : FloorState) (x y z : Option (List ℕ)) → IsWrittenRun l team a x y b → IsRunWithCutLine l team b y z c
    → IsRunWithCutLine l team a x z c
then_cut l team a b c x y z first second =
    let front = take second.count (request_lines second.last) in
    record {
      commands = first.0 ++ second.commands;
      last = second.last;
      one = second.one;
      run = subst (λ (cs : List (Command (List ℕ) Place)). IsRunBy cs l team a c) (sym (append_assoc first.0 second.commands second.last))
          (then_run l team a b c first.0 (second.commands ++ second.last) first.1 second.run);
      count = second.count;
      written = Appends-same x z (request_lines first.0 ++ (request_lines second.commands ++ front)) (request_lines (first.0 ++ second.commands) ++ front)
          (sym (append_assoc (request_lines first.0) (request_lines second.commands) front) ∙ ap (λ (ls : List ℕ). ls ++ front) (sym (flat_map-append request_line first.0 second.commands)))
          (Appends-more x y z (request_lines first.0) (request_lines second.commands ++ front) first.2 second.written);
    }

-- ---- what is unchanged

pub unchanged : (team : List ℕ) (floor : FloorState) → ChangesOnly team floor floor
unchanged team floor = record { others = λ other differ. refl; numbers = λ number differ. refl; frame = refl; components = refl; names = refl; macros = refl; legal = λ legal. legal }

pub then_only : (team : List ℕ) (a b c : FloorState) → ChangesOnly team a b → ChangesOnly team b c → ChangesOnly team a c
then_only team a b c first second = record {
  others = λ other differ. second.others other differ ∙ first.others other differ;
  numbers = λ number differ. second.numbers number (λ e. differ (ap (λ (f : Frame). team_number f team) (sym first.frame) ∙ e)) ∙ first.numbers number differ;
  frame = second.frame ∙ first.frame;
  components = second.components ∙ first.components;
  names = second.names ∙ first.names;
  macros = second.macros ∙ first.macros;
  legal = λ legal. second.legal (first.legal legal);
}

-- a step to the team changes no other team
pub step_only : (team : List ℕ) (command : Command (List ℕ) Place) (old new : FloorState) → IsTo team command
    → ((other : List ℕ) → ¬ IsTo other command → state_of new other ≡ state_of old other)
    → ((number : ℕ) → team_number old.frame team ≢ Some number → slice_get new.teams number ≡ slice_get old.teams number) → new.frame ≡ old.frame → new.components ≡ old.components
    → team_cell_names new team ≡ team_cell_names old team → team_cell_macros new team ≡ team_cell_macros old team → (IsCommittedLegal old → IsCommittedLegal new)
    → ChangesOnly team old new
step_only team command old new to others numbers frame components names macros legal = record {
  others = λ other differ. others other (not_to command to other differ);
  numbers = numbers;
  frame = frame;
  components = components;
  names = names;
  macros = macros;
  legal = legal;
} where
  not_to : (c : Command (List ℕ) Place) → IsTo team c → (other : List ℕ) → other ≢ team → ¬ IsTo other c
  not_to Bye to other differ = absurd to
  not_to (To name order) to other differ = λ (e : name ≡ other). differ (sym e ∙ to)

pub none_moves : (team : List ℕ) (marks : List Bool) (floor : FloorState) → KeepsLockedPlaces team marks floor floor
none_moves team marks floor own marked = refl

pub then_stay : (team : List ℕ) (marks : List Bool) (a b c : FloorState) → KeepsLockedPlaces team marks a b → KeepsLockedPlaces team marks b c → KeepsLockedPlaces team marks a c
then_stay team marks a b c first second own marked = second own marked ∙ first own marked
