-- What the argument parser finds, as its specification defines it.
use Rattle.std.proofs.Common.{◌≡◌, inl, inr, true, List, [], ◌∷◌, Option, Some, None, is_some, unwrap_or, option_map, refl, sym, ap, ap₂, subst, ◌∙◌}
use Rattle.std.specs.Borrow.{Bor}
use Rattle.std.specs.Prelude.{Box}
use Rattle.std.specs.Box.{box_value}
use Rattle.std.proofs.lemmas.Bool.{false≢true}
use Rattle.clap.specs.Faults.{fault_of, is_simple_and_free}
use Rattle.clap.specs.Kinds.{HasKind, Kinds}
use Rattle.clap.specs.Matches.{found_of, subcommand_name_of}
use Rattle.clap.specs.Simple.{App, HasMatchesOf, is_simple, subcommand_of, subcommand_rows, subcommand_rows_of}
use Rattle.clap.specs.Values.{kind_of}
use Rattle.clap.specs.Walk.{Row, Text, rows_of}
use Rattle.clap.specs.declared.error.Error.{Error}
use Rattle.clap.specs.declared.error.kind.ErrorKind.TheVariants.{OutOfMemory}
use Rattle.clap.specs.declared.parser.matches.ArgMatches.{ArgMatches}
use Rattle.clap.specs.declared.parser.matches.ArgMatches.TheViews.{out-ArgMatches, out-SubCommand}
use Rattle.clap.specs.declared.parser.matches.SubCommand.{SubCommand}
use Rattle.clap.proofs.OnLiterals.{clap_on_literals}
use Rattle.lf_cli.specs.Command.{command_line, job_found, job_of, unless_fault}

-- ---- the subcommand

-- The name of what is found of a subcommand.
names_found : {Z : Type 0} (found : Option (Box SubCommand Z))
    → option_map (λ b. (out-SubCommand (box_value b)).name.now) found ≡ option_map (λ p. p.0) (subcommand_rows found)
names_found None = refl
names_found (Some b) = refl

both_found : (r : Option (Bor Text × Bor ArgMatches)) (q : Option (Text × List Row)) → option_map (λ p. p.0.now) r ≡ option_map (λ p. p.0) q
    → option_map (λ p. rows_of (found_of p.1.now)) r ≡ option_map (λ p. p.1) q → option_map (λ p. (p.0.now, rows_of (found_of p.1.now))) r ≡ q
both_found None None name rows = refl
both_found None (Some q) name rows = absurd (false≢true (ap is_some name))
both_found (Some p) None name rows = absurd (false≢true (sym (ap is_some name)))
both_found (Some p) (Some q) name rows =
    ap₂ (λ (a : Text) (b : List Row). Some (a, b)) (ap (λ (o : Option Text). unwrap_or o []) name) (ap (λ (o : Option (List Row)). unwrap_or o []) rows)

pub subcommand_is : (m : ArgMatches) (r : Option (Bor Text × Bor ArgMatches)) → option_map (λ p. p.0.now) r ≡ subcommand_name_of m
    → option_map (λ p. rows_of (found_of p.1.now)) r ≡ option_map (λ p. p.1) (subcommand_rows_of m)
    → option_map (λ p. (p.0.now, rows_of (found_of p.1.now))) r ≡ subcommand_rows_of m
subcommand_is m r name rows = both_found r (subcommand_rows_of m) (name ∙ names_found (out-ArgMatches m).subcommand) rows

-- ---- the words

-- The parser's specification covers the declared command line.
is_spoken : is_simple_and_free command_line ≡ true
unfolding clap_on_literals
is_spoken = refl

is_known : is_simple command_line ≡ true
unfolding clap_on_literals
is_known = refl

-- The parser finds no fault in the words.
taken_in : (app : App) (words : List Text) (m : ArgMatches) → is_simple_and_free app ≡ true → is_simple app ≡ true
    → (is_simple_and_free app ≡ true → fault_of app words ≡ []) → HasMatchesOf app words m
    → unless_fault (fault_of app words) (job_found (subcommand_of app words)) ≡ job_found (subcommand_rows_of m)
taken_in app words m spoken known none has =
    subst (λ (kinds : Kinds). unless_fault kinds (job_found (subcommand_of app words)) ≡ job_found (subcommand_rows_of m))
    (sym (none spoken)) (ap job_found (sym (has known).1))

pub taken : (app : App) (words : List Text) (m : ArgMatches) → app ≡ command_line
    → (is_simple_and_free app ≡ true → fault_of app words ≡ []) → HasMatchesOf app words m → job_of words ≡ job_found (subcommand_rows_of m)
taken app words m is none has =
    subst (λ (a : App). unless_fault (fault_of a words) (job_found (subcommand_of a words)) ≡ job_found (subcommand_rows_of m))
    is (taken_in app words m (ap is_simple_and_free is ∙ is_spoken) (ap is_simple is ∙ is_known) none has)

-- The parser finds a fault in the words.
refused_in : (kinds : Kinds) (app : App) (words : List Text) (e : Error) → fault_of app words ≡ kinds → HasKind kinds e
    → (kind_of e ≡ OutOfMemory → ⊥)
    → unless_fault (fault_of app words) (job_found (subcommand_of app words)) ≡ None
refused_in [] app words e is (inl memory) other = absurd (other memory)
refused_in [] app words e is (inr among) other = absurd among
refused_in (kind ∷ kinds) app words e is has other = ap (λ (k : Kinds). unless_fault k (job_found (subcommand_of app words))) is

pub refused : (app : App) (words : List Text) (e : Error) → app ≡ command_line
    → (is_simple_and_free app ≡ true → HasKind (fault_of app words) e) → (kind_of e ≡ OutOfMemory → ⊥) → job_of words ≡ None
refused app words e is has other =
    subst (λ (a : App). unless_fault (fault_of a words) (job_found (subcommand_of a words)) ≡ None)
    is (refused_in (fault_of app words) app words e refl (has (ap is_simple_and_free is ∙ is_spoken)) other)
