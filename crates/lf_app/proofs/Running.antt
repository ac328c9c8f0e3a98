-- Runs of the program.
use Rattle.std.proofs.Common.{◌≡◌, ◌∙◌, ◌⊎◌, ◌+◌, ◌<◌, inl, inr, Bool, true, false, ℕ, List, [], ◌∷◌, ◌++◌, get_or, length, map, take, Option, Result, Ok, Err, ap, ap₂, refl, sym}
use Rattle.std.proofs.lemmas.List.{take_more}
use Rattle.std.specs.Borrow.{Bor}
use Rattle.std.specs.Global.{Global}
use Rattle.std.specs.Io.KnownBytes.{Appends}
use Rattle.std.specs.Prelude.{OnErr, OnOk, String, string_bytes}
use Rattle.lf_cli.specs.Command.{Job}
use Rattle.lf_task_faults.specs.declared.faults.Fault.{Fault}
use Rattle.lf_task_faults.specs.declared.faults.TaskExit.{TaskExit}
use Rattle.lf_task_faults.specs.Faults.{EndsWith, fault_lines_text}
use Rattle.lf_task_usage.specs.Usage.{usage_text}
use Rattle.lf_task_designs.specs.Designs.{ReadsFile}
use Rattle.lf_task_files.specs.Faults.{IsDone, IsFailure}
use Rattle.lf_task_run.specs.Outputs.{WritesExportAlone, WritesNoFile}
use Rattle.lf_task_serve.specs.Surroundings.{BlamesEnvironment, Io, streams_of}
use Rattle.lf_app.specs.Exits.{EndsTask, IsJobFault, IsJobOutcome}
use Rattle.lf_app.specs.Offers.{IsOfferOf}
use Rattle.lf_app.specs.Requests.{requests_of}
use Rattle.lf_app.specs.Program.{EndsByFault, IsJobFailed, IsJobRun, run_of}

-- A fault that was reported, or not, ends the run.
pub by_fault : (fault : Fault) (old new : Io) (before after : Option (List ℕ)) (failed : Bool) (exit : TaskExit) → EndsWith fault before after failed exit
    → EndsByFault fault (run_of old new before after failed exit.status)
by_fault fault old new before after failed exit ends = record { reported = reported exit.is_printed refl; status_is = ends.status }
  where
    reported : (printed : Bool) → exit.is_printed ≡ printed → Appends before after (fault_lines_text fault) ⊎ (failed ≡ true)
    reported true is = inl (ends.reported is)
    reported false is = inr (ends.unreported is)

-- A task that ends so is the run of its job.
pub job_run : (gives : ReadsFile) (job : Job) (old new : Io) (before after : Option (List ℕ)) (failed : Bool) (kept : Type 0) (exit : TaskExit)
    → ((requests_of job).reads_input ≡ false → (new.left ≡ old.left) × (new.reads ≡ old.reads))
    → (WritesNoFile (requests_of job).files → (new.puts ≡ old.puts) × (new.put_failed ≡ old.put_failed)) → IsDone exit.status ⊎ IsFailure exit.status
    → (IsDone exit.status → IsJobOutcome gives job (streams_of old new) exit.status)
    → (IsDone exit.status → after ≡ before)
    → (IsDone exit.status → IsOfferOf job old.offers new.offers)
    → (IsFailure exit.status → EndsTask (λ fault. IsJobFault gives job fault (streams_of old new) × BlamesEnvironment (requests_of job).lines kept old new fault) before after failed exit)
    → (kept → (new.contents ≡ old.contents) × (new.write_failed ≡ old.write_failed))
    → (WritesExportAlone (requests_of job).files → IsFailure exit.status → new.puts ≡ old.puts)
    → (new.offers ≡ old.offers) ⊎ IsOfferOf job old.offers new.offers
    → IsJobRun gives job (run_of old new before after failed exit.status)
job_run gives job old new before after failed kept exit unread unasked (inl done) outcome silent offered fault keeps unput unoffered =
    record { ends = inl (record { outcome = outcome done; offered = offered done; silent = silent done }); unread = unread; unasked = unasked }
job_run gives job old new before after failed kept exit unread unasked (inr fails) outcome silent offered fault keeps unput unoffered =
    let ends = fault fails in
    let blames = ends.1.1 in
    let failure : IsJobFailed gives job (run_of old new before after failed exit.status) = record {
      fault = ends.0;
      why = ends.1.0;
      blames = record {
        early = λ early. keeps (blames.early early);
        reading = blames.reading;
        writing = blames.writing;
        exporting = blames.exporting;
        serving = blames.serving;
        sparing = blames.sparing;
      };
      unput = λ none. unput none fails;
      offered = unoffered;
      ends = by_fault ends.0 old new before after failed exit ends.2;
    } in
    record { ends = inr failure; unread = unread; unasked = unasked }

-- A message of some lines was written, or writing failed.
pub reported_words : {T E : Type 0} (r : Result T E) (words : List (List ℕ)) (before after : Option (List ℕ)) (failed : Bool)
    → OnOk r ((said : List (List ℕ)) × Appends before after (usage_text said words)) → OnErr r (failed ≡ true)
    → (said : List (List ℕ)) × (Appends before after (usage_text said words) ⊎ (failed ≡ true))
reported_words (Ok done) words before after failed ok err = (ok.0, inl ok.1)
reported_words (Err fault) words before after failed ok err = ([], inr err)

mapped_last : {X Y : Type 0} (f : X → Y) (xs : List X) (x : X) → map f (xs ++ x ∷ []) ≡ map f xs ++ f x ∷ []
mapped_last f [] x = refl
mapped_last f (y ∷ xs) x = ap (λ ys. f y ∷ ys) (mapped_last f xs x)

-- One word more is borrowed.
pub borrowed_more : (texts : List (Bor (List ℕ))) (text : Bor (List ℕ)) (words : List (String Global)) (i : ℕ) (d : String Global) → i < length words
    → map (λ t. t.now) texts ≡ map string_bytes (take i words) → text.now ≡ string_bytes (get_or words i d)
    → map (λ t. t.now) (texts ++ text ∷ []) ≡ map string_bytes (take (i + 1) words)
borrowed_more texts text words i d below first last =
    mapped_last (λ t. t.now) texts text
    ∙ (ap₂ (λ xs x. xs ++ x ∷ []) first last
    ∙ sym (ap (map string_bytes) (take_more words i d below) ∙ mapped_last string_bytes (take i words) (get_or words i d)))
