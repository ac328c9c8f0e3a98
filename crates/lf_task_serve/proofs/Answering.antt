-- Lines that end early.
use Rattle.std.proofs.Common.{◌≡◌, ◌∙◌, ◌<◌, ◌≤◌, ℕ, zero, suc, arith, sym, true, ap, is_some, Bool, None, Some, false, refl, subst}
use Rattle.std.proofs.lemmas.Bool.{false≢true}
use Rattle.std.specs.Prelude.{◌↔◌, unwrap_or}
use Rattle.lf_server.specs.declared.serve_loop.Ending.{Ending}
use Rattle.lf_server.specs.declared.serve_loop.Ending.TheVariants as ending
use Rattle.lf_task_faults.specs.declared.faults.Fault.{Fault}
use Rattle.lf_task_faults.specs.declared.faults.Fault.TheVariants.{ReadFault, WriteFault, TooManyLines, OutOfMemory}
use Rattle.lf_task_faults.specs.Faults.{BlamesDevices, IsOfWriter}
use Rattle.lf_task_serve.specs.Faults.{BlamesStreams, ending_fault}
use Rattle.lf_task_serve.specs.Lines.{ReadsFail}

abbrev IsMany : Fault → Type 0
IsMany TooManyLines = Unit {0}
IsMany _ = ⊥

abbrev IsFull : Fault → Type 0
IsFull OutOfMemory = Unit {0}
IsFull _ = ⊥

abbrev IsManyEnd : Ending → Type 0
IsManyEnd ending.TooManyLines = Unit {0}
IsManyEnd _ = ⊥

abbrev IsFullEnd : Ending → Type 0
IsFullEnd ending.OutOfMemory = Unit {0}
IsFullEnd _ = ⊥

abbrev IsDoneEnd : Ending → Type 0
IsDoneEnd ending.Done = Unit {0}
IsDoneEnd _ = ⊥

abbrev IsByeEnd : Ending → Type 0
IsByeEnd ending.Bye = Unit {0}
IsByeEnd _ = ⊥

own : (is fault : Fault) → Some is ≡ Some fault → is ≡ fault
own is fault same = ap (λ o. unwrap_or o is) same

-- Lines that end early blame the reader or the writer, as serving them reports.
pub breaks_blame : (end : Ending) (fault : Fault) (kept reader writer export service : Type 0) (read_failed write_failed : Bool)
    → ending_fault end ≡ Some fault
    → (end ≡ ending.ReadFault → reader) → ((end ≡ ending.ReadFault → ⊥) → read_failed ≡ false)
    → (end ≡ ending.WriteFault → writer) → ((end ≡ ending.WriteFault → ⊥) → write_failed ≡ false)
    → BlamesDevices fault kept reader writer export service ((read_failed ≡ false) × (write_failed ≡ false))
breaks_blame ending.Done fault kept reader writer export service read_failed write_failed same reading readable writing writable = absurd (false≢true (ap is_some same))
breaks_blame ending.Bye fault kept reader writer export service read_failed write_failed same reading readable writing writable = absurd (false≢true (ap is_some same))
breaks_blame ending.ReadFault fault kept reader writer export service read_failed write_failed same reading readable writing writable =
    subst (λ (f : Fault). BlamesDevices f kept reader writer export service ((read_failed ≡ false) × (write_failed ≡ false))) (own ReadFault fault same)
    record { early = λ of. absurd of; reading = λ _. reading refl; writing = λ of. absurd of; exporting = λ of. absurd of; serving = λ of. absurd of; sparing = λ of. absurd of }
breaks_blame ending.WriteFault fault kept reader writer export service read_failed write_failed same reading readable writing writable =
    subst (λ (f : Fault). BlamesDevices f kept reader writer export service ((read_failed ≡ false) × (write_failed ≡ false))) (own WriteFault fault same)
    record { early = λ of. absurd of; reading = λ other. absurd (subst IsOfWriter other tt); writing = λ _. writing refl; exporting = λ of. absurd of; serving = λ of. absurd of; sparing = λ of. absurd of }
breaks_blame ending.TooManyLines fault kept reader writer export service read_failed write_failed same reading readable writing writable =
    subst (λ (f : Fault). BlamesDevices f kept reader writer export service ((read_failed ≡ false) × (write_failed ≡ false))) (own TooManyLines fault same)
    record { early = λ of. absurd of; reading = λ other. absurd (subst IsMany other tt); writing = λ of. absurd of; exporting = λ of. absurd of; serving = λ of. absurd of; sparing = λ _. (readable (λ e. absurd (subst IsManyEnd e tt)), writable (λ e. absurd (subst IsManyEnd e tt))) }
breaks_blame ending.OutOfMemory fault kept reader writer export service read_failed write_failed same reading readable writing writable =
    subst (λ (f : Fault). BlamesDevices f kept reader writer export service ((read_failed ≡ false) × (write_failed ≡ false))) (own OutOfMemory fault same)
    record { early = λ of. absurd of; reading = λ other. absurd (subst IsFull other tt); writing = λ of. absurd of; exporting = λ of. absurd of; serving = λ of. absurd of; sparing = λ _. (readable (λ e. absurd (subst IsFullEnd e tt)), writable (λ e. absurd (subst IsFullEnd e tt))) }

-- After lines that were answered to their end, neither the reader nor the writer has failed.
pub ends_well : (end : Ending) (read_failed write_failed : Bool) → None ≡ ending_fault end
    → ((end ≡ ending.ReadFault → ⊥) → read_failed ≡ false) → ((end ≡ ending.WriteFault → ⊥) → write_failed ≡ false)
    → (read_failed ≡ false) × (write_failed ≡ false)
ends_well ending.Done read_failed write_failed same readable writable = (readable (λ e. absurd (subst IsDoneEnd e tt)), writable (λ e. absurd (subst IsDoneEnd e tt)))
ends_well ending.Bye read_failed write_failed same readable writable = (readable (λ e. absurd (subst IsByeEnd e tt)), writable (λ e. absurd (subst IsByeEnd e tt)))
ends_well ending.ReadFault read_failed write_failed same readable writable = absurd (false≢true (ap is_some same))
ends_well ending.WriteFault read_failed write_failed same readable writable = absurd (false≢true (ap is_some same))
ends_well ending.TooManyLines read_failed write_failed same readable writable = absurd (false≢true (ap is_some same))
ends_well ending.OutOfMemory read_failed write_failed same readable writable = absurd (false≢true (ap is_some same))

-- The devices that are blamed for lines, with equivalent conditions.
pub streams_blame : (limit : ℕ) (fault : Fault) (kept : Type 0) (read_failed : Bool) (old_reads new_reads : ℕ) (write_failed : Bool) (export service sound : Type 0)
    → BlamesStreams limit fault kept read_failed old_reads new_reads write_failed → ((read_failed ≡ false) × (write_failed ≡ false) → sound)
    → BlamesDevices fault kept (ReadsFail limit read_failed old_reads new_reads) (write_failed ≡ true) export service sound
streams_blame limit fault kept read_failed old_reads new_reads write_failed export service sound blames sounds = record {
  early = blames.early;
  reading = blames.reading;
  writing = blames.writing;
  exporting = λ is. absurd (blames.exporting is);
  serving = λ is. absurd (blames.serving is);
  sparing = λ is. sounds (blames.sparing is);
}

-- The same for a service.
pub service_blames : (fault : Fault) (kept reader writer export service sound : Type 0) → BlamesDevices fault kept ⊥ writer ⊥ service ⊥
    → BlamesDevices fault kept reader writer export service sound
service_blames fault kept reader writer export service sound blames = record {
  early = blames.early;
  reading = λ is. absurd (blames.reading is);
  writing = blames.writing;
  exporting = λ is. absurd (blames.exporting is);
  serving = blames.serving;
  sparing = λ is. absurd (blames.sparing is);
}

less : (a b : ℕ) → a ≤ b → (a ≡ b → ⊥) → a < b
less zero zero most differs = absurd (differs refl)
less zero (suc b) most differs = omega arith
less (suc a) zero most differs = absurd (omega (arith, most))
less (suc a) (suc b) most differs =
    let before : a < b = less a b (omega (arith, most)) (λ e. differs (ap suc e)) in omega (arith, before)

-- After a fault, fewer than all are served.
pub fewer : (count all : ℕ) (fault : Bool) → count ≤ all → ((count ≡ all) ↔ (fault ≡ false)) → fault ≡ true → count < all
fewer count all fault most same fails = less count all most (λ e. false≢true (sym (same.0 e) ∙ fails))
