-- The devices of a task: what contracts see of them, and what is unchanged.
use Rattle.std.specs.Prelude.{◌≡◌, ℕ, Bool, false, true, List, Option}
use Rattle.lf_io.specs.Shelf.{Put}
use Rattle.lf_server.specs.Connections.{Accepted}
use Rattle.lf_task_faults.specs.declared.faults.Fault.{Fault}
use Rattle.lf_task_faults.specs.Faults.{BlamesDevices}
use Rattle.lf_server.specs.declared.acceptor.ServiceConfig.{ServiceConfig}
use Rattle.lf_task_serve.specs.Exits.{Streams, streams}
use Rattle.lf_task_serve.specs.Lines.{ReadsFail}

-- What contracts see of the devices of a task:
-- - the lines that are left, the number of reads, whether a read failed, and which reader it is
-- - the bytes that were written, whether a write failed, and which writer it is
-- - the texts that were written to files, and whether such a file failed
-- - the connections that were accepted, the services that were offered, and whether one failed
pub record Io : Type 0 where
  pub left : Option (List ℕ)
  pub reads : ℕ
  pub read_failed : Bool
  pub reader : ℕ
  pub contents : Option (List ℕ)
  pub write_failed : Bool
  pub writer : ℕ
  pub puts : Option (List Put)
  pub put_failed : Bool
  pub accepted : Option Accepted
  pub offers : Option (List ServiceConfig)
  pub service_failed : Bool

-- What was read, written to the output and to files, and accepted.
abbrev pub streams_of : Io → Io → Streams
streams_of old new = streams old.left new.left old.contents new.contents old.puts new.puts old.accepted new.accepted

-- No call of the reader or the writer has failed, and nothing was read.
pub record IsReady {R W : Type 0} (read_failed : R → Bool) (reads : R → ℕ) (write_failed : W → Bool) (reader : R)
    (writer : W) : Type 0 where
  pub readable : read_failed reader ≡ false
  pub fresh : reads reader ≡ 0
  pub writable : write_failed writer ≡ false

-- The reader and the writer are the same.
pub record KeepsStreams (old new : Io) : Type 0 where
  pub reader_held : new.reader ≡ old.reader
  pub writer_held : new.writer ≡ old.writer

-- No device has failed that had not failed before.
pub record IsSound (old new : Io) : Type 0 where
  pub exports : new.put_failed ≡ old.put_failed
  pub services : new.service_failed ≡ old.service_failed
  pub reader : new.read_failed ≡ old.read_failed
  pub writer : new.write_failed ≡ old.write_failed

-- Which device is to blame for a fault if `lines` lines of the reader are answered. `kept` says that the
-- writer is unchanged.
abbrev pub BlamesEnvironment : ℕ → Type 0 → Io → Io → Fault → Type 0
BlamesEnvironment lines kept old new fault =
    BlamesDevices fault kept (ReadsFail lines new.read_failed old.reads new.reads) (new.write_failed ≡ true)
    (new.put_failed ≡ true) (new.service_failed ≡ true) (IsSound old new)
