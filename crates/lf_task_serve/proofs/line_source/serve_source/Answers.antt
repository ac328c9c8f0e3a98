use Rattle.std.proofs.Common.{◌∙◌, refl, sym}
use Rattle.std.proofs.lemmas.Result.{IfErr-weaker, on_ok_weaker}
use Rattle.lf_task_serve.proofs.Answering.{service_blames, streams_blame}
use Rattle.lf_task_serve.proofs.line_source.serve_source.Goals as goal

pub returns-in-Reader-clause-err : goal.returns-in-Reader-clause-err
returns-in-Reader-clause-err g c =
    rw c.in-Reader.is (IfErr-weaker c.serve_reader.result _ _
    (λ fault both. (
      both.0,
      streams_blame c.in-Reader.max_lines fault _ _ _ _ _ _ _ _ both.1
          (λ sound. record { exports = refl; services = refl; reader = sound.0 ∙ sym c.requires.ready.readable; writer = sound.1 ∙ sym c.requires.ready.writable }),
    ))
    c.serve_reader.ensures.err)

pub returns-in-Reader-clause-sound : goal.returns-in-Reader-clause-sound
returns-in-Reader-clause-sound g c =
    on_ok_weaker c.serve_reader.result
    (λ sound. record { exports = refl; services = refl; reader = sound.0 ∙ sym c.requires.ready.readable; writer = sound.1 ∙ sym c.requires.ready.writable })
    c.serve_reader.ensures.sound

pub returns-in-Port-clause-err : goal.returns-in-Port-clause-err
returns-in-Port-clause-err g c =
    rw c.in-Port.is (IfErr-weaker c.serve_port.result _ _
    (λ fault both. (both.0, service_blames fault _ _ _ _ _ _ both.1))
    (rw (c.local_service-local.ensures.at, c.local_service-local.ensures.count) at c.serve_port.ensures.err))

pub returns-in-Port-clause-sound : goal.returns-in-Port-clause-sound
returns-in-Port-clause-sound g c =
    on_ok_weaker c.serve_port.result (λ sound. record { exports = refl; services = sound.1; reader = refl; writer = sound.0 }) c.serve_port.ensures.sound

pub returns-in-Port-clause-ok : goal.returns-in-Port-clause-ok
returns-in-Port-clause-ok g c = rw c.in-Port.is (rw c.local_service-local.ensures.count at c.serve_port.ensures.ok)

pub returns-in-Port-clause-offered : goal.returns-in-Port-clause-offered
returns-in-Port-clause-offered g c =
    rw c.in-Port.is (c.local_service-local.result, c.local_service-local.ensures, c.serve_port.ensures.offered)
