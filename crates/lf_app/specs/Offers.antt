-- Services that jobs offer.
use Rattle.std.specs.Prelude.{◌≡◌, List, Option}
use Rattle.lf_cli.specs.Command.{Job, serve}
use Rattle.lf_server.specs.declared.acceptor.ServiceConfig.{ServiceConfig}
use Rattle.lf_task_serve.specs.Services.{OffersLocal}

-- What a job offers: its service, or nothing if it is no service.
abbrev pub IsOfferOf : Job → Option (List ServiceConfig) → Option (List ServiceConfig) → Type 0
IsOfferOf (serve def lefs state slots port connections save export) old new = OffersLocal port connections old new
IsOfferOf _ old new = new ≡ old
