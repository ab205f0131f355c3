-- The first pending job that a runner may be given, as it is looked for over rows.
use Rattle.std.specs.Prelude.{◌≡◌, Option, Some, None}
use Rattle.ci_machine_steps.specs.Prelude.{Runner, Kept, row_for, offer}
use Rattle.ci_server_lookups.specs.declared.search.Offer.{Offer}

-- What was found is the job that the runner is offered, with its row.
abbrev pub IsOffered : Kept → Runner → Option Offer → Type 0
IsOffered k runner None = offer k.state k.board (Some runner) ≡ None
IsOffered k runner (Some found) =
    (offer k.state k.board (Some runner) ≡ Some found.queued) × (found.row.job ≡ found.queued.job.id) × (found.row.row ≡ row_for k.board found.queued.job.id)
