use Rattle.std.proofs.Common.{ap, ◌∙◌, map}
use Rattle.std.proofs.lemmas.Result.{IfOk-weaker, IfErr-weaker}
use Rattle.ci_machine_statuses.specs.Lookups.{tally_of}
use Rattle.ci_machine_statuses.proofs.Puts.{number, map_twice}
use Rattle.ci_machine_statuses.proofs.load.facts_of.Goals as goal

pub returns-clause-facts : goal.returns-clause-facts
returns-clause-facts c =
    IfOk-weaker c.facts.result _ _ (λ v all up. all (tally_of c.args.attempts.now)
    (c.as_slice.ensures.value ∙ (c.in_ok-tallies.ensures.tallies up
    ∙ (ap (map (tally_of c.args.attempts.now)) c.requires ∙ map_twice (tally_of c.args.attempts.now) number c.args.jobs.now)))) c.facts.ensures.facts

pub returns-clause-fault : goal.returns-clause-fault
returns-clause-fault c =
    IfErr-weaker c.facts.result _ _ (λ fault only up few. only (tally_of c.args.attempts.now)
    (c.as_slice.ensures.value ∙ (c.in_ok-tallies.ensures.tallies up
    ∙ (ap (map (tally_of c.args.attempts.now)) c.requires ∙ map_twice (tally_of c.args.attempts.now) number c.args.jobs.now))) few) c.facts.ensures.fault
