use Rattle.std.proofs.Common.{◌≡◌, ◌∙◌, true, false, if◌then◌else◌, sym, ap}
use Rattle.std.specs.List.{list_any}
use Rattle.ci_store_sqlite.specs.Prelude.{is_next_job}
use Rattle.ci_store_sqlite.proofs.Looking.{loads_so, unasked}
use Rattle.ci_store_sqlite.proofs.commit.first_new_job.Goals as goal

pub returns-then-puts_next_job : goal.returns-then-puts_next_job
returns-then-puts_next_job g c =
    let put : list_any is_next_job c.args.changes.now ≡ true = sym c.puts_next_job.ensures ∙ c.if-puts_next_job.true in
    loads_so c.next.ensures (λ k at n is. is ∙ sym (ap (λ b. if b then k.state.next.job else 18446744073709551615) put))

pub returns-else-puts_next_job : goal.returns-else-puts_next_job
returns-else-puts_next_job g c =
    let unput : list_any is_next_job c.args.changes.now ≡ false = sym c.puts_next_job.ensures ∙ c.if-puts_next_job.false in
    unasked g.S.Store _ _ _ (λ k. sym (ap (λ b. if b then k.state.next.job else 18446744073709551615) unput))
