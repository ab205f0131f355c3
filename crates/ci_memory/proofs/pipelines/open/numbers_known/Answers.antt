use Rattle.std.proofs.Common.{sym, ap, subst, ◌∙◌, ◌≡◌, ℕ, List, ◌++◌, map}
use Rattle.ci_machine_steps.specs.Prelude.{Pipeline}
use Rattle.ci_server_lookups.specs.Prelude.{AreOpen}
use Rattle.ci_memory.specs.Known.{Known}
use Rattle.ci_memory.proofs.Covers.{all_numbers}
use Rattle.ci_memory.proofs.pipelines.open.numbers_known.Goals as goal

-- the numbers of both lists
pub returns : goal.returns
returns c = λ k right.
    let o = c.args.known.now in
    let alone = c.as_slice.result.now in
    let suspects = c.as_slice-2.result.now in
    let is : c.extend_from_slice.new.self.items ≡ map (λ (p : Pipeline). p.id) o.alone ++ o.suspects
    = c.in_ok-extend_from_slice.ensures.items
    ∙ (ap (λ (l : List ℕ). l ++ suspects) (c.in_ok-numbers.ensures ∙ ap (λ (l : List Pipeline). map (λ p. p.id) l) c.as_slice.ensures.value)
    ∙ (ap (λ (l : List ℕ). map (λ (p : Pipeline). p.id) c.known.inside.alone.items ++ l) c.as_slice-2.ensures.value
    ∙ ap (λ (known : Known). map (λ (p : Pipeline). p.id) known.alone ++ known.suspects) c.known.view_is)) in
    subst (AreOpen k) (sym is) (all_numbers o k right)
