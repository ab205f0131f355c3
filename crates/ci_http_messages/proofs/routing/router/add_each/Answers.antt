use Rattle.std.proofs.Common.{◌≡◌, ◌+◌, drop, sym, subst}
use Rattle.std.proofs.lemmas.List.{drop_all, drop_more}
use Rattle.ci_http_messages.specs.Prelude.{TakesPaths, with_paths, written}
use Rattle.ci_http_messages.proofs.routing.router.add_each.Goals as goal

pub add-requires : goal.add-requires
add-requires c =
    let router = c.loop-entry.router in
    (subst (λ left. TakesPaths (written left) router) (drop_more c.args.paths.now c.loop-entry.entry-index _ c.loop-entry-test.true) c.loop-entry.invariant.0).0

pub loop-entry-preserved : goal.loop-entry-preserved
loop-entry-preserved c =
    let all = with_paths (written c.args.paths.now) c.args.router.now in
    let left = written (drop (c.loop-entry.entry-index + 1) c.args.paths.now) in
    let here = subst (λ left. TakesPaths (written left) c.loop-entry.router × (with_paths (written left) c.loop-entry.router ≡ all))
    (drop_more c.args.paths.now c.loop-entry.entry-index _ c.loop-entry-test.true) c.loop-entry.invariant in
    subst (λ router. TakesPaths left router × (with_paths left router ≡ all)) (sym c.in_ok-add.ensures) (here.0.1, here.1)

pub returns : goal.returns
returns c =
    subst (λ left. with_paths (written left) c.loop-entry.router ≡ with_paths (written c.args.paths.now) c.args.router.now)
    (drop_all c.loop-entry.entry-index c.args.paths.now c.loop-entry-test.false) c.loop-entry.invariant.1
