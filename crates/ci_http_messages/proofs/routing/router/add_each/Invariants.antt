use Rattle.std.proofs.Common.{◌≡◌, drop}
use Rattle.ci_http_messages.specs.Prelude.{TakesPaths, with_paths, written}
use Rattle.ci_http_messages.proofs.routing.router.add_each.Given as goal

-- the router takes the paths that are left, and has all rows then
abbrev pub invariant-loop-entry : goal.invariant-loop-entry
invariant-loop-entry l =
    let left = written (drop l.entry-index l.paths) in
    TakesPaths left l.router × (with_paths left l.router ≡ with_paths (written l.fn.paths) l.fn.router)
