use Rattle.std.proofs.Common.{◌≡◌, ap, sym, ◌∙◌, ℕ, List, Option, Some, None, MatchOption, option_map, codes}
use Rattle.matchit.specs.Seek.{first}
use Rattle.ci_http_messages.specs.Prelude.{Pattern}
use Rattle.ci_http_messages.proofs.Table.{found, value_of, is-text, gives}
use Rattle.ci_http_messages.proofs.routing.place.place_of.Goals as goal

-- what `get` gives, as a value
shows : {K : Type 0} (view : K → List ℕ) (wanted : Option (List ℕ)) (got : Option K) → MatchOption got (wanted ≡ None) (λ text. wanted ≡ Some (view text)) → option_map view got ≡ wanted
shows view wanted None h = sym h
shows view wanted (Some k) h = sym h

pub returns-in-Ok : goal.returns-in-Ok
returns-in-Ok c =
    let p = c.args.path.now in
    let t = is-text p c.type_inv.path in
    let f = rw c.requires at c.in-Ok.ensures.found in
    let by_id = gives (codes "id") p _ t c.utf8.path f in
    let by_n = gives (codes "n") p _ t c.utf8.path f in
    let by_m = gives (codes "m") p _ t c.utf8.path f in
    let by_key = gives (codes "key") p _ t c.utf8.path f in
    let id = rw c.in-Ok.ensures.path at c.get.ensures in
    let n = rw c.in-Ok.ensures.path at c.get-in-Ok.ensures in
    let m = rw c.in-Ok.ensures.path at c.get-in-Ok-2.ensures in
    let key = rw c.in-Ok.ensures.path at c.get-in-Ok-3.ensures in
    record {
      pattern = sym (found p t) ∙ ap (value_of {T = Pattern}) f;
      id = shows _ _ _ (rw by_id.1 at id by_id.0);
      n = shows _ _ _ (rw by_n.1 at n by_n.0);
      m = shows _ _ _ (rw by_m.1 at m by_m.0);
      key = shows _ _ _ (rw by_key.1 at key by_key.0);
    }

pub returns-in-Err : goal.returns-in-Err
returns-in-Err c =
    let p = c.args.path.now in
    sym (sym (ap (value_of {T = Pattern}) c.in-Err.ensures.missing) ∙ ap (λ r. value_of {T = Pattern} (first r p)) c.requires ∙ found p (is-text p c.type_inv.path))
