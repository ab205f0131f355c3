use Rattle.std.proofs.Common.{ℕ, List, ◌++◌, sym, ap, ◌∙◌, append_assoc, Option, Result, Ok, Err, OnOk, OnErr}
use Rattle.std.specs.Io.KnownBytes.{Appends}
use Rattle.std.proofs.KnownBytes.{Appends-trans}
use Rattle.ci_http.specs.Serving.{WritesFront}
use Rattle.ci_http.proofs.serve.put_each.Goals as goal

on_ok : {T E P Q : Type 0} (r : Result T E) → (P → Q) → OnOk r P → OnOk r Q
on_ok (Ok x) f p = f p
on_ok (Err e) f p = tt

on_err : {T E P Q : Type 0} (r : Result T E) → (P → Q) → OnErr r P → OnErr r Q
on_err (Ok x) f p = tt
on_err (Err e) f p = f p

-- a front of what follows is a front of the whole
front_after : (old mid new : Option (List ℕ)) (head body : List ℕ) → Appends old mid head → WritesFront mid new body → WritesFront old new (head ++ body)
front_after old mid new head body a (front, back, parts, b) =
    (head ++ front, back, ap (λ l. head ++ l) parts ∙ sym (append_assoc head front back), Appends-trans old mid new head front a b)

-- a front of a beginning is a front of the whole
front_within : (old new : Option (List ℕ)) (head body : List ℕ) → WritesFront old new head → WritesFront old new (head ++ body)
front_within old new head body (front, back, parts, b) =
    (front, back ++ body, ap (λ l. l ++ body) parts ∙ append_assoc front back body, b)

pub returns-in-Ok-clause-ok : goal.returns-in-Ok-clause-ok
returns-in-Ok-clause-ok g c = on_ok c.put_all-in-Ok.result (Appends-trans _ _ _ _ _ c.in-Ok.ensures.ok) c.put_all-in-Ok.ensures.ok

pub returns-in-Ok-clause-err : goal.returns-in-Ok-clause-err
returns-in-Ok-clause-err g c = on_err c.put_all-in-Ok.result (front_after _ _ _ _ _ c.in-Ok.ensures.ok) c.put_all-in-Ok.ensures.err

pub returns-in-Err-clause-err : goal.returns-in-Err-clause-err
returns-in-Err-clause-err g c = front_within _ _ _ _ c.in-Err.ensures.err
