use Rattle.std.proofs.Common.{◌≡◌, ℕ, ◌+◌, ◌-◌, ◌≤◌, List, ◌++◌, length, take, drop, sym, ap, ◌∙◌, append_assoc, take-append-drop, length-append, length-take-le, arith}
use Rattle.std.proofs.lemmas.List.{take_rest}
use Rattle.std.proofs.KnownBytes.{Appends-trans}
use Rattle.ci_http.proofs.serve.put_all.Goals as goal

moves_front : (all done rest : List ℕ) (n : ℕ) → all ≡ done ++ rest → all ≡ (done ++ take n rest) ++ take (length rest - n) (drop n rest)
moves_front all done rest n e =
    e ∙ ap (λ l. done ++ l) (sym (take-append-drop n rest)) ∙ sym (append_assoc done (take n rest) (drop n rest)) ∙ ap (λ l. (done ++ take n rest) ++ l) (sym (take_rest rest n))

-- what a call took of the room
room_taken : (old mid new n : ℕ) (done rest : List ℕ) → n ≤ length rest → old ≤ mid + length done → mid ≤ new + n → old ≤ new + length (done ++ take n rest)
room_taken old mid new n done rest within before took =
    let all = length-append done (take n rest) in
    let taken = length-take-le n rest within in
    omega arith

pub loop-rest-preserved : goal.loop-rest-preserved
loop-rest-preserved g c =
    let (done, split, appended, count, room) = c.loop-rest.invariant in
    let rest = c.loop-rest.rest.now in
    let n = c.in_ok-count.count in (
      done ++ take n rest,
      moves_front _ done rest n split,
      Appends-trans _ _ _ _ _ appended c.in_ok-count.ensures.bytes,
      c.in_ok-count.ensures.count ∙ count,
      room_taken _ _ _ n done rest c.in_ok-count.ensures.within.1 room c.in_ok-count.ensures.room,
    )
