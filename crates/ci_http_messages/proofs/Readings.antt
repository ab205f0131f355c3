-- What was read of a text, put together.
use Rattle.std.proofs.Common.{◌≡◌, ℕ, ◌<◌, true, false, List, [], ◌++◌, length, take, drop, refl, sym, ◌∙◌, ap, subst, arith, length-append, nat_lt, if◌then◌else◌, Option, Some}
use Rattle.std.proofs.Common.{None, Ok}
use Rattle.std.specs.Io.KnownBytes.{Consumes}
use Rattle.std.proofs.Math.Seq.{take-append_seam, drop-append_seam}
use Rattle.std.proofs.lemmas.Bool.Decides.{nat_tests}
use Rattle.ci_machine.specs.declared.reply.Code.{Code}
use Rattle.ci_machine.specs.declared.reply.Code.TheVariants.{H2}
use Rattle.ci_http_messages.specs.Prelude.{short, too_large, opened, opening_of, body_length, Head, IsHeadOf, message, ended, refused, request, reading_by, reading_after}
use Rattle.ci_http_messages.specs.Prelude.{IsReadingAt, IsReading, Refuses, AwaitsBody, Tells}

pub tells_map : (P Q : List ℕ → List ℕ → Type 0) (old new : Option (List ℕ)) → ((b r : List ℕ) → P b r → Q b r) → Tells old new P → Tells old new Q
tells_map P Q None new f t = tt
tells_map P Q (Some b) None f t = absurd t
tells_map P Q (Some b) (Some r) f t = f b r t

pub tells_then : (P Q R : List ℕ → List ℕ → Type 0) (old mid new : Option (List ℕ)) → ((b a r : List ℕ) → P b a → Q a r → R b r)
    → Tells old mid P → Tells mid new Q → Tells old new R
tells_then P Q R None mid new f t u = tt
tells_then P Q R (Some b) None new f t u = absurd t
tells_then P Q R (Some b) (Some a) None f t u = absurd u
tells_then P Q R (Some b) (Some a) (Some r) f t u = f b a r t u

pub consumes_tells : (old new : Option (List ℕ)) (v : List ℕ) → Consumes old new v → Tells old new (λ b r. b ≡ v ++ r)
consumes_tells None new v t = tt
consumes_tells (Some b) None v t = absurd t
consumes_tells (Some b) (Some r) v t = t

pub reading_short : (b r : List ℕ) → opening_of b ≡ (short, r) → IsReading b ended r
reading_short b r e = subst (λ o. IsReadingAt o (ended, r)) (sym e) refl

pub reading_large : (why : Code) → why ≡ H2 → (b r : List ℕ) → opening_of b ≡ (too_large, r) → IsReading b (refused why) r
reading_large why w b r e = subst (λ o. IsReadingAt o (refused why, r)) (sym e) (ap (λ k. (refused k, r)) w)

refuses_after : (head : Option Head) (why : Code) (r : List ℕ) → Refuses head why → (refused why, r) ≡ reading_after head r
refuses_after None why r w = ap (λ k. (refused k, r)) w
refuses_after (Some head) why r w = sym (ap (reading_by head r) w)

pub reading_refused : (front : List ℕ) (why : Code) → (head : Option Head) × IsHeadOf front head × Refuses head why
    → (b r : List ℕ) → opening_of b ≡ (opened front, r) → IsReading b (refused why) r
reading_refused front why (head, is, w) b r e = subst (λ o. IsReadingAt o (refused why, r)) (sym e) (head, is, refuses_after head why r w)

-- what follows a head that asks for a body of n bytes: too few bytes, or enough
pub by_few : (h : Head) (after : List ℕ) (n : ℕ) → nat_lt (length after) n ≡ true → reading_by h after (Ok n) ≡ (ended, [])
by_few h after n few = ap (λ t. if t then (ended, []) else (request (message h (take n after)), drop n after)) few

pub by_enough : (h : Head) (after : List ℕ) (n : ℕ) → nat_lt (length after) n ≡ false
    → reading_by h after (Ok n) ≡ (request (message h (take n after)), drop n after)
by_enough h after n enough = ap (λ t. if t then (ended, []) else (request (message h (take n after)), drop n after)) enough

pub awaits : (front : List ℕ) (head : Head) (n : ℕ) → IsHeadOf front (Some head) → body_length head ≡ Ok n → 0 < n
    → (b r : List ℕ) → opening_of b ≡ (opened front, r) → AwaitsBody b r
awaits front head n is len some b r e = (front, head, n, e, is, len, some)

pub reading_ended : (front : List ℕ) (head : Head) (n : ℕ) → IsHeadOf front (Some head) → body_length head ≡ Ok n
    → (b a r : List ℕ) → opening_of b ≡ (opened front, a) → (length a < n) × (r ≡ []) → IsReading b ended r
reading_ended front head n is len b a r e (less, none) =
    let test : nat_lt (length a) n ≡ true = grind (arith, nat_tests) in
    let same : reading_after (Some head) a ≡ (ended, r)
    = ap (reading_by head a) len ∙ by_few head a n test ∙ ap (λ l. (ended, l)) (sym none) in
    subst (λ o. IsReadingAt o (ended, r)) (sym e) (Some head, is, sym same)

-- a body of the length that its head says, and what follows
pub after_body : (h : Head) (len : ℕ) (body other : List ℕ) → body_length h ≡ Ok len → length body ≡ len
    → reading_after (Some h) (body ++ other) ≡ (request (message h body), other)
after_body h len body other is size =
    let test : nat_lt (length (body ++ other)) len ≡ false = grind (arith, nat_tests, length-append body other) in
    let front_is : take len (body ++ other) ≡ body = ap (λ k. take k (body ++ other)) (sym size) ∙ take-append_seam body other in
    let rest_is : drop len (body ++ other) ≡ other = ap (λ k. drop k (body ++ other)) (sym size) ∙ drop-append_seam body other in
    let parts : (request (message h (take len (body ++ other))), drop len (body ++ other)) ≡ (request (message h body), other)
    = λ i. (request (message h (front_is i)), rest_is i) in
    ap (reading_by h (body ++ other)) is ∙ by_enough h (body ++ other) len test ∙ parts

pub reading_call : (front : List ℕ) (head : Head) (n : ℕ) (body : List ℕ) → IsHeadOf front (Some head) → body_length head ≡ Ok n → length body ≡ n
    → (b a r : List ℕ) → opening_of b ≡ (opened front, a) → a ≡ body ++ r → IsReading b (request (message head body)) r
reading_call front head n body is len size b a r e split =
    let same : reading_after (Some head) a ≡ (request (message head body), r) = ap (reading_after (Some head)) split ∙ after_body head n body r len size in
    subst (λ o. IsReadingAt o (request (message head body), r)) (sym e) (Some head, is, sym same)
