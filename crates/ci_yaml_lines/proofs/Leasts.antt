-- The least of some codes and others.
use Rattle.std.proofs.Common.{◌≡◌, Bool, true, false, cond, List, [], ◌∷◌, ◌++◌, Option, Some, None, refl, sym, ◌∙◌, ap, arith, nat_le}
use Rattle.std.proofs.lemmas.Bool.{leb-true, leb-false}
use Rattle.ci_yaml_lines.specs.Prelude.{Code, lesser, least, least_of}
use Rattle.ci_yaml_lines.specs.Least.{number_of}

chosen : (p q r : Bool) (c d e : Code) → nat_le (number_of c) (number_of d) ≡ p → nat_le (number_of d) (number_of e) ≡ q → nat_le (number_of c) (number_of e) ≡ r
    → lesser c (Some (cond q d e)) ≡ cond (nat_le (number_of (cond p c d)) (number_of e)) (cond p c d) e
chosen true true true c d e a b f = ap (λ t. cond t c d) a ∙ sym (ap (λ t. cond t c e) f)
chosen true true false c d e a b f = absurd (omega (arith, leb-true (number_of c) (number_of d) a, leb-true (number_of d) (number_of e) b, leb-false (number_of c) (number_of e) f))
chosen true false r c d e a b f = refl
chosen false true r c d e a b f = ap (λ t. cond t c d) a ∙ sym (ap (λ t. cond t d e) b)
chosen false false true c d e a b f = absurd (omega (arith, leb-false (number_of c) (number_of d) a, leb-false (number_of d) (number_of e) b, leb-true (number_of c) (number_of e) f))
chosen false false false c d e a b f = ap (λ t. cond t c e) f ∙ sym (ap (λ t. cond t d e) b)

lesser-three : (c d e : Code) → lesser c (Some (lesser d (Some e))) ≡ lesser (lesser c (Some d)) (Some e)
lesser-three c d e = chosen (nat_le (number_of c) (number_of d)) (nat_le (number_of d) (number_of e)) (nat_le (number_of c) (number_of e)) c d e refl refl refl

lesser-more : (c : Code) (a b : Option Code) → lesser c (least_of a b) ≡ lesser (lesser c a) b
lesser-more c None b = refl
lesser-more c (Some d) None = refl
lesser-more c (Some d) (Some e) = lesser-three c d e

pub least_append : (xs ys : List Code) → least (xs ++ ys) ≡ least_of (least xs) (least ys)
least_append [] ys = refl
least_append (c ∷ xs) ys = ap (λ o. Some (lesser c o)) (least_append xs ys) ∙ ap (λ d. Some d) (lesser-more c (least xs) (least ys))

pub least_of_three : (a b c : Option Code) → least_of a (least_of b c) ≡ least_of (least_of a b) c
least_of_three None b c = refl
least_of_three (Some d) b c = ap (λ e. Some e) (lesser-more d b c)

pub least_of_none : (a : Option Code) → least_of a None ≡ a
least_of_none None = refl
least_of_none (Some c) = refl

pub least_two : (o a b : Option Code) (xs ys : List Code) → o ≡ least_of a b → a ≡ least xs → b ≡ least ys → o ≡ least (xs ++ ys)
least_two o a b xs ys e f g = e ∙ ap (λ x. least_of x b) f ∙ ap (least_of (least xs)) g ∙ sym (least_append xs ys)

-- a list of codes without a least one is empty
pub no_least : (cs : List Code) → least cs ≡ None → cs ≡ []
no_least [] e = refl
no_least (c ∷ cs) e = absurd cc
