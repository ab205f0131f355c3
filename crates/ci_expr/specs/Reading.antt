-- The tokens of a text, read from the left.
use Rattle.std.specs.Prelude.{ℕ, zero, suc, ◌+◌, ◌-◌, List, [], ◌∷◌, length, take, drop, Result, Ok, Err, nat_lt, if◌then◌else◌}
use Rattle.ci_expr.specs.declared.fault.ExprCode.{ExprCode}
use Rattle.ci_expr.specs.declared.fault.ExprCode.TheVariants.{X1, X2}
use Rattle.ci_expr.specs.Character.{is_blank}
use Rattle.ci_expr.specs.Lexeme.{lexeme}
use Rattle.ci_expr.specs.Token.{Token}

infixl 10 ◌>>=◌
abbrev pub ◌>>=◌ : {A B : Type 0} → Result A ExprCode → (A → Result B ExprCode) → Result B ExprCode
(Ok x) >>= f = f x
(Err e) >>= f = Err e

abbrev pub with_token : Token → Result (List Token) ExprCode → Result (List Token) ExprCode
with_token t (Ok ts) = Ok (t ∷ ts)
with_token t (Err e) = Err e

abbrev pub token_from : ℕ → List ℕ → Result Token ExprCode
token_from at bs = lexeme bs >>= λ x. Ok (record { kind = x.0; slice = take x.1 bs; start = at; end = at + x.1 })

-- with so many steps at most
abbrev pub lex : ℕ → ℕ → List ℕ → Result (List Token) ExprCode
lex n at [] = Ok []
lex zero at (b ∷ bs) = Err X2
lex (suc n) at (b ∷ bs) = if is_blank b then lex n (at + 1) bs
    else (token_from at (b ∷ bs) >>= λ t. with_token t (lex n t.end (drop (t.end - at) (b ∷ bs))))

abbrev pub tokens_of : List ℕ → Result (List Token) ExprCode
tokens_of bs = if nat_lt 1024 (length bs) then Err X1 else lex (length bs) 0 bs
