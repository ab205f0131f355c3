-- The names of methods.
use Rattle.std.specs.Prelude.{ℕ, Bool, List, nat_eq, codes}
use Rattle.std.specs.Cmp.Lexicographic.{pointwise}
use Rattle.ci_machine.specs.declared.reply.Method.{Method}
use Rattle.ci_machine.specs.declared.reply.Method.TheVariants.{Delete, Get, Patch, Post, Put}

abbrev pub is_text : List ℕ → List ℕ → Bool
is_text text other = pointwise nat_eq text other

abbrev pub method_text : Method → List ℕ
method_text Delete = codes "DELETE"
method_text Get = codes "GET"
method_text Patch = codes "PATCH"
method_text Post = codes "POST"
method_text Put = codes "PUT"
