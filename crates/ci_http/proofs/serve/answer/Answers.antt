use Rattle.std.proofs.Common.{refl, sym, subst, inl, inr}
use Rattle.ci_http.specs.Serving.{AnswersAsked}
use Rattle.ci_http.proofs.serve.answer.Goals as goal

-- the server was swept, and the reply refuses the call
pub returns-in-Err : goal.returns-in-Err
returns-in-Err g c =
    let swept = c.sweep_all.ensures in
    elim c.in-Err.ensures.err [
      | inl (is, asks) ↦ inl ((swept, is), asks)
      | inr is ↦ inr (subst (AnswersAsked g.S.Store g.L.Log.tells 1000 c.args.moment c.args.seed c.args.server.now c.sweep_all.new.server c.args.log.now c.sweep_all.new.log c.in-Err.reply) (sym is) (swept, refl))
    ]
