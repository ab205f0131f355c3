use Rattle.std.proofs.Common.{◌<◌, ◌-◌, ◌++◌, length, Some, vec_len, vec_capacity, ap, subst, ◌∙◌, inr, arith}
use Rattle.ci_http_messages.specs.Prelude.{reply_text}
use Rattle.ci_http.specs.Serving.{Serves}
use Rattle.ci_http.proofs.attend.serve_by.Goals as goal

-- the reader began with the bytes, and the writer with none
pub returns-in-Replied-clause-some : goal.returns-in-Replied-clause-some
returns-in-Replied-clause-some g c =
    let (reply, serves, appends) = c.serve_one.ensures.replied c.in-Replied.is in
    let left = Some c.serve_one.new.reader.inner.now in
    let had = ap (λ b. Some b.now) c.new-reader.ensures.inner in
    let told = subst (λ h. Serves g.S.Store g.L.Log.tells 1000 c.args.moment c.args.seed c.args.server.now c.serve_one.new.server c.args.log.now c.serve_one.new.log reply h left) had serves in
    let items = ap (λ v. v.items) c.into_text.ensures ∙ appends ∙ ap (λ v. v.items ++ reply_text reply) c.new-writer.ensures.text ∙ ap (λ l. l ++ reply_text reply) c.requires.empty in
    (reply, (left, told), items)

-- a reply that wasn't written is longer than the writer's room
pub returns-clause-none : goal.returns-clause-none
returns-clause-none g c =
    let (reply, serves, front, over) = c.serve_one.ensures.write_failed c.in-WriteFailed.is in
    let left = Some c.serve_one.new.reader.inner.now in
    let had = ap (λ b. Some b.now) c.new-reader.ensures.inner in
    let told = subst (λ h. Serves g.S.Store g.L.Log.tells 1000 c.args.moment c.args.seed c.args.server.now c.serve_one.new.server c.args.log.now c.serve_one.new.log reply h left) had serves in
    let room = ap (λ v. vec_capacity v - vec_len v) c.new-writer.ensures.text in
    let less : vec_capacity c.args.room - vec_len c.args.room < length (reply_text reply) = subst (λ n. n < length (reply_text reply)) room over in
    let roomy = c.requires.roomy in
    inr (reply, left, told, omega (arith, roomy, less))
