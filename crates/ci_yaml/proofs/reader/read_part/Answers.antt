use Rattle.std.proofs.Common.{◌+◌, rules}
use Rattle.std.proofs.lemmas.List.{take_rest}
use Rattle.ci_yaml.specs.Prelude.{below_view, state_view, texts_of, StopsBy, state_texts}
use Rattle.ci_yaml.proofs.ReadParts.{short-at, part-read, part-more, part-fails, part-block, part-block_fails}
use Rattle.ci_yaml.proofs.reader.read_part.Goals as goal

pub read_line-requires : goal.read_line-requires
read_line-requires c = record { fits = short-at c.args.lines.now c.args.at _ c.requires.inside c.requires.short }

pub returns-in_err-progress-clause-fault : goal.returns-in_err-progress-clause-fault
returns-in_err-progress-clause-fault c =
    let h : StopsBy (texts_of c.args.lines.now) c.in_err-progress.field-0.0 =
    part-fails c.args.lines.now c.args.at _ (state_view c.args.progress) c.in_err-progress.field-0.0 c.requires.inside c.requires.before c.in_err-progress.ensures.value in
    search (rules, h)

pub returns-in_err-len-in-Some-clause-fault : goal.returns-in_err-len-in-Some-clause-fault
returns-in_err-len-in-Some-clause-fault c =
    let old = c.args.progress in
    let new = c.in_ok-progress.field-0.progress in
    let line =
    part-read c.args.lines.now c.args.at _ (state_view old) (state_view new) (below_view c.in_ok-progress.field-0.below) (state_texts old) (state_texts new) c.requires.inside
    (record { read = c.requires.before; texts = c.requires.texts; exact = c.requires.exact })
    c.in_ok-progress.ensures.value c.in_ok-progress.ensures.spans c.in_ok-progress.ensures.exact in
    let h : StopsBy (texts_of c.args.lines.now) c.in_err-len-in-Some.field-0.0 =
    part-block_fails c.args.lines.now _ c.args.at _ (state_view old) (state_view new) c.in_ok-progress.field-0.below c.in-Some.how c.in-Some.column c.in_err-len-in-Some.field-0.0
    (state_texts old) (state_texts new) line c.in-Some.is (take_rest c.args.lines.now (c.args.at + 1)) c.in_err-len-in-Some.ensures.fault in
    search (rules, h)

pub returns-in-None : goal.returns-in-None
returns-in-None c =
    let old = c.args.progress in
    let new = c.in_ok-progress.field-0.progress in
    let line =
    part-read c.args.lines.now c.args.at _ (state_view old) (state_view new) (below_view c.in_ok-progress.field-0.below) (state_texts old) (state_texts new) c.requires.inside
    (record { read = c.requires.before; texts = c.requires.texts; exact = c.requires.exact })
    c.in_ok-progress.ensures.value c.in_ok-progress.ensures.spans c.in_ok-progress.ensures.exact in
    let more = part-more c.args.lines.now c.args.at _ (state_view old) (state_view new) c.in_ok-progress.field-0.below (state_texts old) (state_texts new) line c.in-None.is in
    record { more = search rules; read = more.read; spans = more.texts; exact = more.exact; fault = tt }

pub returns-in_ok-len-in-Some : goal.returns-in_ok-len-in-Some
returns-in_ok-len-in-Some c =
    let old = c.args.progress in
    let new = c.in_ok-progress.field-0.progress in
    let found = c.in_ok-len-in-Some.ensures in
    let line =
    part-read c.args.lines.now c.args.at _ (state_view old) (state_view new) (below_view c.in_ok-progress.field-0.below) (state_texts old) (state_texts new) c.requires.inside
    (record { read = c.requires.before; texts = c.requires.texts; exact = c.requires.exact })
    c.in_ok-progress.ensures.value c.in_ok-progress.ensures.spans c.in_ok-progress.ensures.exact in
    let more =
    part-block c.args.lines.now _ c.args.at c.in_ok-len-in-Some.len _ (state_view old) (state_view new) (state_view c.with_text.result) c.in_ok-progress.field-0.below
    c.in-Some.how c.in-Some.column c.in_ok-len-in-Some.text (state_texts old) (state_texts new) (state_texts c.with_text.result) line c.in-Some.is
    (take_rest c.args.lines.now (c.args.at + 1)) found.within found.block found.own found.text found.span
    c.with_text.ensures.value c.with_text.ensures.spans c.with_text.ensures.exact in
    record { more = search rules; read = more.read; spans = more.texts; exact = more.exact; fault = tt }
