use Rattle.std.proofs.Common.{◌≡◌, codes, refl, sym, ◌∙◌}
use Rattle.serde_json.specs.Data.{boolean}
use Rattle.serde_json.specs.View.{view}
use Rattle.ci_store_rows.specs.Prelude.{spec_data}
use Rattle.ci_store_rows.proofs.JsonReading.{same_when, same_allow, member_is}
use Rattle.ci_store_rows.proofs.json.part.part_of.Goals as goal

pub returns : goal.returns
returns c other is =
    let object = view c.args.value.now in
    let given = spec_data other in
    let when_is = same_when c.in_ok-when.«when» other.part.«when» (sym c.in_ok-when.ensures ∙ member_is (codes "when") object given _ _ c.in_ok-member.ensures is refl) in
    let retry_is = c.in_ok-retry.ensures other.part.retry (member_is (codes "retry") object given _ _ c.in_ok-member-2.ensures is refl) in
    let needs : boolean c.in_ok-gives_needs.gives_needs ≡ boolean other.part.gives_needs = sym c.in_ok-gives_needs.ensures ∙ member_is (codes "needs") object given _ _ c.in_ok-member-3.ensures is refl in
    let needs_is : c.in_ok-gives_needs.gives_needs ≡ other.part.gives_needs = cc in
    let allow_is = same_allow c.in_ok-allow_failure.allow_failure other.part.allow_failure (sym c.in_ok-allow_failure.ensures ∙ member_is (codes "allow_failure") object given _ _ c.in_ok-member-4.ensures is refl) in
    λ i. record { «when» = when_is i; allow_failure = allow_is i; retry = retry_is i; gives_needs = needs_is i }
