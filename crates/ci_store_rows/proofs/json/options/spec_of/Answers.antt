use Rattle.std.proofs.Common.{◌≡◌, codes, refl, sym, ◌∙◌}
use Rattle.serde_json.specs.Data.{boolean, number, unsigned}
use Rattle.serde_json.specs.View.{view}
use Rattle.ci_store_rows.specs.Prelude.{spec_data}
use Rattle.ci_store_rows.proofs.JsonReading.{same_texts, same_group, member_is}
use Rattle.ci_store_rows.proofs.json.options.spec_of.Goals as goal

pub returns : goal.returns
returns c other is =
    let object = view c.args.value.now in
    let given = spec_data other in
    let timeout : number (unsigned c.in_ok-timeout.timeout) ≡ number (unsigned other.timeout) = sym c.in_ok-timeout.ensures ∙ member_is (codes "timeout") object given _ _ c.in_ok-member.ensures is refl in
    let interruptible : boolean c.in_ok-interruptible.interruptible ≡ boolean other.interruptible = sym c.in_ok-interruptible.ensures ∙ member_is (codes "interruptible") object given _ _ c.in_ok-member-2.ensures is refl in
    let script = same_texts c.in_ok-script.script other.script (sym c.in_ok-script.ensures ∙ member_is (codes "script") object given _ _ c.in_ok-member-3.ensures is refl) in
    let tags = same_texts c.in_ok-tags.tags other.tags (sym c.in_ok-tags.ensures ∙ member_is (codes "tags") object given _ _ c.in_ok-member-4.ensures is refl) in
    let group = same_group c.in_ok-resource_group.resource_group other.resource_group (sym c.in_ok-resource_group.ensures ∙ member_is (codes "resource_group") object given _ _ c.in_ok-member-5.ensures is refl) in
    let seconds : c.in_ok-timeout.timeout ≡ other.timeout = cc in
    let whether : c.in_ok-interruptible.interruptible ≡ other.interruptible = cc in
    let part = c.in_ok-part.ensures other is in
    λ i. record {
      script = script i;
      timeout = seconds i;
      tags = tags i;
      resource_group = group i;
      interruptible = whether i;
      part = part i;
    }
