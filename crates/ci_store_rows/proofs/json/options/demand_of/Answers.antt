use Rattle.std.proofs.Common.{codes, refl, sym, ◌∙◌}
use Rattle.serde_json.specs.View.{view}
use Rattle.ci_store_rows.specs.Prelude.{spec_data}
use Rattle.ci_store_rows.proofs.JsonReading.{same_texts, same_group, member_is}
use Rattle.ci_store_rows.proofs.json.options.demand_of.Goals as goal

pub returns-clause-asks : goal.returns-clause-asks
returns-clause-asks c other is =
    let object = view c.args.value.now in
    let given = spec_data other in (
      same_texts c.in_ok-tags.tags other.tags (sym c.in_ok-tags.ensures ∙ member_is (codes "tags") object given _ _ c.in_ok-member.ensures is refl),
      same_group c.in_ok-resource_group.resource_group other.resource_group (sym c.in_ok-resource_group.ensures ∙ member_is (codes "resource_group") object given _ _ c.in_ok-member-2.ensures is refl),
    )
