use Rattle.std.proofs.Common.{◌≡◌, ◌∙◌, List, [], None, Option, Some, map, option_map, refl, unwrap_or}
use Rattle.std.specs.Borrow.{Bor}
use Rattle.clap.specs.Matches.{found_of}
use Rattle.clap.specs.Walk.{Text}
use Rattle.clap.proofs.WalkLemmas.{raw_values-rows}
use Rattle.ci_cli_words.proofs.variables.variables_in.Goals as goal

-- the texts of an option, or none
texts_or_none : (r : Option (Bor (List (Bor Text)))) (o : Option (List Text)) (none given : Bor (List (Bor Text))) → given ≡ unwrap_or r none → none.now ≡ []
    → option_map (λ s. map (λ v. v.now) s.now) r ≡ o → map (λ v. v.now) given.now ≡ unwrap_or o []
texts_or_none None o none given e n h = rw (← h, e) (λ i. map (λ (v : Bor Text). v.now) (n i))
texts_or_none (Some x) o none given e n h = rw (← h, e) refl

pub returns : goal.returns
returns c =
    let here = texts_or_none c.get_strs.result _ _ c.unwrap_or.result c.unwrap_or.ensures (λ i. []) (c.get_strs.ensures ∙ raw_values-rows (found_of c.args.found.now) _) in
    rw (← here) c.variables_of.ensures
