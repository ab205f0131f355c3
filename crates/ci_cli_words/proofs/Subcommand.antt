-- The subcommand of matches.
use Rattle.std.proofs.Common.{◌≡◌, refl, sym, List, Option, Some, None, option_map, Box}
use Rattle.std.specs.Box.{box_value}
use Rattle.clap.specs.Matches.{found_of}
use Rattle.clap.specs.Walk.{Row, Text, rows_of}
use Rattle.clap.specs.Simple.{subcommand_rows}
use Rattle.clap.specs.declared.parser.matches.SubCommand.{SubCommand}
use Rattle.clap.specs.declared.parser.matches.ArgMatches.TheViews.{out-SubCommand}

some≢none : {X : Type 0} (x : X) → Some x ≡ None → ⊥
some≢none x e = cc

module _ {Z : Type 0} where
  pub joined : (sub : Option (Box SubCommand Z)) (name : Text) (rows : List Row) → Some name ≡ option_map (λ b. (out-SubCommand (box_value b)).name.now) sub
      → Some rows ≡ option_map (λ p. p.1) (subcommand_rows sub) → subcommand_rows sub ≡ Some (name, rows)
  joined None name rows e f = absurd (some≢none name e)
  joined (Some b) name rows e f =
      let n : name ≡ (out-SubCommand (box_value b)).name.now = cc in
      let r : rows ≡ rows_of (found_of (out-SubCommand (box_value b)).matches) = cc in
      λ i. Some (sym n i, sym r i)

  pub no_subcommand : (sub : Option (Box SubCommand Z)) → None ≡ option_map (λ b. (out-SubCommand (box_value b)).name.now) sub → subcommand_rows sub ≡ None
  no_subcommand None e = refl
  no_subcommand (Some b) e = absurd (some≢none _ (sym e))
