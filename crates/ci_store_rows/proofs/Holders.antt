-- The statements that write `holder`.
use Rattle.ci_store.specs.Prelude.{equal, Null, Text, everything, understood, Ghosts, Held, state, Kept, indexed, put, holds, holder_cmp, holder_at, Holder, Free, col, lit}
use Rattle.ci_store_rows.specs.Prelude.{UPDATE_HOLDER, INSERT_HOLDER, DELETE_HOLDER, SELECT_HOLDER, SELECT_HOLDERS_IN, SELECT_HOLDERS_OF, the_schema, holder, holder_index_1}
use Rattle.ci_store_rows.specs.Prelude.{number, holder_row, rows_by_tree, Stands, IsAt, ShowsRecords, listed, in_holders, RemovesUnreferred}
use Rattle.ci_store_rows.proofs.Words.{◌≡◌, ◌==◌, ℕ, pos, List, [], ◌∷◌, true, refl, Option, ◌&&◌, map, filter, take, drop, nat_cmp, slice_cmp, Binary, MeansPut, cast_int}
use Rattle.ci_store_rows.proofs.Words.{IsPlain, rules}
use Rattle.ci_store_rows.proofs.OneList.{alike_but}
use Rattle.ci_store_rows.proofs.Lists.{by_both}
use Rattle.ci_store_rows.proofs.Records.{is, same_number, finds_named}
use Rattle.ci_store_rows.proofs.Owned.{tests, named, same_named, agrees, RemovesAlone, owned_found, three, gives_keyed, removed_listed}
use Rattle.ci_store_rows.proofs.Same.{number_of, text_of}
use Rattle.ci_store_rows.proofs.Shows.{columns_of, names_of, by, rising_text}
use Rattle.ci_store_rows.proofs.Tables.{one_found, Kind, Changing, exact, Selects, changes, PutsRow, put_record}
use Rattle.ci_store_rows.proofs.Removals.{Referring}

-- ---- two records with the same row

same_holder : (p q : Holder) → holder_row p ≡ holder_row q → p ≡ q
same_holder p q h = λ i. record { project = number_of (h i) 0; group = text_of (h i) 1; attempt = number_of (h i) 2 }

abbrev holders : Kind Holder
holders = exact 11 holder refl holder_row (λ k. k.holders) (λ k. refl) (λ key r. refl) same_holder

changing : Changing holders holder_cmp (λ xs k. record k { holders = xs }) (λ x. Unit)
changing =
    changes (by_both (λ h. h.project) (λ h. h.group)) (λ k xs. refl)
    (λ k xs. alike_but (take 11 (rows_by_tree k)) (drop 12 (rows_by_tree k)) holder (map holder_row k.holders) (map holder_row xs)) (λ k o. o.holders) (λ k xs up o. search rules)

-- what the texts mean, which `refl` finds
pub texts : record {
  puts : MeansPut the_schema 11 holder UPDATE_HOLDER.now INSERT_HOLDER.now tests (col 1 0 ∷ three) (lit Null ∷ three);
  removes : RemovesAlone 11 holder DELETE_HOLDER.now tests;
  select : Selects holder SELECT_HOLDER.now tests [];
  select_in : Selects holder SELECT_HOLDERS_IN.now (is 1 0 ∷ []) (by 2);
  select_of : Selects holder SELECT_HOLDERS_OF.now (is 3 0 ∷ []) [];
}
unfolding understood everything
texts = record {
  puts = record { there = refl; apart = refl; update_is = refl; update_plain = (refl, refl); insert_is = refl; insert_plain = (refl, refl); uncounted = refl; unstamped = refl; idle = refl; alone = λ olds a. refl };
  removes = record { means = record { there = refl; apart = refl; delete_is = refl; delete_plain = (refl, refl) }; alone = λ olds. refl };
  select = record { is = refl; unlisted = refl; plain = (refl, refl) };
  select_in = record { is = refl; unlisted = refl; plain = (refl, refl) };
  select_of = record { is = refl; unlisted = refl; plain = (refl, refl) };
}

pub holder_puts : (h : Holder) → PutsRow UPDATE_HOLDER.now INSERT_HOLDER.now (holder_row h) (in_holders (put holder_cmp h))
holder_puts h =
    put_record holders changing texts.puts (named h.project h.group) h
    (gives_keyed 11 holder refl 12 holder_index_1 refl refl three _ _ (λ r. refl) (λ r new_row is. agrees r new_row _ _ _ _ is) (λ r. refl) refl refl
    (λ x i. cast_int (pos h.project) i ∷ Text h.group ∷ cast_int (pos h.attempt) i ∷ []))
    (λ q. same_named h.project h.group q.project q.group) tt

-- a test of numbers and one of texts say what their orders say
holds_is : (project : ℕ) (group : List ℕ) (h : Holder) → (equal Binary (number h.project) (number project) && (equal Binary (Text h.group) (Text group) && true)) ≡ holds project group h
holds_is project group h = finds_named h.project project h.group group

pub holder_freed : {S : Type 0} (g : Ghosts S) (old new : Held S) (project : ℕ) (group : List ℕ) (k : Kept) → Stands k (state g old).now → RemovesUnreferred g [] DELETE_HOLDER.now (named project group) old new → Stands (indexed (Free project group) k) (state g new).now
holder_freed g old new project group =
    removed_listed holders changing g old new tests (holds project group) (named project group) (holds_is project group) (λ r. refl) texts.removes

-- ---- the queries that load

pub plain_select : IsPlain (understood the_schema SELECT_HOLDER.now)
plain_select = texts.select.plain

pub holder_found : {S : Type 0} (g : Ghosts S) (old new : Held S) (k : Kept) → IsAt g k old → (project : ℕ) (group : List ℕ) (found : Option Holder) → ShowsRecords (λ row x. row ≡ holder_row x) g SELECT_HOLDER.now (number project ∷ Text group ∷ []) old new (listed found)
    → found ≡ holder_at project group k.holders
holder_found g old new k at project group =
    one_found holders g old new k at.now SELECT_HOLDER.now tests (named project group) (holds project group) (λ r. refl) (holds_is project group) texts.select

-- ---- the groups of a project that are held

pub plain_select_in : IsPlain (understood the_schema SELECT_HOLDERS_IN.now)
plain_select_in = texts.select_in.plain

pub holders_found : {S : Type 0} (g : Ghosts S) (old new : Held S) (k : Kept) → IsAt g k old → (project : ℕ) (found : List Holder) → ShowsRecords (λ row x. row ≡ holder_row x) g SELECT_HOLDERS_IN.now (number project ∷ []) old new found
    → found ≡ filter (λ h. h.project == project) k.holders
holders_found g old new k at =
    owned_found g old new holder_row 11 holder (λ x. x.project) (λ x y. slice_cmp nat_cmp x.group y.group) same_holder refl SELECT_HOLDERS_IN.now texts.select_in (λ n r. refl) (λ n x. same_number x.project n) (λ n r. refl) (λ x y low. rising_text x.group y.group low) k k.holders refl at at.now.inside.regular.holders

-- ---- the groups that an attempt holds

abbrev pub holders_refer : Referring
holders_refer = record { child = holder; at = 11; there = refl; place = 3; text = SELECT_HOLDERS_OF.now; columns = columns_of holder; order = []; names = names_of holder; means = texts.select_of }
