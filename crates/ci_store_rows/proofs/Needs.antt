-- The statements that write `need`.
use Rattle.ci_store.specs.Prelude.{Le, Ge, equal, Null, Row, column, Term, lit, col, everything, understood, Ghosts, Held, state, Kept, with_record, without_record, need_cmp}
use Rattle.ci_store.specs.Prelude.{is_within, needs_within, Need, Record, Key, Value, State, Put, applied, put, value_rows, eval_all, Changes, Enforced}
use Rattle.sqlite_rules.specs.Action.{work_by, deed_for}
use Rattle.sqlite_schema.specs.Rules.{parent_key}
use Rattle.std.specs.List.{filter_map}
use Rattle.ci_store_rows.proofs.Several.{all_put, IsIdle, GivesEach, put_several}
use Rattle.ci_store_rows.specs.Prelude.{UPDATE_NEED, INSERT_NEED, INSERT_NEEDS, DELETE_NEED, DELETE_NEEDS, SELECT_NEEDS_OF, SELECT_NEEDS_ON, SELECT_NEEDS_WITHIN, the_schema, need}
use Rattle.ci_store_rows.specs.Prelude.{need_index_1, number, need_row, rows_by_tree, Stands, IsAt, ShowsRecords, in_state, RemovesUnreferred}
use Rattle.ci_store_rows.proofs.Words.{◌≡◌, ◌∙◌, ℕ, pos, List, [], ◌∷◌, map, take, drop, true, ◌&&◌, is_eq, refl, sym, nat_cmp, ordering_then, Binary, IsPlain}
use Rattle.ci_store_rows.proofs.Words.{ascending_weaker, ascending-filter, no_limit, MeansPut, cast_int, equal_int, compares, rules, zero, suc, length, flat_map, subst, GivesRecord, MeansInsert, Bool, false, ◌==◌}
use Rattle.ci_store_rows.proofs.OneList.{alike_but}
use Rattle.ci_store_rows.proofs.Lists.{by_two as in_two_parts}
use Rattle.ci_store_rows.proofs.Records.{is, at_least, at_most, both_equal, same_number, finds_within}
use Rattle.ci_store_rows.proofs.Removals.{Referring}
use Rattle.ci_store_rows.proofs.Owned.{tests, RemovesAlone, agrees, gives_keyed, removed_listed}
use Rattle.ci_store_rows.proofs.Same.{number_of}
use Rattle.ci_store_rows.proofs.Shows.{columns_of, names_of, by_two, pair_of_two, shows_ordered, found_all, rising_two}
use Rattle.ci_store_rows.proofs.Tables.{Kind, Changing, exact, Selects, changes, PutsRow, put_record}

-- ---- two records with the same row

same_need : (p q : Need) → need_row p ≡ need_row q → p ≡ q
same_need p q h = λ i. record { job = number_of (h i) 0; pred = number_of (h i) 1 }

abbrev needs : Kind Need
needs = exact 8 need refl need_row (λ k. k.state.needs) (λ k. refl) (λ key r. refl) same_need

changing : Changing needs need_cmp (λ xs k. record k { state = record k.state { needs = xs } }) (λ x. Unit)
changing =
    changes (in_two_parts (λ n. n.job) (λ n. n.pred)) (λ k xs. refl)
    (λ k xs. alike_but (take 8 (rows_by_tree k)) (drop 9 (rows_by_tree k)) need (map need_row k.state.needs) (map need_row xs)) (λ k o. o.needs) (λ k xs up o. search rules)

abbrev cols : List Term
cols = col 0 0 ∷ col 0 1 ∷ []

abbrev key_of : ℕ → ℕ → Row
key_of job pred = number job ∷ number pred ∷ []

same_key : (job pred : ℕ) (q : Need) → (equal Binary (number q.job) (number job) && (equal Binary (number q.pred) (number pred) && true)) ≡ is_eq (ordering_then (nat_cmp q.job job) (nat_cmp q.pred pred))
same_key job pred q = (λ i. equal_int q.job job i && (equal_int q.pred pred i && true)) ∙ both_equal (nat_cmp q.job job) (nat_cmp q.pred pred)

-- what the texts mean, which `refl` finds
pub texts : record {
  puts : MeansPut the_schema 8 need UPDATE_NEED.now INSERT_NEED.now tests (col 1 0 ∷ cols) (lit Null ∷ cols);
  removes : RemovesAlone 8 need DELETE_NEED.now tests;
  removes_all : RemovesAlone 8 need DELETE_NEEDS.now (is 1 0 ∷ []);
  select_of : Selects need SELECT_NEEDS_OF.now (is 1 0 ∷ []) [];
  select_on : Selects need SELECT_NEEDS_ON.now (is 2 0 ∷ []) [];
  select_within : Selects need SELECT_NEEDS_WITHIN.now (at_least 1 0 ∷ at_most 1 1 ∷ []) (by_two 1 2);
}
unfolding understood everything
texts = record {
  puts = record { there = refl; apart = refl; update_is = refl; update_plain = (refl, refl); insert_is = refl; insert_plain = (refl, refl); uncounted = refl; unstamped = refl; idle = refl; alone = λ olds a. refl };
  removes = record { means = record { there = refl; apart = refl; delete_is = refl; delete_plain = (refl, refl) }; alone = λ olds. refl };
  removes_all = record { means = record { there = refl; apart = refl; delete_is = refl; delete_plain = (refl, refl) }; alone = λ olds. refl };
  select_of = record { is = refl; unlisted = refl; plain = (refl, refl) };
  select_on = record { is = refl; unlisted = refl; plain = (refl, refl) };
  select_within = record { is = refl; unlisted = refl; plain = (refl, refl) };
}

gives : (n : Need) → GivesRecord the_schema need tests (col 1 0 ∷ cols) (lit Null ∷ cols) (key_of n.job n.pred) (need_row n)
gives n =
    gives_keyed 8 need refl 8 need_index_1 refl refl cols _ _ (λ r. refl) (λ r new_row is. agrees r new_row _ _ _ _ is) (λ r. refl) refl refl
    (λ x i. cast_int (pos n.job) i ∷ cast_int (pos n.pred) i ∷ [])

pub need_puts : (n : Need) → PutsRow UPDATE_NEED.now INSERT_NEED.now (need_row n) (in_state (with_record (Record.Need n)))
need_puts n =
    put_record needs changing texts.puts (key_of n.job n.pred) n (gives n) (same_key n.job n.pred) tt

-- ---- sixteen rows at once

-- the terms of so many rows, whose values the parameters have from a place on
abbrev pairs_from : ℕ → ℕ → List Term
pairs_from at zero = []
pairs_from at (suc count) = lit Null ∷ col 0 at ∷ col 0 (suc at) ∷ pairs_from (suc (suc at)) count

pub several : MeansInsert the_schema 8 INSERT_NEEDS.now (pairs_from 0 16) 3
unfolding understood everything
several = record { is = refl; plain = (refl, refl) }

idle_if : (deletes : Bool) → flat_map (λ child. filter_map (λ ref. work_by 0 need.tree [] child ref (deed_for Enforced deletes ref) (parent_key the_schema.tables ref)) child.references) the_schema.tables ≡ []
unfolding understood everything
idle_if true = refl
idle_if false = refl

idle : IsIdle the_schema need.tree
idle news = idle_if (length news == 0)

each : GivesEach need need_row need_cmp tests (col 1 0 ∷ cols) (lit Null ∷ cols)
each = record {
  key = λ n. key_of n.job n.pred;
  same_key = λ n. same_key n.job n.pred;
  gives = gives;
}

next_value : (params : Row) (at : ℕ) (v : Value) (rest : Row) → drop at params ≡ v ∷ rest → (column params at ≡ v) × (drop (suc at) params ≡ rest)
next_value [] zero v rest h = cc
next_value [] (suc at) v rest h = cc
next_value (p ∷ params) zero v rest h = (cc, cc)
next_value (p ∷ params) (suc at) v rest h = next_value params at v rest h

given : (ns : List Need) (params : Row) (at : ℕ) → drop at params ≡ flat_map need_row ns
    → value_rows params 3 (length ns) (pairs_from at (length ns)) ≡ map (λ n. eval_all (lit Null ∷ cols) (need_row n ∷ [])) ns
given [] params at h = refl
given (n ∷ ns) params at h =
    let first = next_value params at _ _ h in
    let second = next_value params (suc at) _ _ first.1 in
    λ i. (Null ∷ first.0 i ∷ second.0 i ∷ []) ∷ given ns params (suc (suc at)) second.1 i

puts_are : (ns : List Need) (s : State) → applied (map (λ n. Put (Record.Need n)) ns) s ≡ record s { needs = all_put need_cmp ns s.needs }
puts_are [] s = refl
puts_are (n ∷ ns) s = puts_are ns (record s { needs = put need_cmp n s.needs })

pub needs_put : {S : Type 0} (g : Ghosts S) (old new : Held S) (ns : List Need) → length ns ≡ 16 → (params : Row) → params ≡ flat_map need_row ns → (count : ℕ) → Changes g INSERT_NEEDS.now params count old new
    → (k : Kept) → Stands k (state g old).now → Stands (in_state (applied (map (λ n. Put (Record.Need n)) ns)) k) (state g new).now
needs_put g old new ns sixteen params is count ran k stands =
    subst (λ s. Stands (record k { state = s }) (state g new).now) (sym (puts_are ns k.state))
    (put_several needs changing texts.puts several idle each ns params
    (subst (λ n. value_rows params 3 n (pairs_from 0 n) ≡ map (λ n. eval_all (lit Null ∷ cols) (need_row n ∷ [])) ns) sixteen (given ns params 0 is)) g old new count ran k stands)

pub need_removed : {S : Type 0} (g : Ghosts S) (old new : Held S) (job pred : ℕ) (k : Kept) → Stands k (state g old).now → RemovesUnreferred g [] DELETE_NEED.now (key_of job pred) old new → Stands (in_state (without_record (Key.Need job pred)) k) (state g new).now
need_removed g old new job pred =
    removed_listed needs changing g old new tests (λ q. is_eq (ordering_then (nat_cmp q.job job) (nat_cmp q.pred pred))) (key_of job pred) (same_key job pred) (λ r. refl) texts.removes

pub needs_removed : {S : Type 0} (g : Ghosts S) (old new : Held S) (job : ℕ) (k : Kept) → Stands k (state g old).now → RemovesUnreferred g [] DELETE_NEEDS.now (number job ∷ []) old new → Stands (in_state (without_record (Key.Needs job)) k) (state g new).now
needs_removed g old new job =
    removed_listed needs changing g old new (is 1 0 ∷ []) (λ q. is_eq (nat_cmp q.job job)) (number job ∷ []) (λ q. same_number q.job job) (λ r. refl) texts.removes_all

-- ---- the queries that load

-- the pairs of the job that waits
abbrev pub needs_refer : Referring
needs_refer = record { child = need; at = 8; there = refl; place = 1; text = SELECT_NEEDS_OF.now; columns = columns_of need; order = []; names = names_of need; means = texts.select_of }

-- the pairs of the job that is waited for
abbrev pub needed_refer : Referring
needed_refer = record { child = need; at = 8; there = refl; place = 2; text = SELECT_NEEDS_ON.now; columns = columns_of need; order = []; names = names_of need; means = texts.select_on }

pub plain_select_within : IsPlain (understood the_schema SELECT_NEEDS_WITHIN.now)
plain_select_within = texts.select_within.plain

pub needs_within_found : {S : Type 0} (g : Ghosts S) (old new : Held S) (k : Kept) → IsAt g k old → (first last : ℕ) (found : List Need)
    → ShowsRecords (λ row x. row ≡ need_row x) g SELECT_NEEDS_WITHIN.now (number first ∷ number last ∷ []) old new found → found ≡ needs_within first last k.state.needs
needs_within_found g old new k at first last found h =
    found_all (λ row x. row ≡ need_row x) need_row (λ x. is_within first last x.job) k.state.needs (λ x y _ same. sym (same_need y x same)) h.rows
    (shows_ordered need_row 8 need refl SELECT_NEEDS_WITHIN.now (at_least 1 0 ∷ at_most 1 1 ∷ []) (number first ∷ number last ∷ []) (λ im. compares Ge (column im 0) (number first) && (compares Le (column im 0) (number last) && true)) (λ r. refl)
    (λ x. is_within first last x.job) (λ x. finds_within first last x.job) k k.state.needs refl h.rows no_limit (by_two 1 2) (pair_of_two 0 1) (λ im. refl) (λ r. refl) texts.select_within
    (ascending_weaker _ _ (λ x y low. rising_two x.job y.job x.pred y.pred low) (needs_within first last k.state.needs) (ascending-filter _ (λ x. is_within first last x.job) k.state.needs at.now.inside.regular.needs)) (state g old) (state g new) at.now h.shown)
    found h.read
