-- The words that the proofs of the tables name, of this crate and of those below it, in one place.
pub use Rattle.ci_store.proofs.Absent.{absent_rowid, absent_unique}
pub use Rattle.ci_store.proofs.Puts.{GivesRecord, MeansInsert, MeansPut, MeansRemove, inserts_one, inserts_several, new_rows, put_each, puts, removes, source, updates_one}
pub use Rattle.ci_store.proofs.Queries.{Answered, answered, answered_to, count_of, map_map, no_limit, picks, query, shows}
pub use Rattle.ci_store.proofs.Scalars.{cast_int, cast_null, cast_text, compares, compares_above, compares_at_least, compares_at_most, equal_int, equal_text, int_nat, on_ok}
pub use Rattle.ci_store.proofs.Selects.{MeansSelect, MeansSelectTo, selects, shown_same, shows_none}
pub use Rattle.ci_store.proofs.Writes.{IsActedOnByNone, IsWholeStep, map_nil, map_one, perm_nil, whole_if_alone}
pub use Rattle.serde_json.specs.Read.{read}
pub use Rattle.sqlite.proofs.Callers.{IsPlain, command_of, one_permutation, reads_as, runs_as, statement_of}
pub use Rattle.sqlite.specs.Collation.TheVariants.{Binary}
pub use Rattle.sqlite_keyed.proofs.ListLemmas.{IsPermutation-flat_map, IsPermutation-same, all-append, all-filter, all-flat_map, all-map, all_both, all_of, all_weaker}
pub use Rattle.sqlite_keyed.proofs.ListLemmas.{ascending-append, ascending-filter, ascending-map, ascending_weaker, filter-filter, filter-map, filter_all, filter_none}
pub use Rattle.sqlite_keyed.proofs.ListLemmas.{filter_same, flat_map-map, slice_get-filter}
pub use Rattle.sqlite_rules.proofs.ListLemmas.{all_from, all_has, contains_had, has_contained, has_filtered, has_got, has_left, test_has}
pub use Rattle.sqlite_trees.proofs.ListLemmas.{IsPermutation-filter, all-permutation}
pub use Rattle.sqlite_value.proofs.KeyLemmas.{by_key_total, first_key-plain}
pub use Rattle.sqlite_value.proofs.OrderLemmas.{then-Equal, value_cmp-Int, value_cmp-Text}
pub use Rattle.std.proofs.Common.{Bool, Equal, Err, Greater, IfSome, IsPermutation, IsTrue, Less, List, None, Ok, OnOk, Option, Ordering, Result, Some, [], ap, arith, codes}
pub use Rattle.std.proofs.Common.{cond, drop, false, filter, find, if◌then◌else◌, inl, inr, is_eq, is_lt, length, length-append, ltb-true, map, min, nat_cmp, nat_le}
pub use Rattle.std.proofs.Common.{nat_lt, ne_eqb, not, option_map, pos, refl, reverse, rules, slice_get, slice_index_or, subst, suc, sym, take, true, zero, ℕ, ℤ, ◌%◌, ◌&&◌}
pub use Rattle.std.proofs.Common.{◌*◌, ◌++◌, ◌+◌, ◌-◌, ◌/◌, ◌<◌, ◌==◌, ◌∙◌, ◌∷◌, ◌≡◌, ◌≢◌, ◌≤◌, ◌⊎◌}
pub use Rattle.std.proofs.lemmas.Bool.{cond_both, eq-eqb, eqb-true, leb-true, lt-ltb, not-true}
pub use Rattle.std.proofs.lemmas.Cmp.{nat_cmp_total, nat_list_cmp_total, on_total, then_total, tied_back}
pub use Rattle.std.proofs.lemmas.List.Elements.{All-from_recursion, filter-append}
pub use Rattle.std.specs.Cmp.{IsTotalOrder}
pub use Rattle.std.specs.Cmp.Lexicographic.{slice_cmp}
pub use Rattle.std.specs.List.{All, AllByRecursion, AllZip, Contains, cons_option, flat_map, last_or, list_any, range_with_len}
pub use Rattle.std.specs.Ordering.{ordering_reverse, ordering_then}
pub use Rattle.std.specs.Str.{bytes_eq}
