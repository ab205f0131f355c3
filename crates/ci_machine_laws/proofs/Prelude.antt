-- The words and lemmas of the crates below that the proofs of this crate cite, in one list: they name them from here.
pub use Rattle.std.proofs.Common.{◌≡◌, ◌⊎◌, ℕ, ◌==◌, true, false, List, [], ◌∷◌, ◌++◌, length, map, filter, refl, sym, ap, ◌∙◌, inl, inr, ⊎_elim, Contains, rules, subst, arith}
pub use Rattle.std.proofs.Common.{zero, suc, ◌-◌, ◌<◌, Bool, ◌||◌, not, if◌then◌else◌, option_map, None, map-id, ◌+◌, ◌≤◌, nat_lt, count_by, eqb-true, nat_cmp, Option, Some}
pub use Rattle.std.proofs.Common.{Result, Ok, Err, ◌&&◌, flat_map, eq-eqb, ne_eqb, is_lt, Ordering, cond, find, Equal, is_eq, replicate, take, reverse, All, Less, ltb-true}
pub use Rattle.std.proofs.Common.{lt-ltb, ◌^◌, option_and_then, nat_le, leb-true, max, slice_index_or, codes}
pub use Rattle.std.specs.Cmp.{IsTotalOrder, Equal-is}
pub use Rattle.std.specs.Cmp.Lexicographic.{slice_cmp}
pub use Rattle.std.specs.List.{last_or, range_with_len, list_any, list_all}
pub use Rattle.std.specs.Ordering.{ordering_then}
pub use Rattle.std.specs.Str.{bytes_eq}
pub use Rattle.std.proofs.lemmas.Bool.{and_parts, cond_both, cond-true, cond-false, or_parts, ltb-false, cases_Bool, false≢true, both_ways, cases_eq, false_from_ne_true}
pub use Rattle.std.proofs.lemmas.Bool.{not-false, or_cases, and_from, and_cases, or_left, or_right, cases_lt, le-ltb, and_left}
pub use Rattle.std.proofs.lemmas.Cmp.{nat_cmp_total, on_total, then_total, nat_list_cmp_total}
pub use Rattle.std.proofs.lemmas.List.{length-map, length-append, get_or-map, append-nil}
pub use Rattle.std.proofs.lemmas.List.Elements.{filter-append, Contains-append_right, All-cons}
pub use Rattle.std.proofs.lemmas.Map.Text.{is_eq-slice_cmp}
pub use Rattle.std.proofs.lemmas.Slice.Eq.{bytes_eq-Decides}
pub use Rattle.ci_board.specs.Prelude.{row_at}
pub use Rattle.ci_graph_layout.specs.Prelude.{Given, MAX_TAGS, Config, MAX_VARIABLES, Plans, faulty, cyclic, X8, Patterns, built, Fault, K13, LacksPatterns, meaning, Means}
pub use Rattle.ci_graph_layout.specs.Prelude.{planned}
pub use Rattle.ci_graph_layout.specs.declared.fault.GraphCode.{GraphCode}
pub use Rattle.ci_machine.proofs.Filters.{filter_implied, find_implied, filter_all}
pub use Rattle.ci_machine.proofs.Keyed.{Has, has_filter, map_has, All-from_has, contains_from_has, has_from_contains, has_map, Below, has_find, find-map, Rising, put_has}
pub use Rattle.ci_machine.proofs.Keyed.{unequal, not_true, has_put, rising_put, rising_filter, filter_has, last_greatest, count_one, find_has, Named, contains_named, one_at}
pub use Rattle.ci_machine.proofs.Keyed.{same, equal, filter_none, rising_from, less, has_from_all, all_from_has, least_find, named_contains, has_put_other, different}
pub use Rattle.ci_machine.proofs.Tests.{any_has, has_any, any_joined}
pub use Rattle.ci_machine.specs.Prelude.{Part, JobGraph, part_at, Failed, IsWalk, HasWalk, IsAcyclic, number_at, list_at, times, once, is_among, distinct, IsOrder, IsStuck}
pub use Rattle.ci_machine.specs.Prelude.{AreWithin, firsts_of, has_pair, IsJobGraph, predecessors_of}
pub use Rattle.ci_machine_steps.proofs.Behind.{put_all, nat_less, put_behind, has_all, in_either, has_left, has_right}
pub use Rattle.ci_machine_steps.proofs.Created.{applied_append, created_state, new_length, after_creation, new_are, laid_is, lineup_are, IsNew, needs_are, jobs_behind}
pub use Rattle.ci_machine_steps.proofs.Created.{new_numbered, pairs_inside}
pub use Rattle.ci_machine_steps.proofs.Finished.{not_its, job_stands}
pub use Rattle.ci_machine_steps.proofs.Pruned.{pruned_state, attempt_left, job_left, attempt_was, job_was, among_its, attempts_left, trace_left, jobs_left, no_jobs}
pub use Rattle.ci_machine_steps.proofs.Sound.{Sound, sound, rising_from_ascend, ascend_from_rising}
pub use Rattle.ci_machine_steps.proofs.Traces.{its_trace, other_trace, no_trace, traces_then}
pub use Rattle.ci_machine_steps.proofs.Variables.{Ordered, changes_ordered, gives_in_order, filter_ordered, put_ordered}
