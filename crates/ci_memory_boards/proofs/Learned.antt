-- What stays of the pipelines that are remembered where one more is learned.
use Rattle.std.proofs.Common.{◌≡◌, ◌<◌, ◌++◌, ◌∷◌, [], ◌||◌, ℕ, suc, nat_lt, Bool, true, false, List, length, take, drop, All, Contains, slice_index_or, sym, ap, ◌∙◌, ltb-true}
use Rattle.std.specs.List.{prefix_len, remove}
use Rattle.std.proofs.lemmas.Bool.{cond_both, both_ways, false≢true}
use Rattle.std.proofs.lemmas.Grind.{in_remove}
use Rattle.std.proofs.lemmas.List.Elements.{All-append, All-drop, All-push, All-take, Contains-append_left}
use Rattle.std.proofs.lemmas.List.Sums.{prefix_len_stops}
use Rattle.ci_server_lookups.specs.declared.sheet.Sheet.{Sheet}
use Rattle.ci_memory_boards.specs.Room.{is_under_way, has_room, place_to_go, with_room}

-- what holds of all, and of one more, holds of those that stay with it
pub all_learned : (P : Sheet → Type 0) (sheets : List Sheet) (m : Sheet) → All P sheets → P m → All P (with_room sheets ++ m ∷ [])
all_learned P sheets m all one = All-push P (with_room sheets) m stay one
  where
    stay : All P (with_room sheets)
    stay =
        cond_both (nat_lt (length sheets) 32) sheets (remove sheets (place_to_go sheets)) (λ l. All P l)
        (λ _. all)
        (λ _. All-append P (take (place_to_go sheets) sheets) (drop (suc (place_to_go sheets)) sheets) (All-take P (place_to_go sheets) sheets all) (All-drop P (suc (place_to_go sheets)) sheets all))

-- what passes a test stays where one goes that doesn't
others_stay : {A : Type 0} (test : A → Bool) (xs : List A) (i : ℕ) (x : A) → i < length xs → test (slice_index_or xs i x) ≡ false → Contains xs x → test x ≡ true → Contains (remove xs i) x
others_stay test xs i x l goes has passes =
    (in_remove xs i has.0 x l has.1 (sym has.2) (λ same. false≢true (sym goes ∙ ap test (ap (λ n. slice_index_or xs n x) (sym same) ∙ has.2) ∙ passes))).1

-- where there is room, each that is under way stays
pub under_way_stays : (sheets : List Sheet) (m : Sheet) → has_room sheets ≡ true → Contains sheets m → is_under_way m ≡ true → Contains (with_room sheets) m
under_way_stays sheets m room has passes =
    cond_both (nat_lt (length sheets) 32) sheets (remove sheets (place_to_go sheets)) (λ l. Contains l m)
    (λ _. has)
    (λ full. let there : nat_lt (prefix_len is_under_way sheets) (length sheets) ≡ true = sym (ap (λ b. b || nat_lt (prefix_len is_under_way sheets) (length sheets)) full) ∙ room in
    cond_both (nat_lt (prefix_len is_under_way sheets) (length sheets)) (prefix_len is_under_way sheets) 0 (λ n. Contains (remove sheets n) m)
    (λ within. let l = ltb-true (prefix_len is_under_way sheets) (length sheets) within in
    others_stay is_under_way sheets (prefix_len is_under_way sheets) m l (prefix_len_stops is_under_way sheets m l) has passes)
    (λ no. absurd (both_ways (nat_lt (prefix_len is_under_way sheets) (length sheets)) no there)))

-- and also beside one more
pub under_way_stays_beside : (sheets : List Sheet) (one m : Sheet) → has_room sheets ≡ true → Contains sheets m → is_under_way m ≡ true → Contains (with_room sheets ++ one ∷ []) m
under_way_stays_beside sheets one m room has passes = Contains-append_left (with_room sheets) (one ∷ []) m (under_way_stays sheets m room has passes)
