-- What is remembered of the pipelines that aren't finished, by membership, and under changes.
use Rattle.std.proofs.Common.{◌≡◌, ◌⊎◌, ℕ, true, false, ◌==◌, not, List, [], ◌∷◌, ◌++◌, map, filter, find, Contains, Some, None, nat_cmp, is_eq, refl, sym, ap, subst}
use Rattle.std.proofs.Common.{◌∙◌, inl, inr, ⊎_elim, eqb-true, eq-eqb}
use Rattle.std.specs.List.{list_any}
use Rattle.std.proofs.lemmas.Bool.{cases_Bool, both_ways, not-true, or_parts}
use Rattle.ci_machine_steps.specs.Prelude.{Pipeline, Unfinished, pipeline_cmp, put, without, Kept, unfinished_cmp, is_newer_of}
use Rattle.ci_machine.proofs.Keyed.{Has, Named, has_find, has_filter, filter_has, has_put, put_has, has_map, map_has, same, unequal, has_from_contains, contains_from_has, has_from_all, All-from_has, contains_named, named_contains}
use Rattle.ci_machine.proofs.Tests.{any_has, has_any}
use Rattle.ci_server_lookups.specs.Prelude.{AreOpen}
use Rattle.ci_server_lookups.proofs.OpenRows.{same_test}
use Rattle.ci_memory.specs.Known.{Known}
use Rattle.ci_memory.specs.Alone.{IsOpen, IsAlone, Accounts}
use Rattle.ci_memory.specs.Changes.{is_unsettled}
use Rattle.ci_machine_steps.proofs.Behind.{in_either, has_left, has_right}
use Rattle.ci_machine.proofs.Filters.{find_implied}
use Rattle.ci_machine.proofs.Found.{any_none, find_none, find_put, put_here, found_none}

abbrev pub id : Pipeline → ℕ
id p = p.id

abbrev pub number : Unfinished → ℕ
number u = u.pipeline

-- those that are alone, and the suspects, are all that aren't finished
pub record Covers (ps : List Pipeline) (us : List Unfinished) (alone : List Pipeline) (suspects : List ℕ) : Type 0 where
  pub covered : (u : Unfinished) → Has u us → Has u.pipeline suspects ⊎ Named id u.pipeline alone
  pub there : (p : Pipeline) → Has p alone → find (λ q. q.id == p.id) ps ≡ Some p
  pub newest : (p : Pipeline) → Has p alone → find (is_newer_of p) ps ≡ None
  pub alone_open : (p : Pipeline) → Has p alone → Named number p.id us
  pub suspects_open : (n : ℕ) → Has n suspects → Named number n us

pub covers : (o : Known) (k : Kept) → Accounts o k → Covers k.state.pipelines k.unfinished o.alone o.suspects
covers o k a =
    let are = λ (p : Pipeline) (h : Has p o.alone). has_from_all (IsAlone k) p o.alone a.alone h in
    record {
      covered = λ u h.
          ⊎_elim (λ c. inl (has_from_contains u.pipeline o.suspects c)) (λ c. inr (named_contains id u.pipeline o.alone c))
          (has_from_all (λ (v : Unfinished). Contains o.suspects v.pipeline ⊎ Contains (map (λ p. p.id) o.alone) v.pipeline) u k.unfinished a.covered h);
      there = λ p h. (are p h).there;
      newest = λ p h. (are p h).newest;
      alone_open = λ p h. named_contains number p.id k.unfinished (are p h).unfinished;
      suspects_open = λ n h. named_contains number n k.unfinished (has_from_all (IsOpen k) n o.suspects a.suspects h);
    }

pub accounts : (o : Known) (k : Kept) → Covers k.state.pipelines k.unfinished o.alone o.suspects → Accounts o k
accounts o k c = record {
  covered = All-from_has (λ u. Contains o.suspects u.pipeline ⊎ Contains (map (λ p. p.id) o.alone) u.pipeline) k.unfinished
      (λ u h. ⊎_elim (λ m. inl (contains_from_has u.pipeline o.suspects m)) (λ w. inr (contains_named id u.pipeline o.alone w)) (c.covered u h));
  alone = All-from_has (IsAlone k) o.alone
      (λ p h. record { there = c.there p h; newest = c.newest p h; unfinished = contains_named number p.id k.unfinished (c.alone_open p h) });
  suspects = All-from_has (IsOpen k) o.suspects (λ n h. contains_named number n k.unfinished (c.suspects_open n h));
}

-- its number is among the suspects
pub has_number : (n : ℕ) (suspects : List ℕ) → list_any (λ m. m == n) suspects ≡ true → Has n suspects
has_number n suspects e = let w = any_has (λ m. m == n) suspects e in subst (λ m. Has m suspects) (eqb-true w.0 n w.1.1) w.1.0

named_number : (n : ℕ) (us : List Unfinished) → list_any (λ u. u.pipeline == n) us ≡ true → Named number n us
named_number n us e = let w = any_has (λ (u : Unfinished). u.pipeline == n) us e in (w.0, (w.1.0, eqb-true w.0.pipeline n w.1.1))

number_named : (n : ℕ) (us : List Unfinished) → Named number n us → list_any (λ u. u.pipeline == n) us ≡ true
number_named n us w = has_any (λ (u : Unfinished). u.pipeline == n) w.0 us w.1.0 (eq-eqb w.0.pipeline n w.1.1)

-- where all that aren't finished are suspects, and none is alone
pub all_suspects : (o : Known) (k : Kept) → o.alone ≡ [] → AreOpen k o.suspects → Accounts o k
all_suspects o k none all =
    accounts o k
    (subst (λ (ps : List Pipeline). Covers k.state.pipelines k.unfinished ps o.suspects) (sym none) (record {
      covered = λ u h. inl (has_number u.pipeline o.suspects (all u.pipeline ∙ has_any (λ v. v.pipeline == u.pipeline) u k.unfinished h (eq-eqb u.pipeline u.pipeline refl)));
      there = λ p h. absurd h;
      newest = λ p h. absurd h;
      alone_open = λ p h. absurd h;
      suspects_open = λ n h. named_number n k.unfinished (sym (all n) ∙ has_any (λ m. m == n) n o.suspects h (eq-eqb n n refl));
    }))

-- those that are alone and the suspects are those that aren't finished
pub all_numbers : (o : Known) (k : Kept) → Accounts o k → AreOpen k (map (λ p. p.id) o.alone ++ o.suspects)
all_numbers o k known n =
    let c = covers o k known in
    let numbers = map id o.alone ++ o.suspects in
    same_test (list_any (λ m. m == n) numbers) (list_any (λ u. u.pipeline == n) k.unfinished)
    (λ e. number_named n k.unfinished
    (⊎_elim
    (λ m. let w = map_has id n o.alone m in subst (λ i. Named number i k.unfinished) w.1.1 (c.alone_open w.0 w.1.0))
    (c.suspects_open n)
    (in_either n (map id o.alone) o.suspects (has_number n numbers e))))
    (λ e. let w = named_number n k.unfinished e in
    has_any (λ m. m == n) n numbers
    (⊎_elim
    (λ m. has_right n (map id o.alone) o.suspects (subst (λ i. Has i o.suspects) w.1.1 m))
    (λ v. has_left n (map id o.alone) o.suspects (subst (λ i. Has i (map id o.alone)) (v.1.1 ∙ w.1.1) (has_map id v.0 o.alone v.1.0)))
    (c.covered w.0 w.1.0))
    (eq-eqb n n refl))

-- ---- a pipeline is removed that none of those that are alone is

module _ (n : ℕ) (ps : List Pipeline) (alone : List Pipeline) (none : list_any (λ p. p.id == n) alone ≡ false) where
  another : (p : Pipeline) → Has p alone → p.id ≡ n → ⊥
  another p h e = both_ways (p.id == n) (any_none (λ (q : Pipeline). q.id == n) p alone none h) (eq-eqb p.id n e)

  pub after_removal : (us : List Unfinished) (suspects : List ℕ) → Covers ps us alone suspects → Covers (without id n ps) us alone suspects
  after_removal us suspects c = record {
    covered = c.covered;
    there = λ p h. find_implied (λ q. q.id == p.id) (λ q. not (is_eq (nat_cmp q.id n))) ps (λ q k e. unequal q.id n (λ f. another p h (sym (eqb-true q.id p.id e) ∙ f))) ∙ c.there p h;
    newest = λ p h.
        find_none (is_newer_of p) (without id n ps)
        (λ r m. found_none (is_newer_of p) r ps (c.newest p h) (has_filter (λ q. not (is_eq (nat_cmp q.id n))) r ps m).0);
    alone_open = c.alone_open;
    suspects_open = c.suspects_open;
  }

-- ---- a pipeline is put

-- one that isn't unsettled is there still, with no newer one
module _ (q : Pipeline) (ps : List Pipeline) (p : Pipeline) (settled : is_unsettled q p ≡ false) where
  other : (p.id == q.id) ≡ false
  other = (or_parts (p.id == q.id) (is_newer_of p q) settled).0

  apart : p.id ≡ q.id → ⊥
  apart e = both_ways (p.id == q.id) other (eq-eqb p.id q.id e)

  there_still : find (λ r. r.id == p.id) ps ≡ Some p → find (λ r. r.id == p.id) (put pipeline_cmp q ps) ≡ Some p
  there_still e =
      find_put (λ r. r.id == p.id) pipeline_cmp q ps
      (⊎_elim (λ t. absurd (apart (sym (eqb-true q.id p.id t)))) (λ f. f) (cases_Bool (q.id == p.id)))
      (λ r t. unequal r.id q.id (λ s. apart (sym (eqb-true r.id p.id t) ∙ s)))
      ∙ e

  newest_still : find (is_newer_of p) ps ≡ None → find (is_newer_of p) (put pipeline_cmp q ps) ≡ None
  newest_still e =
      find_none (is_newer_of p) (put pipeline_cmp q ps)
      (λ r h. ⊎_elim (λ s. ap (is_newer_of p) s ∙ (or_parts (p.id == q.id) (is_newer_of p q) settled).1) (λ m. found_none (is_newer_of p) r ps e m) (has_put pipeline_cmp q r ps h))

module _ (q : Pipeline) (ps : List Pipeline) (us : List Unfinished) (alone : List Pipeline) (suspects : List ℕ) (c : Covers ps us alone suspects) where
  -- those that are unsettled become suspects
  abbrev rest : List Pipeline
  rest = filter (λ p. not (is_unsettled q p)) alone

  abbrev more : List ℕ
  more = suspects ++ map (λ p. p.id) (filter (is_unsettled q) alone)

  kept : (p : Pipeline) → Has p rest → Has p alone × (is_unsettled q p ≡ false)
  kept p h = let w = has_filter (λ r. not (is_unsettled q r)) p alone h in (w.0, not-true (is_unsettled q p) w.1)

  moved : (p : Pipeline) → Has p alone → is_unsettled q p ≡ true → Has p.id more
  moved p h e = has_right p.id suspects (map (λ p. p.id) (filter (is_unsettled q) alone)) (has_map (λ p. p.id) p (filter (is_unsettled q) alone) (filter_has (is_unsettled q) p alone h e))

  either : (u : Unfinished) → Named id u.pipeline alone → Has u.pipeline more ⊎ Named id u.pipeline rest
  either u w =
      ⊎_elim
      (λ t. inl (subst (λ n. Has n more) w.1.1 (moved w.0 w.1.0 t)))
      (λ f. inr (w.0, (filter_has (λ r. not (is_unsettled q r)) w.0 alone w.1.0 (ap not f), w.1.1)))
      (cases_Bool (is_unsettled q w.0))

  pub after_put : Covers (put pipeline_cmp q ps) us rest more
  after_put = record {
    covered = λ u h. ⊎_elim (λ m. inl (has_left u.pipeline suspects _ m)) (either u) (c.covered u h);
    there = λ p h. let k = kept p h in there_still q ps p k.1 (c.there p k.0);
    newest = λ p h. let k = kept p h in newest_still q ps p k.1 (c.newest p k.0);
    alone_open = λ p h. c.alone_open p (kept p h).0;
    suspects_open = λ n h.
        ⊎_elim (c.suspects_open n)
        (λ m.
        let w = map_has (λ (p : Pipeline). p.id) n (filter (is_unsettled q) alone) m in
        subst (λ m. Named number m us) w.1.1 (c.alone_open w.0 (has_filter (is_unsettled q) w.0 alone w.1.0).0))
        (in_either n suspects (map (λ p. p.id) (filter (is_unsettled q) alone)) h);
  }

  -- where none is, all stay alone
  pub after_put_alone : ((p : Pipeline) → Has p alone → is_unsettled q p ≡ false) → Covers (put pipeline_cmp q ps) us alone suspects
  after_put_alone none = record {
    covered = c.covered;
    there = λ p h. there_still q ps p (none p h) (c.there p h);
    newest = λ p h. newest_still q ps p (none p h) (c.newest p h);
    alone_open = c.alone_open;
    suspects_open = c.suspects_open;
  }

-- ---- a pipeline isn't finished any more, or is

module _ (v : Unfinished) (ps : List Pipeline) (us : List Unfinished) (alone : List Pipeline) (suspects : List ℕ) (c : Covers ps us alone suspects) where
  named_put : (n : ℕ) → Named number n us → Named number n (put unfinished_cmp v us)
  named_put n w =
      ⊎_elim
      (λ e. (v, (put_here unfinished_cmp v us, sym (same w.0.pipeline v.pipeline e) ∙ w.1.1)))
      (λ f. (w.0, (put_has unfinished_cmp v w.0 us w.1.0 (ap not f), w.1.1)))
      (cases_Bool (is_eq (nat_cmp w.0.pipeline v.pipeline)))

  -- it is a suspect
  pub after_open : Covers ps (put unfinished_cmp v us) alone (suspects ++ v.pipeline ∷ [])
  after_open = record {
    covered = λ u h.
        ⊎_elim (λ e. inl (has_right u.pipeline suspects (v.pipeline ∷ []) (inl (ap number e))))
        (λ m. ⊎_elim (λ s. inl (has_left u.pipeline suspects (v.pipeline ∷ []) s)) (λ w. inr w) (c.covered u m)) (has_put unfinished_cmp v u us h);
    there = c.there;
    newest = c.newest;
    alone_open = λ p h. named_put p.id (c.alone_open p h);
    suspects_open = λ n h.
        ⊎_elim (λ s. named_put n (c.suspects_open n s)) (λ l. ⊎_elim (λ e. (v, (put_here unfinished_cmp v us, sym e))) (λ m. absurd m) l)
        (in_either n suspects (v.pipeline ∷ []) h);
  }

  -- or it is one already
  pub after_open_again : Has v.pipeline suspects → Covers ps (put unfinished_cmp v us) alone suspects
  after_open_again there = record {
    covered = λ u h. ⊎_elim (λ e. inl (subst (λ n. Has n suspects) (ap number (sym e)) there)) (c.covered u) (has_put unfinished_cmp v u us h);
    there = c.there;
    newest = c.newest;
    alone_open = λ p h. named_put p.id (c.alone_open p h);
    suspects_open = λ n h. named_put n (c.suspects_open n h);
  }

module _ (n : ℕ) (ps : List Pipeline) (us : List Unfinished) (alone : List Pipeline) (suspects : List ℕ) (c : Covers ps us alone suspects) where
  is_other : (m k : ℕ) → not (m == n) ≡ true → k ≡ m → not (k == n) ≡ true
  is_other m k t e = subst (λ z. not (z == n) ≡ true) (sym e) t

  named_still : (m : ℕ) → not (m == n) ≡ true → Named number m us → Named number m (filter (λ u. not (u.pipeline == n)) us)
  named_still m t w = (w.0, (filter_has (λ u. not (u.pipeline == n)) w.0 us w.1.0 (is_other m w.0.pipeline t w.1.1), w.1.1))

  pub after_close : Covers ps (filter (λ u. not (u.pipeline == n)) us) (filter (λ p. not (p.id == n)) alone) (filter (λ m. not (m == n)) suspects)
  after_close = record {
    covered = λ u h.
        let w = has_filter (λ (v : Unfinished). not (v.pipeline == n)) u us h in
        ⊎_elim
        (λ s. inl (filter_has (λ m. not (m == n)) u.pipeline suspects s w.1))
        (λ a. inr (a.0, (filter_has (λ p. not (p.id == n)) a.0 alone a.1.0 (is_other u.pipeline a.0.id w.1 a.1.1), a.1.1)))
        (c.covered u w.0);
    there = λ p h. c.there p (has_filter (λ (r : Pipeline). not (r.id == n)) p alone h).0;
    newest = λ p h. c.newest p (has_filter (λ (r : Pipeline). not (r.id == n)) p alone h).0;
    alone_open = λ p h. let w = has_filter (λ (r : Pipeline). not (r.id == n)) p alone h in named_still p.id w.1 (c.alone_open p w.0);
    suspects_open = λ m h. let w = has_filter (λ (r : ℕ). not (r == n)) m suspects h in named_still m w.1 (c.suspects_open m w.0);
  }

-- ---- a suspect is looked at

module _ (n : ℕ) (p : Pipeline) (ps : List Pipeline) (us : List Unfinished) (alone : List Pipeline) (still later : List ℕ)
    (c : Covers ps us alone (still ++ n ∷ later)) (found : find (λ q. q.id == n) ps ≡ Some p) (none : find (is_newer_of p) ps ≡ None) where
  its : p.id ≡ n
  its = eqb-true p.id n (has_find (λ (q : Pipeline). q.id == n) p ps found).1

  onwards : (m : ℕ) → Has m (still ++ later) → Has m (still ++ n ∷ later)
  onwards m h = ⊎_elim (λ s. has_left m still (n ∷ later) s) (λ l. has_right m still (n ∷ later) (inr l)) (in_either m still later h)

  sorted_out : (m : ℕ) → Has m (still ++ n ∷ later) → Has m (still ++ later) ⊎ (m ≡ n)
  sorted_out m h =
      ⊎_elim (λ s. inl (has_left m still later s)) (λ l. ⊎_elim (λ e. inr e) (λ k. inl (has_right m still later k)) l) (in_either m still (n ∷ later) h)

  named : (m : ℕ) → Named id m alone → Named id m (alone ++ p ∷ [])
  named m w = (w.0, (has_left w.0 alone (p ∷ []) w.1.0, w.1.1))

  of_all : (P : Pipeline → Type 0) → ((r : Pipeline) → Has r alone → P r) → P p → (r : Pipeline) → Has r (alone ++ p ∷ []) → P r
  of_all P old new r h = ⊎_elim (old r) (λ l. ⊎_elim (λ e. subst P (sym e) new) (λ m. absurd m) l) (in_either r alone (p ∷ []) h)

  -- it is alone
  pub after_look : Covers ps us (alone ++ p ∷ []) (still ++ later)
  after_look = record {
    covered = λ u h.
        ⊎_elim
        (λ s. ⊎_elim (λ k. inl k) (λ e. inr (p, (has_right p alone (p ∷ []) (inl refl), its ∙ sym e))) (sorted_out u.pipeline s))
        (λ w. inr (named u.pipeline w))
        (c.covered u h);
    there = of_all (λ r. find (λ q. q.id == r.id) ps ≡ Some r) c.there (subst (λ m. find (λ (q : Pipeline). q.id == m) ps ≡ Some p) (sym its) found);
    newest = of_all (λ r. find (is_newer_of r) ps ≡ None) c.newest none;
    alone_open = of_all (λ r. Named number r.id us) c.alone_open (subst (λ m. Named number m us) (sym its) (c.suspects_open n (has_right n still (n ∷ later) (inl refl))));
    suspects_open = λ m h. c.suspects_open m (onwards m h);
  }
