-- Changes of records that are of no pipeline leave the pipelines.
use Rattle.std.proofs.Common.{◌≡◌, ℕ, ◌+◌, ◌<◌, ◌++◌, ◌∷◌, [], List, take, length, slice_index_or, Option, Some, None, Result, Ok, Err, IfOk, IfSome, refl, sym, ap, subst, ◌∙◌}
use Rattle.std.specs.Result.{result_ok}
use Rattle.std.proofs.lemmas.List.{take_more}
use Rattle.ci_machine_steps.specs.Prelude.{Pipeline, Record, Key, RowChange, Put, Remove, IndexChange, Kept, indexed, indexed_all, State, changed}
use Rattle.ci_memory.specs.Changes.{put_pipeline, removed_pipeline}

-- a change that puts a pipeline is that
pub put_is : (c : RowChange) (p : Pipeline) → put_pipeline c ≡ Some p → c ≡ Put (Record.Pipeline p)
put_is (Put (Record.Pipeline q)) p e = let same : q ≡ p = cc in ap (λ (r : Pipeline). Put (Record.Pipeline r)) same
put_is _ p e = absurd (cc)

-- one that removes a pipeline is that
pub removed_is : (c : RowChange) (n : ℕ) → removed_pipeline c ≡ Some n → c ≡ Remove (Key.Pipeline n)
removed_is (Remove (Key.Pipeline m)) n e = let same : m ≡ n = cc in ap (λ (i : ℕ). Remove (Key.Pipeline i)) same
removed_is _ n e = absurd (cc)

pub pipelines_stay : (c : RowChange) (s : State) → put_pipeline c ≡ None → removed_pipeline c ≡ None → (changed c s).pipelines ≡ s.pipelines
pipelines_stay (Put (Record.Pipeline q)) s e f = absurd (cc)
pipelines_stay (Remove (Key.Pipeline n)) s e f = absurd (cc)
pipelines_stay _ s e f = refl

-- ---- one more change of an index

indexed_append : (xs ys : List IndexChange) (k : Kept) → indexed_all (xs ++ ys) k ≡ indexed_all ys (indexed_all xs k)
indexed_append [] ys k = refl
indexed_append (c ∷ cs) ys k = indexed_append cs ys (indexed c k)

pub indexed_more : (cs : List IndexChange) (i : ℕ) (c : IndexChange) (k : Kept) → i < length cs → c ≡ slice_index_or cs i c → indexed c (indexed_all (take i cs) k) ≡ indexed_all (take (i + 1) cs) k
indexed_more cs i c k within at =
    sym (ap (λ (l : List IndexChange). indexed_all l k) (take_more cs i c within ∙ ap (λ (x : IndexChange). take i cs ++ x ∷ []) (sym at)) ∙ indexed_append (take i cs) (c ∷ []) k)

-- ---- a call that may fail

pub kept_ok : {A E : Type 0} (P : A → Type 0) (r : Result A E) (o : Option A) → o ≡ result_ok r → IfOk r P → IfSome o P
kept_ok P (Ok x) o e p = subst (λ z. IfSome z P) (sym e) p
kept_ok P (Err x) o e p = subst (λ z. IfSome z P) (sym e) tt
