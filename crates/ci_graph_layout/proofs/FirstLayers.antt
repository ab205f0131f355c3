-- The value of a name in the layers of a job, one behind the other.
use Rattle.std.proofs.Common.{◌≡◌, ℕ, List, [], ◌∷◌, ◌++◌, Option, Some, None, refl, sym, ap, ◌∙◌, ⊎_elim}
use Rattle.std.proofs.lemmas.Bool.{cases_Bool}
use Rattle.std.specs.Str.{bytes_eq}
use Rattle.ci_graph_layout.specs.Prelude.{Variables, or_else, value_in, meaning_of, Config, Job, Given, layered, own_names, layers_of}

append_mean : (xs ys : Variables) (name : List ℕ) → meaning_of (xs ++ ys) name ≡ or_else (meaning_of xs name) (meaning_of ys name)
append_mean [] ys name = refl
append_mean (x ∷ xs) ys name = ⊎_elim (λ e. rw e refl) (λ e. rw e (append_mean xs ys name)) (cases_Bool (bytes_eq x.0 name))

turned : {A : Type 0} (a b c d e f : Option A) → or_else (or_else (or_else (or_else (or_else a b) c) d) e) f ≡ or_else a (or_else b (or_else c (or_else d (or_else (or_else e f) None))))
turned (Some x) b c d e f = refl
turned None (Some x) c d e f = refl
turned None None (Some x) d e f = refl
turned None None None (Some x) e f = refl
turned None None None None (Some x) f = refl
turned None None None None None (Some x) = refl
turned None None None None None None = refl

pub layers_mean : (g : Given) (c : Config) (j : Job) (own : Variables) (name : List ℕ) → meaning_of (layered g c j own) name ≡ value_in (layers_of g c j own) name
layers_mean g c j own name =
    let of = λ (vs : Variables). meaning_of vs name in
    append_mean (g.pipeline ++ g.project ++ own ++ c.variables ++ own_names j) g.predefined name
    ∙ (ap (λ m. or_else m (of g.predefined))
    (append_mean (g.pipeline ++ g.project ++ own ++ c.variables) (own_names j) name
    ∙ ap (λ m. or_else m (of (own_names j)))
    (append_mean (g.pipeline ++ g.project ++ own) c.variables name
    ∙ ap (λ m. or_else m (of c.variables))
    (append_mean (g.pipeline ++ g.project) own name
    ∙ ap (λ m. or_else m (of own)) (append_mean g.pipeline g.project name))))
    ∙ (turned (of g.pipeline) (of g.project) (of own) (of c.variables) (of (own_names j)) (of g.predefined)
    ∙ ap (λ m. or_else (of g.pipeline) (or_else (of g.project) (or_else (of own) (or_else (of c.variables) (or_else m None))))) (sym (append_mean (own_names j) g.predefined name))))
