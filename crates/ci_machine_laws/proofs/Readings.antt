-- What a text says is one answer, but that a pattern of it may be refused; and so is what it lays out.
use Rattle.ci_machine_laws.proofs.Prelude.{◌≡◌, ◌⊎◌, ℕ, List, Result, Ok, Err, refl, sym, ap, subst, ◌∙◌, inl, inr, ⊎_elim, X8, Config, Patterns, built, Fault, K13}
use Rattle.ci_machine_laws.proofs.Prelude.{LacksPatterns, meaning, Means, Plans, faulty, cyclic, planned, Given, GraphCode}
use Rattle.ci_graph_layout.specs.Prelude.{refused}
use Rattle.ci_config.specs.Prelude.{Code, Value}
use Rattle.ci_yaml.specs.Prelude.{HasTree, IsFault}
use Rattle.ci_machine_steps.specs.Prelude.{Detail, line_fault, keyword_fault, IsRead, configures, misconfigures, lacks_tree, graph_fault, Layout, IsLaidOut, misread, unplanned}
use Rattle.ci_machine_laws.specs.OneOutcome.{HoldsPattern}
use Rattle.ci_graph_layout.specs.Fault as layout
use Rattle.ci_machine_steps.specs.Pipelines as pipelines

-- what is cited of the crates below: a text has one tree, or one fault; a tree has one meaning, or a pattern of it is refused
pub record Readings : Type 0 where
  pub one_tree : (bytes : List ℕ) (v w : Value) → HasTree bytes v → HasTree bytes w → v ≡ w
  pub one_fault : (bytes : List ℕ) (i j : ℕ) (c d : Code) → IsFault bytes i c → IsFault bytes j d → (i ≡ j) × (c ≡ d)
  pub not_both : (bytes : List ℕ) (v : Value) (at : ℕ) (code : Code) → HasTree bytes v → IsFault bytes at code → ⊥
  pub alike : (v : Value) (builds : Patterns) → (meaning builds v ≡ meaning built v) ⊎ ((LacksPatterns v → ⊥) × (meaning builds v ≡ Err (K13 X8)) × (meaning refused v ≡ Err (K13 X8)))

-- a pattern is refused
abbrev pub pattern_refused : Detail
pattern_refused = keyword_fault (K13 X8)

-- one of them is to refuse a pattern of the text
abbrev pub PatternIn : {A : Type 0} → List ℕ → Result A Detail → Result A Detail → Type 0
PatternIn text r q = HoldsPattern text × ((r ≡ Err pattern_refused) ⊎ (q ≡ Err pattern_refused))

-- both are one, or one of them is that
abbrev pub Agree : {A : Type 0} → List ℕ → Result A Detail → Result A Detail → Type 0
Agree text r q = (r ≡ q) ⊎ PatternIn text r q

abbrev told : Result Config Fault → Result Config Detail
told (Ok c) = Ok c
told (Err fault) = Err (keyword_fault fault)

-- what is read of a text: what its tree means, or its fault
data Reads (text : List ℕ) (r : Result Config Detail) : Type 0 where
  of_tree : (tree : Value) (said : Result Config Fault) → HasTree text tree → Means tree said → r ≡ told said → Reads text r
  of_fault : (line : ℕ) (code : Code) → IsFault text line code → r ≡ Err (line_fault code line) → Reads text r

reads : (text : List ℕ) (r : Result Config Detail) → IsRead text r → Reads text r
reads text _ (configures tree c has means) = of_tree tree (Ok c) has means refl
reads text _ (misconfigures tree fault has means) = of_tree tree (Err fault) has means refl
reads text _ (lacks_tree line code is) = of_fault line code is refl

module _ (known : Readings) (text : List ℕ) where
  -- a tree's answer is its meaning with each pattern built, or X8, and then it has a pattern
  means_or : (tree : Value) (said : Result Config Fault) → HasTree text tree → Means tree said → (said ≡ meaning built tree) ⊎ (HoldsPattern text × (said ≡ Err (K13 X8)))
  means_or tree said has means =
      ⊎_elim
      (λ e. inl (sym means.1 ∙ e))
      (λ w. inr (record { tree = tree; is_tree = has; some = w.0 }, sym means.1 ∙ w.1))
      (known.alike tree means.0)

  agree : (r q : Result Config Detail) → Reads text r → Reads text q → Agree text r q
  agree r q (of_tree tree said has means e) (of_tree other answered has_other means_other f) =
      let same = known.one_tree text other tree has_other has in
      ⊎_elim
      (λ a. ⊎_elim
      (λ b. inl (e ∙ (ap told (a ∙ (ap (meaning built) (sym same) ∙ sym b)) ∙ sym f)))
      (λ b. inr (b.0, inr (f ∙ ap told b.1)))
      (means_or other answered has_other means_other))
      (λ a. inr (a.0, inl (e ∙ ap told a.1)))
      (means_or tree said has means)
  agree r q (of_tree tree said has means e) (of_fault line code is f) = absurd (known.not_both text tree line code has is)
  agree r q (of_fault line code is e) (of_tree tree said has means f) = absurd (known.not_both text tree line code has is)
  agree r q (of_fault line code is e) (of_fault at other is_other f) =
      let same = known.one_fault text line at code other is is_other in
      inl (e ∙ ((λ i. Err (line_fault (same.1 i) (same.0 i))) ∙ sym f))

  pub read_once : (r q : Result Config Detail) → IsRead text r → IsRead text q → Agree text r q
  read_once r q first second = agree r q (reads text r first) (reads text q second)

-- ---- what it lays out

plans_once : (g : Given) (c : Config) (r q : Result layout.Plan GraphCode) → Plans g c r → Plans g c q → r ≡ q
plans_once g c _ _ (faulty code e) (faulty other f) = let same : code ≡ other = cc in ap (λ (w : GraphCode). Err w) same
plans_once g c _ _ (faulty code e) (cyclic f has) = absurd (cc)
plans_once g c _ _ (faulty code e) (planned f none) = absurd (cc)
plans_once g c _ _ (cyclic e has) (faulty other f) = absurd (cc)
plans_once g c _ _ (cyclic e has) (cyclic f also) = refl
plans_once g c _ _ (cyclic e has) (planned f none) = absurd (none has)
plans_once g c _ _ (planned e none) (faulty other f) = absurd (cc)
plans_once g c _ _ (planned e none) (cyclic f has) = absurd (none has)
plans_once g c _ _ (planned e none) (planned f also) = refl

abbrev laid_by : Config → Result layout.Plan GraphCode → Result Layout Detail
laid_by c (Ok p) = Ok (record { config = c; plan = p })
laid_by c (Err code) = Err (graph_fault code)

-- what a file lays out by what is read of it: its fault, or a plan or the graph's fault
abbrev By : Given → Result Config Detail → Result Layout Detail → Type 0
By g (Err fault) r = r ≡ Err fault
By g (Ok c) r = (plan : Result layout.Plan GraphCode) × Plans g c plan × (r ≡ laid_by c plan)

record LaysOut (text : List ℕ) (g : Given) (r : Result Layout Detail) : Type 0 where
  said : Result Config Detail
  is : IsRead text said
  by : By g said r

lays_out : (text : List ℕ) (g : Given) (r : Result Layout Detail) → IsLaidOut text g r → LaysOut text g r
lays_out text g _ (misread fault is) = record { said = Err fault; is = is; by = refl }
lays_out text g _ (unplanned c code is plans) = record { said = Ok c; is = is; by = (Err code, plans, refl) }
lays_out text g _ (pipelines.planned c p is plans) = record { said = Ok c; is = is; by = (Ok p, plans, refl) }

by_once : (g : Given) (said : Result Config Detail) (r q : Result Layout Detail) → By g said r → By g said q → r ≡ q
by_once g (Err fault) r q a b = a ∙ sym b
by_once g (Ok c) r q a b = a.2 ∙ (ap (laid_by c) (plans_once g c a.0 b.0 a.1 b.1) ∙ sym b.2)

pub laid_once : Readings → (text : List ℕ) (g : Given) (r q : Result Layout Detail) → IsLaidOut text g r → IsLaidOut text g q → Agree text r q
laid_once known text g r q first second =
    let a = lays_out text g r first in
    let b = lays_out text g q second in
    ⊎_elim
    (λ same. inl (by_once g b.said r q (subst (λ (w : Result Config Detail). By g w r) same a.by) b.by))
    (λ w. inr (w.0, ⊎_elim (λ e. inl (subst (λ (v : Result Config Detail). By g v r) e a.by)) (λ e. inr (subst (λ (v : Result Config Detail). By g v q) e b.by)) w.1))
    (read_once known text a.said b.said a.is b.is)
