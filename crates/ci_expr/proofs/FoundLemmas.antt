-- An automaton finds what its pattern's characters say, and why one was not built.
use denote.Struct.Props.{props}
use Rattle.std.proofs.Math.Logic.{∥∥₁_elim}
use Rattle.std.proofs.Common.{◌≡◌, ℕ, ◌+◌, ◌<◌, ◌≤◌, Bool, true, false, option_map, List, All, length, Option, None, Some, IsSomeAnd, is_some, Result, Ok, Err, refl, ap, subst}
use Rattle.std.proofs.Common.{sym, ◌∙◌, inl, inr, ◌≢◌, IfSome, IfOk, IfErr, chars}
use Rattle.regex_hir.specs.Re.{Re}
use Rattle.regex_hir.specs.Find.{find, find_str}
use Rattle.regex_hir.specs.Meaning.{meaning}
use Rattle.regex_hir.specs.declared.hir.Hir.{Hir}
use Rattle.regex_hir.proofs.FindLemmas.{first_between_cong}
use Rattle.regex_syntax.specs.Brackets.{Nested}
use Rattle.regex_syntax.specs.Captures.{SameCaptures}
use Rattle.regex_syntax.specs.Grammar.{Names, group_count, read}
use Rattle.regex_syntax.specs.Verdict.{Reads, Refuses}
use Rattle.regex_syntax.specs.declared.Config.{Config}
use Rattle.regex_syntax.specs.declared.error.ErrorKind.{ErrorKind}
use Rattle.regex_syntax.specs.declared.error.ErrorKind.TheVariants.{OutOfMemory}
use Rattle.regex_syntax.proofs.CapturesLemmas.{spans, find_str_alike}
use Rattle.regex_syntax.proofs.Written.{is_some-option_map}
use Rattle.regex_nfa.specs.declared.nfa.Nfa.{Nfa}
use Rattle.regex_compile.specs.Implements.{Implements}
use Rattle.regex_vm.specs.Found.{first_match, span}
use Rattle.regex_hir.specs.Text.{is_boundary}
use Rattle.regex.proofs.SearchLemmas.{leftmost_none, leftmost_here, leftmost_retry}
use Rattle.ci_expr.specs.Prelude.{Refusal, config_of, found_by, is_found_in, IsAutomatonOf, HasTables, IsPattern, IsNoPattern, IsRefused}
use Rattle.ci_expr.proofs.Parts.{mapped}

abbrev Grammar : Type 0
Grammar = Option (Nested Re × Names)

abbrev IsReadAs : Grammar → ℕ → Re → Names → Type 0
IsReadAs o most a names = IsSomeAnd o (λ (re, found). (re.depth ≤ most) × SameCaptures a re.value × (names ≡ found) × (group_count a ≤ length names))

-- a search by the tree finds what the grammar says
found-by : (o : Grammar) (most : ℕ) (a : Re) (names : Names) → IsReadAs o most a names → (text : List ℕ) → All (λ b. b < 256) text →
    is_some (find_str a text 0) ≡ found_by o text
found-by None most a names h text bytes = absurd h
found-by (Some x) most a names h text bytes =
    sym (is_some-option_map spans (find_str a text 0)) ∙ ap is_some (find_str_alike a x.0.value h.1 text bytes 0) ∙ is_some-option_map spans (find_str x.0.value text 0)

pub found : (insensitive : Bool) (source : List ℕ) (hir : Hir) (names : Names) → Reads (config_of insensitive) source hir names → (text : List ℕ) → All (λ b. b < 256) text
    → is_some (find_str (meaning hir) text 0) ≡ is_found_in (config_of insensitive) (chars source) text
unfolding Reads
found insensitive source hir names h text bytes = found-by _ _ _ _ h text bytes

-- a search by the automaton finds what the tree says
pub implemented : (nfa : Nfa) (a : Re) → Implements nfa a → (text : List ℕ) (at : ℕ) → first_match nfa text (length text) at (length text) ≡ find a text at
unfolding find
implemented nfa a h text at = first_between_cong _ _ at (length text) (λ i _ _. h text i)

shallow-by : (o : Grammar) (most : ℕ) (a : Re) (names : Names) → IsReadAs o most a names → IsSomeAnd o (λ (re, found). re.depth ≤ most)
shallow-by None most a names h = absurd h
shallow-by (Some x) most a names h = h.0

pub read-pattern : (insensitive : Bool) (text : List ℕ) (hir : Hir) (names : Names) → Reads (config_of insensitive) text hir names → IsPattern insensitive (chars text)
unfolding Reads
read-pattern insensitive text hir names h = shallow-by _ _ _ _ h

-- an automaton's tables were measured of a pattern alone
shallow-prop : (o : Grammar) → IsProp (IsSomeAnd o (λ (re, names). re.depth ≤ 250))
shallow-prop None = λ x y. absurd x
shallow-prop (Some x) = search props

pub measured-pattern : (insensitive : Bool) (source : List ℕ) (bytes : ℕ) → HasTables insensitive source bytes → IsPattern insensitive (chars source)
measured-pattern insensitive source bytes h =
    ∥∥₁_elim h (shallow-prop (read (config_of insensitive) (chars source))) (λ m. read-pattern insensitive source m.1.0 m.1.1 m.1.2)

abbrev Built : Type 0
Built = Result Nfa Refusal

module _ (config : Config) (insensitive : Bool) (text : List ℕ) (hir : Hir) (names : Names) (e : config ≡ config_of insensitive) (h : Reads config text hir names) where
  as-read : Reads (config_of insensitive) text hir names
  as-read = subst (λ c. Reads c text hir names) e h

  pub built-automaton : (r : Built) → IfOk r (λ nfa. Implements nfa (meaning hir)) → IfOk r (IsAutomatonOf insensitive text)
  built-automaton (Ok nfa) compiled = (hir, names, as-read, compiled)
  built-automaton (Err x) compiled = tt

  pub built-pattern : (r : Built) → IfOk r (λ nfa. IsPattern insensitive (chars text))
  built-pattern (Ok nfa) = read-pattern insensitive text hir names as-read
  built-pattern (Err x) = tt

  pub built-refused : (r : Built) → IfErr r (λ x. x ≢ Refusal.Syntax) → IfErr r (IsRefused insensitive (chars text))
  built-refused (Ok nfa) other = tt
  built-refused (Err Refusal.Memory) other = tt
  built-refused (Err Refusal.Syntax) other = absurd (other refl)
  built-refused (Err Refusal.Size) other = read-pattern insensitive text hir names as-read

unread : (o : Grammar) (most : ℕ) → o ≡ None → IfSome o (λ (re, found). most < re.depth)
unread None most e = tt
unread (Some x) most e = absurd cc

-- what is refused for its syntax is none
refused-by : (insensitive : Bool) (text : List ℕ) (kind : ErrorKind) → Refuses (config_of insensitive) text kind → kind ≢ OutOfMemory
    → IsNoPattern insensitive (chars text)
unfolding Refuses
refused-by insensitive text kind (inl e) other = absurd (other e)
refused-by insensitive text kind (inr (inl e)) other = unread _ _ e
refused-by insensitive text kind (inr (inr (e, h))) other = h

pub no-pattern : (config : Config) (insensitive : Bool) (text : List ℕ) (kind : ErrorKind) → config ≡ config_of insensitive → Refuses config text kind → kind ≢ OutOfMemory
    → IsNoPattern insensitive (chars text)
no-pattern config insensitive text kind e refused other = refused-by insensitive text kind (subst (λ c. Refuses c text kind) e refused) other

-- ---- a search by the automaton, place by place
none-of : {A B : Type 0} (f : A → B) (o : Option A) → option_map f o ≡ None → o ≡ None
none-of f None e = refl
none-of f (Some x) e = absurd cc

module _ (nfa : Nfa) (re : Re) (h : Implements nfa re) (text : List ℕ) (at : ℕ) where
  as-find : (r : Option (ℕ × ℕ)) → r ≡ option_map span (first_match nfa text (length text) at (length text)) → option_map span (find re text at) ≡ r
  as-find r e = ap (option_map span) (sym (implemented nfa re h text at)) ∙ sym e

  pub nothing-found : None ≡ option_map span (first_match nfa text (length text) at (length text)) → find_str re text at ≡ None
  nothing-found e = leftmost_none re text true at (none-of span (find re text at) (as-find None e))

  module _ (from to : ℕ) (e : Some (from, to) ≡ option_map span (first_match nfa text (length text) at (length text))) where
    pub found-here : is_boundary text from ≡ true → is_some (find_str re text at) ≡ true
    found-here cut =
        let m = mapped span (find re text at) (from, to) (as-find (Some (from, to)) e) in
        ap is_some (leftmost_here re text true at m.0 m.1 (λ _. ap (is_boundary text) (ap (λ s. s.0) m.2) ∙ cut))

    pub found-inside : is_boundary text from ≡ false → find_str re text at ≡ find_str re text (from + 1)
    found-inside cut =
        let m = mapped span (find re text at) (from, to) (as-find (Some (from, to)) e) in
        let starts : m.0.start ≡ from = ap (λ s. s.0) m.2 in
        leftmost_retry re text true at m.0 refl m.1 (ap (is_boundary text) starts ∙ cut) ∙ ap (λ n. find_str re text (n + 1)) starts
