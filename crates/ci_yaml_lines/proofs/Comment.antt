-- A text is cut where its comment begins.
use Rattle.std.proofs.Common.{◌≡◌, ℕ, Bool, true, false, cond, List, [], ◌∷◌, ◌++◌, take, drop, refl, sym, ◌∙◌, ap, subst, ◌==◌, ◌&&◌}
use Rattle.std.specs.List.{list_all}
use Rattle.std.proofs.lemmas.Bool.{eqb-true, eq-eqb, and_parts, and_from, both_ways, cond_both}
use Rattle.ci_yaml_lines.specs.Prelude.{is_blank, comment_len, before_comment, only_comment, last_of, HasNoComment, IsComment, comment, IsCut}
use Rattle.ci_yaml_lines.specs.Comment.{nothing}
use Rattle.ci_yaml_lines.proofs.Lists.{one-more}

-- ---- what the search finds is a comment, and the first one

pub comment-none : (before : ℕ) → HasNoComment before []
comment-none before [] ys e space = absurd cc
comment-none before (x ∷ xs) ys e space = absurd cc

pub comment-more : (before b : ℕ) (bs : List ℕ) → ((b == 35) && (before == 32)) ≡ false → HasNoComment b bs → HasNoComment before (b ∷ bs)
comment-more before b bs other clear [] ys e space =
    let hash : b ≡ 35 = cc in
    both_ways ((b == 35) && (before == 32)) other (and_from (b == 35) (before == 32) (eq-eqb b 35 hash) (eq-eqb before 32 space))
comment-more before b bs other clear (x ∷ xs) ys e space =
    let same : x ≡ b = cc in
    let rest : bs ≡ xs ++ 35 ∷ ys = cc in
    clear xs ys rest (ap (λ (n : ℕ). last_of n xs) (sym same) ∙ space)

-- what counts of a text before a comment is its last byte
pub comment-alike : (a b : ℕ) (f g behind : List ℕ) → last_of a f ≡ last_of b g → IsComment a f behind → IsComment b g behind
comment-alike a b f g behind same (nothing e) = nothing e
comment-alike a b f g behind same (comment words e space) = comment words e (sym same ∙ space)

pub cut-is : (last : ℕ) (bs : List ℕ) → IsCut last bs (before_comment last bs) (drop (comment_len last bs) bs)
cut-is last [] = record { parts = refl; clear = comment-none last; ends = nothing refl }
cut-is last (b ∷ bs) =
    cond_both ((b == 35) && (last == 32)) _ _ (λ (n : ℕ). IsCut last (b ∷ bs) (take n (b ∷ bs)) (drop n (b ∷ bs)))
    (λ is. let at = and_parts (b == 35) (last == 32) is in record { parts = refl; clear = comment-none last; ends = comment bs (λ i. eqb-true b 35 at.0 i ∷ bs) (eqb-true last 32 at.1) })
    (λ is.
    let front : List ℕ = before_comment b bs in
    let h = cut-is b bs in
    subst (λ (n : ℕ). IsCut last (b ∷ bs) (take n (b ∷ bs)) (drop n (b ∷ bs))) (sym (one-more (comment_len b bs))) (record {
      parts = λ i. b ∷ h.parts i;
      clear = comment-more last b front is h.clear;
      ends = comment-alike b last front (b ∷ front) (drop (comment_len b bs) bs) refl h.ends;
    }))

-- ---- a text is cut in one way

-- no text goes on where a comment begins
stops : (last b : ℕ) (front more behind : List ℕ) → HasNoComment last (b ∷ front) → IsComment last [] more → more ≡ (b ∷ front) ++ behind → ⊥
stops last b front more behind clear (nothing e) is = absurd cc
stops last b front more behind clear (comment words e space) is =
    let hash : b ≡ 35 = cc in
    clear [] front (λ i. hash i ∷ front) space

one-cut : (last : ℕ) (bs front behind f d : List ℕ) → IsCut last bs front behind → IsCut last bs f d → front ≡ f
one-cut last bs [] behind [] d h k = refl
one-cut last bs [] behind (b ∷ f) d h k = absurd (stops last b f behind d k.clear h.ends (sym h.parts ∙ k.parts))
one-cut last bs (b ∷ front) behind [] d h k = absurd (stops last b front d behind h.clear k.ends (sym k.parts ∙ h.parts))
one-cut last [] (b ∷ front) behind (c ∷ f) d h k = let e : [] ≡ (b ∷ front) ++ behind = h.parts in absurd cc
one-cut last (a ∷ bs) (b ∷ front) behind (c ∷ f) d h k =
    let p : a ∷ bs ≡ b ∷ (front ++ behind) = h.parts in
    let q : a ∷ bs ≡ c ∷ (f ++ d) = k.parts in
    let ab : b ≡ a = cc in
    let ac : c ≡ a = cc in
    let pt : bs ≡ front ++ behind = cc in
    let qt : bs ≡ f ++ d = cc in
    let e : front ≡ f = one-cut a bs front behind f d (inner b front behind ab pt h) (inner c f d ac qt k) in
    λ i. (ab ∙ sym ac) i ∷ e i
  where
    inner : (b : ℕ) (front behind : List ℕ) → b ≡ a → bs ≡ front ++ behind → IsCut last (a ∷ bs) (b ∷ front) behind → IsCut a bs front behind
    inner b front behind same parts h = record {
      parts = parts;
      clear = λ xs ys e space. h.clear (b ∷ xs) ys (λ i. b ∷ e i) (ap (λ (n : ℕ). last_of n xs) same ∙ space);
      ends = comment-alike last a (b ∷ front) front behind (ap (λ (n : ℕ). last_of n front) same) h.ends;
    }

pub cut-one : (last : ℕ) (bs front behind : List ℕ) → IsCut last bs front behind → front ≡ before_comment last bs
cut-one last bs front behind h = one-cut last bs front behind (before_comment last bs) (drop (comment_len last bs) bs) h (cut-is last bs)

-- ---- nothing but a comment

and-is : (a b : Bool) → cond a b false ≡ (a && b)
and-is true b = refl
and-is false b = refl

pub only-is : (last : ℕ) (bs : List ℕ) → only_comment last bs ≡ list_all is_blank (before_comment last bs)
only-is last [] = refl
only-is last (b ∷ bs) =
    let hash : Bool = (b == 35) && (last == 32) in
    cond_both hash _ _ (λ (n : ℕ). cond (is_blank b) (only_comment b bs) hash ≡ list_all is_blank (take n (b ∷ bs)))
    (λ is. (λ i. cond (is_blank (eqb-true b 35 (and_parts (b == 35) (last == 32) is).0 i)) (only_comment b bs) hash) ∙ is)
    (λ is. (λ i. cond (is_blank b) (only-is b bs i) (is i)) ∙ and-is (is_blank b) (list_all is_blank (before_comment b bs))
    ∙ λ i. list_all is_blank (take (sym (one-more (comment_len b bs)) i) (b ∷ bs)))
