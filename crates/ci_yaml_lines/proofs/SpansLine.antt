-- Where the texts of a line stand: those of lists on one line, those behind a dash or a colon, and those of all entries.
use Rattle.std.proofs.Common.{◌≡◌, ℕ, false, List, [], ◌∷◌, ◌++◌, length, take, drop, ◌⊎◌, inl, inr, refl, sym, ◌∙◌, ap, subst, append_assoc, rules, ◌==◌, Result, Ok, Err, IfOk}
use Rattle.std.proofs.Common.{Option, Some, IfSome, ◌+◌, ◌-◌, ◌≤◌, None, arith, length-append, length-drop}
use Rattle.std.proofs.lemmas.Bool.{eqb-true, cases_Bool, cond_both}
use Rattle.std.proofs.lemmas.List.{append-nil, take-append-drop}
use Rattle.std.proofs.Math.Seq.{drop-append_seam}
use Rattle.ci_yaml_lines.specs.Prelude.{is_blank, blanks, drop_blanks, trimmed_len, trim_end, tail_of, place_len, end_of, cut_place, SourceLine, Span, Tree, Null as NullTree}
use Rattle.ci_yaml_lines.specs.Prelude.{the_lemmas, Comma, Bracket, Missing, Cut, end_view, cut_view, span_before, Stand, none, texts_in, items_texts, OnlyText, behind_end}
use Rattle.ci_yaml_lines.specs.Prelude.{behind_list, IsLent, before_comment, comment_len, Dash, head_is, Split, split_colon, key_len, spaces, is_space, StandOn, given_texts}
use Rattle.ci_yaml_lines.specs.Prelude.{entry_texts, entries_texts, GoOn, KeyOf, ItemStands}
use Rattle.ci_yaml_lines.specs.Line as line
use Rattle.ci_yaml_lines.specs.declared.tree.Text.{Text}
use Rattle.ci_yaml_lines.specs.declared.tree.Tree.{Text as TextTree}
use Rattle.ci_yaml_lines.specs.declared.flow.End.{End}
use Rattle.ci_yaml_lines.specs.declared.flow.Listed.{Listed}
use Rattle.ci_yaml_lines.specs.Spans.{plain}
use Rattle.ci_yaml_lines.proofs.FlowLists.{blank-on, blank-off}
use Rattle.ci_yaml_lines.proofs.SpansTexts.{texts-Text, items_texts-push}
use Rattle.ci_yaml_lines.proofs.SpansStand.{stand-earlier, stand-none, stand-then, stand-all, stand-one, longer, stand-longer}
use Rattle.ci_yaml_lines.specs.declared.quoted.Quoted.{Quoted}
use Rattle.std.proofs.lemmas.List.Sums.{prefix_len-le-length}
use Rattle.ci_yaml_lines.specs.declared.line.Keyed.{Keyed}
use Rattle.ci_yaml_lines.specs.declared.line.Item.{Item}
use Rattle.ci_yaml_lines.specs.declared.line.Item.TheVariants.{Value}
use Rattle.ci_yaml_lines.specs.declared.entry.Entry.{Entry}
use Rattle.ci_yaml_lines.specs.declared.written.Written.{Written}

-- ---- what comes last

-- the first list ends in the second
pub record EndsIn (bs cs : List ℕ) : Type 0 where
  pub front : List ℕ
  pub parts : bs ≡ front ++ cs

pub ends-none : (bs : List ℕ) → EndsIn bs []
ends-none bs = record { front = bs; parts = sym (append-nil bs) }

pub ends-more : (front bs cs : List ℕ) → EndsIn bs cs → EndsIn (front ++ bs) cs
ends-more front bs cs h = record { front = front ++ h.front; parts = (λ i. front ++ h.parts i) ∙ sym (append_assoc front h.front cs) }

pub ends-drop : (n : ℕ) (bs : List ℕ) → EndsIn bs (drop n bs)
ends-drop n bs = record { front = take n bs; parts = sym (take-append-drop n bs) }

pub ends-tail : (bs : List ℕ) → EndsIn bs (tail_of bs)
ends-tail [] = record { front = []; parts = refl }
ends-tail (b ∷ bs) = record { front = b ∷ []; parts = refl }

pub ends-then : (bs cs ds : List ℕ) → EndsIn bs cs → EndsIn cs ds → EndsIn bs ds
ends-then bs cs ds h i = record { front = h.front ++ i.front; parts = h.parts ∙ (λ j. h.front ++ i.parts j) ∙ sym (append_assoc h.front i.front ds) }

pub stand-end : (at : SourceLine) (bs cs : List ℕ) → EndsIn bs cs → Stand at bs [] cs
stand-end at bs cs h = none bs h.front cs h.parts

pub stand-within : (at : SourceLine) (bs cs ds : List ℕ) (ts : List Text) → EndsIn bs cs → Stand at cs ts ds → Stand at bs ts ds
stand-within at bs cs ds ts h stand = stand-earlier at bs cs ds h.front ts h.parts stand

-- ---- behind blanks

-- what of these bytes follows those that come before them
record Follows (front bs : List ℕ) : Type 0 where
  pub rest : List ℕ
  pub parts : drop_blanks (front ++ bs) ≡ drop_blanks front ++ rest
  pub whole : (rest ≡ bs) ⊎ (rest ≡ drop_blanks bs)

follows : (front bs : List ℕ) → Follows front bs
follows [] bs = record { rest = drop_blanks bs; parts = refl; whole = inr refl }
follows (b ∷ front) bs = elim (cases_Bool (is_blank b)) [
  | inl is ↦
      let h = follows front bs in
      record { rest = h.rest; parts = blank-on b (front ++ bs) is ∙ h.parts ∙ λ i. sym (blank-on b front is) i ++ h.rest; whole = h.whole }
  | inr is ↦ record { rest = bs; parts = blank-off b (front ++ bs) is ∙ λ i. sym (blank-off b front is) i ++ bs; whole = inl refl }
]

ends-blank : (front : List ℕ) (b : ℕ) (bs : List ℕ) → is_blank b ≡ false → EndsIn (drop_blanks (front ++ b ∷ bs)) bs
ends-blank [] b bs e = record { front = b ∷ []; parts = blank-off b bs e }
ends-blank (c ∷ front) b bs e = elim (cases_Bool (is_blank c)) [
  | inl is ↦ subst (λ (x : List ℕ). EndsIn x bs) (sym (blank-on c (front ++ b ∷ bs) is)) (ends-blank front b bs e)
  | inr is ↦ subst (λ (x : List ℕ). EndsIn x bs) (sym (blank-off c (front ++ b ∷ bs) is)) (ends-more (c ∷ front) (b ∷ bs) bs (ends-tail (b ∷ bs)))
]

-- ---- where a place ends

abbrev behind : line.End → List ℕ
behind (line.comma bs) = bs
behind (line.bracket bs) = bs
behind line.missing = []

pub behind-is : (e : End) → behind_end e ≡ behind (end_view e)
behind-is (Comma s) = refl
behind-is (Bracket s) = refl
behind-is Missing = refl

-- behind these bytes, with or without the blanks that they begin with
abbrev EndBoth : List ℕ → List ℕ → Type 0
EndBoth bs cs = EndsIn bs cs × EndsIn (drop_blanks bs) cs

both-blank : (front : List ℕ) (b : ℕ) (bs : List ℕ) → is_blank b ≡ false → EndBoth (front ++ b ∷ bs) bs
both-blank front b bs e = (ends-more front (b ∷ bs) bs (ends-tail (b ∷ bs)), ends-blank front b bs e)

end-both : (front bs : List ℕ) → EndBoth (front ++ bs) (behind (end_of bs))
end-both front [] = (ends-none (front ++ []), ends-none (drop_blanks (front ++ [])))
end-both front (b ∷ bs) =
    let P : line.End → Type 0 = λ e. EndBoth (front ++ b ∷ bs) (behind e) in
    cond_both (b == 44) _ _ P (λ is. both-blank front b bs (ap is_blank (eqb-true b 44 is)))
    (λ _. cond_both (b == 93) _ _ P (λ is. both-blank front b bs (ap is_blank (eqb-true b 93 is))) (λ _. (ends-none (front ++ b ∷ bs), ends-none (drop_blanks (front ++ b ∷ bs)))))

-- what a cut leaves
pub ends-cut : (last : ℕ) (bs : List ℕ) (c : Cut) → cut_view c ≡ cut_place last bs → EndsIn bs (behind_end c.end)
ends-cut last bs c is =
    let n : ℕ = place_len last bs in
    let e : behind_end c.end ≡ behind (end_of (drop n bs)) = behind-is c.end ∙ ap (λ (x : line.Cut). behind x.end) is in
    subst (EndsIn bs) (sym e) (ends-then bs (drop n bs) (behind (end_of (drop n bs))) (ends-drop n bs) (end-both [] (drop n bs)).0)

-- ---- a place

-- the text of a plain scalar stands where it begins
pub stand-only : (at : SourceLine) (bs scalar rest cs : List ℕ) (span : Span) (ts : List Text) → EndsIn bs (scalar ++ rest) → EndsIn rest cs → span ≡ span_before at (scalar ++ rest) rest → OnlyText scalar span ts → Stand at bs ts cs
stand-only at bs scalar rest cs span [] from to is only =
    stand-end at bs cs (ends-then bs (scalar ++ rest) cs from (ends-more scalar rest cs to))
stand-only at bs scalar rest cs span (t ∷ []) from to is only =
    stand-within at bs (scalar ++ rest) cs (t ∷ []) from
    (stand-then at (scalar ++ rest) rest cs (t ∷ []) [] (stand-one at (scalar ++ rest) [] scalar rest t refl (plain only.0) (only.1 ∙ is)) (stand-end at rest cs to))
stand-only at bs scalar rest cs span (t ∷ u ∷ ts) from to is only = absurd only

-- a plain scalar in front, blanks at both ends left out
pub stand-front-of : (at : SourceLine) (bs raw d scalar from cs : List ℕ) (len : ℕ) (span : Span) (ts : List Text) → bs ≡ raw ++ d → scalar ≡ drop_blanks (trim_end raw) → from ≡ drop_blanks bs → len ≡ length scalar
    → ((front : List ℕ) → EndBoth (front ++ d) cs) → span ≡ span_before at from (drop len from) → OnlyText scalar span ts → Stand at bs ts cs
stand-front-of at bs raw d scalar from cs len span ts bs-is scalar-is from-is len-is ends span-is only =
    let k : ℕ = trimmed_len raw in
    let h : Follows (trim_end raw) (drop k raw ++ d) = follows (trim_end raw) (drop k raw ++ d) in
    let parts : bs ≡ trim_end raw ++ (drop k raw ++ d) = bs-is ∙ (λ i. sym (take-append-drop k raw) i ++ d) ∙ append_assoc (trim_end raw) (drop k raw) d in
    let from-parts : from ≡ scalar ++ h.rest = from-is ∙ ap drop_blanks parts ∙ h.parts ∙ λ i. sym scalar-is i ++ h.rest in
    let behind-is : drop len from ≡ h.rest = (λ i. drop (len-is i) (from-parts i)) ∙ drop-append_seam scalar h.rest in
    let begins : EndsIn bs (scalar ++ h.rest) = subst (EndsIn bs) (sym from-is ∙ from-parts) (ends-drop (blanks bs) bs) in
    stand-only at bs scalar h.rest cs span ts begins
    (elim h.whole [
      | inl e ↦ subst (λ (x : List ℕ). EndsIn x cs) (sym e) (ends (drop k raw)).0
      | inr e ↦ subst (λ (x : List ℕ). EndsIn x cs) (sym e) (ends (drop k raw)).1
    ])
    (span-is ∙ λ i. span_before at (from-parts i) (behind-is i)) only

pub stand-plain-place : (at : SourceLine) (bs trimmed scalar from : List ℕ) (c : Cut) (len : ℕ) (span : Span) (ts : List Text) → cut_view c ≡ cut_place 44 bs → trimmed ≡ trim_end c.raw.now → scalar ≡ drop_blanks trimmed
    → from ≡ drop_blanks bs → len ≡ length scalar → span ≡ span_before at from (drop len from) → OnlyText scalar span ts → Stand at bs ts (behind_end c.end)
stand-plain-place at bs trimmed scalar from c len span ts cut-is trimmed-is scalar-is from-is len-is span-is only =
    let n : ℕ = place_len 44 bs in
    let raw-is : c.raw.now ≡ take n bs = ap (λ (x : line.Cut). x.raw) cut-is in
    let end-is : behind_end c.end ≡ behind (end_of (drop n bs)) = behind-is c.end ∙ ap (λ (x : line.Cut). behind x.end) cut-is in
    stand-front-of at bs c.raw.now (drop n bs) scalar from (behind_end c.end) len span ts
    (sym (take-append-drop n bs) ∙ λ i. sym raw-is i ++ drop n bs) (scalar-is ∙ ap drop_blanks trimmed-is) from-is len-is
    (λ front. subst (EndBoth (front ++ drop n bs)) (sym end-is) (end-both front (drop n bs))) span-is only

-- behind a quoted scalar
pub stand-behind-quoted : (t : Text) (rest : List ℕ) (v : Tree) (c : Cut) → v ≡ TextTree t → cut_view c ≡ cut_place 39 rest
    → (at : SourceLine) (bs : List ℕ) → Stand at bs (t ∷ []) rest → Stand at bs (texts_in v) (behind_end c.end)
stand-behind-quoted t rest v c v-is cut-is at bs stand =
    let texts : texts_in v ≡ t ∷ [] = ap texts_in v-is ∙ texts-Text t in
    subst (λ (ts : List Text). Stand at bs ts (behind_end c.end)) (sym texts)
    (stand-then at bs rest (behind_end c.end) (t ∷ []) [] stand (stand-end at rest (behind_end c.end) (ends-cut 39 rest c cut-is)))

-- ---- a list

pub stand-more : (at : SourceLine) (bs rest ds : List ℕ) (vs us : List Tree) (v : Tree) (end : End) → Stand at bs (items_texts vs) rest → us ≡ vs ++ v ∷ [] → Stand at rest (texts_in v) (behind_end end) → behind_end end ≡ ds → Stand at bs (items_texts us) ds
stand-more at bs rest ds vs us v end before us-is one end-is =
    let texts : items_texts us ≡ items_texts vs ++ texts_in v = ap items_texts us-is ∙ items_texts-push vs v in
    subst (λ (ts : List Text). Stand at bs ts ds) (sym texts)
    (stand-then at bs rest ds (items_texts vs) (texts_in v) before (subst (Stand at rest (texts_in v)) end-is one))

pub stand-null : (at : SourceLine) (bs : List ℕ) → Stand at bs (texts_in NullTree) []
stand-null at bs = subst (λ (ts : List Text). Stand at bs ts []) (sym texts) (stand-end at bs [] (ends-none bs))
  where
    texts : texts_in NullTree ≡ []
    texts = search (rules, the_lemmas)

pub stand-behind-blanks : (at : SourceLine) (bs from cs : List ℕ) (ts : List Text) → from ≡ drop_blanks bs → Stand at from ts cs → Stand at bs ts cs
stand-behind-blanks at bs from cs ts is stand = stand-within at bs from cs ts (subst (EndsIn bs) (sym is) (ends-drop (blanks bs) bs)) stand

-- no places yet
pub stand-nothing : (at : SourceLine) (bs : List ℕ) (vs : List Tree) → vs ≡ [] → Stand at bs (items_texts vs) bs
stand-nothing at bs vs is = subst (λ (us : List Tree). Stand at bs (items_texts us) bs) (sym is) (stand-none at bs)

-- an empty list
pub stand-empty : (at : SourceLine) (bs inner from cs : List ℕ) (vs : List Tree) → inner ≡ tail_of bs → from ≡ drop_blanks inner → cs ≡ tail_of from → vs ≡ [] → Stand at bs (items_texts vs) cs
stand-empty at bs inner from cs vs inner-is from-is cs-is vs-is =
    let behind-from : EndsIn from cs = subst (EndsIn from) (sym cs-is) (ends-tail from) in
    let behind-inner : EndsIn inner cs = ends-then inner from cs (subst (EndsIn inner) (sym from-is) (ends-drop (blanks inner) inner)) behind-from in
    let behind-all : EndsIn bs cs = ends-then bs inner cs (subst (EndsIn bs) (sym inner-is) (ends-tail bs)) behind-inner in
    subst (λ (us : List Tree). Stand at bs (items_texts us) cs) (sym vs-is) (stand-end at bs cs behind-all)

pub list-within : {E : Type 0} (at : SourceLine) (bs inner : List ℕ) → inner ≡ tail_of bs → (r : Result Listed E) → IfOk r (λ l. Stand at inner (items_texts l.items.items) (behind_list l.rest))
    → IfOk r (λ l. Stand at bs (items_texts l.items.items) (behind_list l.rest))
list-within at bs inner is (Ok l) stand = stand-within at bs inner (behind_list l.rest) (items_texts l.items.items) (subst (EndsIn bs) (sym is) (ends-tail bs)) stand
list-within at bs inner is (Err e) stand = tt

-- ======== behind a dash or a colon

-- ---- further in front

pub stand-tail : (at : SourceLine) (bs tail c : List ℕ) (ts : List Text) → tail ≡ tail_of bs → Stand at tail ts c → Stand at bs ts c
stand-tail at bs tail c ts e stand = stand-within at bs tail c ts (subst (EndsIn bs) (sym e) (ends-tail bs)) stand

pub stand_drop : (at : SourceLine) (bs from c : List ℕ) (n : ℕ) (ts : List Text) → from ≡ drop n bs → Stand at from ts c → Stand at bs ts c
stand_drop at bs from c n ts e stand = stand-within at bs from c ts (subst (EndsIn bs) (sym e) (ends-drop n bs)) stand

-- ---- texts at the front

-- no text stands anywhere
pub stand-no_text : (at : SourceLine) (bs : List ℕ) → Stand at bs [] []
stand-no_text at bs = stand-all at bs bs [] (stand-none at bs)

-- an empty text
pub stand-empty_text : (at : SourceLine) (bs : List ℕ) (t : Text) → IsLent [] t.words → t.span ≡ span_before at bs bs → Stand at bs (texts_in (TextTree t)) bs
stand-empty_text at bs t e is = subst (λ (ts : List Text). Stand at bs ts bs) (sym (texts-Text t)) (stand-one at bs [] [] bs t refl (plain e) is)

-- without the blanks at its end
pub trimmed-parts : (raw text : List ℕ) → text ≡ trim_end raw → raw ≡ text ++ drop (trimmed_len raw) raw
trimmed-parts raw text e = sym (take-append-drop (trimmed_len raw) raw) ∙ λ i. sym e i ++ drop (trimmed_len raw) raw

-- a plain scalar, and behind it its blanks and the rest, which end in `c`
pub stand-trimmed : (at : SourceLine) (bs raw scalar rest c : List ℕ) (span : Span) (ts : List Text) → bs ≡ raw ++ rest → scalar ≡ trim_end raw → span ≡ span_before at bs (drop (length scalar) bs)
    → EndsIn (drop (trimmed_len raw) raw ++ rest) c → OnlyText scalar span ts → Stand at bs ts c
stand-trimmed at bs raw scalar rest c span ts parts scalar-is span-is ends only =
    let behind : List ℕ = drop (trimmed_len raw) raw ++ rest in
    let all : bs ≡ scalar ++ behind = parts ∙ (λ i. trimmed-parts raw scalar scalar-is i ++ rest) ∙ append_assoc scalar (drop (trimmed_len raw) raw) rest in
    let behind-is : drop (length scalar) bs ≡ behind = ap (drop (length scalar)) all ∙ drop-append_seam scalar behind in
    stand-only at bs scalar behind c span ts (record { front = []; parts = all }) ends
    (span-is ∙ λ i. span_before at (all i) (behind-is i)) only

-- a plain scalar up to a comment
pub stand-plain : (at : SourceLine) (bs raw scalar : List ℕ) (span : Span) (ts : List Text) → raw ≡ before_comment 0 bs → scalar ≡ trim_end raw → span ≡ span_before at bs (drop (length scalar) bs)
    → OnlyText scalar span ts → Stand at bs ts []
stand-plain at bs raw scalar span ts raw-is scalar-is span-is only =
    let n : ℕ = comment_len 0 bs in
    let parts : bs ≡ raw ++ drop n bs = sym (take-append-drop n bs) ∙ λ i. sym raw-is i ++ drop n bs in
    stand-trimmed at bs raw scalar (drop n bs) [] span ts parts scalar-is span-is (ends-none (drop (trimmed_len raw) raw ++ drop n bs)) only

-- ---- what is written

pub stand-same : (at : SourceLine) (bs rest : List ℕ) (ts us : List Text) → ts ≡ us → Stand at bs us rest → Stand at bs ts []
stand-same at bs rest ts us e stand = subst (λ (x : List Text). Stand at bs x []) (sym e) (stand-all at bs rest us stand)

pub stand-quoted : (at : SourceLine) (bs : List ℕ) (o : Option Quoted) (q : Quoted) (ts : List Text) → o ≡ Some q → IfSome o (λ x. Stand at bs (x.text ∷ []) x.rest.now) → ts ≡ q.text ∷ [] → Stand at bs ts []
stand-quoted at bs o q ts is stand e =
    stand-same at bs q.rest.now ts (q.text ∷ []) e (subst (λ (p : Option Quoted). IfSome p (λ x. Stand at bs (x.text ∷ []) x.rest.now)) is stand)

-- from one fact of what was returned to another
pub if-ok : {T E : Type 0} (r : Result T E) (P Q : T → Type 0) → ((x : T) → P x → Q x) → IfOk r P → IfOk r Q
if-ok (Ok x) P Q f p = f x p
if-ok (Err e) P Q f p = tt

-- ======== entries and lines

-- ---- keys

-- what comes before the colon, and what behind it
split-parts : (bs raw rest : List ℕ) → split_colon bs ≡ Some (record { raw = raw; rest = rest }) → (raw ≡ take (key_len 0 bs) bs) × (rest ≡ tail_of (drop (key_len 0 bs) bs))
split-parts bs raw rest =
    let there : Split = record { raw = raw; rest = rest } in
    let here : Split = record { raw = take (key_len 0 bs) bs; rest = tail_of (drop (key_len 0 bs) bs) } in
    cond_both (head_is 58 (drop (key_len 0 bs) bs)) (Some here) None (λ o. o ≡ Some there → (raw ≡ here.raw) × (rest ≡ here.rest))
    (λ _ e. let same : there ≡ here = cc in (λ i. (same i).raw, λ i. (same i).rest)) (λ _ e. absurd cc)

pub stand-key : (at : SourceLine) (bs raw rest name : List ℕ) (t : Text) → split_colon bs ≡ Some (record { raw = raw; rest = rest }) → name ≡ trim_end raw → IsLent name t.words
    → t.span ≡ span_before at bs (drop (length name) bs) → Stand at bs (t ∷ []) rest
stand-key at bs raw rest name t e name-is words-are span-is =
    let from : List ℕ = drop (key_len 0 bs) bs in
    let split = split-parts bs raw rest e in
    let parts : bs ≡ raw ++ from = sym (take-append-drop (key_len 0 bs) bs) ∙ λ i. sym split.0 i ++ from in
    let ends : EndsIn from rest = subst (EndsIn from) (sym split.1) (ends-tail from) in
    stand-trimmed at bs raw name from rest t.span (t ∷ []) parts name-is span-is (ends-more (drop (trimmed_len raw) raw) from rest ends) (words-are, refl)

pub stand-quoted-key : (at : SourceLine) (bs : List ℕ) (q : Option Quoted) (k : Option Keyed) → IfSome q (λ x. Stand at bs (x.text ∷ []) x.rest.now) → KeyOf q k → IfSome k (λ x. Stand at bs (x.name ∷ []) x.rest.now)
stand-quoted-key at bs q None stand is = tt
stand-quoted-key at bs None (Some k) stand is = absurd is
stand-quoted-key at bs (Some q) (Some k) stand is =
    let from : List ℕ = q.rest.now in
    let ends : EndsIn from k.rest.now = ends-then from (drop_blanks from) k.rest.now (ends-drop (blanks from) from) (subst (EndsIn (drop_blanks from)) (sym is.1) (ends-tail (drop_blanks from))) in
    subst (λ (t : Text). Stand at bs (t ∷ []) k.rest.now) (sym is.0) (stand-then at bs from k.rest.now (q.text ∷ []) [] stand (stand-end at from k.rest.now ends))

-- ---- entries

pub entries-texts-push : (es : List Entry) (e : Entry) → entries_texts (es ++ e ∷ []) ≡ entries_texts es ++ entry_texts e
entries-texts-push [] e = append-nil (entry_texts e)
entries-texts-push (x ∷ es) e = (λ i. entry_texts x ++ entries-texts-push es e i) ∙ sym (append_assoc (entry_texts x) (entries_texts es) (entry_texts e))

pub key-goes : (at : SourceLine) (ts us all : List Text) (t : Text) (rest : List ℕ) → Stand at rest us [] → all ≡ ts ++ ((t ∷ []) ++ us) → GoOn at (ts ++ t ∷ []) rest all
key-goes at ts us all t rest behind e bs before =
    subst (λ (xs : List Text). Stand at bs xs []) (append_assoc ts (t ∷ []) us ∙ sym e) (stand-then at bs rest [] (ts ++ t ∷ []) us before behind)

pub keyed-goes : (at : SourceLine) (ts all : List Text) (t : Text) (text rest : List ℕ) → Stand at text (t ∷ []) rest → GoOn at (ts ++ t ∷ []) rest all → GoOn at ts text all
keyed-goes at ts all t text rest key goes bs before = goes bs (stand-then at bs text rest ts (t ∷ []) before key)

pub value-goes : (at : SourceLine) (ts us all : List Text) (text : List ℕ) → Stand at text us [] → all ≡ ts ++ us → GoOn at ts text all
value-goes at ts us all text value e bs before =
    subst (λ (xs : List Text). Stand at bs xs []) (sym e) (stand-then at bs text [] ts us before value)

-- ---- dashes

pub dash-item : (at : SourceLine) (bs rest tail : List ℕ) (ts : List Text) (w : Written) (i : Item) → Stand at bs ts rest → tail ≡ tail_of rest → ItemStands at tail i → i ≡ Value w → Stand at bs (ts ++ ([] ++ given_texts w.given)) []
dash-item at bs rest tail ts w i before tail-is item i-is =
    let stand : Stand at tail (given_texts w.given) [] = subst (ItemStands at tail) i-is item in
    stand-then at bs rest [] ts (given_texts w.given) before (stand-tail at rest tail [] (given_texts w.given) tail-is stand)

pub dash-inner : (at : SourceLine) (bs rest tail inner : List ℕ) (es fs : List Entry) (c : ℕ) → Stand at bs (entries_texts es) rest → tail ≡ tail_of rest → Stand at tail [] inner
    → fs ≡ es ++ (record { column = c; head = Dash; given = None }) ∷ [] → Stand at bs (entries_texts fs) inner
dash-inner at bs rest tail inner es fs c before tail-is item fs-is =
    subst (λ (ts : List Text). Stand at bs ts inner) (sym (ap entries_texts fs-is ∙ entries-texts-push es (record { column = c; head = Dash; given = None })))
    (stand-then at bs rest inner (entries_texts es) [] before (stand-tail at rest tail inner [] tail-is item))

pub no-entries : (at : SourceLine) (bs : List ℕ) (es : List Entry) → es ≡ [] → Stand at bs (entries_texts es) bs
no-entries at bs es e = subst (λ (ts : List Text). Stand at bs ts bs) (sym (ap entries_texts e)) (stand-none at bs)

pub same-entries : (at : SourceLine) (bs : List ℕ) (es fs : List Entry) → es ≡ fs → Stand at bs (entries_texts fs) [] → Stand at bs (entries_texts es) []
same-entries at bs es fs e stand = subst (λ (xs : List Entry). Stand at bs (entries_texts xs) []) (sym e) stand

-- ---- lines

line-end : (n a b c l : ℕ) → n ≤ l → a ≡ b + c → a ≡ l - n → n + b + c ≡ l
line-end n a b c l le e f = omega arith

pub line-stands : (n column : ℕ) (l text : List ℕ) (ts : List Text) → column ≡ spaces l → text ≡ trim_end (drop (spaces l) l) → Stand (record { line = n; end = column + length text }) text ts [] → StandOn n l ts
line-stands n column l text ts column-is text-is stand =
    let from : List ℕ = drop (spaces l) l in
    let xs : List ℕ = drop (trimmed_len from) from in
    let parts : from ≡ text ++ xs = trimmed-parts from text text-is in
    let at : SourceLine = record { line = n; end = column + length text } in
    let all : Stand (longer at xs) (text ++ xs) ts [] = stand-all (longer at xs) (text ++ xs) xs ts (stand-longer at text [] xs ts stand) in
    let whole : Stand (longer at xs) l ts [] = stand_drop (longer at xs) l (text ++ xs) [] (spaces l) ts (sym parts) all in
    let end : column + length text + length xs ≡ length l = ap (λ (c : ℕ). c + length text + length xs) column-is
    ∙ line-end (spaces l) (length from) (length text) (length xs) (length l) (prefix_len-le-length is_space l) (ap length parts ∙ length-append text xs) (length-drop (spaces l) l) in
    subst (λ (e : ℕ). Stand (record { line = n; end = e }) l ts []) end whole
