-- The same of lines as the code holds them.
use Rattle.std.proofs.Common.{◌≡◌, ℕ, zero, suc, ◌+◌, ◌<◌, ◌≤◌, false, List, [], ◌∷◌, ◌++◌, length, take, drop, get_or, Option, Some, None, Ok, refl, sym, ◌∙◌, ap, subst, arith}
use Rattle.std.proofs.lemmas.List.{length-take-le, drop-map}
use denote.Bor.{Bor}
use Rattle.ci_yaml.specs.Prelude.{MAX_FILE_BYTES, YamlFault, chomp_view, parse_line, Line, State, literal, AreBlock, EndsBlock, Ending, within, texts_of, with_text, content}
use Rattle.ci_yaml.specs.Prelude.{below_view, FailsAt, BlockFails, StopsBy, HasRead, AreShort, Text, bytes_of, is_lent, spans_of, line_spans, Follow, Ends, with_last}
use Rattle.ci_yaml_lines.specs.declared.entry.Chomp.{Chomp}
use Rattle.ci_yaml.proofs.BlockLines.{texts-next, texts-take, length-texts}
use Rattle.ci_yaml.proofs.ReadSteps.{Read, ReadLine, IsText, line-more, line-stops, block-more, block-stops}

texts-drop : (n : ℕ) (xs : List (Bor (List ℕ))) → texts_of (drop n xs) ≡ drop n (texts_of xs)
texts-drop n xs = sym (drop-map (λ s. s.now) n xs)

part-at : (xs : List (Bor (List ℕ))) (at : ℕ) (d : Bor (List ℕ)) → at < length xs → drop at (texts_of xs) ≡ (get_or xs at d).now ∷ texts_of (drop (at + 1) xs)
part-at xs at d lt = sym (texts-drop at xs) ∙ texts-next xs at d (get_or xs at d).now lt refl

short-drop : (n : ℕ) (ls : List Line) → AreShort ls → AreShort (drop n ls)
short-drop zero ls h = h
short-drop (suc n) [] h = h
short-drop (suc n) (l ∷ ls) h = short-drop n ls h.1

pub short-at : (xs : List (Bor (List ℕ))) (at : ℕ) (d : Bor (List ℕ)) → at < length xs → AreShort (texts_of xs) → length (get_or xs at d).now ≤ MAX_FILE_BYTES
short-at xs at d lt h = (subst AreShort (part-at xs at d lt) (short-drop at (texts_of xs) h)).0

one : (n : ℕ) → n + 1 ≡ suc n
one n = omega arith

-- the line behind the first ones, so many
abbrev pub PartRead : List (Bor (List ℕ)) → ℕ → Bor (List ℕ) → State → State → Ending → List Text → List Text → Type 0
PartRead xs at d st s end ts us = ReadLine (texts_of xs) at (get_or xs at d).now (texts_of (drop (at + 1) xs)) st s end ts us

pub part-read : (xs : List (Bor (List ℕ))) (at : ℕ) (d : Bor (List ℕ)) (st s : State) (end : Ending) (ts us : List Text) → at < length xs → Read (texts_of xs) at st ts
    → content st (parse_line (get_or xs at d).now) ≡ Ok (record { state = s; end = end }) → Follow (at + 1) (get_or xs at d).now ts us
    → spans_of us ≡ spans_of ts ++ line_spans (at + 1) (get_or xs at d).now → PartRead xs at d st s end ts us
part-read xs at d st s end ts us lt h said follow exact =
    record { before = h; parts = part-at xs at d lt; said = said; follow = rw one at follow; exact = exact ∙ ap (λ n. spans_of ts ++ line_spans n (get_or xs at d).now) (one at) }

pub part-more : (xs : List (Bor (List ℕ))) (at : ℕ) (d : Bor (List ℕ)) (st s : State) (b : Option (Chomp × ℕ)) (ts us : List Text) → PartRead xs at d st s (below_view b) ts us
    → b ≡ None
    → Read (texts_of xs) (at + 1) s us
part-more xs at d st s b ts us h is = rw one (line-more (subst (λ x. PartRead xs at d st s (below_view x) ts us) is h))

pub part-fails : (xs : List (Bor (List ℕ))) (at : ℕ) (d : Bor (List ℕ)) (st : State) (e : YamlFault) → at < length xs → HasRead (texts_of xs) at st
    → FailsAt (at + 1) e (content st (parse_line (get_or xs at d).now)) → StopsBy (texts_of xs) e
part-fails xs at d st YamlFault.Memory lt h f = tt
part-fails xs at d st (YamlFault.Fault code n) lt h f =
    rw (f.1, one) (line-stops (texts_of xs) (texts_of (drop (at + 1) xs)) at (get_or xs at d).now st code h (part-at xs at d lt) f.0)

-- a block that the code found behind the line
block-open : (xs ys : List (Bor (List ℕ))) (at : ℕ) (d : Bor (List ℕ)) (st s : State) (b : Option (Chomp × ℕ)) (how : Chomp) (c : ℕ) (ts us : List Text)
    → PartRead xs at d st s (below_view b) ts us
    → b ≡ Some (how, c) → ys ≡ drop (at + 1) xs → ReadLine (texts_of xs) at (get_or xs at d).now (texts_of ys) st s (within (chomp_view how) c []) ts us
block-open xs ys at d st s b how c ts us h is ys-is = rw ys-is (subst (λ x. PartRead xs at d st s (below_view x) ts us) is h)

pub part-block : (xs ys : List (Bor (List ℕ))) (at k : ℕ) (d : Bor (List ℕ)) (st s r : State) (b : Option (Chomp × ℕ)) (how : Chomp) (c : ℕ) (t : Text) (ts us vs : List Text)
    → PartRead xs at d st s (below_view b) ts us → b ≡ Some (how, c) → ys ≡ drop (at + 1) xs → k ≤ length ys
    → AreBlock c [] (texts_of (take k ys)) × EndsBlock c (texts_of (drop k ys)) → is_lent t.words ≡ false → bytes_of t ≡ literal (chomp_view how) (texts_of (take k ys))
    → t.span ≡ record { start = record { line = suc (at + 1); column = 0 }; end = record { line = suc (at + 1 + k); column = 0 } }
    → r ≡ with_text (bytes_of t) s → Ends t us vs → ((words : List ℕ) → s ≡ with_text words s → spans_of vs ≡ with_last t.span (spans_of us)) → Read (texts_of xs) (at + 1 + k) r vs
part-block xs ys at k d st s r b how c t ts us vs h is ys-is le found own bytes span r-is fills ending =
    let size : length (texts_of (take k ys)) ≡ k = length-texts (take k ys) ∙ length-take-le k ys le in
    let text : IsText c (suc at) (chomp_view how) (texts_of (take k ys)) (texts_of (drop k ys)) t =
    record { are = found.0; ends = found.1; own = own; bytes = bytes; span = span ∙ rw (one, size) refl } in
    rw (r-is, one) (block-more k t vs (block-open xs ys at d st s b how c ts us h is ys-is) (omega (arith, length-texts ys))
    (rw (← texts-take k ys, ← texts-drop k ys) text) fills ending)

pub part-block_fails : (xs ys : List (Bor (List ℕ))) (at : ℕ) (d : Bor (List ℕ)) (st s : State) (b : Option (Chomp × ℕ)) (how : Chomp) (c : ℕ) (f : YamlFault) (ts us : List Text)
    → PartRead xs at d st s (below_view b) ts us → b ≡ Some (how, c) → ys ≡ drop (at + 1) xs → BlockFails c (at + 1) ys f → StopsBy (texts_of xs) f
part-block_fails xs ys at d st s b how c YamlFault.Memory ts us h is ys-is fails = tt
part-block_fails xs ys at d st s b how c (YamlFault.Fault code n) ts us h is ys-is fails =
    let k : ℕ = fails.0 in
    let number : n ≡ suc (suc at + k) = omega (arith, fails.1) in
    rw number (block-stops k code (block-open xs ys at d st s b how c ts us h is ys-is) (rw (← texts-take k ys) fails.2) (rw (← texts-take k ys, ← texts-drop k ys) fails.3))
