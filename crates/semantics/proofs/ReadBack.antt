-- The text of a query that fits a sheet reads back as the query.
use Rattle.std.proofs.Common.{◌≡◌, ℕ, ◌+◌, ◌*◌, ◌<◌, ◌≤◌, Bool, true, ltb, List, [], ◌∷◌, ◌++◌, length, Ok, Result, sym, ap, ◌∙◌, ⊎_elim, append_assoc, append-nil, arith, length-append}
use Rattle.std.proofs.lemmas.List.{length_push, nil_from_length}
use Rattle.std.proofs.lemmas.Bool.{cond-true, cond-false, and_parts, le-ltb, cases_lt}
use Rattle.semantics.specs.Actions.{ActionLine}
use Rattle.semantics.specs.Cuts.{lines_of}
use Rattle.semantics.specs.Faults.{Fault, and_then}
use Rattle.semantics.specs.Queries.{Query, QueryLine}
use Rattle.semantics.specs.LineReading.{Letter, lettered_line, finished}
use Rattle.semantics.specs.QueryReading.{action_letters, query_letters, line_read, lines_read, with_action, with_line, query_read}
use Rattle.semantics.specs.QueryText.{action_text, query_line_text, query_text}
use Rattle.semantics.specs.ReadBack.{action_fits, query_line_fits, each_fits, QueryFits}
use Rattle.semantics.specs.Sheets.{Sheet}
use Rattle.semantics.specs.Written.{numbered_text}
use Rattle.semantics.proofs.Rows.{Row, row_body, row_text, lettered, row_lettered, lettered_clean, Clean, row_line, row_fields}
use Rattle.semantics.proofs.Uncutting.{Ends, finished_ends}
use Rattle.semantics.proofs.TextLengths.{Small, small_fit, lettered_length}
use Rattle.semantics.proofs.LinesRead.{sound_small, line_read_law, Spelled}
use Rattle.semantics.proofs.Spelling.{spelled_action, spelled_line}

abbrev made : List ActionLine → List QueryLine → Query
made xs bs = record { actions = xs; lines = bs }

module _ {X : Type 0} (table : List (Letter X)) (h : Sheet) (acts due kind : ℕ) (x : X) (text : List ℕ) (s : Spelled table h acts due kind x text)
    (few : due < 1000) (capital : 57 < kind) where
  small : Small s.numbers
  small = sound_small h acts due s.spelling.kinds s.numbers s.sound

  abbrev spelled_fields : Row
  spelled_fields = lettered kind due s.spelling.byte s.numbers

  text_is : text ≡ row_text spelled_fields
  text_is = s.written ∙ row_lettered kind due s.spelling.byte s.numbers

  clean : Clean spelled_fields
  clean = lettered_clean kind due s.spelling.byte s.numbers capital s.plain (omega arith) (small_fit s.numbers small)

  -- a spelled line is cut off and into its fields
  spelled_cut : (n : ℕ) (q : Query) (rest : List ℕ) →
      lines_read h n q (lines_of (text ++ rest)) ≡ and_then (line_read h n q spelled_fields) (λ p. lines_read h (n + 1) p (lines_of rest))
  unfolding lines_read
  spelled_cut n q rest =
      ap (λ v. lines_read h n q (lines_of (v ++ rest))) text_is
      ∙ ap (lines_read h n q) (row_line spelled_fields clean rest)
      ∙ ap (λ fs. and_then (line_read h n q fs) (λ p. lines_read h (n + 1) p (lines_of rest))) (row_fields spelled_fields clean)

  spelled_read : (n most : ℕ) → due < most → lettered_line table most h acts due n spelled_fields ≡ Ok x
  spelled_read n most l =
      line_read_law h acts due n table most kind s.spelling s.numbers s.found s.sound l few ∙ ap (λ y. Ok y) s.made

  spelled_ends : Ends text
  spelled_ends = (row_body spelled_fields, text_is)

  spelled_length : length text ≤ 20
  spelled_length =
      omega (arith, ap length s.written, lettered_length kind due s.spelling.byte s.numbers few small, s.few)

-- numbered texts each of which ends its line, and is short
module _ {X : Type 0} (p : ℕ → X → Bool) (f : ℕ → X → List ℕ) (most : ℕ)
    (each : (k : ℕ) (x : X) → k < most → p k x ≡ true → (Ends (f k x)) × (length (f k x) ≤ 20)) where
  texts_length : (xs : List X) (k : ℕ) → k + length xs ≤ most → each_fits p k xs ≡ true → length (numbered_text f k xs) ≤ 20 * length xs
  texts_length [] k l e = omega arith
  texts_length (x ∷ xs) k l e =
      let q = and_parts (p k x) (each_fits p (k + 1) xs) e in
      omega (arith, length-append (f k x) (numbered_text f (k + 1) xs), (each k x (omega arith) q.0).1, texts_length xs (k + 1) (omega arith) q.1)

  texts_end : (xs : List X) (k : ℕ) → k + length xs ≤ most → 0 < length xs → each_fits p k xs ≡ true → Ends (numbered_text f k xs)
  texts_end [] k l some e = absurd (omega arith)
  texts_end (x ∷ []) k l some e =
      let y = (each k x (omega arith) (and_parts (p k x) _ e).0).0 in
      (y.0, append-nil (f k x) ∙ y.1)
  texts_end (x ∷ y ∷ ys) k l some e =
      let z = texts_end (y ∷ ys) (k + 1) (omega arith) (omega arith) (and_parts (p k x) _ e).1 in
      (f k x ++ z.0, ap (λ v. f k x ++ v) z.1 ∙ sym (append_assoc (f k x) z.0 (10 ∷ [])))

module _ (h : Sheet) (small-parties : h.parties ≤ 6) (small-marks : h.marks ≤ 16) where
  action_spelled : (k : ℕ) (x : ActionLine) → k < 160 → action_fits h k x ≡ true → Spelled action_letters h k k 65 x (action_text k x)
  action_spelled k x l e = spelled_action h k k small-parties small-marks (omega arith) (omega arith) x e

  line_spelled : (acts k : ℕ) (x : QueryLine) → acts ≤ 160 → k < 512 → query_line_fits h acts k x ≡ true → Spelled query_letters h acts k 66 x (query_line_text k x)
  line_spelled acts k x m l e = spelled_line h acts k small-parties small-marks (omega arith) (omega arith) x e

  read_actions : (xs pre : List ActionLine) (n : ℕ) (rest : List ℕ) (R : Result Query Fault) → each_fits (action_fits h) (length pre) xs ≡ true →
      length pre + length xs ≤ 160 → ((n : ℕ) → lines_read h n (made (pre ++ xs) []) (lines_of rest) ≡ R) →
      lines_read h n (made pre []) (lines_of (numbered_text action_text (length pre) xs ++ rest)) ≡ R
  read_actions [] pre n rest R e l then = ap (λ v. lines_read h n (made v []) (lines_of rest)) (sym (append-nil pre)) ∙ then n
  read_actions (x ∷ xs) pre n rest R e l then =
      let k = length pre in
      let q = and_parts (action_fits h k x) (each_fits (action_fits h) (k + 1) xs) e in
      let s = action_spelled k x (omega arith) q.0 in
      let tail = numbered_text action_text (k + 1) xs in
      let push = length_push pre x in
      ap (λ v. lines_read h n (made pre []) (lines_of v)) (append_assoc (action_text k x) tail rest)
      ∙ spelled_cut action_letters h k k 65 x (action_text k x) s (omega arith) (omega arith) n (made pre []) (tail ++ rest)
      ∙ ap (λ r. and_then (and_then r (λ l. Ok (with_action (made pre []) l))) (λ p. lines_read h (n + 1) p (lines_of (tail ++ rest))))
      (spelled_read action_letters h k k 65 x (action_text k x) s (omega arith) (omega arith) n 160 (omega arith))
      ∙ ap (λ i. lines_read h (n + 1) (made (pre ++ x ∷ []) []) (lines_of (numbered_text action_text i xs ++ rest))) (sym push)
      ∙ read_actions xs (pre ++ x ∷ []) (n + 1) rest R (ap (λ i. each_fits (action_fits h) i xs) push ∙ q.1) (omega arith)
      (λ m. ap (λ v. lines_read h m (made v []) (lines_of rest)) (append_assoc pre (x ∷ []) xs) ∙ then m)

  read_lines : (acts : List ActionLine) (ls pre : List QueryLine) (n : ℕ) → length acts ≤ 160 →
      each_fits (query_line_fits h (length acts)) (length pre) ls ≡ true → length pre + length ls ≤ 512 →
      lines_read h n (made acts pre) (lines_of (numbered_text query_line_text (length pre) ls)) ≡ Ok (made acts (pre ++ ls))
  unfolding lines_read
  read_lines acts [] pre n few e l = ap (λ v. Ok (made acts v)) (sym (append-nil pre))
  read_lines acts (x ∷ ls) pre n few e l =
      let k = length pre in
      let q = and_parts (query_line_fits h (length acts) k x) (each_fits (query_line_fits h (length acts)) (k + 1) ls) e in
      let s = line_spelled (length acts) k x few (omega arith) q.0 in
      let tail = numbered_text query_line_text (k + 1) ls in
      let push = length_push pre x in
      spelled_cut query_letters h (length acts) k 66 x (query_line_text k x) s (omega arith) (omega arith) n (made acts pre) tail
      ∙ ap (λ r. and_then (and_then r (λ l. Ok (with_line (made acts pre) l))) (λ p. lines_read h (n + 1) p (lines_of tail)))
      (spelled_read query_letters h (length acts) k 66 x (query_line_text k x) s (omega arith) (omega arith) n 512 (omega arith))
      ∙ ap (λ i. lines_read h (n + 1) (made acts (pre ++ x ∷ [])) (lines_of (numbered_text query_line_text i ls))) (sym push)
      ∙ read_lines acts ls (pre ++ x ∷ []) (n + 1) few (ap (λ i. each_fits (query_line_fits h (length acts)) i ls) push ∙ q.1) (omega arith)
      ∙ ap (λ v. Ok (made acts v)) (append_assoc pre (x ∷ []) ls)

  action_line : (k : ℕ) (x : ActionLine) → k < 160 → action_fits h k x ≡ true → (Ends (action_text k x)) × (length (action_text k x) ≤ 20)
  action_line k x l e =
      let s = action_spelled k x l e in (
        spelled_ends action_letters h k k 65 x (action_text k x) s (omega arith) (omega arith),
        spelled_length action_letters h k k 65 x (action_text k x) s (omega arith) (omega arith),
      )

  query_line : (acts : ℕ) → acts ≤ 160 → (k : ℕ) (x : QueryLine) → k < 512 → query_line_fits h acts k x ≡ true →
      (Ends (query_line_text k x)) × (length (query_line_text k x) ≤ 20)
  query_line acts few k x l e =
      let s = line_spelled acts k x few l e in (
        spelled_ends query_letters h acts k 66 x (query_line_text k x) s (omega arith) (omega arith),
        spelled_length query_letters h acts k 66 x (query_line_text k x) s (omega arith) (omega arith),
      )

  text_ends : (q : Query) → QueryFits h q → Ends (numbered_text action_text 0 q.actions ++ numbered_text query_line_text 0 q.lines)
  text_ends q fits = ⊎_elim
      (λ l.
      let x = texts_end (query_line_fits h acts) query_line_text 512 (query_line acts fits.few_actions) q.lines 0 (omega (arith, fits.few_lines)) l fits.lines_fit in
      (numbered_text action_text 0 q.actions ++ x.0, ap (λ v. numbered_text action_text 0 q.actions ++ v) x.1 ∙ sym (append_assoc _ x.0 (10 ∷ []))))
      (λ m.
      let x = texts_end (action_fits h) action_text 160 action_line q.actions 0 (omega (arith, fits.few_actions)) (omega (arith, fits.some_line)) fits.actions_fit in
      let none = nil_from_length q.lines (omega arith) in
      (x.0, ap (λ ls. numbered_text action_text 0 q.actions ++ numbered_text query_line_text 0 ls) none ∙ append-nil _ ∙ x.1))
      (cases_lt 0 (length q.lines))
    where
      acts : ℕ
      acts = length q.actions

  pub query_reads_back : (q : Query) → QueryFits h q → query_read h (query_text q) ≡ Ok q
  unfolding query_read query_text
  query_reads_back q fits =
      let acts = length q.actions in
      let front = numbered_text action_text 0 q.actions in
      let back = numbered_text query_line_text 0 q.lines in
      let few_actions = texts_length (action_fits h) action_text 160 action_line q.actions 0 (omega (arith, fits.few_actions)) fits.actions_fit in
      let few_lines = texts_length (query_line_fits h acts) query_line_text 512 (query_line acts fits.few_actions) q.lines 0 (omega (arith, fits.few_lines)) fits.lines_fit in
      cond-false (ltb 16384 (length (front ++ back))) _ _ (le-ltb _ _ (omega (arith, length-append front back, few_actions, few_lines, fits.few_actions, fits.few_lines)))
      ∙ cond-true (finished (front ++ back)) _ _ (finished_ends (front ++ back) (text_ends q fits))
      ∙ read_actions q.actions [] 1 back (Ok q) fits.actions_fit (omega (arith, fits.few_actions))
      (λ n. read_lines q.actions q.lines [] n fits.few_actions fits.lines_fit (omega (arith, fits.few_lines)))
