-- What is read as a query is the text of a query that fits.
use Rattle.std.proofs.Common.{◌≡◌, ℕ, ◌+◌, ◌<◌, ◌≤◌, Bool, true, ◌&&◌, ltb, List, [], ◌∷◌, ◌++◌, map, length, get_or, Ok, decimal, sym, refl, ap, ◌∙◌, subst, ⊎_elim, append_assoc, append-nil, add-zero, zero-add, arith}
use Rattle.std.proofs.lemmas.List.{length_push, nil_from_length}
use Rattle.std.proofs.lemmas.Bool.{and_parts, and_from, cases_Bool, cases_lt, cond-true, cond-false, eqb-true, ltb-true}
use Rattle.semantics.specs.Actions.{ActionLine}
use Rattle.semantics.specs.Cuts.{lines_of, fields_of}
use Rattle.semantics.specs.Queries.{Query, QueryLine}
use Rattle.semantics.specs.LineReading.{is_byte, lettered_line, finished}
use Rattle.semantics.specs.QueryReading.{action_letters, query_letters, actions_due, with_action, with_line, line_read, lines_read, empty_query, query_read}
use Rattle.semantics.specs.QueryText.{action_text, query_line_text, query_text}
use Rattle.semantics.specs.ReadBack.{action_fits, query_line_fits, each_fits, OnlyQueriesRead}
use Rattle.semantics.specs.Sheets.{Sheet}
use Rattle.semantics.specs.Written.{lettered_text, numbered_text}
use Rattle.semantics.proofs.Fitting.{each_append}
use Rattle.semantics.proofs.Inversion.{byte_back, lettered_back}
use Rattle.semantics.proofs.NumberFields.{then_ok, passed, held_back}
use Rattle.semantics.proofs.Rows.{row_body, row_lettered}
use Rattle.semantics.proofs.Uncutting.{fields_back, ended, lines_back}
use Rattle.semantics.proofs.SpelledBack.{Spells, actions_spell, SpellsLine, lines_spell}

-- a line with its end is the text of its fields
pub line_text_law : (l : List ℕ) (kind due byte : ℕ) (xs : List ℕ) → get_or (fields_of l) 0 [] ≡ kind ∷ [] →
    fields_of l ≡ get_or (fields_of l) 0 [] ∷ decimal due ∷ (byte ∷ []) ∷ map decimal xs → l ++ 10 ∷ [] ≡ lettered_text kind due byte xs
line_text_law l kind due byte xs first e =
    ap (λ v. v ++ 10 ∷ []) (sym (fields_back l) ∙ ap row_body e ∙ ap (λ f. row_body (f ∷ decimal due ∷ (byte ∷ []) ∷ map decimal xs)) first)
    ∙ sym (row_lettered kind due byte xs)

pub numbered_push : {X : Type 0} (f : ℕ → X → List ℕ) (xs : List X) (k : ℕ) (x : X) → numbered_text f k (xs ++ x ∷ []) ≡ numbered_text f k xs ++ f (k + length xs) x
numbered_push f [] k x = append-nil (f k x) ∙ ap (λ i. f i x) (sym (add-zero k))
numbered_push f (y ∷ xs) k x =
    let same : k + 1 + length xs ≡ k + length (y ∷ xs) = omega arith in
    ap (λ v. f k y ++ v) (numbered_push f xs (k + 1) x ∙ ap (λ i. numbered_text f (k + 1) xs ++ f i x) same)
    ∙ sym (append_assoc (f k y) (numbered_text f (k + 1) xs) (f (k + length (y ∷ xs)) x))

pub each_push : {X : Type 0} (p : ℕ → X → Bool) (xs : List X) (x : X) → each_fits p 0 xs ≡ true → p (length xs) x ≡ true → each_fits p 0 (xs ++ x ∷ []) ≡ true
each_push p xs x e f = each_append p xs (x ∷ []) 0 e (and_from (p (0 + length xs) x) true (ap (λ i. p i x) (zero-add (length xs)) ∙ f) refl)

module _ (h : Sheet) where
  -- a query as far as it was read
  record Part (q : Query) : Type 0 where
    few_actions : length q.actions ≤ 160
    few_lines : length q.lines ≤ 512
    actions_fit : each_fits (action_fits h) 0 q.actions ≡ true
    lines_fit : each_fits (query_line_fits h (length q.actions)) 0 q.lines ≡ true

  -- q is p with the text t behind it
  abbrev Reads : Query → Query → List ℕ → Type 0
  Reads p q t = (Part q) × (query_text q ≡ query_text p ++ t)

  action_read : (p : Query) (n : ℕ) (l : List ℕ) → Part p → get_or (fields_of l) 0 [] ≡ 65 ∷ [] → length p.lines ≡ 0 → (x : ActionLine) →
      lettered_line action_letters 160 h (length p.actions) (length p.actions) n (fields_of l) ≡ Ok x → Reads p (with_action p x) (l ++ 10 ∷ [])
  unfolding query_text Spells
  action_read p n l part first empty x e =
      let k = length p.actions in
      let r = lettered_back h k k n action_letters 160 (Spells h k k n) (fields_of l) x (actions_spell h k k n) e in
      let no_lines = nil_from_length p.lines empty in
      let front = numbered_text action_text 0 p.actions in
      let text : action_text k x ≡ l ++ 10 ∷ [] = r.4.0 ∙ sym (line_text_law l 65 k r.0 r.1 first r.3) in (
        record {
          few_actions = omega (arith, r.2, length_push p.actions x);
          few_lines = part.few_lines;
          actions_fit = each_push (action_fits h) p.actions x part.actions_fit r.4.1;
          lines_fit = ap (each_fits (query_line_fits h (length (p.actions ++ x ∷ []))) 0) no_lines;
        },
        ap (λ ls. numbered_text action_text 0 (p.actions ++ x ∷ []) ++ numbered_text query_line_text 0 ls) no_lines
            ∙ append-nil (numbered_text action_text 0 (p.actions ++ x ∷ []))
            ∙ numbered_push action_text p.actions 0 x
            ∙ ap (λ i. front ++ action_text i x) (zero-add k)
            ∙ ap (λ v. front ++ v) text
            ∙ ap (λ v. v ++ (l ++ 10 ∷ [])) (sym (append-nil front))
            ∙ ap (λ ls. (front ++ numbered_text query_line_text 0 ls) ++ (l ++ 10 ∷ [])) (sym no_lines),
      )

  query_line_read : (p : Query) (n : ℕ) (l : List ℕ) → Part p → get_or (fields_of l) 0 [] ≡ 66 ∷ [] → (x : QueryLine) →
      lettered_line query_letters 512 h (length p.actions) (length p.lines) n (fields_of l) ≡ Ok x → Reads p (with_line p x) (l ++ 10 ∷ [])
  unfolding query_text SpellsLine
  query_line_read p n l part first x e =
      let acts = length p.actions in
      let k = length p.lines in
      let r = lettered_back h acts k n query_letters 512 (SpellsLine h acts k n) (fields_of l) x (lines_spell h acts k n) e in
      let front = numbered_text action_text 0 p.actions in
      let back = numbered_text query_line_text 0 p.lines in
      let text : query_line_text k x ≡ l ++ 10 ∷ [] = r.4.0 ∙ sym (line_text_law l 66 k r.0 r.1 first r.3) in (
        record {
          few_actions = part.few_actions;
          few_lines = omega (arith, r.2, length_push p.lines x);
          actions_fit = part.actions_fit;
          lines_fit = each_push (query_line_fits h acts) p.lines x part.lines_fit r.4.1;
        },
        ap (λ v. front ++ v) (numbered_push query_line_text p.lines 0 x ∙ ap (λ i. back ++ query_line_text i x) (zero-add k) ∙ ap (λ v. back ++ v) text)
            ∙ sym (append_assoc front back (l ++ 10 ∷ [])),
      )

  line_reads : (p q : Query) (n : ℕ) (l : List ℕ) → Part p → line_read h n p (fields_of l) ≡ Ok q → Reads p q (l ++ 10 ∷ [])
  line_reads p q n l part e = ⊎_elim
      (λ on.
      let c = and_parts (is_byte 65 (get_or (fields_of l) 0 [])) (actions_due p) on in
      let a = then_ok (lettered_line action_letters 160 h (length p.actions) (length p.actions) n (fields_of l)) _ q (sym (cond-true _ _ _ on) ∙ e) in
      let same : with_action p a.0 ≡ q = cc in
      subst (λ w. Reads p w (l ++ 10 ∷ [])) same (action_read p n l part (byte_back 65 _ c.0) (eqb-true _ 0 c.1) a.0 a.1))
      (λ off.
      let c = passed (is_byte 66 (get_or (fields_of l) 0 [])) _ _ q (sym (cond-false _ _ _ off) ∙ e) in
      let a = then_ok (lettered_line query_letters 512 h (length p.actions) (length p.lines) n (fields_of l)) _ q c.1 in
      let same : with_line p a.0 ≡ q = cc in
      subst (λ w. Reads p w (l ++ 10 ∷ [])) same (query_line_read p n l part (byte_back 66 _ c.0) a.0 a.1))
      (cases_Bool (is_byte 65 (get_or (fields_of l) 0 []) && actions_due p))

  lines_read_law : (ls : List (List ℕ)) (p q : Query) (n : ℕ) → Part p → lines_read h n p ls ≡ Ok q → Reads p q (ended ls)
  unfolding lines_read
  lines_read_law [] p q n part e =
      let same : p ≡ q = cc in
      subst (λ w. Reads p w []) same (part, sym (append-nil (query_text p)))
  lines_read_law (l ∷ ls) p q n part e =
      let a = then_ok (line_read h n p (fields_of l)) _ q e in
      let x = line_reads p a.0 n l part a.1 in
      let y = lines_read_law ls a.0 q (n + 1) x.0 a.2 in
      (y.0, y.1 ∙ ap (λ v. v ++ ended ls) x.1 ∙ append_assoc (query_text p) (l ++ 10 ∷ []) (ended ls))

-- a query without lines has no text
empty_text : (q : Query) (t : List ℕ) → 0 < length t → length t ≡ length (query_text q) → q.actions ≡ [] → q.lines ≡ [] → ⊥
unfolding query_text
empty_text q t l e p s =
    let z : length (query_text q) ≡ 0 = ap (λ v. length (numbered_text action_text 0 v ++ numbered_text query_line_text 0 q.lines)) p ∙ ap (λ v. length (numbered_text query_line_text 0 v)) s in
    omega arith

pub only_queries_read : OnlyQueriesRead
unfolding query_read query_text
only_queries_read h t q e =
    let a = held_back (ltb 16384 (length t)) _ _ q e in
    let b = passed (finished t) _ _ q a.1 in
    let r = lines_read_law h (lines_of t) empty_query q 1 (record { few_actions = omega arith; few_lines = omega arith; actions_fit = refl; lines_fit = refl }) b.1 in
    let text : t ≡ query_text q = sym (lines_back t b.0) ∙ sym r.1 in
    let long = ltb-true 0 (length t) (and_parts (ltb 0 (length t)) _ b.0).0 in (
      record {
        some_line = ⊎_elim (λ l. l) (λ m. absurd (empty_text q t long (ap length text) (nil_from_length q.actions (omega arith)) (nil_from_length q.lines (omega arith)))) (cases_lt 0 (length q.actions + length q.lines));
        few_actions = r.0.few_actions;
        few_lines = r.0.few_lines;
        actions_fit = r.0.actions_fit;
        lines_fit = r.0.lines_fit;
      },
      text,
    )
