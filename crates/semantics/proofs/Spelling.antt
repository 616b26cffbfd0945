-- Every line of a query is written by a letter of its table.
use Rattle.std.proofs.Common.{◌≡◌, ℕ, ◌<◌, ◌≤◌, true, ltb, [], ◌∷◌, refl, arith}
use Rattle.std.proofs.lemmas.Bool.{and_parts, ltb-true}
use Rattle.semantics.specs.Actions.{ActionLine, only, except, either, R, D, V}
use Rattle.semantics.specs.Queries.{QueryLine, atom, neg, or, EX, AX, EG, EU}
use Rattle.semantics.specs.LineReading.{letter, at, a_party, a_mark, an_action, an_operand}
use Rattle.semantics.specs.QueryReading.{action_letters, query_letters}
use Rattle.semantics.specs.QueryText.{action_text, query_line_text}
use Rattle.semantics.specs.ReadBack.{action_fits, query_line_fits}
use Rattle.semantics.specs.Sheets.{Sheet}
use Rattle.semantics.proofs.LinesRead.{Spelled}

module _ (h : Sheet) (acts k : ℕ) (small-parties : h.parties ≤ 6) (small-marks : h.marks ≤ 16) (few_actions : acts ≤ 160) (few_lines : k ≤ 512) where
  below : (a n : ℕ) → ltb a n ≡ true → n ≤ 512 → a < 1000
  below a n e l = omega (arith, ltb-true a n e)

  pub spelled_action : (x : ActionLine) → action_fits h k x ≡ true → Spelled action_letters h acts k 65 x (action_text k x)
  spelled_action (only R) e = record {
    spelling = letter 82 [] (λ xs. only R);
    numbers = [];
    found = refl;
    written = refl;
    made = refl;
    sound = tt;
    plain = omega arith;
    few = omega arith;
  }
  spelled_action (only (D i j)) e =
      let p = and_parts (ltb i h.parties) (ltb j h.parties) e in
      record {
        spelling = letter 68 (a_party ∷ a_party ∷ []) (λ xs. only (D (at xs 0) (at xs 1)));
        numbers = i ∷ j ∷ [];
        found = refl;
        written = refl;
        made = refl;
        sound = (p.0, refl, below i _ p.0 (omega arith), (p.1, refl, below j _ p.1 (omega arith), tt));
        plain = omega arith;
        few = omega arith;
      }
  spelled_action (only (V i j)) e =
      let p = and_parts (ltb i h.parties) (ltb j h.parties) e in
      record {
        spelling = letter 86 (a_party ∷ a_party ∷ []) (λ xs. only (V (at xs 0) (at xs 1)));
        numbers = i ∷ j ∷ [];
        found = refl;
        written = refl;
        made = refl;
        sound = (p.0, refl, below i _ p.0 (omega arith), (p.1, refl, below j _ p.1 (omega arith), tt));
        plain = omega arith;
        few = omega arith;
      }
  spelled_action (except a) e = record {
    spelling = letter 78 (an_operand ∷ []) (λ xs. except (at xs 0));
    numbers = a ∷ [];
    found = refl;
    written = refl;
    made = refl;
    sound = (refl, e, below a k e few_lines, tt);
    plain = omega arith;
    few = omega arith;
  }
  spelled_action (either a b) e =
      let p = and_parts (ltb a k) (ltb b k) e in
      record {
        spelling = letter 79 (an_operand ∷ an_operand ∷ []) (λ xs. either (at xs 0) (at xs 1));
        numbers = a ∷ b ∷ [];
        found = refl;
        written = refl;
        made = refl;
        sound = (refl, p.0, below a k p.0 few_lines, (refl, p.1, below b k p.1 few_lines, tt));
        plain = omega arith;
        few = omega arith;
      }

  pub spelled_line : (x : QueryLine) → query_line_fits h acts k x ≡ true → Spelled query_letters h acts k 66 x (query_line_text k x)
  spelled_line (atom m) e = record {
    spelling = letter 77 (a_mark ∷ []) (λ xs. atom (at xs 0));
    numbers = m ∷ [];
    found = refl;
    written = refl;
    made = refl;
    sound = (e, refl, below m _ e (omega arith), tt);
    plain = omega arith;
    few = omega arith;
  }
  spelled_line (neg b) e = record {
    spelling = letter 78 (an_operand ∷ []) (λ xs. neg (at xs 0));
    numbers = b ∷ [];
    found = refl;
    written = refl;
    made = refl;
    sound = (refl, e, below b k e few_lines, tt);
    plain = omega arith;
    few = omega arith;
  }
  spelled_line (or b c) e =
      let p = and_parts (ltb b k) (ltb c k) e in
      record {
        spelling = letter 79 (an_operand ∷ an_operand ∷ []) (λ xs. or (at xs 0) (at xs 1));
        numbers = b ∷ c ∷ [];
        found = refl;
        written = refl;
        made = refl;
        sound = (refl, p.0, below b k p.0 few_lines, (refl, p.1, below c k p.1 few_lines, tt));
        plain = omega arith;
        few = omega arith;
      }
  spelled_line (EX a b) e =
      let p = and_parts (ltb a acts) (ltb b k) e in
      record {
        spelling = letter 88 (an_action ∷ an_operand ∷ []) (λ xs. EX (at xs 0) (at xs 1));
        numbers = a ∷ b ∷ [];
        found = refl;
        written = refl;
        made = refl;
        sound = (refl, p.0, below a acts p.0 (omega arith), (refl, p.1, below b k p.1 few_lines, tt));
        plain = omega arith;
        few = omega arith;
      }
  spelled_line (AX a b) e =
      let p = and_parts (ltb a acts) (ltb b k) e in
      record {
        spelling = letter 89 (an_action ∷ an_operand ∷ []) (λ xs. AX (at xs 0) (at xs 1));
        numbers = a ∷ b ∷ [];
        found = refl;
        written = refl;
        made = refl;
        sound = (refl, p.0, below a acts p.0 (omega arith), (refl, p.1, below b k p.1 few_lines, tt));
        plain = omega arith;
        few = omega arith;
      }
  spelled_line (EG a b) e =
      let p = and_parts (ltb a acts) (ltb b k) e in
      record {
        spelling = letter 71 (an_action ∷ an_operand ∷ []) (λ xs. EG (at xs 0) (at xs 1));
        numbers = a ∷ b ∷ [];
        found = refl;
        written = refl;
        made = refl;
        sound = (refl, p.0, below a acts p.0 (omega arith), (refl, p.1, below b k p.1 few_lines, tt));
        plain = omega arith;
        few = omega arith;
      }
  spelled_line (EU a b c) e =
      let p = and_parts (ltb a acts) _ e in
      let q = and_parts (ltb b k) (ltb c k) p.1 in
      record {
        spelling = letter 85 (an_action ∷ an_operand ∷ an_operand ∷ []) (λ xs. EU (at xs 0) (at xs 1) (at xs 2));
        numbers = a ∷ b ∷ c ∷ [];
        found = refl;
        written = refl;
        made = refl;
        sound = (refl, p.0, below a acts p.0 (omega arith), (refl, q.0, below b k q.0 few_lines, (refl, q.1, below c k q.1 few_lines, tt)));
        plain = omega arith;
        few = omega arith;
      }
