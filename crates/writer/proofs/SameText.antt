-- The text from the tables of a sheet that fits is the text of its model.
use Rattle.std.proofs.Common.{◌≡◌, ℕ, zero, suc, ◌<◌, ◌≤◌, Bool, true, false, cond, ◌&&◌, ltb, List, [], ◌∷◌, ◌++◌, map, length, get_or, take, decimal, sym, refl, ap, ◌∙◌, inl, inr, append_assoc, append-nil, add-one, arith}
use Rattle.std.proofs.lemmas.List.{take_all}
use Rattle.std.proofs.lemmas.Bool.{cases_lt, cond-false, cond_below, lt-ltb}
use Rattle.semantics.specs.SheetText as model
use Rattle.semantics.specs.SheetText.{sheet_text}
use Rattle.semantics.specs.Written.{fields_text, line_text, texts_below, numbered_text}
use Rattle.semantics.proofs.BelowTexts.{texts_same, texts_none}
use Rattle.semantics.proofs.SheetRows as line
use Rattle.semantics.proofs.SheetRows.{formula_lettered}
use Rattle.sheets.specs.declared.holders.Holders.{Holders}
use Rattle.sheets.specs.declared.operator.Operator.{Operator}
use Rattle.sheets.specs.declared.operator.Operator.TheVariants.{Mark, Not, Or, Next, Globally, Until, Commitment, Fulfilment}
use Rattle.sheets.specs.declared.parts.Header.{Header}
use Rattle.sheets.specs.declared.parts.Row.{Row}
use Rattle.sheets.specs.declared.parts.State.{State}
use Rattle.sheets.specs.declared.sheet.Sheet.{Sheet}
use Rattle.sheets.specs.Fits.{Fits}
use Rattle.sheets.specs.Holding.{held}
use Rattle.sheets.specs.Model.{line_of, line_with, local_at, model_of}
use Rattle.sheets.specs.Moves.{move_in, move_within}
use Rattle.sheets.specs.Operators.{kinds_of}
use Rattle.sheets.specs.Rows.{nth}
use Rattle.sheets.specs.Sheets.{states_of, rows_of, no_row}
use Rattle.sheets.proofs.Model.{free_channel, free_party}
use Rattle.writer.specs.Render.{holder_text, holders_text, states_text, copies_text, local_text, locals_text, moves_text, number_text, formula_text, row_text, rows_text}
use Rattle.writer.specs.Writing.{text_of}
use Rattle.writer.proofs.Rows as lines
use Rattle.writer.proofs.Rows.{same_letter, rows_more}

-- none of the texts from number m on has a byte
texts_cut : (n m : ℕ) (f : ℕ → List ℕ) → m ≤ n → ((k : ℕ) → m ≤ k → k < n → f k ≡ []) → texts_below n f ≡ texts_below m f
unfolding texts_below
texts_cut zero m f l none = let e : 0 ≡ m = omega (arith, l) in ap (λ i. texts_below i f) e
texts_cut (suc n) m f l none = elim (cases_lt n m) [
  | inl low ↦ (let e : suc n ≡ m = omega (arith, l, low) in ap (λ i. texts_below i f) e)
  | inr high ↦ ap (λ v. texts_below n f ++ v) (none n high (omega arith))
      ∙ append-nil (texts_below n f)
      ∙ texts_cut n m f high (λ k a b. none k a (omega arith))
]

kept : (a b c : Bool) → b ≡ true → (a && c) ≡ ((a && b) && c)
kept true b c e = ap (λ v. v && c) (sym e)
kept false b c e = refl

-- a move to a state of the table
move_same : (ss : List State) (k t : ℕ) → t < length ss → move_in ss k t ≡ move_within ss k t
move_same ss k t l = kept (ltb k (length ss)) (ltb t (length ss)) _ (lt-ltb t (length ss) l)

moves_same : (ss : List State) → moves_text ss ≡ texts_below (length ss) (λ k. texts_below (length ss) (λ t. cond (move_within ss k t) (line_text 84 (k ∷ t ∷ [])) []))
moves_same ss =
    texts_same (length ss) _ _ (λ k _.
    texts_same (length ss) _ _ (λ t l. ap (λ b. cond b (line_text 84 (k ∷ t ∷ [])) []) (move_same ss k t l)))

twice : (b : Bool) (x : ℕ) → cond b (44 ∷ decimal x) [] ≡ cond b (44 ∷ decimal (cond b x 0)) []
twice true x = refl
twice false x = refl

-- the numbers of an operator's operands
operands_same : (o : Operator) (xs : List ℕ) → texts_below 3 (λ i. number_text (nth (kinds_of o) i) (get_or xs i 0)) ≡ fields_text (line.numbers_of (line_with o xs))
unfolding texts_below
operands_same Mark xs = simp append-nil
operands_same Not xs = simp append-nil
operands_same Or xs = simp (append_assoc, append-nil)
operands_same Next xs = simp append-nil
operands_same Globally xs = simp append-nil
operands_same Until xs = simp (append_assoc, append-nil)
operands_same Commitment xs = simp (append_assoc, append-nil)
operands_same Fulfilment xs = simp (append_assoc, append-nil)

row_same : (k : ℕ) (r : Row) → formula_text k r ≡ model.formula_text k (line_of r)
row_same k r =
    let l = line_of r in
    (λ i. 70 ∷ ((44 ∷ sym (append-nil (decimal k)) i) ++ (44 ∷ same_letter r.operator r.operands i ∷ (operands_same r.operator r.operands i ++ 10 ∷ []))))
    ∙ sym (formula_lettered k l)

rows_below : (rs : List Row) (k : ℕ) → k ≤ length rs → texts_below k (row_text rs) ≡ lines.rows_text (take k rs)
unfolding texts_below
rows_below rs zero l = refl
rows_below rs (suc k) l =
    ap (λ v. v ++ row_text rs k) (rows_below rs k (omega arith))
    ∙ ap (λ v. lines.rows_text (take k rs) ++ v) (row_same k (get_or rs k no_row))
    ∙ rows_more rs k (omega arith)
    ∙ ap (λ n. lines.rows_text (take n rs)) (add-one k)

rows_same : (rs : List Row) → rows_text rs ≡ numbered_text model.formula_text 0 (map line_of rs)
rows_same rs = rows_below rs (length rs) (omega arith) ∙ ap lines.rows_text (take_all (length rs) rs (omega arith))

module _ (s : Sheet) (f : Fits s) where
  abbrev ss : List State
  ss = states_of s

  abbrev who : Holders
  who = s.holders

  abbrev head : Header
  head = s.header

  counted : head.states ≡ length ss
  counted = omega (arith, s.all_states, s.tables.states.ok.0)

  holders_same : holders_text who ≡ texts_below head.channels (λ c. texts_below head.parties (holder_text who c))
  holders_same =
      texts_cut 8 head.channels _ s.few_channels
      (λ c l _. texts_none 6 (holder_text who c) (λ p _. cond-false (held who c p) _ _ (free_channel s f c p l)))
      ∙ texts_same head.channels _ _
      (λ c _. texts_cut 6 head.parties (holder_text who c) s.few_parties (λ p l _. cond-false (held who c p) _ _ (free_party s f c p l)))

  copies_same : (k p : ℕ) → copies_text who p (local_at ss k p) ≡ model.copies_text (model_of s) k p
  unfolding model_of
  copies_same k p =
      texts_cut 8 head.channels _ s.few_channels (λ c l _. cond-false (held who c p) _ _ (free_channel s f c p l))
      ∙ texts_same head.channels _ _ (λ c _. twice (held who c p) (get_or (local_at ss k p).copies c 0))

  local_same : (k p : ℕ) → p < head.parties → local_text who ss k p ≡ model.local_text (model_of s) k p
  unfolding model_of
  local_same k p l = λ i.
      76 ∷ (fields_text (k ∷ p ∷ cond_below p head.parties (local_at ss k p).position 0 l i ∷ []) ++ (copies_same k p i ++ 10 ∷ []))

  locals_same : locals_text who head.parties ss ≡ model.locals_text (model_of s)
  unfolding model_of
  locals_same = texts_same (length ss) _ _ (λ k _. texts_same head.parties _ _ (λ p l. local_same k p l))

  pub same_text : text_of s ≡ sheet_text (model_of s)
  unfolding model_of sheet_text
  same_text = λ i.
      line_text 72 (head.number ∷ head.parties ∷ head.channels ∷ counted i ∷ head.marks ∷ [])
      ++ (holders_same i ++ (states_text ss ++ (locals_same i ++ (moves_same ss i ++ rows_same (rows_of s) i))))
