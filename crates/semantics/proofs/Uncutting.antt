-- A text is put together again from its lines, and a line from its fields.
use Rattle.std.proofs.Common.{◌≡◌, ℕ, ◌+◌, ◌-◌, Bool, true, false, cond, eqb, ltb, List, [], ◌∷◌, ◌++◌, length, get_or, take, sym, refl, ap, ◌∙◌, ⊎_elim, arith}
use Rattle.std.specs.List.{flat_map}
use Rattle.std.proofs.lemmas.List.{take_more, take_all, get_or_push, length_push}
use Rattle.std.proofs.lemmas.Bool.{cases_Bool, cond-true, cond-false, and_parts, and_from, eqb-true, eq-eqb, ltb-true, lt-ltb}
use Rattle.semantics.specs.Cuts.{prefixed, lines_of, fields_of}
use Rattle.semantics.specs.LineReading.{finished}
use Rattle.semantics.proofs.Rows.{Row, tail_text, row_body}

-- a list that is not empty
abbrev Some : {X : Type 0} → List X → Type 0
Some [] = ⊥
Some (x ∷ xs) = Unit {0}

prefixed_some : (b : ℕ) (fs : Row) → Some (prefixed b fs)
prefixed_some b [] = tt
prefixed_some b (f ∷ fs) = tt

fields_some : (bs : List ℕ) → Some (fields_of bs)
fields_some [] = tt
fields_some (b ∷ bs) = go (eqb b 44)
  where
    go : (c : Bool) → Some (cond c ([] ∷ fields_of bs) (prefixed b (fields_of bs)))
    go true = tt
    go false = prefixed_some b (fields_of bs)

tail_body : (fs : Row) → Some fs → tail_text fs ≡ 44 ∷ row_body fs
tail_body [] s = absurd s
tail_body (f ∷ fs) s = refl

prefixed_body : (b : ℕ) (fs : Row) → Some fs → row_body (prefixed b fs) ≡ b ∷ row_body fs
prefixed_body b [] s = absurd s
prefixed_body b (f ∷ fs) s = refl

pub fields_back : (bs : List ℕ) → row_body (fields_of bs) ≡ bs
fields_back [] = refl
fields_back (b ∷ bs) = ⊎_elim
    (λ e. ap row_body (cond-true (eqb b 44) _ _ e) ∙ tail_body (fields_of bs) (fields_some bs) ∙ ap (λ c. c ∷ row_body (fields_of bs)) (sym (eqb-true b 44 e)) ∙ ap (λ v. b ∷ v) (fields_back bs))
    (λ e. ap row_body (cond-false (eqb b 44) _ _ e) ∙ prefixed_body b (fields_of bs) (fields_some bs) ∙ ap (λ v. b ∷ v) (fields_back bs))
    (cases_Bool (eqb b 44))

-- lines, each ended
abbrev pub ended : List (List ℕ) → List ℕ
ended ls = flat_map (λ l. l ++ 10 ∷ []) ls

lines_some : (u : List ℕ) → Some (lines_of (u ++ 10 ∷ []))
lines_some [] = tt
lines_some (b ∷ u) = go (eqb b 10)
  where
    go : (c : Bool) → Some (cond c ([] ∷ lines_of (u ++ 10 ∷ [])) (prefixed b (lines_of (u ++ 10 ∷ []))))
    go true = tt
    go false = prefixed_some b (lines_of (u ++ 10 ∷ []))

prefixed_ended : (b : ℕ) (ls : List (List ℕ)) → Some ls → ended (prefixed b ls) ≡ b ∷ ended ls
prefixed_ended b [] s = absurd s
prefixed_ended b (l ∷ ls) s = refl

lines_ended : (u : List ℕ) → ended (lines_of (u ++ 10 ∷ [])) ≡ u ++ 10 ∷ []
lines_ended [] = refl
lines_ended (b ∷ u) = ⊎_elim
    (λ e. ap ended (cond-true (eqb b 10) _ _ e) ∙ ap (λ v. 10 ∷ v) (lines_ended u) ∙ ap (λ c. c ∷ (u ++ 10 ∷ [])) (sym (eqb-true b 10 e)))
    (λ e. ap ended (cond-false (eqb b 10) _ _ e) ∙ prefixed_ended b (lines_of (u ++ 10 ∷ [])) (lines_some u) ∙ ap (λ v. b ∷ v) (lines_ended u))
    (cases_Bool (eqb b 10))

-- a text ends its last line
abbrev pub Ends : List ℕ → Type 0
Ends t = (u : List ℕ) × (t ≡ u ++ 10 ∷ [])

pub finished_ends : (t : List ℕ) → Ends t → finished t ≡ true
finished_ends t e = ap finished e.1 ∙ ended_line e.0
  where
    ended_line : (u : List ℕ) → finished (u ++ 10 ∷ []) ≡ true
    ended_line u =
        and_from (ltb 0 (length (u ++ 10 ∷ []))) _ (lt-ltb 0 _ (omega (arith, length_push u 10)))
        (eq-eqb _ 10 (get_or_push u 10 0 (length (u ++ 10 ∷ []) - 1) (omega (arith, length_push u 10))))

finished_parts : (t : List ℕ) → finished t ≡ true → Ends t
finished_parts t e =
    let p = and_parts (ltb 0 (length t)) _ e in
    let l = ltb-true 0 (length t) p.0 in
    let k = length t - 1 in
    (take k t, sym (take_all (k + 1) t (omega arith)) ∙ take_more t k 0 (omega arith) ∙ ap (λ b. take k t ++ b ∷ []) (eqb-true (get_or t k 0) 10 p.1))

pub lines_back : (t : List ℕ) → finished t ≡ true → ended (lines_of t) ≡ t
lines_back t e = let x = finished_parts t e in ap (λ v. ended (lines_of v)) x.1 ∙ lines_ended x.0 ∙ sym x.1
