-- The last B line of a formula line has its set and its rounds, where its operands have theirs.
use Rattle.std.proofs.Common.{◌≡◌, ℕ, ◌+◌, ◌<◌, Bool, true, ◌&&◌, ltb, List, [], ◌∷◌, ◌++◌, get_or, refl, ap, ◌∙◌}
use mathlib.Core.Path.{fun_ext}
use Rattle.std.proofs.lemmas.Bool.{and_parts, and_from, ltb-true}
use Rattle.semantics.specs.Sets.{nothing, union, below, outside, some_next, every_next}
use Rattle.semantics.specs.Chains.{until_chain, globally_chain, rounds, settled}
use Rattle.semantics.specs.Access.{commitment_access}
use Rattle.semantics.specs.Sheets.{Sheet, Line, mark, negation, disjunction, next, globally, until, commitment, fulfilment}
use Rattle.semantics.specs.Validity.{paired, line_fits}
use Rattle.semantics.specs.Judging.{set_of, rounds_of}
use Rattle.semantics.specs.Actions.{Action, R, D, V, is_action, steps_by, same_action, never, admitted}
use Rattle.semantics.specs.Queries.{QueryLine, atom, neg, or, EX, AX, EG, EU}
use Rattle.semantics.specs.Resolving.{steps_under, query_set_of, query_rounds_of}
use Rattle.semantics.specs.Reduction.{query_lines}
use Rattle.semantics.proofs.Actions.{only_admits}

-- the B lines of a line before its last one, and the last
abbrev pub front_of : ℕ → (ℕ → ℕ) → Line → List QueryLine
front_of d b (mark x) = []
front_of d b (negation a) = []
front_of d b (disjunction a c) = []
front_of d b (next a) = []
front_of d b (globally a) = []
front_of d b (until a c) = []
front_of d b (commitment i j a) = []
front_of d b (fulfilment i j a) = AX d (b a) ∷ []

abbrev pub last_of : ℕ → ℕ → (ℕ → ℕ) → Line → QueryLine
last_of d m b (mark x) = atom x
last_of d m b (negation a) = neg (b a)
last_of d m b (disjunction a c) = or (b a) (b c)
last_of d m b (next a) = EX 0 (b a)
last_of d m b (globally a) = EG 0 (b a)
last_of d m b (until a c) = EU 0 (b a) (b c)
last_of d m b (commitment i j a) = AX d (b a)
last_of d m b (fulfilment i j a) = EX (d + 1) m

pub front_last : (d m : ℕ) (b : ℕ → ℕ) (l : Line) → query_lines d m b l ≡ front_of d b l ++ last_of d m b l ∷ []
front_last d m b (mark x) = refl
front_last d m b (negation a) = refl
front_last d m b (disjunction a c) = refl
front_last d m b (next a) = refl
front_last d m b (globally a) = refl
front_last d m b (until a c) = refl
front_last d m b (commitment i j a) = refl
front_last d m b (fulfilment i j a) = refl

module _ (h : Sheet) (ps : List (Action → Bool)) where
  -- the A lines of a line stand from number d on
  abbrev pub Has : ℕ → Line → Type 0
  Has d (mark x) = Unit {0}
  Has d (negation a) = Unit {0}
  Has d (disjunction a c) = Unit {0}
  Has d (next a) = Unit {0}
  Has d (globally a) = Unit {0}
  Has d (until a c) = Unit {0}
  Has d (commitment i j a) = get_or ps d never ≡ same_action (D i j)
  Has d (fulfilment i j a) = (get_or ps d never ≡ same_action (D i j)) × (get_or ps (d + 1) never ≡ same_action (V i j))

  under : (d : ℕ) (x : Action) → get_or ps d never ≡ same_action x → is_action h x ≡ true → steps_under h ps d ≡ steps_by h x
  under d x e on = ap (admitted h) e ∙ fun_ext (λ s. fun_ext (λ t. only_admits h x on s t))

  pub is_pair : (i j : ℕ) (b : Bool) → (paired h i j && b) ≡ true → (ltb i h.parties && ltb j h.parties) ≡ true
  is_pair i j b e =
      let p = and_parts (ltb i h.parties) _ (and_parts (paired h i j) b e).0 in
      and_from (ltb i h.parties) (ltb j h.parties) p.0 (and_parts (ltb j h.parties) _ p.1).0

  -- the sets bs of the B lines have those of the lines below k, at the numbers that stand for them
  module _ (k : ℕ) (bs zs : List (ℕ → Bool)) (b : ℕ → ℕ) (first : get_or ps 0 never ≡ same_action R)
      (operands : (a : ℕ) → a < k → get_or bs (b a) nothing ≡ get_or zs a nothing) where
    abbrev n : ℕ
    n = h.states

    operand : (a : ℕ) → ltb a k ≡ true → get_or bs (b a) nothing ≡ get_or zs a nothing
    operand a e = operands a (ltb-true a k e)

    moved : steps_under h ps 0 ≡ h.moves
    moved = under 0 R first refl

    pub committed_set : (d i j a : ℕ) → get_or ps d never ≡ same_action (D i j) → (paired h i j && ltb a k) ≡ true →
        query_set_of h ps bs (AX d (b a)) ≡ every_next n (commitment_access h i j) (get_or zs a nothing)
    committed_set d i j a e on =
        ap (λ r. every_next n r (get_or bs (b a) nothing)) (under d (D i j) e (is_pair i j (ltb a k) on))
        ∙ ap (every_next n (commitment_access h i j)) (operand a (and_parts (paired h i j) (ltb a k) on).1)

    -- B line m has the commitment of a fulfilment
    abbrev pub Inner : ℕ → Line → Type 0
    Inner m (mark x) = Unit {0}
    Inner m (negation a) = Unit {0}
    Inner m (disjunction a c) = Unit {0}
    Inner m (next a) = Unit {0}
    Inner m (globally a) = Unit {0}
    Inner m (until a c) = Unit {0}
    Inner m (commitment i j a) = Unit {0}
    Inner m (fulfilment i j a) = get_or bs m nothing ≡ every_next n (commitment_access h i j) (get_or zs a nothing)

    pub last_set : (d m : ℕ) (l : Line) → Has d l → line_fits h k l ≡ true → Inner m l →
        query_set_of h ps bs (last_of d m b l) ≡ set_of h zs l
    last_set d m (mark x) has on inner = refl
    last_set d m (negation a) has on inner = ap (λ z. below n (outside z)) (operand a on)
    last_set d m (disjunction a c) has on inner =
        let p = and_parts (ltb a k) (ltb c k) on in
        ap (λ z. below n (union z (get_or bs (b c) nothing))) (operand a p.0) ∙ ap (λ z. below n (union (get_or zs a nothing) z)) (operand c p.1)
    last_set d m (next a) has on inner = ap (λ r. some_next n r (get_or bs (b a) nothing)) moved ∙ ap (some_next n h.moves) (operand a on)
    last_set d m (globally a) has on inner =
        ap (λ r. settled n (globally_chain n r (get_or bs (b a) nothing))) moved ∙ ap (λ z. settled n (globally_chain n h.moves z)) (operand a on)
    last_set d m (until a c) has on inner =
        let p = and_parts (ltb a k) (ltb c k) on in
        ap (λ r. settled n (until_chain n r (get_or bs (b a) nothing) (get_or bs (b c) nothing))) moved
        ∙ ap (λ z. settled n (until_chain n h.moves z (get_or bs (b c) nothing))) (operand a p.0)
        ∙ ap (λ z. settled n (until_chain n h.moves (get_or zs a nothing) z)) (operand c p.1)
    last_set d m (commitment i j a) has on inner = committed_set d i j a has on
    last_set d m (fulfilment i j a) has on inner =
        ap (λ r. some_next n r (get_or bs m nothing)) (under (d + 1) (V i j) has.1 (is_pair i j (ltb a k) on))
        ∙ ap (some_next n (steps_by h (V i j))) inner

    pub last_rounds : (d m : ℕ) (l : Line) → line_fits h k l ≡ true → query_rounds_of h ps bs (last_of d m b l) ≡ rounds_of h zs l
    last_rounds d m (mark x) on = refl
    last_rounds d m (negation a) on = refl
    last_rounds d m (disjunction a c) on = refl
    last_rounds d m (next a) on = refl
    last_rounds d m (globally a) on =
        ap (λ r. rounds n (globally_chain n r (get_or bs (b a) nothing))) moved ∙ ap (λ z. rounds n (globally_chain n h.moves z)) (operand a on)
    last_rounds d m (until a c) on =
        let p = and_parts (ltb a k) (ltb c k) on in
        ap (λ r. rounds n (until_chain n r (get_or bs (b a) nothing) (get_or bs (b c) nothing))) moved
        ∙ ap (λ z. rounds n (until_chain n h.moves z (get_or bs (b c) nothing))) (operand a p.0)
        ∙ ap (λ z. rounds n (until_chain n h.moves (get_or zs a nothing) z)) (operand c p.1)
    last_rounds d m (commitment i j a) on = refl
    last_rounds d m (fulfilment i j a) on = refl
