-- How the number of moves changes with the moves.
use Rattle.std.proofs.Common.{◌≡◌, ℕ, zero, suc, ◌+◌, ◌<◌, ◌≤◌, Bool, ◌&&◌, ◌||◌, eqb, inl, inr, ⊎_elim, arith}
use Rattle.std.proofs.lemmas.Bool.{cases_eq, and_parts, or_cases, eqb-true}
use Rattle.semantics.specs.Edits.{with_moves}
use Rattle.semantics.specs.Sets.{count}
use Rattle.semantics.specs.Sheets.{Sheet}
use Rattle.semantics.specs.Validity.{moves_from}
use Rattle.semantics.proofs.Counts.{count_mono, count_plus}

-- no state has more moves
pub moves_fewer : (g h : Sheet) → ((s : ℕ) → count g.states (g.moves s) ≤ count h.states (h.moves s)) → (k : ℕ) → moves_from g k ≤ moves_from h k
moves_fewer g h each zero = omega arith
moves_fewer g h each (suc k) = omega (arith, each k, moves_fewer g h each k)

-- no state but x has more moves, and x has at most one more
pub moves_plus : (g h : Sheet) (x : ℕ) → ((s : ℕ) → (s ≡ x → ⊥) → count g.states (g.moves s) ≤ count h.states (h.moves s)) →
    count g.states (g.moves x) ≤ count h.states (h.moves x) + 1 → (k : ℕ) →
    (k ≤ x → moves_from g k ≤ moves_from h k) × (moves_from g k ≤ moves_from h k + 1)
moves_plus g h x others more zero = (λ _. omega arith, omega arith)
moves_plus g h x others more (suc k) =
    let r = moves_plus g h x others more k in (
      λ l. omega (arith, r.0 (omega arith), others k (λ e. omega arith)),
      elim (cases_eq k x) [
        | inl e ↦ (let m : count g.states (g.moves k) ≤ count h.states (h.moves k) + 1 = rw e more in omega (arith, r.0 (omega arith)))
        | inr ne ↦ omega (arith, r.1, others k ne)
      ],
    )

-- no state has more moves, and x has fewer
pub moves_fall : (g h : Sheet) (x : ℕ) → ((s : ℕ) → count g.states (g.moves s) ≤ count h.states (h.moves s)) →
    count g.states (g.moves x) < count h.states (h.moves x) → (k : ℕ) → x < k → moves_from g k < moves_from h k
moves_fall g h x each fewer zero l = absurd (omega arith)
moves_fall g h x each fewer (suc k) l = elim (cases_eq k x) [
  | inl e ↦ (let m : count g.states (g.moves k) < count h.states (h.moves k) = rw e fewer in omega (arith, moves_fewer g h each k))
  | inr ne ↦ omega (arith, moves_fall g h x each fewer k (omega (arith, ne)), each k)
]

-- with one pair more there is at most one move more
pub moves_joined : (h : Sheet) (m : ℕ → ℕ → Bool) (from to k : ℕ) →
    moves_from (with_moves h (λ s t. (eqb s from && eqb t to) || m s t)) k ≤ moves_from (with_moves h m) k + 1
moves_joined h m from to k = (moves_plus (with_moves h (λ s t. (eqb s from && eqb t to) || m s t)) (with_moves h m) from
    (λ s ne. count_mono h.states _ (m s) (λ t e. ⊎_elim (λ here. absurd (ne (eqb-true s from (and_parts (eqb s from) (eqb t to) here).0))) (λ q. q) (or_cases (eqb s from && eqb t to) (m s t) e)))
    (count_plus h.states _ (m from) to
    (λ t ne e. ⊎_elim (λ here. absurd (ne (eqb-true t to (and_parts (eqb from from) (eqb t to) here).1))) (λ q. q) (or_cases (eqb from from && eqb t to) (m from t) e))).1
    k).1
