-- Every formula has a set, so it is decided at every state.
use Rattle.std.proofs.Common.{ℕ, Bool, [], ◌∷◌}
use Rattle.semantics.specs.Sheets.{Sheet, mark, negation, disjunction, next, globally, until, commitment, fulfilment}
use Rattle.semantics.specs.Validity.{Valid}
use Rattle.semantics.specs.Formulas.{Formula, atom, neg, or, EX, EG, EU, committed, fulfilled}
use Rattle.semantics.specs.Judging.{set_of}
use Rattle.semantics.proofs.Truth.{Truly, line_truly}

-- the set of a formula's states
abbrev pub SetOf : Sheet → Formula → Type 0
SetOf h f = (z : ℕ → Bool) × (Truly h z f)

pub set_of_law : (h : Sheet) → Valid h → (f : Formula) → SetOf h f
set_of_law h v (atom m) = (set_of h [] (mark m), line_truly h v [] [] tt (mark m))
set_of_law h v (neg f) = let a = set_of_law h v f in (set_of h (a.0 ∷ []) (negation 0), line_truly h v (a.0 ∷ []) (f ∷ []) (a.1, tt) (negation 0))
set_of_law h v (or f g) =
    let a = set_of_law h v f in
    let b = set_of_law h v g in
    (set_of h (a.0 ∷ b.0 ∷ []) (disjunction 0 1), line_truly h v (a.0 ∷ b.0 ∷ []) (f ∷ g ∷ []) (a.1, (b.1, tt)) (disjunction 0 1))
set_of_law h v (EX f) = let a = set_of_law h v f in (set_of h (a.0 ∷ []) (next 0), line_truly h v (a.0 ∷ []) (f ∷ []) (a.1, tt) (next 0))
set_of_law h v (EG f) = let a = set_of_law h v f in (set_of h (a.0 ∷ []) (globally 0), line_truly h v (a.0 ∷ []) (f ∷ []) (a.1, tt) (globally 0))
set_of_law h v (EU f g) =
    let a = set_of_law h v f in
    let b = set_of_law h v g in
    (set_of h (a.0 ∷ b.0 ∷ []) (until 0 1), line_truly h v (a.0 ∷ b.0 ∷ []) (f ∷ g ∷ []) (a.1, (b.1, tt)) (until 0 1))
set_of_law h v (committed i j f) =
    let a = set_of_law h v f in
    (set_of h (a.0 ∷ []) (commitment i j 0), line_truly h v (a.0 ∷ []) (f ∷ []) (a.1, tt) (commitment i j 0))
set_of_law h v (fulfilled i j f) =
    let a = set_of_law h v f in
    (set_of h (a.0 ∷ []) (fulfilment i j 0), line_truly h v (a.0 ∷ []) (f ∷ []) (a.1, tt) (fulfilment i j 0))
