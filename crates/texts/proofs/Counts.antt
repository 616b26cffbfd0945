-- How many bytes are a given one.
use Rattle.std.proofs.Common.{◌≡◌, ℕ, suc, ◌+◌, ◌≤◌, Bool, true, false, cond, eqb, List, [], ◌∷◌, ◌++◌, length, refl, arith}
use Rattle.semantics.specs.Cuts.{count_of}

one_more : (e : Bool) (m : ℕ) → cond e (m + 1) m ≡ m + cond e 1 0
one_more true m = refl
one_more false m = omega arith

at_front : (e : Bool) (m n d : ℕ) → m ≡ n + d → cond e (m + 1) m ≡ cond e (n + 1) n + d
at_front true m n d h = omega (arith, h)
at_front false m n d h = h

pub count_push : (b : ℕ) (bs : List ℕ) (x : ℕ) → count_of b (bs ++ x ∷ []) ≡ count_of b bs + cond (eqb x b) 1 0
count_push b [] x = one_more (eqb x b) 0
count_push b (c ∷ cs) x = at_front (eqb c b) _ _ _ (count_push b cs x)

no_more : (e : Bool) (m n : ℕ) → m ≤ n → cond e (m + 1) m ≤ suc n
no_more true m n h = omega (arith, h)
no_more false m n h = omega (arith, h)

pub count_short : (b : ℕ) (bs : List ℕ) → count_of b bs ≤ length bs
count_short b [] = omega arith
count_short b (c ∷ cs) = no_more (eqb c b) _ _ (count_short b cs)
