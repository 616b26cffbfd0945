-- Access by its parts.
use Rattle.std.proofs.Common.{◌≡◌, ℕ, zero, suc, Bool, true, false, not, ◌&&◌, eqb, ltb, sym, refl, ap, ◌∙◌}
use Rattle.semantics.specs.Access.{implies, agree, access}
use Rattle.semantics.specs.Sets.{all}
use Rattle.semantics.specs.Sheets.{Sheet, shares}

-- the copies of channel c obey the three rules of access from s to t, for a debtor i and a creditor j
abbrev pub allows : Sheet → ℕ → ℕ → ℕ → ℕ → ℕ → Bool
allows h i j s t c =
    implies (h.holds c i) (agree (h.copy s i c) (h.copy t i c))
    && (implies (h.holds c i && h.holds c j) (agree (h.copy s i c) (h.copy t j c))
    && implies (h.holds c j && not (h.holds c i)) (agree (h.copy s j c) (h.copy t j c)))

swap : (x a y b : Bool) → ((x && a) && (y && b)) ≡ ((x && y) && (a && b))
swap true true y b = refl
swap true false true b = refl
swap true false false b = refl
swap false a y b = refl

all_and : (n : ℕ) (f g : ℕ → Bool) → all n (λ k. f k && g k) ≡ (all n f && all n g)
all_and zero f g = refl
all_and (suc n) f g = ap (λ b. (f n && g n) && b) (all_and n f g) ∙ swap (f n) (g n) (all n f) (all n g)

arrange : (p a q b c : Bool) → ((p && a) && ((q && b) && c)) ≡ (q && (p && (a && (b && c))))
arrange true a true b c = refl
arrange true true false b c = refl
arrange true false false b c = refl
arrange false a true b c = refl
arrange false a false b c = refl

-- both are states, the parties share a channel, the debtor keeps its position, and every channel allows the step
pub access_is : (h : Sheet) (i j s t : ℕ) →
    access h i j s t ≡ ((ltb s h.states && ltb t h.states) && (shares h i j && (eqb (h.position s i) (h.position t i) && all h.channels (allows h i j s t))))
unfolding access
access_is h i j s t =
    let n = h.channels in
    let f : ℕ → Bool = λ c. implies (h.holds c i) (agree (h.copy s i c) (h.copy t i c)) in
    let g : ℕ → Bool = λ c. implies (h.holds c i && h.holds c j) (agree (h.copy s i c) (h.copy t j c)) in
    let k : ℕ → Bool = λ c. implies (h.holds c j && not (h.holds c i)) (agree (h.copy s j c) (h.copy t j c)) in
    let p = eqb (h.position s i) (h.position t i) in
    ap (λ b. (ltb s h.states && ltb t h.states) && b)
    (arrange p (all n f) (shares h i j) (all n g) (all n k)
    ∙ ap (λ b. shares h i j && (p && b)) (sym (all_and n f (λ c. g c && k c) ∙ ap (λ b. all n f && b) (all_and n g k))))
