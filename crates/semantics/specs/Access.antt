-- Which states are accessible from which, for a debtor i and a creditor j.
use Rattle.std.specs.Prelude.{ℕ, Bool, not, ◌&&◌, ◌||◌, ◌==◌, nat_lt}
use Rattle.semantics.specs.Sets.{all}
use Rattle.semantics.specs.Sheets.{Sheet, shares}

-- where a is true, b is
abbrev pub implies : Bool → Bool → Bool
implies a b = not a || b

-- two copies agree
abbrev pub agree : ℕ → ℕ → Bool
agree x y = x == y

-- rule 1: the local state of i is the same at s and at t
abbrev pub same_local : Sheet → ℕ → ℕ → ℕ → Bool
same_local h i s t =
    (h.position s i == h.position t i)
    && all h.channels (λ c. implies (h.holds c i) (agree (h.copy s i c) (h.copy t i c)))

-- rule 2: i and j share a channel, and of each shared channel the copy of i at s is the copy of j at t
abbrev pub handed_over : Sheet → ℕ → ℕ → ℕ → ℕ → Bool
handed_over h i j s t =
    shares h i j
    && all h.channels (λ c. implies (h.holds c i && h.holds c j) (agree (h.copy s i c) (h.copy t j c)))

-- rule 3: of each channel that j holds and i does not, j has the same copy at s and at t
abbrev pub otherwise_kept : Sheet → ℕ → ℕ → ℕ → ℕ → Bool
otherwise_kept h i j s t =
    all h.channels (λ c. implies (h.holds c j && not (h.holds c i)) (agree (h.copy s j c) (h.copy t j c)))

-- the state t is accessible from the state s
unfoldable pub access : Sheet → ℕ → ℕ → ℕ → ℕ → Bool
access h i j s t =
    (nat_lt s h.states && nat_lt t h.states) && (same_local h i s t && (handed_over h i j s t && otherwise_kept h i j s t))

-- access for commitments
abbrev pub commitment_access : Sheet → ℕ → ℕ → ℕ → ℕ → Bool
commitment_access = access

-- access for their fulfilment
abbrev pub fulfilment_access : Sheet → ℕ → ℕ → ℕ → ℕ → Bool
fulfilment_access = access
