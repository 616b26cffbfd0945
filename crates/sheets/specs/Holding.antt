-- Who holds which channel.
use Rattle.std.specs.Prelude.{ℕ, zero, suc, ◌+◌, ◌*◌, Bool, false, cond, ◌&&◌, ◌||◌, nat_lt, slice_index_or}
use Rattle.semantics.specs.Access.{implies}
use Rattle.semantics.specs.Sets.{all}
use Rattle.sheets.specs.declared.holders.Holders.{Holders}

-- party p holds channel c
abbrev pub held : Holders → ℕ → ℕ → Bool
held h c p = nat_lt c 8 && (nat_lt p 6 && slice_index_or h.table (c * 6 + p) false)

-- how many of the first n channels p holds
unfoldable pub held_count : ℕ → Holders → ℕ → ℕ
held_count zero h p = 0
held_count (suc n) h p = cond (held h n p) 1 0 + held_count n h p

-- one of the first n channels is held by both
unfoldable pub share_some : ℕ → Holders → ℕ → ℕ → Bool
share_some zero h p q = false
share_some (suc n) h p q = (held h n p && held h n q) || share_some n h p q

-- every holder and its channel are among the first
unfoldable pub holders_within : ℕ → ℕ → Holders → Bool
holders_within channels parties h = all 8 (λ c. all 6 (λ p. implies (held h c p) (nat_lt c channels && nat_lt p parties)))
