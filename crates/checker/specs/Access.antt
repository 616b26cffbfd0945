-- Which states are accessible from which, for a debtor and a creditor.
use Rattle.std.specs.Prelude.{ℕ, Bool, not, ◌&&◌, List, length, ◌==◌, nat_lt, slice_index, slice_index_or}
use Rattle.semantics.specs.Access.{implies}
use Rattle.semantics.specs.Sets.{all}
use Rattle.sheets.specs.declared.holders.Holders.{Holders}
use Rattle.sheets.specs.declared.parts.Local.{Local}
use Rattle.sheets.specs.declared.parts.State.{State}
use Rattle.sheets.specs.Holding.{held, share_some}
use Rattle.sheets.specs.Moves.{no_state, no_local}

-- what party p knows at a state
abbrev pub local_of : State → ℕ → Local
local_of s p = slice_index_or s.locals p no_local

abbrev pub copy_of : State → ℕ → ℕ → ℕ
copy_of s p c = slice_index (local_of s p).copies c

-- channel c allows the step from s to t: the debtor i keeps its copy; on a shared channel its copy at s is the creditor's copy at t;
-- on a channel that only the creditor j holds, j keeps its copy
abbrev pub agreed : Holders → State → State → ℕ → ℕ → ℕ → Bool
agreed who s t i j c =
    implies (held who c i) (copy_of s i c == copy_of t i c)
    && (implies (held who c i && held who c j) (copy_of s i c == copy_of t j c)
    && implies (held who c j && not (held who c i)) (copy_of s j c == copy_of t j c))

-- the first n channels allow it
unfoldable pub all_agreed : ℕ → Holders → State → State → ℕ → ℕ → Bool
all_agreed n who s t i j = all n (agreed who s t i j)

abbrev pub same_position : State → State → ℕ → Bool
same_position s t i = (local_of s i).position == (local_of t i).position

-- state number t is accessible from state number s for debtor i and creditor j
abbrev pub accessible : Holders → List State → ℕ → ℕ → ℕ → ℕ → Bool
accessible who ss i j s t =
    nat_lt s (length ss) && (nat_lt t (length ss)
    && (share_some 8 who i j
    && (same_position (slice_index_or ss s no_state) (slice_index_or ss t no_state) i
    && all_agreed 8 who (slice_index_or ss s no_state) (slice_index_or ss t no_state) i j)))
