-- What a stack holds.
use Rattle.std.specs.Prelude.{◌≡◌, ℕ, List, length, take, drop}
use Rattle.search.specs.declared.stack.Stack.{Stack}

-- its items, the last on top
abbrev pub contents : {T : Type 0} → Stack T → List T
contents s = take s.len s.slots.now

-- how many items it has slots for
abbrev pub capacity : {T : Type 0} → Stack T → ℕ
capacity s = length s.slots.now

-- t is s after pushes and pops that left the slots behind its items as they were
pub record Behind {T : Type 0} (s t : Stack T) : Type 0 where
  pub size : capacity t ≡ capacity s
  pub rest : drop (length (contents t)) t.slots.now ≡ drop (length (contents t)) s.slots.now
  pub lent : t.slots.ghost_name ≡ s.slots.ghost_name
