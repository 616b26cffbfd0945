-- Bytes cut at a separator.
use Rattle.std.specs.Prelude.{ℕ, List, ◌==◌}
use Rattle.std.specs.List.{before_first, after_first}
use Rattle.semantics.specs.Cuts.{count_of}

-- what stands before the first b, or all where there is none
abbrev pub before : ℕ → List ℕ → List ℕ
before b bs = before_first (λ c. c == b) bs

-- what stands after it, or nothing
abbrev pub after : ℕ → List ℕ → List ℕ
after b bs = after_first (λ c. c == b) bs

-- how many of the bytes are b
abbrev pub count : ℕ → List ℕ → ℕ
count = count_of
