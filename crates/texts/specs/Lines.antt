-- Lines and their fields.
use Rattle.std.specs.Prelude.{◌≡◌, ℕ, ◌+◌, Bool, true, false, ◌&&◌, List, [], ◌∷◌, drop, Some, None, Option, ◌==◌}
use Rattle.texts.specs.declared.line.Line.{Line}
use Rattle.texts.specs.declared.refusal.Place.{Place}
use Rattle.texts.specs.Cuts.{count}

abbrev pub at : ℕ → ℕ → Place
at l f = record { line = l; field = f }

-- the first field is the byte b alone
abbrev pub leads : ℕ → List ℕ → Bool
leads b [] = false
leads b (c ∷ []) = c == b
leads b (c ∷ d ∷ cs) = c == b && d == 44

-- what is left of a line behind its letter, and how many fields it has
abbrev pub Opened : ℕ → ℕ → List ℕ → Option Line → Type 0
Opened b n bs (Some l) = (leads b bs ≡ true) × (l.rest.now ≡ drop 2 bs) × (l.count ≡ count 44 bs + 1) × (l.line ≡ n)
Opened b n bs None = leads b bs ≡ false
