-- Lists whose items are made in turn.
use Rattle.std.specs.Prelude.{List, [], ◌∷◌, ◌++◌}

-- the values of lines, each made from the values of the lines before it
abbrev pub in_turn {ℓ} : {L : Type 0} {X : Type ℓ} → (List X → L → X) → List X → List L → List X
in_turn make done [] = done
in_turn make done (l ∷ ls) = in_turn make (done ++ make done l ∷ []) ls
