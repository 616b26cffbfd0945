-- The text of a sheet.
use Rattle.std.specs.Prelude.{ℕ, Bool, cond, List, [], ◌∷◌, ◌++◌, length, get_or, decimal, slice_index, slice_index_or}
use Rattle.texts.specs.Written.{fields_text, line_text, texts_below}
use Rattle.sheets.specs.declared.holders.Holders.{Holders}
use Rattle.sheets.specs.declared.operator.Kind.{Kind}
use Rattle.sheets.specs.declared.operator.Kind.TheVariants as kind
use Rattle.sheets.specs.declared.parts.Header.{Header}
use Rattle.sheets.specs.declared.parts.Local.{Local}
use Rattle.sheets.specs.declared.parts.Row.{Row}
use Rattle.sheets.specs.declared.parts.State.{State}
use Rattle.sheets.specs.Holding.{held}
use Rattle.sheets.specs.Moves.{move_in, no_state, no_local}
use Rattle.sheets.specs.Operators.{kinds_of, letter_of}
use Rattle.sheets.specs.Rows.{nth}
use Rattle.sheets.specs.Sheets.{no_row}

abbrev pub header_text : Header → List ℕ
header_text h = line_text 72 (h.number ∷ h.parties ∷ h.channels ∷ h.states ∷ h.marks ∷ [])

-- a line for each holder of each channel
abbrev pub holder_text : Holders → ℕ → ℕ → List ℕ
holder_text who c p = cond (held who c p) (line_text 67 (c ∷ p ∷ [])) []

abbrev pub channel_text : Holders → ℕ → List ℕ
channel_text who c = texts_below 6 (holder_text who c)

abbrev pub holders_text : Holders → List ℕ
holders_text who = texts_below 8 (channel_text who)

abbrev pub start_text : Bool → ℕ
start_text b = cond b 1 0

abbrev pub state_line : ℕ → State → List ℕ
state_line k s = line_text 83 (k ∷ start_text s.start ∷ s.marks ∷ [])

abbrev pub state_text : List State → ℕ → List ℕ
state_text ss k = state_line k (get_or ss k no_state)

abbrev pub states_text : List State → List ℕ
states_text ss = texts_below (length ss) (state_text ss)

-- the copies of the channels that party p holds
abbrev pub copy_text : Holders → ℕ → Local → ℕ → List ℕ
copy_text who p l c = cond (held who c p) (44 ∷ decimal (slice_index l.copies c)) []

abbrev pub copies_text : Holders → ℕ → Local → List ℕ
copies_text who p l = texts_below 8 (copy_text who p l)

-- what party p knows at state k
abbrev pub known_text : Holders → ℕ → ℕ → Local → List ℕ
known_text who k p l = (76 ∷ []) ++ (fields_text (k ∷ p ∷ l.position ∷ []) ++ (copies_text who p l ++ 10 ∷ []))

-- what party p knows at state k, which is s
abbrev pub party_text : Holders → ℕ → State → ℕ → List ℕ
party_text who k s p = known_text who k p (slice_index_or s.locals p no_local)

abbrev pub parties_text : Holders → ℕ → ℕ → State → List ℕ
parties_text who parties k s = texts_below parties (party_text who k s)

abbrev pub local_text : Holders → List State → ℕ → ℕ → List ℕ
local_text who ss k p = known_text who k p (slice_index_or (get_or ss k no_state).locals p no_local)

abbrev pub state_locals_text : Holders → ℕ → List State → ℕ → List ℕ
state_locals_text who parties ss k = texts_below parties (local_text who ss k)

abbrev pub locals_text : Holders → ℕ → List State → List ℕ
locals_text who parties ss = texts_below (length ss) (state_locals_text who parties ss)

-- a line for each move
abbrev pub move_text : List State → ℕ → ℕ → List ℕ
move_text ss s t = cond (move_in ss s t) (line_text 84 (s ∷ t ∷ [])) []

abbrev pub state_moves_text : List State → ℕ → List ℕ
state_moves_text ss s = texts_below (length ss) (move_text ss s)

abbrev pub moves_text : List State → List ℕ
moves_text ss = texts_below (length ss) (state_moves_text ss)

abbrev pub number_text : Kind → ℕ → List ℕ
number_text kind.Absent x = []
number_text kind.Mark x = 44 ∷ decimal x
number_text kind.Party x = 44 ∷ decimal x
number_text kind.Line x = 44 ∷ decimal x

-- the operands that a row has
abbrev pub operand_text : Row → ℕ → List ℕ
operand_text r i = number_text (nth (kinds_of r.operator) i) (slice_index r.operands i)

abbrev pub formula_text : ℕ → Row → List ℕ
formula_text k r = (70 ∷ []) ++ ((44 ∷ decimal k) ++ ((44 ∷ []) ++ ((letter_of r.operator ∷ []) ++ (texts_below 3 (operand_text r) ++ 10 ∷ []))))

abbrev pub row_text : List Row → ℕ → List ℕ
row_text rs k = formula_text k (slice_index_or rs k no_row)

abbrev pub rows_text : List Row → List ℕ
rows_text rs = texts_below (length rs) (row_text rs)

abbrev pub render : Header → Holders → List State → List Row → List ℕ
render h who ss rs =
    header_text h ++ (holders_text who ++ (states_text ss ++ (locals_text who h.parties ss ++ (moves_text ss ++ rows_text rs))))
