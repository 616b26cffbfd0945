-- Sheet 7, and what the definitions say of it, as one table.
use Rattle.std.specs.Prelude.{◌≡◌, ℕ, zero, suc, Bool, false, cond, ◌&&◌, ◌||◌, List, [], ◌∷◌, ◌++◌, map, Some, None, Ok, codes, ◌==◌, nat_lt, slice_index, slice_index_or}
use Prim.Native.String.{String}
use Rattle.std.specs.List.{flat_map}
use Rattle.semantics.specs.Access.{access}
use Rattle.semantics.specs.Books.{Book}
use Rattle.semantics.specs.Calls.{Call, begin, edit, withdraw, judge, translate, resolve, show, Answer, refused, ticket, done, edits, judged, written, shown}
use Rattle.semantics.specs.Edits.{join_move, cut_move}
use Rattle.semantics.specs.Walks.{alone}
use Rattle.semantics.specs.Judging.{line_set, line_rounds, verdict}
use Rattle.semantics.specs.Law.{Entry, Outcome, Lawful}
use Rattle.semantics.specs.QueryText.{query_text}
use Rattle.semantics.specs.Reduction.{reduction}
use Rattle.semantics.specs.Sets.{nothing}
use Rattle.semantics.specs.SheetReading.{sheet_read}
use Rattle.semantics.specs.SheetText.{sheet_text}
use Rattle.semantics.specs.Sheets.{Sheet, mark, next, globally, until, commitment, fulfilment}
use Rattle.semantics.specs.Validity.{Valid}

-- the pairs of a list, as a relation
abbrev pub pairs : List (ℕ × ℕ) → ℕ → ℕ → Bool
pairs [] s t = false
pairs (p ∷ ps) s t = (s == p.0 && t == p.1) || pairs ps s t

-- the positions of both parties at each state
abbrev pub positions7 : List (List ℕ)
positions7 = (0 ∷ 0 ∷ []) ∷ (1 ∷ 0 ∷ []) ∷ (1 ∷ 0 ∷ []) ∷ []

-- their copies of the channel at each state
abbrev pub copies7 : List (List ℕ)
copies7 = (300 ∷ 300 ∷ []) ∷ (400 ∷ 300 ∷ []) ∷ (400 ∷ 400 ∷ []) ∷ []

-- the moves
abbrev pub moves7 : List (ℕ × ℕ)
moves7 = (0, 1) ∷ (1, 2) ∷ (2, 0) ∷ []

-- two parties that share a channel, three states in a cycle, two marks
unfoldable pub sheet7 : Sheet
sheet7 = record {
  number = 7;
  parties = 2;
  channels = 1;
  states = 3;
  marks = 2;
  holds = λ c p. (c == 0) && nat_lt p 2;
  start = λ s. (s == 0);
  mark_sum = λ s. slice_index (0 ∷ 2 ∷ 3 ∷ []) s;
  position = λ s p. slice_index (slice_index_or positions7 s []) p;
  copy = λ s p c. cond (c == 0) (slice_index (slice_index_or copies7 s []) p) 0;
  moves = pairs moves7;
  lines = mark 0 ∷ commitment 0 1 0 ∷ fulfilment 0 1 0 ∷ until 1 2 ∷ next 3 ∷ globally 1 ∷ [];
}

-- lines as bytes, each ended by byte 10
abbrev pub bytes : List String → List ℕ
bytes ls = flat_map (λ l. codes l ++ 10 ∷ []) ls

-- the lines of the sheet's text
abbrev pub lines7 : List String
lines7 =
    "H,7,2,1,3,2" ∷ "C,0,0" ∷ "C,0,1" ∷ "S,0,1,0" ∷ "S,1,0,2" ∷ "S,2,0,3" ∷ "L,0,0,0,300" ∷ "L,0,1,0,300" ∷ "L,1,0,1,400" ∷ "L,1,1,0,300"
    ∷ "L,2,0,1,400" ∷ "L,2,1,0,400" ∷ "T,0,1" ∷ "T,1,2" ∷ "T,2,0" ∷ "F,0,M,0" ∷ "F,1,C,0,1,0" ∷ "F,2,K,0,1,0" ∷ "F,3,U,1,2" ∷ "F,4,X,3"
    ∷ "F,5,G,1" ∷ []

-- the text
abbrev pub text7 : List ℕ
text7 = bytes lines7

-- the query that stands for line 3
abbrev pub query3 : List ℕ
query3 = bytes ("A,0,R" ∷ "A,1,D,0,1" ∷ "A,2,D,0,1" ∷ "A,3,V,0,1" ∷ "B,0,M,0" ∷ "B,1,Y,1,0" ∷ "B,2,Y,2,0" ∷ "B,3,X,3,2" ∷ "B,4,U,0,1,3" ∷ [])

-- the numbers below n that pass, rising
abbrev pub list_below : ℕ → (ℕ → Bool) → List ℕ
list_below zero p = []
list_below (suc n) p = list_below n p ++ cond (p n) (n ∷ []) []

-- a set given by its states
abbrev pub among : List ℕ → ℕ → Bool
among [] k = false
among (x ∷ xs) k = k == x || among xs k

-- the sheet with no amendment open
abbrev pub book7 : Book
book7 = record { sheet = sheet7; amending = None }

-- a call with room enough
abbrev pub asks : Call → Entry
asks c = record { call = c; limits = record { work = 16384; text = 1000; path = 3; capacity = 64 } }

-- its answer, and the states of the lent set after it
abbrev pub gets : Answer → List ℕ → Outcome
gets a zs = record { answer = a; set = among zs }

-- a run: an amendment that is withdrawn, both roads, and evidence
abbrev pub calls7 : List Entry
calls7 =
    asks begin
    ∷ asks (edit 7 (cut_move 1 2))
    ∷ asks (edit 7 (join_move 1 0))
    ∷ asks (edit 7 (cut_move 1 2))
    ∷ asks (judge 4)
    ∷ asks (withdraw 7)
    ∷ asks (judge 4)
    ∷ asks (translate 3)
    ∷ asks (resolve query3 4)
    ∷ asks (show 3 1)
    ∷ asks (show 1 0)
    ∷ asks (show 2 2)
    ∷ []

-- its answers
abbrev pub answers7 : List Outcome
answers7 =
    gets (ticket 7) []
    ∷ gets (refused 26) []
    ∷ gets done []
    ∷ gets done []
    ∷ gets (judged 0 0) []
    ∷ gets (edits 2) []
    ∷ gets (judged 1 0) (0 ∷ 1 ∷ [])
    ∷ gets (written query3) (0 ∷ 1 ∷ [])
    ∷ gets (judged 0 1) (1 ∷ 2 ∷ [])
    ∷ gets (shown (record { path = 1 ∷ 2 ∷ []; place = None })) (1 ∷ 2 ∷ [])
    ∷ gets (shown (alone 0)) (1 ∷ 2 ∷ [])
    ∷ gets (shown (alone 1)) (2 ∷ [])
    ∷ []

-- the table
pub record Worked : Type 0 where
  pub valid : Valid sheet7
  pub text : sheet_text sheet7 ≡ text7
  pub reads : (g : Sheet) → Valid g → sheet_text g ≡ text7 → g ≡ sheet7
  pub read_back : sheet_read text7 ≡ Ok sheet7
  pub accessible : map (λ s. list_below 3 (access sheet7 0 1 s)) (0 ∷ 1 ∷ 2 ∷ []) ≡ (0 ∷ []) ∷ (2 ∷ []) ∷ (2 ∷ []) ∷ []
  pub sets : map (λ f. list_below 3 (line_set sheet7 f)) (0 ∷ 1 ∷ 2 ∷ 3 ∷ 4 ∷ 5 ∷ []) ≡ (2 ∷ []) ∷ (1 ∷ 2 ∷ []) ∷ (2 ∷ []) ∷ (1 ∷ 2 ∷ []) ∷ (0 ∷ 1 ∷ []) ∷ [] ∷ []
  pub rounds : map (line_rounds sheet7) (0 ∷ 1 ∷ 2 ∷ 3 ∷ 4 ∷ 5 ∷ []) ≡ 0 ∷ 0 ∷ 0 ∷ 1 ∷ 0 ∷ 2 ∷ []
  pub verdicts : map (λ f. verdict sheet7 (line_set sheet7 f)) (0 ∷ 1 ∷ 2 ∷ 3 ∷ 4 ∷ 5 ∷ []) ≡ 0 ∷ 0 ∷ 0 ∷ 0 ∷ 1 ∷ 0 ∷ []
  pub query : query_text (reduction sheet7.lines 3) ≡ query3
  pub run : Lawful (Some book7) nothing calls7 answers7
