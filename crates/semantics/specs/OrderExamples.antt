-- Texts that tell which check comes first, and how they are answered, as one table.
use Rattle.std.specs.Prelude.{◌≡◌, ℕ, ◌+◌, ◌-◌, ◌*◌, false, List, [], ◌∷◌, ◌++◌, map, take, drop, replicate, Some, None, Ok, Err, codes, Option, Result, ◌==◌, nat_lt, slice_set}
use Prim.Native.String.{String}
use Rattle.std.specs.List.{flat_map}
use Rattle.semantics.specs.Faults.{Fault}
use Rattle.semantics.specs.QueryReading.{query_read}
use Rattle.semantics.specs.SheetReading.{sheet_read}
use Rattle.semantics.specs.Sheets.{Sheet, Line, mark, negation}
use Rattle.semantics.specs.SheetText.{formula_text, sheet_text}
use Rattle.semantics.specs.Worked.{bytes, lines7, sheet7, text7}
use Rattle.semantics.specs.Written.{numbered_text}

-- how a text is answered
abbrev pub refusal_of : {A : Type 0} → Result A Fault → Option Fault
refusal_of (Ok a) = None
refusal_of (Err f) = Some f

-- a text, with the refusal's number, line and field, if it is refused
pub record Example : Type 0 where
  pub text : List ℕ
  pub fault : Option Fault

abbrev pub refused : List ℕ → ℕ → ℕ → ℕ → Example
refused t r l f = record { text = t; fault = Some (record { why = r; line = l; field = f }) }

abbrev pub accepted : List ℕ → Example
accepted t = record { text = t; fault = None }

-- sheet 7 with another line number n
abbrev pub seven : ℕ → String → List ℕ
seven n l = bytes (slice_set lines7 (n - 1) l)

-- the first n lines of sheet 7, and then others
abbrev pub begun : ℕ → List String → List ℕ
begun n ls = bytes (take n lines7 ++ ls)

-- sheet 7 with one line in place of another
abbrev pub changed_lines : List Example
changed_lines =
    refused (seven 1 "H,0,x,1,3,2") 10 1 2
    ∷ refused (seven 1 "H,0,2,1,3,2") 10 1 2
    ∷ refused (seven 1 "H,10000,2,1,3,2") 10 1 2
    ∷ refused (seven 1 "H,100000,2,1,3,2") 3 1 2
    ∷ refused (seven 1 "H,07,2,1,3,2") 3 1 2
    ∷ refused (seven 1 "H,7,1,1,3,2") 10 1 3
    ∷ refused (seven 1 "H,7,2,1,129,2") 10 1 5
    ∷ refused (seven 1 "H,7,2,1,3,17") 10 1 6
    ∷ refused (seven 1 "H,7,2,1,3") 5 1 0
    ∷ refused (seven 1 "H,7,2,1,3,2,") 5 1 0
    ∷ refused (seven 1 "h,7,2,1,3,2") 4 1 1
    ∷ refused (seven 1 "HH,7,2,1,3,2") 4 1 1
    ∷ refused (seven 1 " H,7,2,1,3,2") 4 1 1
    ∷ refused (239 ∷ 187 ∷ 191 ∷ text7) 4 1 1
    ∷ refused (seven 2 "C,0,2") 10 2 3
    ∷ refused (seven 3 "C,1,1") 10 3 2
    ∷ refused (seven 3 "C,0,0") 11 3 2
    ∷ refused (seven 4 "S,3,1,0") 10 4 2
    ∷ refused (seven 4 "S,1,2,0") 10 4 3
    ∷ refused (seven 4 "S,1,0,0") 11 4 2
    ∷ refused (seven 4 "S,0,2,0") 10 4 3
    ∷ refused (seven 4 "S,0,1,4") 10 4 4
    ∷ refused (seven 4 "L,0,0,0,300") 4 4 1
    ∷ refused (seven 4 "S,0,0,0") 14 0 0
    ∷ refused (seven 5 "C,0,1") 4 5 1
    ∷ refused (seven 7 "L,1,0,0,1000") 10 7 5
    ∷ refused (seven 7 "L,0,1,0,300") 11 7 2
    ∷ refused (seven 7 "L,0,0,1000,300") 10 7 4
    ∷ refused (seven 7 "L,0,0,0") 5 7 0
    ∷ accepted (seven 7 "L,0,0,0,999")
    ∷ refused (seven 13 "T,3,x") 10 13 2
    ∷ refused (seven 13 "T,+0,1") 3 13 2
    ∷ refused (seven 13 "T, 0,1") 3 13 2
    ∷ refused (seven 13 "T,00,1") 3 13 2
    ∷ refused (seven 14 "T,0,1") 11 14 2
    ∷ refused (seven 14 "T,0,0") 11 14 2
    ∷ refused (seven 16 "") 4 16 1
    ∷ refused (seven 16 "F") 5 16 0
    ∷ refused (seven 16 "F,0") 5 16 0
    ∷ refused (seven 16 "F,0,") 3 16 3
    ∷ refused (seven 16 "F,0,Q") 3 16 3
    ∷ refused (seven 16 "F,x,Q,0") 3 16 3
    ∷ refused (seven 16 "F,0,MM,0") 3 16 3
    ∷ refused (seven 16 "F,0,m,0") 3 16 3
    ∷ refused (seven 16 "F,0,Y,0") 3 16 3
    ∷ refused (seven 16 "F,x,M") 5 16 0
    ∷ refused (seven 16 "F,0,M,0,0") 5 16 0
    ∷ refused (seven 16 "F,x,M,x") 3 16 2
    ∷ refused (seven 16 "F,0,M,") 3 16 4
    ∷ refused (seven 16 "F,0,M,2") 10 16 4
    ∷ refused (seven 16 "F,1,M,2") 10 16 4
    ∷ refused (seven 16 "F,99999,M,0") 11 16 2
    ∷ refused (seven 16 "F,100000,M,0") 3 16 2
    ∷ refused (seven 16 "F,1,N,0") 11 16 2
    ∷ refused (seven 16 "F,0,N,99999") 17 16 4
    ∷ refused (seven 17 "F,1,O,1,1") 17 17 4
    ∷ refused (seven 17 "F,1,O,0,1") 17 17 5
    ∷ refused (seven 17 "F,1,C,0,1,1") 17 17 6
    ∷ refused (seven 17 "F,1,C,0,2,9") 10 17 5
    ∷ refused (seven 17 "T,2,1") 4 17 1
    ∷ []

-- the text as a whole, and lines too many or too few
abbrev pub changed_texts : List Example
changed_texts =
    refused [] 2 1 0
    ∷ refused (10 ∷ []) 4 1 1
    ∷ refused (begun 20 [] ++ codes "F,5,G,1") 2 21 0
    ∷ refused (text7 ++ 10 ∷ []) 4 22 1
    ∷ refused (flat_map (λ l. codes l ++ 13 ∷ 10 ∷ []) lines7) 3 1 6
    ∷ refused (begun 1 lines7) 4 2 1
    ∷ refused (begun 6 ("S,3,0,0" ∷ drop 6 lines7)) 4 7 1
    ∷ refused (begun 12 ("L,2,1,0,400" ∷ drop 12 lines7)) 4 13 1
    ∷ refused (begun 1 []) 12 0 0
    ∷ refused (begun 3 ("S,0,0,0" ∷ "S,1,0,2" ∷ "S,2,0,3" ∷ [])) 12 0 0
    ∷ refused (begun 12 (drop 15 lines7)) 15 0 0
    ∷ refused (begun 3 ("S,0,0,0" ∷ take 8 (drop 4 lines7))) 14 0 0
    ∷ accepted (begun 15 [])
    ∷ refused (replicate 65537 120) 1 0 0
    ∷ refused (replicate 65536 120) 2 1 0
    ∷ refused (replicate 65535 120 ++ 10 ∷ []) 4 1 1
    ∷ []

-- a sheet whose party 2 holds nothing and whose channel 1 has no holder, with more lines
abbrev pub small : List String → List ℕ
small ls = bytes ("H,7,3,2,1,1" ∷ "C,0,0" ∷ "C,0,1" ∷ "S,0,1,1" ∷ "L,0,0,5,1" ∷ "L,0,1,6,1" ∷ "L,0,2,6" ∷ "T,0,0" ∷ "F,0,M,0" ∷ ls)

-- the same with 64 formula lines
abbrev pub full : List ℕ
full = small [] ++ numbered_text formula_text 1 (replicate 63 (negation 0))

-- a sheet with 1024 moves
abbrev pub crowded : List Line → Sheet
crowded ls = record {
  number = 1;
  parties = 2;
  channels = 0;
  states = 33;
  marks = 1;
  holds = λ c p. false;
  start = λ s. (s == 0);
  mark_sum = λ s. 0;
  position = λ s p. 0;
  copy = λ s p c. 0;
  moves = λ s t. nat_lt (33 * s + t) 1024;
  lines = ls;
}

-- other headers
abbrev pub other_sheets : List Example
other_sheets =
    accepted (small [])
    ∷ accepted (small ("F,1,C,0,0,0" ∷ []))
    ∷ refused (small ("F,1,C,0,2,0" ∷ [])) 18 10 5
    ∷ refused (small ("F,1,C,2,2,0" ∷ [])) 18 10 5
    ∷ refused (small ("F,1,C,0,2,1" ∷ [])) 17 10 6
    ∷ refused (small ("F,2,C,0,2,7" ∷ [])) 11 10 2
    ∷ refused (small ("F,2,C,0,3,7" ∷ [])) 10 10 5
    ∷ refused (bytes ("H,7,3,2,1,1" ∷ "C,0,0" ∷ "C,0,1" ∷ "S,0,1,1" ∷ "L,0,2,5" ∷ [])) 5 5 0
    ∷ refused (bytes ("H,7,3,2,1,1" ∷ "C,0,0" ∷ "C,0,1" ∷ "S,0,1,1" ∷ "L,0,1,5,1" ∷ [])) 11 5 2
    ∷ accepted full
    ∷ refused (full ++ bytes ("F" ∷ [])) 16 73 0
    ∷ refused (full ++ bytes ("F,64,Q" ∷ [])) 16 73 0
    ∷ refused (full ++ bytes ("F,64,M,0" ∷ [])) 16 73 0
    ∷ refused (full ++ bytes ("T,0,0" ∷ [])) 4 73 1
    ∷ refused (sheet_text (crowded []) ++ bytes ("T,32,32" ∷ [])) 16 1125 0
    ∷ refused (sheet_text (crowded []) ++ bytes ("T" ∷ [])) 16 1125 0
    ∷ refused (sheet_text (crowded (mark 0 ∷ [])) ++ bytes ("T,32,32" ∷ [])) 4 1126 1
    ∷ refused (bytes ("H,7,2,0,3,2" ∷ "C,0,0" ∷ [])) 10 2 2
    ∷ []

-- queries on sheet 7
abbrev pub queries : List Example
queries =
    refused [] 2 1 0
    ∷ refused (codes "A,0,R") 2 1 0
    ∷ accepted (bytes ("B,0,M,0" ∷ []))
    ∷ accepted (bytes ("A,0,R" ∷ []))
    ∷ accepted (bytes ("A,0,D,0,1" ∷ "B,0,M,0" ∷ "B,1,X,0,0" ∷ []))
    ∷ refused (bytes ("B,0,M,0" ∷ "A,0,R" ∷ [])) 4 2 1
    ∷ refused (bytes ("H,7,2,1,3,2" ∷ [])) 4 1 1
    ∷ refused (bytes ("B,0" ∷ [])) 5 1 0
    ∷ refused (bytes ("A,0,R,0" ∷ [])) 5 1 0
    ∷ refused (bytes ("A,0,M,0" ∷ [])) 3 1 3
    ∷ refused (bytes ("B,0,C,0,1,0" ∷ [])) 3 1 3
    ∷ refused (codes "A,0,R" ++ 13 ∷ 10 ∷ []) 3 1 3
    ∷ refused (bytes ("A,1,R" ∷ [])) 11 1 2
    ∷ refused (bytes ("B,1,M,0" ∷ [])) 11 1 2
    ∷ refused (bytes ("A,0,R" ∷ "A,0,R" ∷ [])) 11 2 2
    ∷ refused (bytes ("A,0,D,0,2" ∷ [])) 10 1 5
    ∷ refused (bytes ("B,0,M,2" ∷ [])) 10 1 4
    ∷ refused (bytes ("A,0,N,0" ∷ [])) 17 1 4
    ∷ refused (bytes ("A,0,R" ∷ "A,1,O,0,1" ∷ [])) 17 2 5
    ∷ refused (bytes ("B,0,M,0" ∷ "B,1,X,0,0" ∷ [])) 17 2 4
    ∷ refused (bytes ("A,0,R" ∷ "B,0,M,0" ∷ "B,1,U,1,1,1" ∷ [])) 17 3 4
    ∷ refused (bytes ("A,0,R" ∷ "B,0,M,0" ∷ "B,1,U,0,1,1" ∷ [])) 17 3 5
    ∷ refused (bytes ("A,0,R" ∷ "B,0,M,0" ∷ "B,1,U,0,0,1" ∷ [])) 17 3 6
    ∷ []

-- each text of the list is answered so
abbrev pub Answered : {A : Type 0} → (List ℕ → Result A Fault) → List Example → Type 0
Answered read xs = map (λ x. refusal_of (read x.text)) xs ≡ map (λ x. x.fault) xs

-- the table
pub record OrderExamples : Type 0 where
  pub changed_lines : Answered sheet_read changed_lines
  pub changed_texts : Answered sheet_read changed_texts
  pub other_sheets : Answered sheet_read other_sheets
  pub of_queries : Answered (query_read sheet7) queries
