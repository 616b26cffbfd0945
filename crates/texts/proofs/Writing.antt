-- Texts written one after another.
use Rattle.std.proofs.Common.{◌≡◌, ℕ, ◌+◌, ◌^◌, ◌<◌, ◌≤◌, List, [], ◌∷◌, ◌++◌, length, get_or, take, drop, set, decimal, sym, refl, ap, ◌∙◌, subst, append_assoc, append-nil, add-zero, zero-add, add-one, arith, length-append, length-set}
use Rattle.std.proofs.lemmas.List.{take_more, take_more_set, take-append-drop, drop-set-lt}
use Rattle.semantics.specs.Written.{fields_text, texts_below}
use Rattle.semantics.proofs.SheetRows.{fields_append}
use Rattle.texts.specs.declared.writer.Writer.{Writer}
use Rattle.texts.specs.Written.{over, onward, Gave}

pub over_over : (xs old ys : List ℕ) (p : ℕ) → p < 2 ^ 64 → over (over old p xs) (onward p (length xs)) ys ≡ over old p (xs ++ ys)
over_over [] old ys p h = let e : onward p 0 ≡ p = omega arith in ap (λ n. over old n ys) e
over_over (x ∷ xs) old ys p h =
    let e : onward p (length (x ∷ xs)) ≡ onward (onward p 1) (length xs) = omega arith in
    ap (λ n. over (over old p (x ∷ xs)) n ys) e ∙ over_over xs (set old p x) ys (onward p 1) (omega arith)

pub gave_more : {u v w : Writer} {xs ys : List ℕ} → u.length < 2 ^ 64 → Gave u xs v → Gave v ys w → Gave u (xs ++ ys) w
gave_more {u = u} {v = v} {w = w} {xs = xs} {ys = ys} h a b = record {
  bytes = b.bytes ∙ (λ i. over (a.bytes i) (a.counted i) ys) ∙ over_over xs u.buffer.now ys u.length h;
  counted = omega (arith, a.counted, b.counted, length-append xs ys);
  lent = b.lent ∙ a.lent;
}

pub gave_as : {u v : Writer} {xs ys : List ℕ} → xs ≡ ys → Gave u xs v → Gave u ys v
gave_as {u = u} {v = v} e g = subst (λ t. Gave u t v) e g

pub gave_none : (w : Writer) → w.length < 2 ^ 64 → Gave w [] w
gave_none w h = record { bytes = refl; counted = omega arith; lent = refl }

pub fields_more : (ns : List ℕ) (i : ℕ) → i < length ns → fields_text (take (i + 1) ns) ≡ fields_text (take i ns) ++ (44 ∷ decimal (get_or ns i 0))
fields_more ns i h =
    ap fields_text (take_more ns i 0 h) ∙ fields_append (take i ns) (get_or ns i 0 ∷ [])
    ∙ ap (λ t. fields_text (take i ns) ++ (44 ∷ t)) (append-nil (decimal (get_or ns i 0)))

-- texts one after another, in a loop
pub texts_none : (f : ℕ → List ℕ) (w : Writer) → w.length < 2 ^ 64 → Gave w (texts_below 0 f) w
unfolding texts_below
texts_none f w h = gave_none w h

pub texts_more : (f : ℕ → List ℕ) (i : ℕ) {u v w : Writer} → u.length < 2 ^ 64 → Gave u (texts_below i f) v → Gave v (f i) w → Gave u (texts_below (i + 1) f) w
unfolding texts_below
texts_more f i {u = u} {w = w} h a b = subst (λ n. Gave u (texts_below n f) w) (sym (add-one i)) (gave_more h a b)

-- a text written where it fits
over_within : (bs old : List ℕ) (p : ℕ) → p + length bs ≤ length old → p + length bs < 2 ^ 64 → over old p bs ≡ take p old ++ (bs ++ drop (p + length bs) old)
over_within [] old p h l = sym (ap (λ n. take p old ++ drop n old) (add-zero p) ∙ take-append-drop p old)
over_within (b ∷ bs) old p h l =
    let next : onward p 1 ≡ p + 1 = omega arith in
    let same : length (set old p b) ≡ length old = length-set old p b in
    let sum : p + 1 + length bs ≡ p + length (b ∷ bs) = omega arith in
    ap (λ n. over (set old p b) n bs) next ∙ over_within bs (set old p b) (p + 1) (omega arith) (omega arith)
    ∙ (λ i. take_more_set old p b (omega arith) i ++ (bs ++ drop-set-lt (p + 1 + length bs) old p b (omega arith) i))
    ∙ append_assoc (take p old) (b ∷ []) _ ∙ ap (λ n. take p old ++ (b ∷ (bs ++ drop n old))) sum

pub over_front : (text old : List ℕ) → length text ≤ length old → length text < 2 ^ 64 → over old 0 text ≡ text ++ drop (length text) old
over_front text old h l = over_within text old 0 (omega arith) (omega arith) ∙ ap (λ n. text ++ drop n old) (zero-add (length text))

-- a text that a writer was given from the front of a buffer with room for it
pub gave_front : (text old : List ℕ) (w v : Writer) → w.buffer.now ≡ old → w.length ≡ 0 → Gave w text v → length text ≤ length old → length text < 2 ^ 64
    → (v.buffer.now ≡ text ++ drop (length text) old) × (v.length ≡ length text)
gave_front text old w v e z g h l =
    (g.bytes ∙ (λ i. over (e i) (z i) text) ∙ over_front text old h l, omega (arith, g.counted, z))
