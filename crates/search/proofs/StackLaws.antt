-- The part of the slots that a stack holds.
use Rattle.std.proofs.Common.{◌≡◌, ℕ, ◌+◌, ◌-◌, ◌≤◌, Bool, true, cond, List, length, drop, set, sym, refl, ap, ◌∙◌, arith}
use Rattle.std.proofs.lemmas.List.{drop-drop, drop-set-lt}
use Rattle.std.proofs.lemmas.Bool.{cond-true}
use Rattle.search.specs.Stack.{contents, capacity, Behind}
use Rattle.search.specs.declared.stack.Stack.{Stack}

pub behind_first : {T : Type 0} (s : Stack T) → Behind s s
behind_first s = record { size = refl; rest = refl; lent = refl }

-- a push leaves what stands behind
pub behind_push : {T : Type 0} (s t u : Stack T) (r : Bool) (x : T) → Behind s t → r ≡ true → length (contents u) ≡ cond r (length (contents t) + 1) (length (contents t)) →
    capacity u ≡ capacity t → u.slots.now ≡ cond r (set t.slots.now (length (contents t)) x) t.slots.now → u.slots.ghost_name ≡ t.slots.ghost_name → Behind s u
behind_push s t u r x m on len size slots lent =
    let n = length (contents t) in
    let long : length (contents u) ≡ n + 1 = len ∙ cond-true r _ _ on in
    record {
      size = size ∙ m.size;
      rest = ap (λ k. drop k u.slots.now) long ∙ ap (drop (n + 1)) (slots ∙ cond-true r _ _ on) ∙ drop-set-lt (n + 1) t.slots.now n x (omega arith)
          ∙ sym (drop-drop 1 n t.slots.now) ∙ ap (drop 1) m.rest ∙ drop-drop 1 n s.slots.now ∙ ap (λ k. drop k s.slots.now) (sym long);
      lent = lent ∙ m.lent;
    }

-- drops agree further on where they agree
drops_on : {T : Type 0} (xs ys : List T) (n m : ℕ) → n ≤ m → drop n xs ≡ drop n ys → drop m xs ≡ drop m ys
drops_on xs ys n m le e =
    let q : n + (m - n) ≡ m = omega arith in
    ap (λ k. drop k xs) (sym q) ∙ sym (drop-drop (m - n) n xs) ∙ ap (drop (m - n)) e ∙ drop-drop (m - n) n ys ∙ ap (λ k. drop k ys) q

pub behind_trans : {T : Type 0} (s t u : Stack T) → Behind s t → Behind t u → length (contents t) ≤ length (contents u) → Behind s u
behind_trans s t u a b le = record {
  size = b.size ∙ a.size;
  rest = b.rest ∙ drops_on t.slots.now s.slots.now (length (contents t)) (length (contents u)) le a.rest;
  lent = b.lent ∙ a.lent;
}
