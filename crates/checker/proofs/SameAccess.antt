-- Access by the program's tables is access on the sheet that they hold.
use Rattle.std.proofs.Common.{◌≡◌, ℕ, ◌<◌, ◌≤◌, Bool, true, false, cond, not, ◌&&◌, eqb, ltb, length, get_or, refl, sym, ap, ◌∙◌, inl, inr, arith}
use mathlib.Core.Path.{fun_ext}
use Rattle.std.proofs.Math.Bool.{and_assoc}
use Rattle.std.proofs.lemmas.Bool.{and_parts, cases_Bool, lt-ltb, ltb-true, ltb-false, false≢true}
use Rattle.std.proofs.lemmas.Bool.Decides.{same_from_decides, Decides-like}
use Rattle.semantics.specs.Access.{implies, access}
use Rattle.semantics.specs.Sets.{all}
use Rattle.semantics.specs.Sheets.{shares}
use Rattle.semantics.proofs.Quantifiers.{all_says, any_says}
use Rattle.sheets.specs.declared.sheet.Sheet.{Sheet}
use Rattle.sheets.specs.declared.parts.State.{State}
use Rattle.sheets.specs.Fits.{Fits}
use Rattle.sheets.specs.Holding.{held, share_some}
use Rattle.sheets.specs.Model.{model_of}
use Rattle.sheets.specs.Moves.{no_state}
use Rattle.sheets.specs.Sheets.{states_of}
use Rattle.sheets.proofs.Model.{held_within, free_channel, shares_any, shares_is}
use Rattle.checker.specs.Access.{local_of, agreed, all_agreed, same_position, accessible}
use Rattle.checker.proofs.AccessParts.{allows, access_is}

-- a copy counts only where its channel is held
channel : (a b : Bool) (p q r s : ℕ) →
    (implies a (eqb p q) && (implies (a && b) (eqb p r) && implies (b && not a) (eqb s r)))
    ≡ (implies a (eqb (cond a p 0) (cond a q 0)) && (implies (a && b) (eqb (cond a p 0) (cond b r 0)) && implies (b && not a) (eqb (cond b s 0) (cond b r 0))))
channel true true p q r s = refl
channel true false p q r s = refl
channel false true p q r s = refl
channel false false p q r s = refl

-- where neither holds a channel, it allows every step
free : (a b x y z : Bool) → a ≡ false → b ≡ false → (implies a x && (implies (a && b) y && implies (b && not a) z)) ≡ true
free false false x y z e f = refl
free true b x y z e f = absurd (false≢true (sym e))
free false true x y z e f = absurd (false≢true (sym f))

-- a test that passes from m on
all_wider : (f : ℕ → Bool) (m n : ℕ) → m ≤ n → ((c : ℕ) → m ≤ c → f c ≡ true) → all n f ≡ all m f
all_wider f m n l high = same_from_decides (all n f) (all m f) (all_says n f)
    (Decides-like (all m f) (λ x c k. elim (cases_Bool (ltb c m)) [ inl e ↦ x c (ltb-true c m e) | inr e ↦ high c (ltb-false c m e) ])
    (λ x c k. x c (omega (arith, k))) (all_says m f))

guarded : (a b x y : Bool) → a ≡ b → (a ≡ true → x ≡ y) → (a && x) ≡ (b && y)
guarded true b x y e f = f refl ∙ ap (λ c. c && y) e
guarded false b x y e f = ap (λ c. c && y) e

module _ (s : Sheet) (f : Fits s) (i j x t : ℕ) where
  abbrev from : State
  from = get_or (states_of s) x no_state

  abbrev to : State
  to = get_or (states_of s) t no_state

  agreed_is : (c : ℕ) → agreed s.holders from to i j c ≡ allows (model_of s) i j x t c
  unfolding model_of
  agreed_is c = channel (held s.holders c i) (held s.holders c j) _ _ _ _

  all_agreed_is : all_agreed 8 s.holders from to i j ≡ all (model_of s).channels (allows (model_of s) i j x t)
  unfolding all_agreed model_of
  all_agreed_is = ap (all 8) (fun_ext agreed_is)
      ∙ all_wider (allows (model_of s) i j x t) s.header.channels 8 s.few_channels
      (λ c l. free (held s.holders c i) (held s.holders c j) _ _ _ (free_channel s f c i l) (free_channel s f c j l))

  -- a party that shares a channel is one of the sheet's
  sharing_party : share_some 8 s.holders i j ≡ true → i < s.header.parties
  sharing_party on =
      let c = (any_says 8 (λ c. held s.holders c i && held s.holders c j)).0 (sym (shares_any s.holders i j 8) ∙ on) in
      (held_within _ _ s.holders f.holders_exist c.0 i (and_parts _ _ c.2).0).1

  positions_are : share_some 8 s.holders i j ≡ true → same_position from to i ≡ eqb ((model_of s).position x i) ((model_of s).position t i)
  unfolding model_of
  positions_are on =
      let within = lt-ltb i s.header.parties (sharing_party on) in
      sym (ap (λ b. eqb (cond b (local_of from i).position 0) (cond b (local_of to i).position 0)) within)

  states_same : length (states_of s) ≡ (model_of s).states
  unfolding model_of
  states_same = refl

  same_at : accessible s.holders (states_of s) i j x t ≡ access (model_of s) i j x t
  same_at =
      let h = model_of s in
      let rest = shares h i j && (eqb (h.position x i) (h.position t i) && all h.channels (allows h i j x t)) in
      sym (and_assoc (ltb x (length (states_of s))) (ltb t (length (states_of s))) _)
      ∙ ap (λ b. (ltb x (length (states_of s)) && ltb t (length (states_of s))) && b)
      (guarded (share_some 8 s.holders i j) (shares h i j) _ _ (shares_is s f i j)
      (λ on. ap (λ p. p && all_agreed 8 s.holders from to i j) (positions_are on)
      ∙ ap (λ a. eqb (h.position x i) (h.position t i) && a) all_agreed_is))
      ∙ ap (λ n. (ltb x n && ltb t n) && rest) states_same
      ∙ sym (access_is h i j x t)

-- so both are one step rule
pub access_same : (s : Sheet) → Fits s → (i j : ℕ) → accessible s.holders (states_of s) i j ≡ access (model_of s) i j
access_same s f i j = fun_ext (λ x. fun_ext (λ t. same_at s f i j x t))
