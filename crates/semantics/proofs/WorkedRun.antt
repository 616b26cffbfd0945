-- The run over sheet 7 is lawful.
use Rattle.std.proofs.Common.{◌≡◌, ℕ, zero, suc, ◌<◌, ◌≤◌, Bool, true, false, eqb, List, [], ◌∷◌, get_or, Some, None, sym, refl, ◌∙◌, ⊎_elim, arith, lit<}
use mathlib.Core.Path.{fun_ext}
use mathlib.Core.Bool.{false≢true}
use Rattle.std.specs.Fmt.{digits}
use Rattle.std.specs.List.{AllByRecursion as All}
use Rattle.std.proofs.lemmas.Bool.{cases_lt, cases_Bool, or_from, ne_eqb}
use Rattle.semantics.specs.Access.{access}
use Rattle.semantics.specs.Actions.{action_formulas, admitted}
use Rattle.semantics.specs.Chains.{rounds, settled}
use Rattle.semantics.specs.Edits.{join_move, cut_move, edited}
use Rattle.semantics.specs.Evidence.{Evidence}
use Rattle.semantics.specs.Walks.{alone, WalkBy}
use Rattle.semantics.specs.Formulas.{Holds, tree_at, trees}
use Rattle.semantics.specs.Judging.{line_sets, line_set}
use Rattle.semantics.specs.Law.{Lawful}
use Rattle.semantics.specs.LineReading.{numbers_in, earlier_at}
use Rattle.semantics.specs.QueryReading.{lines_read, query_read}
use Rattle.semantics.specs.QueryText.{query_text}
use Rattle.semantics.specs.Reduction.{reduction}
use Rattle.semantics.specs.Resolving.{query_sets, query_set}
use Rattle.semantics.specs.Sets.{nothing, same}
use Rattle.semantics.specs.Sheets.{Sheet}
use Rattle.semantics.specs.Validity.{Valid}
use Rattle.semantics.specs.Worked.{sheet7, among, book7, calls7, answers7}
use Rattle.semantics.proofs.EditValid.{edit_valid}
use Rattle.semantics.proofs.Quantifiers.{same_says}
use Rattle.semantics.proofs.Resolving.{query_sets_are_truth}
use Rattle.semantics.proofs.Truth.{sets_are_truth}
use Rattle.semantics.proofs.WorkedValid.{valid7}

among_low : (n : ℕ) (zs : List ℕ) → All (λ x. x < n) zs → (s : ℕ) → n ≤ s → among zs s ≡ false
among_low n [] a s l = refl
among_low n (z ∷ zs) a s l = or_from (eqb s z) (among zs s) (ne_eqb s z (λ e. omega (arith, a.0))) (among_low n zs a.1 s l)

-- a set without states from n on is known by its states below n
set_is : (n : ℕ) (w : ℕ → Bool) → ((s : ℕ) → w s ≡ true → s < n) → (zs : List ℕ) → All (λ x. x < n) zs → same n (among zs) w ≡ true → among zs ≡ w
set_is n w low zs a e = fun_ext (λ s. ⊎_elim ((same_says n (among zs) w).0 e s) (λ l. among_low n zs a s l ∙ sym (none s l)) (cases_lt s n))
  where
    none : (s : ℕ) → n ≤ s → w s ≡ false
    none s l = ⊎_elim (λ on. absurd (omega (arith, low s on))) (λ off. off) (cases_Bool (w s))

line_set_is : (h : Sheet) → Valid h → (f : ℕ) (zs : List ℕ) → All (λ x. x < h.states) zs → same h.states (among zs) (line_set h f) ≡ true → among zs ≡ line_set h f
line_set_is h v f zs a e = set_is h.states (line_set h f) (λ s on. ((sets_are_truth h v f s).0 on).0) zs a e

joined7 : Valid (edited sheet7 (join_move 1 0))
unfolding sheet7
joined7 = edit_valid sheet7 valid7 0 (join_move 1 0) (refl, (refl, (refl, (refl, tt))))

cut7 : Valid (edited (edited sheet7 (join_move 1 0)) (cut_move 1 2))
unfolding sheet7
cut7 = edit_valid (edited sheet7 (join_move 1 0)) joined7 1 (cut_move 1 2) (refl, (refl, (refl, (refl, tt))))

abbrev path7 : List ℕ
path7 = 1 ∷ 2 ∷ []

-- what holds at both places of the path
at_both : (P : ℕ → Type 0) → P 0 → P 1 → (i : ℕ) → i < 2 → P i
at_both P x y zero l = x
at_both P x y (suc zero) l = y
at_both P x y (suc (suc i)) l = absurd (omega arith)

differ7 : (i j : ℕ) → i < j → j < 2 → get_or path7 i 0 ≡ get_or path7 j 0 → ⊥
differ7 i zero l k e = omega arith
differ7 zero (suc zero) l k e = omega arith
differ7 (suc i) (suc zero) l k e = omega arith
differ7 i (suc (suc j)) l k e = omega arith

walk7 : WalkBy sheet7.states sheet7.moves 1 path7
unfolding sheet7
walk7 = record {
  nonempty = lit< tt;
  begins = refl;
  inside = at_both (λ i. get_or path7 i 0 < 3) (lit< tt) (lit< tt);
  follows = elim [ zero ↦ λ _. refl | suc i ↦ λ l. absurd (omega arith) ];
  once = λ i j l k e. differ7 i j l k e;
}

-- line f holds at s, where its computed set has s
holds7 : (f s : ℕ) → line_set sheet7 f s ≡ true → Holds sheet7 (tree_at sheet7 f) s
holds7 f s e = ((sets_are_truth sheet7 valid7 f s).0 e).1

shown3 : Evidence sheet7 (tree_at sheet7 3) 1 (record { path = path7; place = None })
unfolding access line_sets settled rounds trees Evidence sheet7
shown3 = record {
  no_place = refl;
  walk = walk7;
  before = elim [ zero ↦ λ _. holds7 1 1 refl | suc i ↦ λ l. absurd (omega arith) ];
  last = λ i l. at_both (λ i. suc i ≡ 2 → Holds sheet7 (tree_at sheet7 2) (get_or path7 i 0)) (λ e. absurd (omega arith)) (λ _. holds7 2 2 refl) i (omega arith) l;
}

shown1 : Evidence sheet7 (tree_at sheet7 1) 0 (alone 0)
unfolding access trees Evidence Holds sheet7
shown1 = (0, refl, (lit< tt, (refl, λ e. false≢true e), λ u l. absurd (omega arith)))

shown2 : Evidence sheet7 (tree_at sheet7 2) 2 (alone 1)
unfolding access line_sets settled rounds trees Evidence Holds sheet7
shown2 = (1, refl, (lit< tt, (refl, holds7 1 1 refl), elim [ zero ↦ λ _ x. false≢true x.0 | suc u ↦ λ l. absurd (omega arith) ]))

query_set_is : among (1 ∷ 2 ∷ []) ≡ query_set sheet7 (reduction sheet7.lines 3) 4
unfolding access settled rounds reduction query_sets action_formulas admitted sheet7
query_set_is =
    set_is 3 (query_set sheet7 (reduction sheet7.lines 3) 4) (λ s on. ((query_sets_are_truth sheet7 (reduction sheet7.lines 3) 4 s).0 on).0)
    (1 ∷ 2 ∷ []) (lit< tt, (lit< tt, tt)) refl

pub run_lawful : Lawful (Some book7) nothing calls7 answers7
unfolding digits access line_sets settled rounds query_text reduction query_read lines_read numbers_in earlier_at query_sets action_formulas admitted trees Evidence sheet7
run_lawful = (
  (refl, refl),
  (
    (refl, refl),
    (
      (refl, refl),
      (
        (refl, refl),
        (
          (refl, line_set_is (edited (edited sheet7 (join_move 1 0)) (cut_move 1 2)) cut7 4 [] tt refl),
          (
            (refl, refl),
            (
              (refl, line_set_is sheet7 valid7 4 (0 ∷ 1 ∷ []) (lit< tt, (lit< tt, tt)) refl),
              (
                (refl, refl),
                (
                  (refl, query_set_is),
                  (
                    (shown3, line_set_is sheet7 valid7 3 (1 ∷ 2 ∷ []) (lit< tt, (lit< tt, tt)) refl),
                    (
                      (shown1, line_set_is sheet7 valid7 1 (1 ∷ 2 ∷ []) (lit< tt, (lit< tt, tt)) refl),
                      (
                        (shown2, line_set_is sheet7 valid7 2 (2 ∷ []) (lit< tt, tt) refl),
                        tt,
                      ),
                    ),
                  ),
                ),
              ),
            ),
          ),
        ),
      ),
    ),
  ),
)
