-- Lists made in turn from items that are alike.
use Rattle.std.proofs.Common.{◌≡◌, ℕ, zero, suc, ◌+◌, ◌<◌, List, [], ◌∷◌, ◌++◌, length, get_or, take, drop, sym, refl, ap, ◌∙◌, zero-add, arith, length-append}
use Rattle.std.proofs.lemmas.List.{get_or_append_left, get_or_push, take-append-drop, drop_more, length-take-le}
use Rattle.semantics.specs.Turns.{in_turn}

-- two lists of one length, with R between the items at each place
abbrev pub Alike {ℓ κ} : {X : Type ℓ} {Y : Type κ} → (X → Y → Type 0) → List X → List Y → Type 0
Alike R [] [] = Unit {0}
Alike R [] (y ∷ ys) = ⊥
Alike R (x ∷ xs) [] = ⊥
Alike R (x ∷ xs) (y ∷ ys) = R x y × Alike R xs ys

pub alike_at {ℓ κ} : {X : Type ℓ} {Y : Type κ} (R : X → Y → Type 0) (xs : List X) (ys : List Y) (d : X) (e : Y) (k : ℕ) →
    R d e → Alike R xs ys → R (get_or xs k d) (get_or ys k e)
alike_at R [] [] d e k r a = r
alike_at R [] (y ∷ ys) d e k r a = absurd a
alike_at R (x ∷ xs) [] d e k r a = absurd a
alike_at R (x ∷ xs) (y ∷ ys) d e zero r a = a.0
alike_at R (x ∷ xs) (y ∷ ys) d e (suc k) r a = alike_at R xs ys d e k r a.1

pub alike_push {ℓ κ} : {X : Type ℓ} {Y : Type κ} (R : X → Y → Type 0) (xs : List X) (ys : List Y) (x : X) (y : Y) →
    R x y → Alike R xs ys → Alike R (xs ++ x ∷ []) (ys ++ y ∷ [])
alike_push R [] [] x y r a = (r, tt)
alike_push R [] (v ∷ ys) x y r a = absurd a
alike_push R (u ∷ xs) [] x y r a = absurd a
alike_push R (u ∷ xs) (v ∷ ys) x y r a = (a.0, alike_push R xs ys x y r a.1)

pub alike_turn {ℓ κ} : {L : Type 0} {X : Type ℓ} {Y : Type κ} (R : X → Y → Type 0) (f : List X → L → X) (g : List Y → L → Y) →
    ((xs : List X) (ys : List Y) → Alike R xs ys → (l : L) → R (f xs l) (g ys l)) →
    (ls : List L) (xs : List X) (ys : List Y) → Alike R xs ys → Alike R (in_turn f xs ls) (in_turn g ys ls)
alike_turn R f g each [] xs ys a = a
alike_turn R f g each (l ∷ ls) xs ys a =
    alike_turn R f g each ls (xs ++ f xs l ∷ []) (ys ++ g ys l ∷ []) (alike_push R xs ys (f xs l) (g ys l) (each xs ys a l) a)

pub alike_below {ℓ κ} : {X : Type ℓ} {Y : Type κ} (R : X → Y → Type 0) (xs : List X) (ys : List Y) (d : X) (e : Y) (k : ℕ) →
    k < length xs → Alike R xs ys → R (get_or xs k d) (get_or ys k e)
alike_below R [] ys d e k l a = absurd (omega arith)
alike_below R (x ∷ xs) [] d e k l a = absurd a
alike_below R (x ∷ xs) (y ∷ ys) d e zero l a = a.0
alike_below R (x ∷ xs) (y ∷ ys) d e (suc k) l a = alike_below R xs ys d e k (omega arith) a.1

pub alike_map {ℓ κ} : {X : Type ℓ} {Y : Type κ} (R S : X → Y → Type 0) → ((x : X) (y : Y) → R x y → S x y) →
    (xs : List X) (ys : List Y) → Alike R xs ys → Alike S xs ys
alike_map R S f [] [] a = tt
alike_map R S f [] (y ∷ ys) a = absurd a
alike_map R S f (x ∷ xs) [] a = absurd a
alike_map R S f (x ∷ xs) (y ∷ ys) a = (f x y a.0, alike_map R S f xs ys a.1)

module _ {L X : Type 0} (make : List X → L → X) where
  pub turn_append : (xs ys : List L) (done : List X) → in_turn make done (xs ++ ys) ≡ in_turn make (in_turn make done xs) ys
  turn_append [] ys done = refl
  turn_append (x ∷ xs) ys done = turn_append xs ys (done ++ make done x ∷ [])

  pub turn_length : (xs : List L) (done : List X) → length (in_turn make done xs) ≡ length done + length xs
  turn_length [] done = omega arith
  turn_length (x ∷ xs) done = turn_length xs (done ++ make done x ∷ []) ∙ simp length-append (omega arith)

  pub turn_keeps : (xs : List L) (done : List X) (d : X) (k : ℕ) → k < length done → get_or (in_turn make done xs) k d ≡ get_or done k d
  turn_keeps [] done d k l = refl
  turn_keeps (x ∷ xs) done d k l =
      turn_keeps xs (done ++ make done x ∷ []) d k (simp length-append (omega arith)) ∙ get_or_append_left done (make done x ∷ []) d k l

  pub turn_at : (xs ys : List L) (x : L) (d : X) → get_or (in_turn make [] (xs ++ x ∷ ys)) (length xs) d ≡ make (in_turn make [] xs) x
  turn_at xs ys x d =
      let done = in_turn make [] xs in
      let e : length done ≡ length xs = turn_length xs [] ∙ zero-add (length xs) in
      ap (λ z. get_or z (length xs) d) (turn_append xs (x ∷ ys) [])
      ∙ turn_keeps ys (done ++ make done x ∷ []) d (length xs) (simp length-append (omega arith))
      ∙ get_or_push done (make done x) d (length xs) e

-- a list around one of its places
pub split_at : {L : Type 0} (ls : List L) (f : ℕ) (d : L) → f < length ls → ls ≡ take f ls ++ get_or ls f d ∷ drop (f + 1) ls
split_at ls f d l = sym (take-append-drop f ls) ∙ ap (λ w. take f ls ++ w) (drop_more ls f d l)

pub turn_nth : {L X : Type 0} (make : List X → L → X) (ls : List L) (f : ℕ) (d : L) (e : X) → f < length ls →
    get_or (in_turn make [] ls) f e ≡ make (in_turn make [] (take f ls)) (get_or ls f d)
turn_nth make ls f d e l =
    ap (λ w. get_or (in_turn make [] w) f e) (split_at ls f d l)
    ∙ ap (λ k. get_or (in_turn make [] (take f ls ++ get_or ls f d ∷ drop (f + 1) ls)) k e) (sym (length-take-le f ls (omega arith)))
    ∙ turn_at make (take f ls) (drop (f + 1) ls) (get_or ls f d) e
