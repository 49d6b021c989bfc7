-- A list whose first n elements a function is applied to: the others stay.
--     on_first f n ys         it.        length_first, get_d_first     its length;  element i where only those before i are changed
--     first_next, first_still      element i too is changed, or is one that f leaves as it is
--     first_all            once all elements are changed, more makes no difference.        set_past     a store past the end changes nothing
--     filled f n ys          the first n elements are f 0, f 1, ..: below, with its length and its elements
use Rattle.std.specs.Prelude.{◌≡◌, refl, ℕ, zero, suc, pred, ◌<◌, ◌≤◌, Bool, true, false, cond, List, [], ◌∷◌, length, get_or, set}
use Rattle.std.proofs.Common.{sym, ap, ◌∙◌, not-suc-le-zero, le_of_suc-le-suc}
use Rattle.std.proofs.Math.Nat.{suc-ne-zero, zero-lt-suc, suc-le-suc_iff}

abbrev pub on_first : {R : Type 0} → (R → R) → ℕ → List R → List R
on_first f zero ys = ys
on_first f (suc n) [] = []
on_first f (suc n) (y ∷ ys) = f y ∷ on_first f n ys

module _ {R : Type 0} (f : R → R) where
  pub length_first : (i : ℕ) (ys : List R) → length (on_first f i ys) ≡ length ys
  length_first zero ys = refl
  length_first (suc i) [] = refl
  length_first (suc i) (y ∷ ys) = ap suc (length_first i ys)

  pub get_d_first : (i : ℕ) (ys : List R) (d : R) → get_or (on_first f i ys) i d ≡ get_or ys i d
  get_d_first zero ys d = refl
  get_d_first (suc i) [] d = refl
  get_d_first (suc i) (y ∷ ys) d = get_d_first i ys d

  pub get_d_below : (n i : ℕ) (ys : List R) (d : R) → i < n → i < length ys → get_or (on_first f n ys) i d ≡ f (get_or ys i d)
  get_d_below zero i ys d l w = absurd (not-suc-le-zero l)
  get_d_below (suc n) i [] d l w = absurd (not-suc-le-zero w)
  get_d_below (suc n) zero (y ∷ ys) d l w = refl
  get_d_below (suc n) (suc i) (y ∷ ys) d l w = get_d_below n i ys d (le_of_suc-le-suc l) (le_of_suc-le-suc w)

  pub first_next : (i : ℕ) (ys : List R) (d : R) → i < length ys → set (on_first f i ys) i (f (get_or ys i d)) ≡ on_first f (suc i) ys
  first_next i [] d l = absurd (not-suc-le-zero l)
  first_next zero (y ∷ ys) d l = refl
  first_next (suc i) (y ∷ ys) d l = ap (λ (zs : List R). f y ∷ zs) (first_next i ys d (le_of_suc-le-suc l))

  pub first_still : (i : ℕ) (ys : List R) (d : R) → i < length ys → f (get_or ys i d) ≡ get_or ys i d → on_first f i ys ≡ on_first f (suc i) ys
  first_still i [] d l e = absurd (not-suc-le-zero l)
  first_still zero (y ∷ ys) d l e = ap (λ (z : R). z ∷ ys) (sym e)
  first_still (suc i) (y ∷ ys) d l e = ap (λ (zs : List R). f y ∷ zs) (first_still i ys d (le_of_suc-le-suc l) e)

  pub first_all : (i n : ℕ) (ys : List R) → length ys ≤ i → length ys ≤ n → on_first f i ys ≡ on_first f n ys
  first_all zero zero ys l m = refl
  first_all zero (suc n) [] l m = refl
  first_all zero (suc n) (y ∷ ys) l m = absurd (not-suc-le-zero l)
  first_all (suc i) zero [] l m = refl
  first_all (suc i) zero (y ∷ ys) l m = absurd (not-suc-le-zero m)
  first_all (suc i) (suc n) [] l m = refl
  first_all (suc i) (suc n) (y ∷ ys) l m = ap (λ (zs : List R). f y ∷ zs) (first_all i n ys (le_of_suc-le-suc l) (le_of_suc-le-suc m))

pub set_past : {R : Type 0} (ys : List R) (i : ℕ) (r : R) → length ys ≤ i → ys ≡ set ys i r
set_past [] i r l = refl
set_past (y ∷ ys) zero r l = absurd (not-suc-le-zero l)
set_past (y ∷ ys) (suc i) r l = ap (λ (zs : List _). y ∷ zs) (set_past ys i r (le_of_suc-le-suc l))

-- ---- a search among the first m elements
--     seek_in hit m ys      the place of the first that hits;  where none does, m, or the length where that is less
abbrev pub seek_in : {R : Type 0} → (R → Bool) → ℕ → List R → ℕ
seek_in hit zero ys = 0
seek_in hit (suc m) [] = 0
seek_in hit (suc m) (y ∷ ys) = cond (hit y) 0 (suc (seek_in hit m ys))

zero_not_suc : {k : ℕ} → 0 ≡ suc k → ⊥
zero_not_suc {k} e = suc-ne-zero k (sym e)

suc_injective : {a b : ℕ} → suc a ≡ suc b → a ≡ b
suc_injective {a} {b} e = ap pred e

module _ {R : Type 0} (hit : R → Bool) where
  -- none of the first suc i hits: so not the first, nor any of the next i
  parts : (b : Bool) (i k : ℕ) → cond b 0 (suc k) ≡ suc i → (b ≡ false) × (k ≡ i)
  parts true i k e = absurd (zero_not_suc e)
  parts false i k e = (refl, suc_injective e)

  pub seek_hit : (i m : ℕ) (ys : List R) (d : R) → seek_in hit i ys ≡ i → i < m → i < length ys → hit (get_or ys i d) ≡ true → seek_in hit m ys ≡ i
  seek_hit i m [] d e l w h = absurd (not-suc-le-zero w)
  seek_hit i zero (y ∷ ys) d e l w h = absurd (not-suc-le-zero l)
  seek_hit zero (suc m) (y ∷ ys) d e l w h = ap (λ (b : Bool). cond b 0 (suc (seek_in hit m ys))) h
  seek_hit (suc i) (suc m) (y ∷ ys) d e l w h =
      let q = parts (hit y) i (seek_in hit i ys) e in
      ap (λ (b : Bool). cond b 0 (suc (seek_in hit m ys))) q.0 ∙ ap suc (seek_hit i m ys d q.1 (le_of_suc-le-suc l) (le_of_suc-le-suc w) h)

  pub seek_next : (i : ℕ) (ys : List R) (d : R) → seek_in hit i ys ≡ i → i < length ys → hit (get_or ys i d) ≡ false → seek_in hit (suc i) ys ≡ suc i
  seek_next i [] d e w h = absurd (not-suc-le-zero w)
  seek_next zero (y ∷ ys) d e w h = ap (λ (b : Bool). cond b 0 (suc (seek_in hit zero ys))) h
  seek_next (suc i) (y ∷ ys) d e w h =
      let q = parts (hit y) i (seek_in hit i ys) e in
      ap (λ (b : Bool). cond b 0 (suc (seek_in hit (suc i) ys))) q.0 ∙ ap suc (seek_next i ys d q.1 (le_of_suc-le-suc w) h)

  pub seek_all : (i m : ℕ) (ys : List R) → seek_in hit i ys ≡ i → i ≡ length ys → i ≤ m → seek_in hit m ys ≡ i
  seek_all zero zero [] e l w = refl
  seek_all zero (suc m) [] e l w = refl
  seek_all zero m (y ∷ ys) e l w = absurd (zero_not_suc l)
  seek_all (suc i) m [] e l w = absurd (zero_not_suc (sym l))
  seek_all (suc i) zero (y ∷ ys) e l w = absurd (not-suc-le-zero w)
  seek_all (suc i) (suc m) (y ∷ ys) e l w =
      let q = parts (hit y) i (seek_in hit i ys) e in
      ap (λ (b : Bool). cond b 0 (suc (seek_in hit m ys))) q.0 ∙ ap suc (seek_all i m ys q.1 (suc_injective l) (le_of_suc-le-suc w))

-- ---- a list whose first n elements are f 0, f 1, ..: the others stay
--     filled f n ys          it.        length_filled        its length
--     filled_below, filled_from      element i is f i below n, and as it was from n on
--     filled_alike           two functions that agree below n fill alike
--     filled_next, filled_all        element i is replaced too;  once all are replaced, more makes no difference
abbrev pub filled : {R : Type 0} → (ℕ → R) → ℕ → List R → List R
filled f zero ys = ys
filled f (suc n) [] = []
filled f (suc n) (y ∷ ys) = f 0 ∷ filled (λ i. f (suc i)) n ys

pub length_filled : {R : Type 0} (f : ℕ → R) (n : ℕ) (ys : List R) → length (filled f n ys) ≡ length ys
length_filled f zero ys = refl
length_filled f (suc n) [] = refl
length_filled f (suc n) (y ∷ ys) = ap suc (length_filled (λ i. f (suc i)) n ys)

pub filled_below : {R : Type 0} (f : ℕ → R) (n i : ℕ) (ys : List R) (d : R) → i < n → i < length ys
    → get_or (filled f n ys) i d ≡ f i
filled_below f zero i ys d l w = absurd (not-suc-le-zero l)
filled_below f (suc n) i [] d l w = absurd (not-suc-le-zero w)
filled_below f (suc n) zero (y ∷ ys) d l w = refl
filled_below f (suc n) (suc i) (y ∷ ys) d l w =
    filled_below (λ j. f (suc j)) n i ys d (le_of_suc-le-suc l) (le_of_suc-le-suc w)

pub filled_from : {R : Type 0} (f : ℕ → R) (n i : ℕ) (ys : List R) (d : R) → n ≤ i
    → get_or (filled f n ys) i d ≡ get_or ys i d
filled_from f zero i ys d l = refl
filled_from f (suc n) i [] d l = refl
filled_from f (suc n) zero (y ∷ ys) d l = absurd (not-suc-le-zero l)
filled_from f (suc n) (suc i) (y ∷ ys) d l = filled_from (λ j. f (suc j)) n i ys d (le_of_suc-le-suc l)

pub filled_next : {R : Type 0} (f : ℕ → R) (i : ℕ) (ys : List R) → i < length ys
    → set (filled f i ys) i (f i) ≡ filled f (suc i) ys
filled_next f i [] l = absurd (not-suc-le-zero l)
filled_next f zero (y ∷ ys) l = refl
filled_next f (suc i) (y ∷ ys) l =
    ap (λ (zs : List _). f 0 ∷ zs) (filled_next (λ j. f (suc j)) i ys (le_of_suc-le-suc l))

pub filled_all : {R : Type 0} (f : ℕ → R) (i n : ℕ) (ys : List R) → length ys ≤ i → length ys ≤ n
    → filled f i ys ≡ filled f n ys
filled_all f zero zero ys l m = refl
filled_all f zero (suc n) [] l m = refl
filled_all f zero (suc n) (y ∷ ys) l m = absurd (not-suc-le-zero l)
filled_all f (suc i) zero [] l m = refl
filled_all f (suc i) zero (y ∷ ys) l m = absurd (not-suc-le-zero m)
filled_all f (suc i) (suc n) [] l m = refl
filled_all f (suc i) (suc n) (y ∷ ys) l m =
    ap (λ (zs : List _). f 0 ∷ zs)
    (filled_all (λ j. f (suc j)) i n ys (le_of_suc-le-suc l) (le_of_suc-le-suc m))

pub filled_alike : {R : Type 0} (f g : ℕ → R) (n : ℕ) (ys : List R) → ((i : ℕ) → i < n → f i ≡ g i)
    → filled f n ys ≡ filled g n ys
filled_alike f g zero ys h = refl
filled_alike f g (suc n) [] h = refl
filled_alike f g (suc n) (y ∷ ys) h = λ j. h 0 (zero-lt-suc n) j ∷
    filled_alike (λ i. f (suc i)) (λ i. g (suc i)) n ys (λ i k. h (suc i) (suc-le-suc_iff.1 k)) j
