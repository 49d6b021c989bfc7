-- An output over whose front values were written, or nothing where it is too short.
use Rattle.std.proofs.Common.{◌≡◌, ℕ, ◌<◌, ◌≤◌, Bool, true, false, leb, List, length, get_or, take, drop, sym, refl, subst, ◌∙◌, arith, length-take-le, take-append-drop, leb-true, leb-false}
use Rattle.std.proofs.lemmas.List.{get_or-take}
use Rattle.std.proofs.lemmas.List.FromFn.{fill_by_all, length-map-range_with_len}
use Rattle.words.specs.Output.{over}
use Rattle.text.specs.Printing.{Written}
use Rattle.text.specs.Reading.{up_to}

all : (f : ℕ → ℕ) (n : ℕ) {o p : List ℕ} {r : ℕ} → length p ≡ length o → (length o < n → (p ≡ o) × (r ≡ 0))
    → (n ≤ length o → r ≡ n) → (n ≤ length o → drop n p ≡ drop n o)
    → (n ≤ length o → (i : ℕ) → i < n → get_or p i 0 ≡ f i) → Written n (up_to f n) o p r
unfolding over
all f n {o} {p} {r} l short count rest items = by (leb n (length o)) refl
  where
    by : (b : Bool) → leb n (length o) ≡ b → Written n (up_to f n) o p r
    by true e =
        let h : n ≤ length o = leb-true n (length o) e in
        let size : length (up_to f n) ≡ n = length-map-range_with_len f 0 n in
        let front : take n p ≡ up_to f n =
        fill_by_all f (take n p) n 0 (length-take-le n p (omega arith)) (λ k j. get_or-take n p k 0 j ∙ items h k j) in
        record {
          bytes = rw (e, size, ← front, ← rest h) (sym (take-append-drop n p));
          count = rw e (count h ∙ sym size);
          within = omega (arith, count h);
        }
    by false e =
        let s = short (leb-false n (length o) e) in
        record { bytes = rw e s.0; count = rw e s.1; within = omega (arith, s.1) }

-- the same, where the count n is written otherwise
pub filled : (f : ℕ → ℕ) {m n : ℕ} {o p : List ℕ} {r : ℕ} → m ≡ n → length p ≡ length o → (length o < m → (p ≡ o) × (r ≡ 0))
    → (m ≤ length o → r ≡ m) → (m ≤ length o → drop m p ≡ drop m o)
    → (m ≤ length o → (i : ℕ) → i < m → get_or p i 0 ≡ f i) → Written n (up_to f n) o p r
filled f {m} {n} {o} {p} {r} e l short count rest items =
    subst (λ (k : ℕ). Written k (up_to f k) o p r) e (all f m l short count rest items)
