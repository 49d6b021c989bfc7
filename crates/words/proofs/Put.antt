-- Runs of bytes put into an output one after the other are one run.
use mathlib.Core.Path.{◌≡◌, sym, ap, ap₂, ◌∙◌}
use mathlib.Core.List.{List, [], ◌++◌, append_assoc, append-nil}
use Prim.Native.Nat.{ℕ, ◌+◌, ◌-◌, ◌≤◌}
use native.Mathlib.Nat.{add_assoc, zero-add, le_refl}
use native.Mathlib.Omega.{arith}
use lib.ListN.{length, take, drop, length-append, length-drop, drop_of_length-le}
use lib.Seq.{length-take-le, take_at, drop-drop, drop-append-add}
use borrow.Author.Tests.{le-leb}
use Rattle.words.specs.Output.{put, put_whole, count_within, over}
use Rattle.words.proofs.Parts.{tail}

pub put_over : (o bytes : List ℕ) → put o 0 bytes ≡ over bytes o
unfolding put over
put_over o bytes = rw zero-add

-- ---- all or nothing
pub whole : (o : List ℕ) (k : ℕ) (bytes : List ℕ) → k + length bytes ≤ length o → put_whole o k bytes ≡ put o k bytes
unfolding put_whole
whole o k bytes h = rw (le-leb (k + length bytes) (length o) h)

-- ---- what `copy` leaves where all of them fit, and how many they are
pub fits : (o bytes : List ℕ) → length bytes ≤ length o → put_whole o 0 bytes ≡ over bytes o
fits o bytes h = whole o 0 bytes (rw zero-add h) ∙ put_over o bytes

pub fits_count : (bytes o : List ℕ) → length bytes ≤ length o → count_within bytes o ≡ length bytes
fits_count bytes o h = rw (le-leb (length bytes) (length o) h)

-- what a copy of s over the front of `&mut o[k..]` leaves there, back in its place
pub put_tail_over : (o : List ℕ) (k : ℕ) (s : List ℕ) {t : List ℕ}
    → t ≡ over s (take (length o - k) (drop k o))
    → take k o ++ (t ++ drop (length o - k) (drop k o)) ≡ put o k s
unfolding put over
put_tail_over o k s e =
    let r : drop (length o - k) (drop k o) ≡ [] = drop_of_length-le (drop k o) {i = length o - k} (rw length-drop (le_refl _)) in
    rw (e, r, tail, append-nil, drop-drop, append_assoc)

-- ---- one after the other
put_put : (o : List ℕ) (k : ℕ) (a b : List ℕ) (m : ℕ) → m ≡ k + length a → m ≤ length o
    → put (put o k a) m b ≡ put o k (a ++ b)
unfolding put
put_put o k a b m e h =
    let p : List ℕ = take k o ++ a in
    let x : List ℕ = drop (k + length a) o in
    let w : length p ≡ k + length a =
    length-append (take k o) a ∙ ap (λ (n : ℕ). n + length a) (length-take-le k o (omega arith)) in
    ap₂ (λ (l r : List ℕ). l ++ b ++ r)
    (take_at p x m (w ∙ sym e))
    (ap (λ (n : ℕ). drop (n + length b) (p ++ x)) (e ∙ sym w)
    ∙ drop-append-add p x (length b)
    ∙ drop-drop (length b) (k + length a) o
    ∙ ap (λ (n : ℕ). drop n o) (add_assoc k (length a) (length b) ∙ ap (λ (n : ℕ). k + n) (sym (length-append a b))))
    ∙ ap (λ (l : List ℕ). l ++ drop (k + length (a ++ b)) o) (append_assoc (take k o) a b)

length_put : (o : List ℕ) (k : ℕ) (a : List ℕ) → k + length a ≤ length o → length (put o k a) ≡ length o
unfolding put
length_put o k a h = simp (length-append, length-drop, length-take-le k o (omega arith)) (omega arith)

-- what a call leaves, after what the calls before it left
pub then : (o : List ℕ) (k : ℕ) (a b : List ℕ) (m : ℕ) {o₁ o₂ : List ℕ}
    → o₁ ≡ put o k a → o₂ ≡ put o₁ m b → m ≡ k + length a → m ≤ length o → o₂ ≡ put o k (a ++ b)
then o k a b m e f g h = f ∙ ap (λ (l : List ℕ). put l m b) e ∙ put_put o k a b m g h

-- the same of a call that puts all or nothing
pub then_whole : (o : List ℕ) (k : ℕ) (a b : List ℕ) (m : ℕ) {o₁ o₂ : List ℕ}
    → o₁ ≡ put o k a → o₂ ≡ put_whole o₁ m b → m ≡ k + length a → m + length b ≤ length o → o₂ ≡ put o k (a ++ b)
then_whole o k a b m e f g h =
    then o k a b m e (f ∙ whole _ m b (omega (arith, ap length e, length_put o k a (omega arith)))) g (omega arith)
